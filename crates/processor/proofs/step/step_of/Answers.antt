use mathlib.Core.Path.{sym, ap, ◌∙◌}
use Rattle.std.specs.Prelude.{Option, Some}
use Rattle.command.specs.declared.Command.{Command}
use Rattle.processor.specs.States.{chip}
use Rattle.processor.specs.Moves.{moved}
use Rattle.processor.proofs.Carrying.{step_once}
use Rattle.processor.proofs.step.step_of.Goals as goal

pub returns-in-Some-Move : goal.returns-in-Some-Move
returns-in-Some-Move c = let k = chip c.args.p c.args.memory.now in
    c.move_on.ensures ∙ ap (λ (o : Option Command). moved o k) (ap Some (sym c.in-Some-Move.field-0-is) ∙ sym c.in-Some-Move.is ∙ c.command_for.ensures.named) ∙ step_once k c.if-not-p.false
