use mathlib.Core.Path.{ap, ◌∙◌}
use Rattle.command.specs.Answers.{power_number_of}
use Rattle.processor.specs.declared.power.PoweredUp.{PoweredUp}
use Rattle.packing.specs.Layouts.{packed}
use Rattle.binturamis.specs.Calls.{word}
use Rattle.binturamis.proofs.binturamis_power_up_board.Goals as goal

pub returns : goal.returns
returns c = let u = c.power_up_board-powered.ensures in
    (c.packed.ensures.0 ∙ ap (λ (r : PoweredUp). packed r.processor) u, c.word.ensures ∙ ap (λ (r : PoweredUp). word (power_number_of r.answer) 0) u)
