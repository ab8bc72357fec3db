use mathlib.Core.Path.{sym, ◌∙◌}
use Rattle.processor.specs.States.{chip}
use Rattle.processor.proofs.Ways.{read_done}
use Rattle.processor.proofs.state.Processor.read.Goals as goal

pub returns : goal.returns
returns c = let a = c.args in
    c.execute.ensures
    ∙ read_done a.address (chip a.self a.memory.now) _ _ (sym c.if-is_read_held.false ∙ c.is_read_held.ensures) (sym c.admits.ensures ∙ c.in_default.is) c.register-value.ensures
