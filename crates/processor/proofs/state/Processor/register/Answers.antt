use mathlib.Core.Path.{sym, ◌∙◌}
use Rattle.processor.proofs.Laws.{status_read}
use Rattle.processor.proofs.state.Processor.register.Goals as goal

pub returns-in-0 : goal.returns-in-0
returns-in-0 c = rw c.in-0.is (c.status.ensures ∙ sym (status_read c.args.self))
