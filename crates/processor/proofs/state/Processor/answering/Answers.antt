use mathlib.Core.Path.{refl}
use Rattle.processor.proofs.state.Processor.answering.Goals as goal

pub returns : goal.returns
returns c = (refl, refl)
