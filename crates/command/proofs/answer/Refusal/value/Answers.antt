use mathlib.Core.Path.{refl}
use Rattle.command.proofs.answer.Refusal.value.Goals as goal

pub returns-in-BadPointer : goal.returns-in-BadPointer
returns-in-BadPointer c = rw c.in-BadPointer.is refl
