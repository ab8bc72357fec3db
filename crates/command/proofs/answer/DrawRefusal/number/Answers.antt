use mathlib.Core.Path.{refl}
use Rattle.command.proofs.answer.DrawRefusal.number.Goals as goal

pub returns-in-LowOrigin : goal.returns-in-LowOrigin
returns-in-LowOrigin c = rw c.in-LowOrigin.is refl
