use mathlib.Core.Path.{refl}
use Rattle.slices.proofs.slice.half_of.Goals as goal

pub returns-in-Ef9345 : goal.returns-in-Ef9345
returns-in-Ef9345 c = rw c.in-Ef9345.is refl
