use Rattle.columns.specs.HowTens.{is_plain}
use mathlib.Core.Path.{refl}
use Rattle.columns.proofs.plain.is_plain.Goals as goal

pub returns : goal.returns
unfolding is_plain
returns c = refl
