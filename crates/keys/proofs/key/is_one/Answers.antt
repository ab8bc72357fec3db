use mathlib.Core.Path.{refl}
use Rattle.keys.specs.HowKeys.{is_one}
use Rattle.keys.proofs.key.is_one.Goals as goal

pub returns : goal.returns
unfolding is_one
returns c = refl
