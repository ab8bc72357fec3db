use Rattle.std.proofs.Common.{refl}
use Rattle.keys.specs.HowKeys.{some_changed}
use Rattle.keys.proofs.key.some_changed.Goals as goal

pub returns : goal.returns
unfolding some_changed
returns c = refl
