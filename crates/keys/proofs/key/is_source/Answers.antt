use mathlib.Core.Bool.{not}
use lib.Dec.{eqb}
use Rattle.keys.specs.HowKeys.{is_source}
use Rattle.keys.proofs.Tests.{or_three}
use Rattle.keys.proofs.key.is_source.Goals as goal

pub returns : goal.returns
unfolding is_source
returns c = let k = c.args.keys in
    or_three (not (eqb k.user0 255)) (not (eqb k.user10 255)) (not (eqb k.user11 255)) _
