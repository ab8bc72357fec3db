use Rattle.eighty.specs.HowEighty.{pair_tens}
use Rattle.basics.specs.Parts.{joined}
use lib.ListN.{length, get_or, take}
use mathlib.Core.List.{[]}
use mathlib.Core.Path.{◌≡◌}
use Prim.Native.Nat.{◌*◌}
use Rattle.eighty.proofs.ten.tens_of.Given as goal

abbrev pub invariant-loop-x : goal.invariant-loop-x
invariant-loop-x l = (length l.bytes ≡ 800) × (take (20 * l.x) l.bytes ≡ joined (λ i. pair_tens l.rom l.shown (get_or l.code-items i [])) l.x)
