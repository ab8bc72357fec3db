use Rattle.narrow.specs.HowInks.{ink_of}
use Rattle.basics.specs.Parts.{joined}
use lib.ListN.{length, take}
use mathlib.Core.List.{[], ◌∷◌, ◌++◌}
use mathlib.Core.Path.{◌≡◌}
use Prim.Native.Nat.{◌*◌}
use Rattle.narrow.proofs.ink.inks_of.Given as goal

abbrev pub invariant-loop-e : goal.invariant-loop-e
invariant-loop-e l = (length l.inks ≡ 512) × (take (4 * l.e) l.inks ≡ joined (λ i. ink_of l.shown i ++ 0 ∷ []) l.e)
