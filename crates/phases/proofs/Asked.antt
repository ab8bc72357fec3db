-- The rows that are asked: all of them, or the first ones.
-- Assumes nothing.
use Prim.Native.Nat.{ℕ}
use mathlib.Core.Path.{◌≡◌, ap, ◌∙◌}
use mathlib.Core.Bool.{Bool, ◌&&◌}
use mathlib.Core.List.{List}
use native.Mathlib.Omega.{arith}
use lib.Dec.{ltb}
use borrow.Author.Tests.{le-leb, lt-ltb}
use Rattle.page.specs.Marks.{marked_too}
use Rattle.reading.proofs.Marking.{marked_same}
use Rattle.marking.specs.HowMarked.{in_group}

module _ (f : ℕ → Bool) (marks : List Bool) where
  pub first_asked : (n : ℕ) → marked_too (λ r. in_group 0 n r && f r) marks ≡ marked_too (λ r. ltb r n && f r) marks
  unfolding in_group
  first_asked n = marked_same (λ r. in_group 0 n r && f r) marks (λ r. ltb r n && f r) (λ i l. ap (λ (t : Bool). (t && ltb i n) && f i) (le-leb 0 i (omega arith)))

  pub all_asked : marked_too (λ r. in_group 0 25 r && f r) marks ≡ marked_too f marks
  all_asked = first_asked 25 ∙ marked_same (λ r. ltb r 25 && f r) marks f (λ i l. ap (λ (t : Bool). t && f i) (lt-ltb i 25 l))
