-- Laws of the rows from one down, while they have a cell of double height.
-- Assumes nothing.
use Prim.Native.Nat.{ℕ, zero, suc, ◌+◌, ◌≤◌, ◌<◌}
use mathlib.Core.Path.{◌≡◌, refl, ap, ap₂, ◌∙◌}
use mathlib.Core.Bool.{Bool, true, false, ◌&&◌, ◌||◌, and-false, and-true, or-false}
use mathlib.Core.Logic.{⊎_elim}
use native.Mathlib.Omega.{arith}
use native.Mathlib.Numerals.{add-one}
use lib.Dec.{eqb}
use borrow.Author.Tests.{eq-eqb, ne_eqb}
use Rattle.basics.proofs.Choice.{eq_or_ne, or_left}
use Rattle.marking.specs.HowMarked.{falls_to}

module _ (tall : ℕ → Bool) (row : ℕ) where
  pub falls_own : falls_to tall row row ≡ true
  unfolding falls_to
  falls_own = go row refl
    where
      go : (r : ℕ) → r ≡ row → falls_to tall row r ≡ true
      go zero e = eq-eqb zero row e
      go (suc r) e = or_left _ _ (eq-eqb (suc r) row e)

  -- that row alone, where none has one
  pub falls_alone : ((r : ℕ) → tall r ≡ false) → (r : ℕ) → falls_to tall row r ≡ eqb r row
  unfolding falls_to
  falls_alone none zero = refl
  falls_alone none (suc r) = ap (λ (t : Bool). eqb (suc r) row || (t && falls_to tall row r)) (none (suc r)) ∙ or-false (eqb (suc r) row)

  -- no row above it
  pub falls_above : (r : ℕ) → r < row → falls_to tall row r ≡ false
  unfolding falls_to
  falls_above zero l = ne_eqb zero row (λ e. omega arith)
  falls_above (suc r) l =
      ap₂ ◌||◌ (ne_eqb (suc r) row (λ e. omega arith))
      (ap (λ (t : Bool). tall (suc r) && t) (falls_above r (omega arith)) ∙ and-false (tall (suc r)))

  -- the row below one that is reached
  pub falls_next : (r : ℕ) → row ≤ r → falls_to tall row r ≡ true → falls_to tall row (r + 1) ≡ tall (r + 1)
  unfolding falls_to
  falls_next r h e =
      rw add-one
      (ap₂ ◌||◌ (ne_eqb (suc r) row (λ q. omega arith)) (ap (λ (t : Bool). tall (suc r) && t) e ∙ and-true (tall (suc r))))

  -- none below one that is not
  pub falls_below : (r i : ℕ) → row < r → falls_to tall row r ≡ false → r ≤ i → falls_to tall row i ≡ false
  unfolding falls_to
  falls_below r zero l e h = absurd (omega arith)
  falls_below r (suc i) l e h =
      ⊎_elim (λ (q : suc i ≡ r). ap (falls_to tall row) q ∙ e)
      (λ (q : suc i ≡ r → ⊥).
      ap₂ ◌||◌ (ne_eqb (suc i) row (λ k. omega arith))
      (ap (λ (t : Bool). tall (suc i) && t) (falls_below r i l e (omega arith)) ∙ and-false (tall (suc i))))
      (eq_or_ne (suc i) r)
