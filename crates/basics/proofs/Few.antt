-- A fact at each of the first numbers is a fact of every number below the bound.
-- Assumes nothing.
use Prim.Native.Nat.{ℕ, zero, suc, ◌<◌}
use native.Mathlib.Nat.{le_of_suc-le-suc, not-suc-le-zero}

module _ (P : ℕ → Type 0) where
  pub two : P 0 → P 1 → (i : ℕ) → i < 2 → P i
  two a b zero l = a
  two a b (suc zero) l = b
  two a b (suc (suc i)) l = absurd (not-suc-le-zero (le_of_suc-le-suc (le_of_suc-le-suc l)))

  pub four : P 0 → P 1 → P 2 → P 3 → (i : ℕ) → i < 4 → P i
  four a b c d zero l = a
  four a b c d (suc zero) l = b
  four a b c d (suc (suc i)) l = two' i (le_of_suc-le-suc (le_of_suc-le-suc l))
    where
      two' : (i : ℕ) → i < 2 → P (suc (suc i))
      two' zero h = c
      two' (suc zero) h = d
      two' (suc (suc i)) h = absurd (not-suc-le-zero (le_of_suc-le-suc (le_of_suc-le-suc h)))

module _ (P : ℕ → Type 0) where
  pub eight : P 0 → P 1 → P 2 → P 3 → P 4 → P 5 → P 6 → P 7 → (i : ℕ) → i < 8 → P i
  eight a b c d e f g h zero l = a
  eight a b c d e f g h (suc zero) l = b
  eight a b c d e f g h (suc (suc zero)) l = c
  eight a b c d e f g h (suc (suc (suc zero))) l = d
  eight a b c d e f g h (suc (suc (suc (suc i)))) l =
      four (λ j. P (suc (suc (suc (suc j))))) e f g h i (le_of_suc-le-suc (le_of_suc-le-suc (le_of_suc-le-suc (le_of_suc-le-suc l))))
