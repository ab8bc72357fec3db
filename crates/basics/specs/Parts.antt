-- A list made of parts, one after the other.
-- Assumes nothing.
use Rattle.std.specs.Prelude.{ℕ, zero, suc, ◌*◌, List, [], ◌∷◌, ◌++◌, take, drop}

module _ {A : Type 0} where
  -- part 0, then part 1, and so on to part n - 1
  unfoldable pub joined : (ℕ → List A) → ℕ → List A
  joined part zero = []
  joined part (suc n) = joined part n ++ part n

  -- f 0, f 1, and so on to f (n - 1)
  abbrev pub table : (ℕ → A) → ℕ → List A
  table f n = joined (λ i. f i ∷ []) n

  -- part number i of a list that is cut into parts of k
  abbrev pub part_of : ℕ → List A → ℕ → List A
  part_of k xs i = take k (drop (k * i) xs)
