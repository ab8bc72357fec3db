-- The packed bytes of a line, put position by position.
-- Assumes nothing.
use Prim.Native.Nat.{ℕ, ◌+◌, ◌-◌, ◌*◌, ◌≤◌}
use mathlib.Core.Path.{◌≡◌, refl, sym, ap, ◌∙◌}
use mathlib.Core.List.{List, [], ◌∷◌, ◌++◌}
use native.Mathlib.Nat.{mul-suc}
use native.Mathlib.Numerals.{add-one}
use native.Mathlib.Omega.{arith}
use lib.ListN.{length, get_or, take, drop, length-drop}
use lib.Seq.{take-suc, take-take, take-append-le, take-append-add, length-take-le, get_or-drop}
use borrow.Rule.Slice.PartMut.{put_mid}
use Rattle.basics.specs.Parts.{joined}
use Rattle.basics.proofs.Parts.{joined_more, length_joined}
use Rattle.shown.specs.Lengths.{eighty_bytes, line_bytes}
use Rattle.narrow.specs.HowInks.{three_in}
use Rattle.eighty.specs.HowEighty.{three_on, eighty_line_on}

-- the first three of a list that has three
first_three : (xs : List ℕ) → 3 ≤ length xs → take 3 xs ≡ get_or xs 0 0 ∷ get_or xs 1 0 ∷ get_or xs 2 0 ∷ []
first_three xs h = rw (take-suc xs 2 0 (omega arith), take-suc xs 1 0 (omega arith), take-suc xs 0 0 (omega arith))

module _ (tens inks : List ℕ) (n : ℕ) where
  three_long : (p : ℕ) → length (three_on tens inks n p) ≡ 3
  unfolding three_in
  three_long p = refl

  pub eighty_on_long : length (eighty_line_on tens inks n) ≡ line_bytes eighty_bytes
  unfolding eighty_line_on
  eighty_on_long = length_joined 3 (three_on tens inks n) 80 (λ p l. three_long p) ∙ omega arith

  -- the bytes found for position p begin with its three
  three_found : (p from : ℕ) (four : List ℕ) → from ≡ 4 * get_or tens (10 * p + n) 0 → from + 4 ≤ length inks → four ≡ take (from + 4 - from) (drop from inks) → take 3 four ≡ three_on tens inks n p
  unfolding three_in
  three_found p from four is-from h is =
      let first : from + 0 ≡ from = omega arith in
      ap (take 3) is
      ∙ take-take 3 (from + 4 - from) (drop from inks) (omega arith)
      ∙ first_three (drop from inks) (rw (length-drop from inks) (omega arith))
      ∙ rw (get_or-drop from inks 0, get_or-drop from inks 1, get_or-drop from inks 2, first)
      (ap (λ (i : ℕ). get_or inks i 0 ∷ get_or inks (i + 1) 0 ∷ get_or inks (i + 2) 0 ∷ []) is-from)

  -- put with the byte behind them
  pub position_put :
      (line four : List ℕ) (p from : ℕ)
      → from ≡ 4 * get_or tens (10 * p + n) 0 → from + 4 ≤ length inks → four ≡ take (from + 4 - from) (drop from inks) → 3 ≤ length four → 3 * p ≤ length line
      → take (3 * p) line ≡ joined (three_on tens inks n) p → take (3 * (p + 1)) (put_mid (3 * p) (3 * p + 4 - 3 * p) line four) ≡ joined (three_on tens inks n) (p + 1)
  position_put line four p from is-from h is long within front =
      let before : length (take (3 * p) line) ≡ 3 * p = length-take-le (3 * p) line within in
      let next : 3 * (p + 1) ≡ length (take (3 * p) line) + 3 = rw (add-one, mul-suc) (omega arith) in
      let rest : List ℕ = drop (3 * p + 4 - 3 * p) (drop (3 * p) line) in
      ap (λ (m : ℕ). take m (take (3 * p) line ++ (four ++ rest))) next
      ∙ take-append-add (take (3 * p) line) (four ++ rest) 3
      ∙ ap (λ (z : List ℕ). take (3 * p) line ++ z) (take-append-le 3 four rest long ∙ three_found p from four is-from h is)
      ∙ ap (λ (z : List ℕ). z ++ three_on tens inks n p) front
      ∙ sym (joined_more (three_on tens inks n) p)

  -- all are put
  pub line_end : (line : List ℕ) (p : ℕ) → p ≤ 80 → 80 ≤ p → take (3 * p) line ≡ joined (three_on tens inks n) p → take 240 line ≡ eighty_line_on tens inks n
  unfolding eighty_line_on
  line_end line p a b front = let e : p ≡ 80 = omega arith in rw e at front
