-- Laws of a part that is taken out of bytes, and of one that is put in: an element, the length, and the whole.
-- Assumes nothing.
use Prim.Native.Nat.{ℕ, ◌+◌, ◌≤◌, ◌<◌}
use mathlib.Core.Path.{◌≡◌, sym, ap, ◌∙◌}
use mathlib.Core.Bool.{Bool, false}
use mathlib.Core.List.{List, ◌++◌, map, append_assoc}
use native.Mathlib.Omega.{arith}
use lib.ListN.{length, get_or, take, drop, length-append, length-drop, length-map, get_or-map}
use lib.Seq.{length-take-le, take_all, take_at, drop_at, get_or-take, get_or-drop, ext_get_or, paste}
use Rattle.basics.specs.Choice.{one_if}
use Rattle.basics.specs.Parts.{table}
use Rattle.basics.proofs.Parts.{length_table, table_at}
use Rattle.packing.specs.Layouts.{is_on}

-- the w elements from start on
abbrev pub part : ℕ → ℕ → List ℕ → List ℕ
part start w bytes = take w (drop start bytes)

module _ (start w : ℕ) (bytes : List ℕ) (fits : start + w ≤ length bytes) where
  pub length_part : length (part start w bytes) ≡ w
  length_part = length-take-le w (drop start bytes) (rw length-drop (omega arith))

  pub length_marks : length (map is_on (part start w bytes)) ≡ w
  length_marks = length-map (part start w bytes) is_on ∙ length_part

  pub part_at_lem : (i : ℕ) → i < w → get_or (part start w bytes) i 0 ≡ get_or bytes (start + i) 0
  part_at_lem i h = get_or-take w (drop start bytes) i 0 h ∙ get_or-drop start bytes i 0

  pub mark_at : (i : ℕ) → i < w → get_or (map is_on (part start w bytes)) i (is_on 0) ≡ is_on (get_or bytes (start + i) 0)
  mark_at i h = get_or-map is_on (part start w bytes) i 0 ∙ ap is_on (part_at_lem i h)

  -- the marks, made one by one
  pub marks_made : table (λ i. is_on (get_or bytes (start + i) 0)) w ≡ map is_on (part start w bytes)
  marks_made =
      ext_get_or (is_on 0) (table (λ i. is_on (get_or bytes (start + i) 0)) w) (map is_on (part start w bytes)) (length_table _ w ∙ sym length_marks)
      (λ i l.
      let below : i < w = omega (arith, length_table (λ i. is_on (get_or bytes (start + i) 0)) w) in
      table_at _ w i (is_on 0) below ∙ sym (mark_at i below))

-- the bytes of marks, made one by one
pub ones_made : (n : ℕ) (marks : List Bool) → length marks ≡ n → table (λ i. one_if (get_or marks i false)) n ≡ map one_if marks
ones_made n marks e =
    ext_get_or 0 (table (λ i. one_if (get_or marks i false)) n) (map one_if marks) (length_table _ n ∙ sym (length-map marks one_if ∙ e))
    (λ i l.
    let below : i < n = omega (arith, length_table (λ i. one_if (get_or marks i false)) n) in
    table_at _ n i 0 below ∙ sym (get_or-map one_if marks i false))

-- s takes the place of b
pub put_middle :
    (a b c s : List ℕ) (n w : ℕ) → length a ≡ n → length b ≡ w → length s ≡ w → paste (a ++ b ++ c) n s w ≡ a ++ s ++ c
put_middle a b c s n w la lb ls =
    let front : take n (a ++ b ++ c) ≡ a = ap (take n) (append_assoc a b c) ∙ take_at a (b ++ c) n la in
    let rest : drop (n + w) (a ++ b ++ c) ≡ c = drop_at (a ++ b) c (n + w) (length-append a b ∙ omega arith) in
    rw (front, rest, take_all w s (omega arith))
