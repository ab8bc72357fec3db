-- Which half a double height or a double width cell shows.
-- Assumes nothing.
use Rattle.std.specs.Prelude.{ℕ, zero, suc, Bool, false, not, ◌&&◌, List, eqb, get_or}
use Rattle.basics.specs.Bits.{is_set}
use Rattle.basics.specs.Parts.{table}
use Rattle.board.specs.declared.Part.{Part}
use Rattle.cell.specs.Cells.{are_both_set, is_quadrichrome}
use Rattle.shown.specs.declared.Shown.{Shown}
use Rattle.page.specs.Codes.{code_at}

-- a double height cell: bichrome, with B1
unfoldable pub is_tall : Part → List ℕ → Bool
is_tall part code = not (is_quadrichrome part (get_or code 1 0)) && is_set 1 (get_or code 1 0)

-- a double width cell: bichrome, with B3, and not of a set Q: of either part B7 and B6 are not both set
unfoldable pub is_wide : List ℕ → Bool
is_wide code = not (are_both_set (get_or code 1 0)) && is_set 3 (get_or code 1 0)

-- the same three bytes
unfoldable pub same_code : List ℕ → List ℕ → Bool
same_code a b = eqb (get_or a 0 0) (get_or b 0 0) && (eqb (get_or a 1 0) (get_or b 1 0) && eqb (get_or a 2 0) (get_or b 2 0))

-- a cell that doubles has the same three bytes as the one before it
abbrev pub goes_on : Bool → List ℕ → List ℕ → Bool
goes_on doubles code before = doubles && same_code code before

-- along a run of cells: a cell that doubles shows its second half exactly when the cell before it has the same three bytes and shows
-- its first half; else the first
unfoldable pub second_half : (List ℕ → Bool) → (ℕ → List ℕ) → ℕ → Bool
second_half doubles code zero = false
second_half doubles code (suc i) = goes_on (doubles (code (suc i))) (code (suc i)) (code i) && not (second_half doubles code i)

-- A double height cell shows its lower half exactly when the cell above it on the screen (the same column, one row up) has the same
-- three bytes and shows its upper half; else the upper
abbrev pub lower_half : Shown → List ℕ → ℕ → ℕ → Bool
lower_half shown m r x = second_half (is_tall shown.part) (λ i. code_at shown m i x) r

-- Double width is the same to the left, giving the right half
abbrev pub right_half : Shown → List ℕ → ℕ → ℕ → Bool
right_half shown m r x = second_half is_wide (code_at shown m r) x

-- the halves of a row's forty cells
abbrev pub lower_halves : Shown → List ℕ → ℕ → List Bool
lower_halves shown m r = table (lower_half shown m r) 40
