-- How the code works out the ten bytes and the four pairs of each cell of a row. Nothing here has to be believed: `drawn_line` of crate
-- lines shows that the lines made of them have the pixels of the cells.
-- Assumes nothing.
use Rattle.std.specs.Prelude.{ℕ, ◌+◌, ◌-◌, ◌/◌, ◌%◌, Bool, true, false, ◌&&◌, List, [], ◌∷◌, ltb, eqb, get_or}
use Rattle.basics.specs.Bits.{from_bits}
use Rattle.basics.specs.Parts.{table}
use Rattle.shown.specs.declared.Shown.{Shown}
use Rattle.cell.specs.declared.kind.Cell.{Cell}
use Rattle.pixels.specs.Slices.{slice_shown}
use Rattle.pixels.specs.Pixels.{taken_bit}
use Rattle.pixels.specs.HowPairs.{cell_pairs, wide_of}
use Rattle.sources.specs.Sources.{slices_of}
use Rattle.page.specs.Inputs.{decoded}
use Rattle.columns.specs.HowColumns.{side_by_side}

-- of slice n of ten the half that is shown
abbrev pub doubled_of : List ℕ → Bool → ℕ → ℕ
doubled_of slices right n = from_bits (taken_bit true right (get_or slices n 0)) 8

-- the byte of line n of a cell, not underlined yet
abbrev pub taken_at : List ℕ → List ℕ → Shown → Cell → Bool → Bool → ℕ → ℕ
taken_at m rom shown cell lower right n =
    from_bits (taken_bit (wide_of cell) right (slices_of m rom shown cell (slice_shown cell lower n))) 8

unfoldable pub ten_of : List ℕ → List ℕ → Shown → Cell → Bool → Bool → List ℕ
ten_of m rom shown cell lower right = table (taken_at m rom shown cell lower right) 10

-- a cell of a ROM set, of single height and width
unfoldable pub is_plain : ℕ → Bool
is_plain b = ltb b 128 && (eqb (b / 2 % 2) 0 && eqb (b / 8 % 2) 0)

-- the ten bytes of cell x, and those of every cell
abbrev pub ten_at : List ℕ → List ℕ → Shown → List (List ℕ) → List Bool → List Bool → ℕ → List ℕ
ten_at m rom shown cells lowers rights x = ten_of m rom shown (decoded shown.part (get_or cells x [])) (get_or lowers x false) (get_or rights x false)

abbrev pub tens_of : List ℕ → List ℕ → Shown → List (List ℕ) → List Bool → List Bool → List ℕ
tens_of m rom shown cells lowers rights = side_by_side (ten_at m rom shown cells lowers rights) 10

-- the step from one byte to another, modulo 256
abbrev pub step_to : ℕ → ℕ → ℕ
step_to a b = (256 + b - a) % 256

-- four pairs as the code keeps them: that of no bit with the step to that of the left pixel's bit, and that of the right pixel's bit with
-- the step to that of both
unfoldable pub steps_of : List ℕ → List ℕ
steps_of pairs =
    get_or pairs 0 0 ∷ step_to (get_or pairs 0 0) (get_or pairs 1 0) ∷ get_or pairs 2 0 ∷ step_to (get_or pairs 2 0) (get_or pairs 3 0) ∷ []

-- and the way back
unfoldable pub from_steps : List ℕ → List ℕ
from_steps steps = get_or steps 0 0 ∷ (get_or steps 0 0 + get_or steps 1 0) % 256 ∷ get_or steps 2 0 ∷ (get_or steps 2 0 + get_or steps 3 0) % 256 ∷ []

-- the four pairs of cell x, and those of every cell
abbrev pub pairs_at : List (List ℕ) → Shown → ℕ → List ℕ
pairs_at cells shown x = steps_of (cell_pairs (decoded shown.part (get_or cells x [])) shown)

abbrev pub pairs_of : List (List ℕ) → Shown → List ℕ
pairs_of cells shown = side_by_side (pairs_at cells shown) 4
