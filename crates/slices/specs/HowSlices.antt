-- How the code works out which of a cell's ten slices its lines show. Nothing here has to be believed: the contract of `slice::shown_slices` is an
-- equation with `slice_shown`.
-- Assumes nothing.
use Rattle.std.specs.Prelude.{ℕ, ◌+◌, Bool, List, get_or}
use Rattle.basics.specs.Choice.{pick}
use Rattle.basics.specs.Parts.{table}
use Rattle.basics.specs.Bits.{is_set}
use Rattle.board.specs.declared.Part.{Part}
use Rattle.board.specs.declared.Part.TheVariants.{Ef9345, Ts9347}
use Rattle.pixels.specs.Slices.{slice_of_twenty}

-- the slice of line n of a half of a double height cell
abbrev pub twenty_at : Bool → Bool → ℕ → ℕ
twenty_at alphanumeric lower n = slice_of_twenty alphanumeric (pick lower (10 + n) n)

-- of ten slices those that ten lines show, by their numbers
abbrev pub by_number : List ℕ → (ℕ → ℕ) → List ℕ
by_number slices number = table (λ n. get_or slices (number n) 0) 10

-- which half of twenty lines a cell shows whose B is from 192 on: of an EF9345 that of its low resolution, of a TS9347 that of its double height
abbrev pub half_of : Part → ℕ → Bool → Bool
half_of Ef9345 b lower = is_set 2 b
half_of Ts9347 b lower = lower
