-- Which slice each of the ten lines of a cell shows.
-- Assumes nothing.
use Rattle.std.specs.Prelude.{ℕ, ◌+◌, ◌*◌, ◌/◌, ◌%◌, Bool, List, [], ◌∷◌, get_or}
use Rattle.basics.specs.Choice.{pick}
use Rattle.cell.specs.Cells.{alphanumeric_of}
use Rattle.cell.specs.declared.kind.Resolution.{Resolution}
use Rattle.cell.specs.declared.kind.Resolution.TheVariants.{High, Low}
use Rattle.cell.specs.declared.kind.BichromeCell.{BichromeCell}
use Rattle.cell.specs.declared.kind.QuadrichromeCell.{QuadrichromeCell}
use Rattle.cell.specs.declared.kind.Cell.{Cell}
use Rattle.cell.specs.declared.kind.Cell.TheVariants.{Bichrome, Quadrichrome}

-- Of twenty lines, an alphanumeric gives slice 0 three times, 1 to 8 twice, 9 once
abbrev pub alphanumeric_twenty : List ℕ
alphanumeric_twenty = 0 ∷ 0 ∷ 0 ∷ 1 ∷ 1 ∷ 2 ∷ 2 ∷ 3 ∷ 3 ∷ 4 ∷ 4 ∷ 5 ∷ 5 ∷ 6 ∷ 6 ∷ 7 ∷ 7 ∷ 8 ∷ 8 ∷ 9 ∷ []

-- others give each slice twice
abbrev pub other_twenty : List ℕ
other_twenty = 0 ∷ 0 ∷ 1 ∷ 1 ∷ 2 ∷ 2 ∷ 3 ∷ 3 ∷ 4 ∷ 4 ∷ 5 ∷ 5 ∷ 6 ∷ 6 ∷ 7 ∷ 7 ∷ 8 ∷ 8 ∷ 9 ∷ 9 ∷ []

unfoldable pub slice_of_twenty : Bool → ℕ → ℕ
slice_of_twenty alphanumeric line = get_or (pick alphanumeric alphanumeric_twenty other_twenty) line 0

-- line n of a bichrome cell: slice n; of a double height cell, of whose twenty lines the upper half shows the first ten, the lower
-- half the others
unfoldable pub bichrome_slice : BichromeCell → Bool → ℕ → ℕ
bichrome_slice cell lower n =
    pick cell.tall (slice_of_twenty (alphanumeric_of cell.set) (pick lower (10 + n) n)) n

-- Line n uses slice n, or in low resolution 5K + n div 2. (K is one bit.)
abbrev pub resolved_slice : Resolution → ℕ → ℕ
resolved_slice High n = n
resolved_slice (Low k) n = 5 * (k % 2) + n / 2

abbrev pub quadrichrome_slice : QuadrichromeCell → ℕ → ℕ
quadrichrome_slice cell n = resolved_slice cell.resolution n

-- the slice that line n of a cell shows
abbrev pub slice_shown : Cell → Bool → ℕ → ℕ
slice_shown (Bichrome cell) lower n = bichrome_slice cell lower n
slice_shown (Quadrichrome cell) lower n = quadrichrome_slice cell n
