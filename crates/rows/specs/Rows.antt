-- A row in 40 columns: ten packed lines of forty cells, from all that it takes from private memory, the ROM, PAT and the phase.
-- Assumes nothing.
use Rattle.std.specs.Prelude.{ℕ, Bool, List, get_or}
use Rattle.basics.specs.Parts.{joined}
use Rattle.shown.specs.declared.Shown.{Shown}
use Rattle.cell.specs.declared.kind.Cell.{Cell}
use Rattle.pixels.specs.Slices.{slice_shown}
use Rattle.pixels.specs.Pixels.{cell_line}
use Rattle.sources.specs.Sources.{character_of}
use Rattle.page.specs.Inputs.{Slices, CellInput, decoded, slice_byte, no_input, row_input}

-- line n of a cell: the slice that it shows, and that slice's pixels
abbrev pub cell_line_at : List ℕ → Shown → Cell → Slices → Bool → Bool → ℕ → List ℕ
cell_line_at rom shown cell slices lower right n =
    cell_line cell shown right (slice_shown cell lower n) (slice_byte rom (character_of cell) slices (slice_shown cell lower n))

abbrev pub painted_cell : List ℕ → Shown → ℕ → CellInput → List ℕ
painted_cell rom shown n input = cell_line_at rom shown (decoded shown.part input.code) input.slices input.lower input.right n

-- One packed line is 160 bytes: forty cells of four bytes
unfoldable pub painted_line : List ℕ → Shown → List CellInput → ℕ → List ℕ
painted_line rom shown inputs n = joined (λ x. painted_cell rom shown n (get_or inputs x no_input)) 40

-- A row is 1,600 bytes: ten lines
unfoldable pub painted : List ℕ → Shown → List CellInput → List ℕ
painted rom shown inputs = joined (painted_line rom shown inputs) 10

-- screen row r in 40 columns
abbrev pub forty_row : List ℕ → List ℕ → Shown → ℕ → List ℕ
forty_row m rom shown r = painted rom shown (row_input shown m r)
