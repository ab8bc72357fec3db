-- The picture drawn afresh, and the picture kept by redrawing marked rows.
-- Assumes nothing.
use Rattle.std.specs.Prelude.{ℕ, Bool, List}
use Rattle.basics.specs.Choice.{pick}
use Rattle.basics.specs.Parts.{joined, part_of}
use Rattle.shown.specs.declared.Shown.{Shown}
use Rattle.shown.specs.Lengths.{row_bytes}
use Rattle.shown.specs.Modes.{column_bytes}
use Rattle.page.specs.Marks.{is_marked}
use Rattle.picture.specs.Rows.{row_of}

-- A row is the 1,600 bytes of the picture from 1,600 times its number, or the 2,400 from 2,400 times it: row r after a redraw, with k bytes a column
abbrev pub row_after : ℕ → List Bool → List ℕ → (ℕ → List ℕ) → ℕ → List ℕ
row_after k marks picture row r = pick (is_marked marks r) (row r) (part_of (row_bytes k) picture r)

-- the marked rows are redrawn and no other byte
unfoldable pub redrawn_rows : ℕ → List Bool → List ℕ → (ℕ → List ℕ) → List ℕ
redrawn_rows k marks picture row = joined (row_after k marks picture row) 25

-- with the bytes a column of the mode
unfoldable pub redrawn : List Bool → List ℕ → List ℕ → List ℕ → Shown → List ℕ
redrawn marks picture m rom shown = redrawn_rows (column_bytes shown) marks picture (row_of m rom shown)

-- the picture drawn afresh: all 25 rows
unfoldable pub fresh_rows : (ℕ → List ℕ) → List ℕ
fresh_rows row = joined row 25

unfoldable pub fresh : List ℕ → List ℕ → Shown → List ℕ
fresh m rom shown = fresh_rows (row_of m rom shown)
