-- A row of the picture, in the mode.
-- Assumes nothing.
use Rattle.std.specs.Prelude.{ℕ, List}
use Rattle.basics.specs.Choice.{pick}
use Rattle.shown.specs.declared.Shown.{Shown}
use Rattle.shown.specs.Modes.{is_eighty}
use Rattle.rows.specs.Rows.{forty_row}
use Rattle.eighty.specs.Rows.{eighty_row}

-- screen row r: 2,400 bytes in 80 columns, 1,600 in 40
unfoldable pub row_of : List ℕ → List ℕ → Shown → ℕ → List ℕ
row_of m rom shown r = pick (is_eighty shown) (eighty_row m rom shown r) (forty_row m rom shown r)
