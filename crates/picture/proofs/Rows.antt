-- A row in each mode, and its length: that of the mode.
-- Assumes nothing.
use Prim.Native.Nat.{ℕ}
use mathlib.Core.Path.{◌≡◌, ap, ◌∙◌}
use mathlib.Core.Bool.{Bool, true, false}
use mathlib.Core.List.{List}
use lib.ListN.{length}
use Rattle.basics.specs.Choice.{pick}
use Rattle.basics.proofs.Choice.{pick_known}
use Rattle.basics.proofs.Parts.{length_table}
use Rattle.shown.specs.declared.Shown.{Shown}
use Rattle.shown.specs.Lengths.{forty_bytes, line_bytes, row_bytes}
use Rattle.shown.specs.Modes.{is_eighty, column_bytes}
use Rattle.shown.proofs.Lengths.{columns_long, lines_long}
use Rattle.shown.proofs.Modes.{eighty_bytes_lem, forty_bytes_lem}
use Rattle.pixels.specs.Pixels.{cell_line}
use Rattle.page.specs.Inputs.{CellInput}
use Rattle.rows.specs.Rows.{painted_line, painted, forty_row}
use Rattle.eighty.specs.Rows.{eighty_row}
use Rattle.eighty.proofs.Drawn.{eighty_long}
use Rattle.picture.specs.Rows.{row_of}

-- the lengths of a line and a row in 40 columns, whatever they are painted from
pub painted_line_long : (rom : List ℕ) (shown : Shown) (inputs : List CellInput) (n : ℕ) → length (painted_line rom shown inputs n) ≡ line_bytes forty_bytes
unfolding painted_line cell_line
painted_line_long rom shown inputs n = columns_long forty_bytes _ (λ x l. length_table _ forty_bytes)

pub painted_long : (rom : List ℕ) (shown : Shown) (inputs : List CellInput) → length (painted rom shown inputs) ≡ row_bytes forty_bytes
unfolding painted
painted_long rom shown inputs = lines_long forty_bytes _ (λ n l. painted_line_long rom shown inputs n)

module _ (m rom : List ℕ) (shown : Shown) (r : ℕ) where
  pub row_eighty : is_eighty shown ≡ true → row_of m rom shown r ≡ eighty_row m rom shown r
  unfolding row_of
  row_eighty e = ap (λ (b : Bool). pick b (eighty_row m rom shown r) (forty_row m rom shown r)) e

  pub row_forty : is_eighty shown ≡ false → row_of m rom shown r ≡ forty_row m rom shown r
  unfolding row_of
  row_forty e = ap (λ (b : Bool). pick b (eighty_row m rom shown r) (forty_row m rom shown r)) e

  pub row_long : length (row_of m rom shown r) ≡ row_bytes (column_bytes shown)
  unfolding row_of
  row_long =
      pick_known (λ (row : List ℕ). length row ≡ row_bytes (column_bytes shown)) (is_eighty shown) _ _
      (λ e. eighty_long rom shown _ ∙ rw (eighty_bytes_lem shown e)) (λ e. painted_long rom shown _ ∙ rw (forty_bytes_lem shown e))
