-- The lengths of a packed line, a row and a picture, for every number k of bytes of a column, whatever draws the columns.
-- Assumes nothing.
use Prim.Native.Nat.{ℕ, ◌+◌, ◌*◌, ◌≤◌, ◌<◌}
use mathlib.Core.Path.{◌≡◌, ◌∙◌}
use mathlib.Core.List.{List}
use native.Mathlib.Nat.{mul-suc, mul-le-mul_left}
use native.Mathlib.Omega.{arith}
use lib.ListN.{length, drop, length-drop}
use lib.Seq.{length-take-le}
use Rattle.basics.specs.Parts.{joined, part_of}
use Rattle.basics.proofs.Parts.{Each, length_joined}
use Rattle.board.specs.declared.Part.{Part}
use Rattle.board.specs.declared.Part.TheVariants.{Ef9345, Ts9347}
use Rattle.shown.specs.Lengths.{rom_bytes, line_bytes, row_bytes, picture_bytes}

module _ (k : ℕ) where
  pub columns_long : (column : ℕ → List ℕ) → Each k column 40 → length (joined column 40) ≡ line_bytes k
  columns_long column e = length_joined k column 40 e ∙ omega arith

  pub lines_long : (line : ℕ → List ℕ) → Each (line_bytes k) line 10 → length (joined line 10) ≡ row_bytes k
  lines_long line e = length_joined (line_bytes k) line 10 e ∙ omega arith

  pub rows_long : (row : ℕ → List ℕ) → Each (row_bytes k) row 25 → length (joined row 25) ≡ picture_bytes k
  rows_long row e = length_joined (row_bytes k) row 25 e ∙ omega arith

  -- a row of a whole picture
  pub part_long : (picture : List ℕ) (r : ℕ) → length picture ≡ picture_bytes k → r < 25 → length (part_of (row_bytes k) picture r) ≡ row_bytes k
  part_long picture r h l =
      let below : row_bytes k * r + row_bytes k ≤ row_bytes k * 25 = rw (← mul-suc) (mul-le-mul_left (row_bytes k) l) in
      length-take-le (row_bytes k) (drop (row_bytes k * r) picture) (rw length-drop (omega arith))

-- a ROM has at least the first of its sets
pub rom_least : (part : Part) → 1280 ≤ rom_bytes part
rom_least Ef9345 = omega arith
rom_least Ts9347 = omega arith

pub rom_reaches : (part : Part) (rom : List ℕ) → length rom ≡ rom_bytes part → 1280 ≤ length rom
rom_reaches part rom e = omega (arith, e, rom_least part)
