-- The mode: 40 columns, or 80.
-- Assumes nothing.
use Rattle.std.specs.Prelude.{ℕ, Bool, true, false, ◌&&◌}
use Rattle.basics.specs.Bits.{is_set}
use Rattle.basics.specs.Choice.{pick}
use Rattle.board.specs.declared.Part.{Part}
use Rattle.board.specs.declared.Part.TheVariants.{Ef9345, Ts9347}
use Rattle.shown.specs.declared.Shown.{Shown}
use Rattle.shown.specs.Lengths.{forty_bytes, eighty_bytes}

-- there is no 80 column page of the TS9347
abbrev pub has_eighty : Part → Bool
has_eighty Ef9345 = true
has_eighty Ts9347 = false

-- TGS bits 7 and 6 both set: 80 columns
unfoldable pub is_eighty : Shown → Bool
is_eighty shown = has_eighty shown.part && (is_set 7 shown.tgs && is_set 6 shown.tgs)

-- the bytes of a column's line that go with the mode
abbrev pub column_bytes : Shown → ℕ
column_bytes shown = pick (is_eighty shown) eighty_bytes forty_bytes
