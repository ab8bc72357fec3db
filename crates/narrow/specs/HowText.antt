-- When the code hides a cell of text. Nothing here has to be believed: `text_flashed` of Pixels.antt asks the same.
-- Assumes nothing.
use Rattle.std.specs.Prelude.{Bool, not, ◌&&◌, eqb}
use Rattle.basics.specs.Bits.{bit, is_set}
use Rattle.shown.specs.declared.Shown.{Shown}
use Rattle.narrow.specs.declared.pair.Narrow.{Narrow}

unfoldable pub hidden : Narrow → Shown → Bool
hidden cell shown = is_set 2 cell.attributes && (is_set 6 shown.pat && not (eqb shown.phase (bit 3 cell.attributes)))
