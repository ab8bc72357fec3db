-- The two cells of a column in 80 columns, each of twelve bits.
-- Assumes nothing.
use Rattle.std.specs.Prelude.{ℕ, Bool, not, ◌&&◌, ◌||◌, List, get_or}
use Rattle.basics.specs.Bits.{bits, is_set}
use Rattle.narrow.specs.declared.pair.Narrow.{Narrow}

-- A position's C byte is in the page's first block for an even position, in the next for an odd one. The third block's byte holds two
-- nibbles of attributes: the high one for the even position, the low one for the odd. (code is the column's three bytes.)
unfoldable pub even_of : List ℕ → Narrow
even_of code = record { character = get_or code 0 0; attributes = bits 4 4 (get_or code 2 0) }

unfoldable pub odd_of : List ℕ → Narrow
odd_of code = record { character = get_or code 1 0; attributes = bits 0 4 (get_or code 2 0) }

-- a cell that has C7 = 0 and the flash bit
abbrev pub narrow_flashes : Narrow → Bool
narrow_flashes cell = not (is_set 7 cell.character) && is_set 2 cell.attributes

-- either of a column's two
unfoldable pub pair_flashes : List ℕ → Bool
pair_flashes code = narrow_flashes (even_of code) || narrow_flashes (odd_of code)
