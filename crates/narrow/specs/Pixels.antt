-- The pixels of a cell of twelve bits. n is the line, and x counts the six pixels from the left.
-- Assumes nothing.
use Rattle.std.specs.Prelude.{ℕ, ◌+◌, ◌-◌, ◌*◌, ◌/◌, Bool, true, false, not, ◌&&◌, List, ◌++◌, ltb, eqb}
use Rattle.basics.specs.Choice.{pick}
use Rattle.basics.specs.Bits.{bit, bits, is_set}
use Rattle.shown.specs.declared.Shown.{Shown}
use Rattle.colour.specs.declared.Colour.{Colour}
use Rattle.colour.specs.Colours.{colour_of, packed_line}
use Rattle.sources.specs.Sources.{rom_slice}
use Rattle.narrow.specs.declared.pair.Narrow.{Narrow}
use Rattle.narrow.specs.Codes.{even_of, odd_of}

-- C7 = 0: a character of G0 by C6..C0, slice = line, pixels from bits 0 to 5, lowest leftmost
abbrev pub character_bit : List ℕ → Narrow → ℕ → ℕ → Bool
character_bit rom cell n x = is_set x (rom_slice rom cell.character 0 n)

-- Of the nibble bit 3 is negative, 2 flash, 1 underline, 0 is D. Underline makes it 1 on slice 9
unfoldable pub text_underlined : Narrow → ℕ → Bool → Bool
text_underlined cell n b = pick (is_set 1 cell.attributes && eqb n 9) true b

-- flash with PAT 6 makes it 0 when the phase differs from the negative bit
unfoldable pub text_flashed : Narrow → Shown → Bool → Bool
text_flashed cell shown b =
    pick (is_set 2 cell.attributes && (is_set 6 shown.pat && not (eqb shown.phase (bit 3 cell.attributes)))) false b

-- negative inverts it
abbrev pub text_inverted : Narrow → Bool → Bool
text_inverted cell b = pick (is_set 3 cell.attributes) (not b) b

abbrev pub text_bit : List ℕ → Shown → Narrow → ℕ → ℕ → Bool
text_bit rom shown cell n x = text_inverted cell (text_flashed cell shown (text_underlined cell n (character_bit rom cell n x)))

-- C7 = 1: a mosaic of ten windows, each three pixels wide and two lines high, two side by side, five down
abbrev pub window_of : ℕ → ℕ → ℕ
window_of n x = 2 * (n / 2) + x / 3

-- Their bits in reading order are C0 to C6 and then nibble bits 1, 2, 3
abbrev pub window_bit : Narrow → ℕ → Bool
window_bit cell w = pick (ltb w 7) (is_set w cell.character) (is_set (w - 6) cell.attributes)

-- A mosaic never flashes, is never underlined and never negative
abbrev pub mosaic_bit : Narrow → ℕ → ℕ → Bool
mosaic_bit cell n x = window_bit cell (window_of n x)

unfoldable pub narrow_bit : List ℕ → Shown → Narrow → ℕ → ℕ → Bool
narrow_bit rom shown cell n x = pick (is_set 7 cell.character) (mosaic_bit cell n x) (text_bit rom shown cell n x)

-- Colours: bit 1 is DOR 2..0 where D is 0 and DOR 6..4 where it is 1; bit 0 is MAT 2..0
unfoldable pub ink_colour : Shown → Bool → Bool → Colour
ink_colour shown d b = colour_of (pick b (pick d (bits 4 3 shown.dor) (bits 0 3 shown.dor)) (bits 0 3 shown.mat))

-- Nibble bit 0 is D
abbrev pub narrow_pixel : List ℕ → Shown → Narrow → ℕ → ℕ → Colour
narrow_pixel rom shown cell n x = ink_colour shown (is_set 0 cell.attributes) (narrow_bit rom shown cell n x)

-- six pixels in three bytes
unfoldable pub narrow_line : List ℕ → Shown → Narrow → ℕ → List ℕ
narrow_line rom shown cell n = packed_line (narrow_pixel rom shown cell n) 3

-- a column's line: the even position, then the odd one
unfoldable pub pair_line : List ℕ → Shown → List ℕ → ℕ → List ℕ
pair_line rom shown code n = narrow_line rom shown (even_of code) n ++ narrow_line rom shown (odd_of code) n
