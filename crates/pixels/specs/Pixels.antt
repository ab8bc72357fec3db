-- The pixels of a cell's line. n is the number of the slice that the line shows, s its byte, and x counts the eight pixels from the left.
-- Assumes nothing.
use Rattle.std.specs.Prelude.{ℕ, ◌+◌, ◌*◌, ◌/◌, Bool, true, false, not, ◌&&◌, List, eqb}
use Rattle.basics.specs.Choice.{pick, one_if}
use Rattle.basics.specs.Bits.{bits, is_set}
use Rattle.shown.specs.declared.Shown.{Shown}
use Rattle.shown.specs.Lengths.{forty_bytes}
use Rattle.colour.specs.declared.Colour.{Colour}
use Rattle.colour.specs.Colours.{packed_line}
use Rattle.colour.specs.Ranks.{colour_of_rank}
use Rattle.cell.specs.declared.kind.BichromeCell.{BichromeCell}
use Rattle.cell.specs.declared.kind.QuadrichromeCell.{QuadrichromeCell}
use Rattle.cell.specs.declared.kind.Cell.{Cell}
use Rattle.cell.specs.declared.kind.Cell.TheVariants.{Bichrome, Quadrichrome}

-- Slice bit 0 is the leftmost pixel. Width doubles each pixel: the left half shows slice bits 0 to 3, the right half 4 to 7
abbrev pub taken_bit : Bool → Bool → ℕ → ℕ → Bool
taken_bit wide right s x = pick wide (is_set (pick right 4 0 + x / 2) s) (is_set x s)

-- underline makes it 1 on slice 9
abbrev pub underlined : Bool → ℕ → Bool → Bool
underlined underline n b = pick (underline && eqb n 9) true b

-- conceal with PAT 3 makes it 0
unfoldable pub concealed : BichromeCell → Shown → Bool → Bool
concealed cell shown b = pick (cell.conceal && is_set 3 shown.pat) false b

-- flash with PAT 6 makes it 0 when the phase differs from the negative bit
unfoldable pub flashed : BichromeCell → Shown → Bool → Bool
flashed cell shown b = pick (cell.flash && (is_set 6 shown.pat && not (eqb shown.phase (one_if cell.negative)))) false b

-- negative inverts it
unfoldable pub inverted : BichromeCell → Bool → Bool
inverted cell b = pick cell.negative (not b) b

-- 1 is foreground, 0 background
unfoldable pub inked : BichromeCell → Bool → Colour
inked cell b = pick b cell.foreground cell.background

-- the steps after underline, which do not ask for the slice
abbrev pub dyed : BichromeCell → Shown → Bool → Colour
dyed cell shown b = inked cell (inverted cell (flashed cell shown (concealed cell shown b)))

-- For each pixel, in order: take the slice's bit; underline; conceal; flash; negative; 1 is foreground, 0 background
abbrev pub bichrome_pixel : BichromeCell → Shown → Bool → ℕ → ℕ → ℕ → Colour
bichrome_pixel cell shown right n s x = dyed cell shown (underlined cell.underline n (taken_bit cell.wide right s x))

-- Each two bits of the slice, lowest first, are the rank of two pixels
abbrev pub quadrichrome_pixel : QuadrichromeCell → ℕ → ℕ → Colour
quadrichrome_pixel cell s x = colour_of_rank cell.palette (bits (2 * (x / 2)) 2 s)

abbrev pub cell_pixel : Cell → Shown → Bool → ℕ → ℕ → ℕ → Colour
cell_pixel (Bichrome cell) shown right n s x = bichrome_pixel cell shown right n s x
cell_pixel (Quadrichrome cell) shown right n s x = quadrichrome_pixel cell s x

-- the packed bytes of a cell's line
unfoldable pub cell_line : Cell → Shown → Bool → ℕ → ℕ → List ℕ
cell_line cell shown right n s = packed_line (cell_pixel cell shown right n s) forty_bytes
