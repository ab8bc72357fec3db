-- How the code works out a line of a cell: by a packed pair of pixels for each two bits that a slice can have side by side, and by the
-- byte that these are chosen by. Nothing here has to be believed: `pairs_line` of proofs/Drawn.antt shows that it gives the page's pixels.
-- Assumes nothing.
use Rattle.std.specs.Prelude.{ℕ, ◌*◌, Bool, false, ◌&&◌, List, eqb, get_or}
use Rattle.basics.specs.Bits.{bits, is_set, from_bits}
use Rattle.basics.specs.Parts.{table}
use Rattle.shown.specs.declared.Shown.{Shown}
use Rattle.colour.specs.Colours.{packed_of}
use Rattle.colour.specs.Ranks.{colour_of_rank}
use Rattle.pixels.specs.Slices.{slice_shown}
use Rattle.pixels.specs.Pixels.{taken_bit, underlined, dyed}
use Rattle.cell.specs.declared.kind.BichromeCell.{BichromeCell}
use Rattle.cell.specs.declared.kind.Cell.{Cell}
use Rattle.cell.specs.declared.kind.Cell.TheVariants.{Bichrome, Quadrichrome}

-- the packed byte of two pixels, for each two bits that the slice may have there
unfoldable pub bichrome_pairs : BichromeCell → Shown → List ℕ
bichrome_pairs cell shown = table (λ f. packed_of (dyed cell shown (is_set 0 f)) (dyed cell shown (is_set 1 f))) 4

abbrev pub rank_pair : ℕ → ℕ → ℕ
rank_pair palette r = packed_of (colour_of_rank palette r) (colour_of_rank palette r)

unfoldable pub quadrichrome_pairs : ℕ → List ℕ
quadrichrome_pairs palette = table (rank_pair palette) 4

abbrev pub cell_pairs : Cell → Shown → List ℕ
cell_pairs (Bichrome cell) shown = bichrome_pairs cell shown
cell_pairs (Quadrichrome cell) shown = quadrichrome_pairs cell.palette

abbrev pub wide_of : Cell → Bool
wide_of (Bichrome cell) = cell.wide
wide_of (Quadrichrome cell) = false

abbrev pub underline_of : Cell → Bool
underline_of (Bichrome cell) = cell.underline
underline_of (Quadrichrome cell) = false

-- a cell is underlined on line n where the line shows slice 9
unfoldable pub underlined_on : Cell → Bool → ℕ → Bool
underlined_on cell lower n = underline_of cell && eqb (slice_shown cell lower n) 9

-- the byte that the pairs are chosen by
unfoldable pub effective_of : Cell → Bool → ℕ → ℕ → ℕ
effective_of cell right n s = from_bits (λ x. underlined (underline_of cell) n (taken_bit (wide_of cell) right s x)) 8

-- four bytes, each the pair that two bits of a byte name
unfoldable pub four_by : ℕ → List ℕ → List ℕ
four_by byte pairs = table (λ i. get_or pairs (bits (2 * i) 2 byte) 0) 4
