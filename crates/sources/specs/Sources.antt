-- Where a cell's slices come from.
-- Assumes nothing.
use Rattle.std.specs.Prelude.{ℕ, ◌+◌, ◌*◌, ◌%◌, List}
use Rattle.basics.specs.Bits.{bit, bits}
use Rattle.board.specs.declared.Part.{Part}
use Rattle.board.specs.declared.Part.TheVariants.{Ef9345, Ts9347}
use Rattle.address.specs.Addresses.{byte_from}
use Rattle.address.specs.Places.{byte_at}
use Rattle.address.specs.Slices.{slice_address}
use Rattle.shown.specs.declared.Shown.{Shown}
use Rattle.cell.specs.declared.kind.Set.{Set}
use Rattle.cell.specs.declared.kind.Set.TheVariants.{G0, G10, G11, G20, G21, Goe, UserG0, UserG1, Q}
use Rattle.cell.specs.declared.kind.Cell.{Cell}
use Rattle.cell.specs.declared.kind.Cell.TheVariants.{Bichrome, Quadrichrome}
use Rattle.sources.specs.declared.source.Source.{Source}
use Rattle.sources.specs.declared.source.Source.TheVariants.{Rom, Block}

-- one number of an EF9345, another of a TS9347
abbrev pub for_part : Part → ℕ → ℕ → ℕ
for_part Ef9345 a b = a
for_part Ts9347 a b = b

-- ROM sets in the order G0, G10, G11, G20, G21; of a TS9347 in the order G10, GOE, G0. (0 where the part has no such set: no cell of it names one.)
-- User G'0, block DOR 3..0; user G'1s, block 2·DOR 6..4 + s; user set Q, block 8·DOR 7 + B5..3. (s is one bit, and Q has B5..3.)
abbrev pub set_source : Shown → Set → Source
set_source shown G0 = Rom (for_part shown.part 0 2)
set_source shown G10 = Rom (for_part shown.part 1 0)
set_source shown G11 = Rom (for_part shown.part 2 0)
set_source shown G20 = Rom (for_part shown.part 3 0)
set_source shown G21 = Rom (for_part shown.part 4 0)
set_source shown Goe = Rom (for_part shown.part 0 1)
set_source shown UserG0 = Block (bits 0 4 shown.dor)
set_source shown (UserG1 s) = Block (2 * bits 4 3 shown.dor + s % 2)
set_source shown (Q n) = Block (8 * bit 7 shown.dor + n % 8)

-- Block 8·DOR7 + B5..3. (The cell has B5..3.)
abbrev pub cell_source : Shown → Cell → Source
cell_source shown (Bichrome cell) = set_source shown cell.set
cell_source shown (Quadrichrome cell) = Block (8 * bit 7 shown.dor + cell.block % 8)

abbrev pub character_of : Cell → ℕ
character_of (Bichrome cell) = cell.character
character_of (Quadrichrome cell) = cell.character

-- slice n of the character c in block z of private memory, on a board of so many blocks. If its Y is 1..7 the slice is 0 and no byte is read;
-- a byte that is not fitted is 0
unfoldable pub kept_slice : ℕ → List ℕ → ℕ → ℕ → ℕ → ℕ
kept_slice blocks m c z n = byte_from m (slice_address blocks c n z)

-- ROM slice: 1280·set + 10·(C modulo 128) + slice
unfoldable pub rom_slice : List ℕ → ℕ → ℕ → ℕ → ℕ
rom_slice rom c set n = byte_at rom (1280 * set + 10 * (c % 128) + n)

-- slice n of a character from its source
abbrev pub slice_from : ℕ → List ℕ → List ℕ → ℕ → Source → ℕ → ℕ
slice_from blocks m rom c (Rom set) n = rom_slice rom c set n
slice_from blocks m rom c (Block z) n = kept_slice blocks m c z n

-- slice n of a cell
unfoldable pub slices_of : List ℕ → List ℕ → Shown → Cell → ℕ → ℕ
slices_of m rom shown cell n = slice_from shown.blocks m rom (character_of cell) (cell_source shown cell) n
