-- The lengths of the ROM and of the picture's parts, in bytes. What holds of a line, a row and a picture holds for every number k of bytes
-- of a column.
-- Assumes nothing.
use Rattle.std.specs.Prelude.{ℕ, ◌*◌}
use Rattle.board.specs.declared.Part.{Part}
use Rattle.board.specs.declared.Part.TheVariants.{Ef9345, Ts9347}

-- 5: ROM is not 6,400 bytes: five sets of 128 characters of ten slices; of a TS9347 three sets, 3,840 bytes
abbrev pub rom_bytes : Part → ℕ
rom_bytes Ef9345 = 5 * 1280
rom_bytes Ts9347 = 3 * 1280

-- in 40 columns a column is a cell of eight pixels, two pixels a byte
abbrev pub forty_bytes : ℕ
forty_bytes = 4

-- in 80 columns it is two cells of six pixels
abbrev pub eighty_bytes : ℕ
eighty_bytes = 2 * 3

-- One packed line is 160 bytes, or 240: forty columns
abbrev pub line_bytes : ℕ → ℕ
line_bytes k = 40 * k

-- A row is 1,600 bytes, or 2,400: ten lines
abbrev pub row_bytes : ℕ → ℕ
row_bytes k = 10 * line_bytes k

-- 6: picture is not 40,000 bytes, or 60,000: 25 rows
abbrev pub picture_bytes : ℕ → ℕ
picture_bytes k = 25 * row_bytes k
