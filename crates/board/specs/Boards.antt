-- The board: its part, and how many blocks its private memory has. Everything else is said for either part and any number of blocks.
-- Assumes nothing.
use Rattle.std.specs.Prelude.{ℕ, ◌*◌, Bool, ◌||◌, eqb}
use Rattle.basics.specs.Choice.{pick}
use Rattle.board.specs.declared.Part.{Part}
use Rattle.board.specs.declared.Part.TheVariants.{Ef9345, Ts9347}

-- a part by its number: 0 EF9345, 1 TS9347
abbrev pub is_part : ℕ → Bool
is_part n = eqb n 0 || eqb n 1

abbrev pub part_named : ℕ → Part
part_named n = pick (eqb n 0) Ef9345 Ts9347

abbrev pub part_number : Part → ℕ
part_number Ef9345 = 0
part_number Ts9347 = 1

-- 2, 8 or 16 blocks of an EF9345; a TS9347 has 32
abbrev pub is_board : Part → ℕ → Bool
is_board Ef9345 blocks = eqb blocks 2 || (eqb blocks 8 || eqb blocks 16)
is_board Ts9347 blocks = eqb blocks 32

-- the blocks of an EF9345 of which nothing else is said
abbrev pub full_board : ℕ
full_board = 16

-- the bytes of so many blocks: block Z starts at 1024Z
abbrev pub bytes_of : ℕ → ℕ
bytes_of blocks = 1024 * blocks
