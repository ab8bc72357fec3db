-- Where the page stands in private memory.
-- Assumes nothing.
use Rattle.std.specs.Prelude.{ℕ, ◌+◌, ◌*◌}
use Rattle.basics.specs.Bits.{bit, bits}
use Rattle.board.specs.declared.Part.{Part}
use Rattle.board.specs.declared.Part.TheVariants.{Ef9345, Ts9347}
use Rattle.shown.specs.declared.Shown.{Shown}

-- YOR is ROR bits 4..0
abbrev pub yor_of : Shown → ℕ
yor_of shown = bits 0 5 shown.ror

-- The page's first block has DOR 7 as Z4 above ROR's bits, of a TS9347
abbrev pub highest_bit : Part → ℕ → ℕ
highest_bit Ef9345 dor = 0
highest_bit Ts9347 dor = bit 7 dor

-- the first block Z is even, its Z3, Z2, Z1 being ROR bits 7, 6, 5
abbrev pub first_block : Shown → ℕ
first_block shown = 16 * highest_bit shown.part shown.dor + 8 * bit 7 shown.ror + 4 * bit 6 shown.ror + 2 * bit 5 shown.ror
