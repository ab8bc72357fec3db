-- A user slice for character C, slice NT (0..9), in block Z.
-- Assumes nothing.
use Rattle.std.specs.Prelude.{ℕ, ◌+◌, ◌*◌}
use Rattle.basics.specs.Bits.{bits}
use Rattle.address.specs.Addresses.{Address, address_of}
use Rattle.address.specs.declared.triple.Triple.{Triple}

-- it is at Y = C bits 6..2
abbrev pub slice_y : ℕ → ℕ
slice_y c = bits 2 5 c

-- and X = 4·NT + C bits 1..0
abbrev pub slice_x : ℕ → ℕ → ℕ
slice_x c nt = 4 * nt + bits 0 2 c

-- its triple, and its address on a board of so many blocks. (If that Y is 1..7 the address is illegal; X is below 40.)
abbrev pub slice_at : ℕ → ℕ → ℕ → Triple
slice_at c nt z = record { x = slice_x c nt; y = slice_y c; z = z }

unfoldable pub slice_address : ℕ → ℕ → ℕ → ℕ → Address
slice_address blocks c nt z = address_of blocks (slice_at c nt z)
