-- Where a 12-bit code is kept: the C byte of a position at X and Y in a block of its own, and the attributes of a column's two positions
-- in one byte.
-- Assumes nothing.
use Rattle.std.specs.Prelude.{ℕ, ◌+◌, ◌-◌, ◌*◌, ◌/◌, Bool}
use Rattle.basics.specs.Choice.{pick}
use Rattle.basics.specs.Bits.{bits, is_set}
use Rattle.address.specs.Places.{block_at}
use Rattle.address.specs.declared.triple.Triple.{Triple}

-- C is at X, Y in the pointer's own block Z: Z0 says even or odd
abbrev pub is_odd : Triple → Bool
is_odd t = is_set 0 t.z

-- the even position of the column
abbrev pub even_at : Triple → Triple
even_at t = record { x = t.x; y = t.y; z = 2 * (t.z / 2) }

-- the other position of the column
abbrev pub neighbour_at : Triple → Triple
neighbour_at t = record { x = t.x; y = t.y; z = pick (is_odd t) (t.z - 1) (t.z + 1) }

-- The attributes are at X, Y in block Z with Z0 = 0, plus 2 modulo 4 inside the district
abbrev pub attributes_at : Triple → Triple
attributes_at t = block_at (even_at t) 2

-- two nibbles: the high one for the even position, the low one for the odd
unfoldable pub nibble_for : Bool → ℕ → ℕ
nibble_for odd byte = pick odd (bits 0 4 byte) (bits 4 4 byte)

-- Written, the nibble is taken from the half of R3 in which it will stand and the other nibble stays
unfoldable pub nibble_into : Bool → ℕ → ℕ → ℕ
nibble_into odd byte r3 = pick odd (16 * bits 4 4 byte + bits 0 4 r3) (16 * bits 4 4 r3 + bits 0 4 byte)

-- in both halves
abbrev pub both_halves : ℕ → ℕ
both_halves nibble = 16 * nibble + nibble
