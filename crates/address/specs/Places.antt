-- Where a byte is kept.
-- Assumes nothing.
use Rattle.std.specs.Prelude.{ℕ, ◌+◌, ◌-◌, ◌*◌, ◌/◌, ◌%◌, List, ltb, eqb, get_or}
use Rattle.basics.specs.Choice.{pick}
use Rattle.address.specs.declared.triple.Triple.{Triple}

-- X below 32: 1024Z + 32Y + X. X from 32, Y = 0: 1024Z + X. X from 32, Y from 8: 1024Z + 8Y + X − 32
unfoldable pub place_of : ℕ → ℕ → ℕ → ℕ
place_of x y z =
    pick (ltb x 32) (1024 * z + 32 * y + x)
    (pick (eqb y 0) (1024 * z + x)
    (1024 * z + 8 * y + x - 32))

-- blocks Z, Z+1, Z+2, counted modulo 4 inside the district of four blocks: the one i after Z
abbrev pub block_of : ℕ → ℕ → ℕ
block_of z i = 4 * (z / 4) + (z + i) % 4

-- the byte at a place of private memory, or of the ROM: every reading goes through this
abbrev pub byte_at : List ℕ → ℕ → ℕ
byte_at bytes p = get_or bytes p 0

-- the place of a triple, the triple with its X and Y in the block k after its own, and the byte that is kept at it
abbrev pub place_at : Triple → ℕ
place_at t = place_of t.x t.y t.z

abbrev pub block_at : Triple → ℕ → Triple
block_at t k = record { x = t.x; y = t.y; z = block_of t.z k }

abbrev pub loaded : Triple → List ℕ → ℕ
loaded t m = byte_at m (place_at t)
