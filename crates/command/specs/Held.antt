-- What is refused while a move runs.
-- Assumes nothing.
use Rattle.std.specs.Prelude.{ℕ, Bool, not, ◌&&◌, eqb}
use Rattle.basics.specs.Bits.{bits}
use Rattle.command.specs.Commands.{between}

-- 10, any access while busy except a status read at a lower address: a read of R0 at 20
unfoldable pub is_read_held : ℕ → Bool
is_read_held address = not (eqb (bits 0 4 address) 0)

-- or writing R0 with a NOP, 90 or 91, at an upper one: at 28
unfoldable pub is_write_held : ℕ → ℕ → Bool
is_write_held address v = not (eqb (bits 0 4 address) 8 && between 0x90 0x91 v)
