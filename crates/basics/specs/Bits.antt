-- The bits of a number, bit 0 the lowest.
-- Assumes nothing.
use Rattle.std.specs.Prelude.{ℕ, zero, suc, ◌+◌, ◌*◌, ◌/◌, ◌%◌, ◌^◌, Bool, eqb}
use Rattle.basics.specs.Choice.{one_if}

-- bit k of n, 0 or 1
abbrev pub bit : ℕ → ℕ → ℕ
bit k n = n / 2 ^ k % 2

-- bit k of n is set
abbrev pub is_set : ℕ → ℕ → Bool
is_set k n = eqb (n / 2 ^ k % 2) 1

-- the w bits of n from bit k up, as a number
abbrev pub bits : ℕ → ℕ → ℕ → ℕ
bits k w n = n / 2 ^ k % 2 ^ w

-- the number of n bits whose bit k is set where f k holds
unfoldable pub from_bits : (ℕ → Bool) → ℕ → ℕ
from_bits f zero = 0
from_bits f (suc n) = from_bits f n + 2 ^ n * one_if (f n)
