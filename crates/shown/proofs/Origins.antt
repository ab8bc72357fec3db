-- The bits of ROR and of DOR as the code takes them.
-- Assumes nothing.
use Rattle.std.proofs.Common.{ℕ, ◌+◌, ◌*◌, ◌/◌, ◌<◌, ◌≡◌, arith}
use Rattle.basics.specs.Bits.{bit}
use Rattle.basics.proofs.Computed.{agree}
use Rattle.shown.specs.declared.Shown.{Shown}
use Rattle.shown.specs.Origins.{highest_bit, first_block}

block_bits : (ror : ℕ) → ror < 256 → ror / 32 * 2 ≡ 8 * bit 7 ror + 4 * bit 6 ror + 2 * bit 5 ror
block_bits = agree (λ ror. ror / 32 * 2) (λ ror. 8 * bit 7 ror + 4 * bit 6 ror + 2 * bit 5 ror) 256 tt

pub first_block_lem :
    (shown : Shown) (z4 : ℕ) → z4 ≡ highest_bit shown.part shown.dor → shown.ror < 256
    → 16 * z4 + shown.ror / 32 * 2 ≡ first_block shown
first_block_lem shown z4 e h = omega (arith, e, block_bits shown.ror h)
