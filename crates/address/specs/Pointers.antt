-- The two pointers, from the bits of the registers R4 to R7.
-- Assumes nothing.
use Rattle.std.specs.Prelude.{ℕ, ◌+◌, ◌*◌}
use Rattle.basics.specs.Bits.{bit, bits}
use Rattle.board.specs.declared.Part.{Part}
use Rattle.board.specs.declared.Part.TheVariants.{Ef9345, Ts9347}
use Rattle.address.specs.declared.triple.Triple.{Triple}

-- EF9345. Main pointer: R6 bits 4..0 are Y, bit 5 is Z2, bit 7 is Z3; R7 bits 5..0 are X, bit 7 is Z0 and bit 6 is Z1. TS9347: both pointers
-- in one format with bits 7..5 beside Y being Z4..Z2
abbrev pub main_pointer : Part → ℕ → ℕ → Triple
main_pointer Ef9345 r6 r7 =
    record {
      x = bits 0 6 r7;
      y = bits 0 5 r6;
      z = 8 * bit 7 r6 + 4 * bit 5 r6 + 2 * bit 6 r7 + bit 7 r7;
    }
main_pointer Ts9347 r6 r7 =
    record {
      x = bits 0 6 r7;
      y = bits 0 5 r6;
      z = 4 * bits 5 3 r6 + 2 * bit 6 r7 + bit 7 r7;
    }

-- EF9345. Auxiliary: R4 and R5 likewise, except that its Z3 is R6 bit 6. TS9347: the format of the main pointer, in R4 and R5
abbrev pub auxiliary_pointer : Part → ℕ → ℕ → ℕ → Triple
auxiliary_pointer Ef9345 r4 r5 r6 =
    record {
      x = bits 0 6 r5;
      y = bits 0 5 r4;
      z = 8 * bit 6 r6 + 4 * bit 5 r4 + 2 * bit 6 r5 + bit 7 r5;
    }
auxiliary_pointer Ts9347 r4 r5 r6 = main_pointer Ts9347 r4 r5
