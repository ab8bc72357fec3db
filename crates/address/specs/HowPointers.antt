-- How the code takes both pointers of either part. Nothing here has to be believed: the contracts of `pointer::main_pointer` and
-- `pointer::auxiliary_pointer` are equations with the definitions of those names.
-- Assumes nothing.
use Rattle.std.specs.Prelude.{ℕ, ◌+◌, ◌*◌, ◌/◌, ◌%◌}
use Rattle.address.specs.declared.triple.Triple.{Triple}

-- from how many eights Z has, the register that has Y and the one that has X
abbrev pub pointer_of : ℕ → ℕ → ℕ → Triple
pointer_of eights y x =
    record {
      x = x % 64;
      y = y % 32;
      z = eights * 8 + y / 32 % 2 * 4 + x / 64 % 2 * 2 + x / 128 % 2;
    }
