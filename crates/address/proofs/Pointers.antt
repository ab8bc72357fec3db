-- Z 0..31: what the bits of a pointer can say; an EF9345's four say 0..15.
-- Assumes nothing.
use Prim.Native.Nat.{ℕ, ◌<◌}
use native.Mathlib.Omega.{arith}
use Rattle.board.specs.declared.Part.{Part}
use Rattle.board.specs.declared.Part.TheVariants.{Ef9345, Ts9347}
use Rattle.address.specs.Pointers.{main_pointer, auxiliary_pointer}

-- how many blocks a pointer of the part can name
abbrev pub blocks_named : Part → ℕ
blocks_named Ef9345 = 16
blocks_named Ts9347 = 32

pub main_block : (part : Part) (r6 r7 : ℕ) → (main_pointer part r6 r7).z < blocks_named part
main_block Ef9345 r6 r7 = omega arith
main_block Ts9347 r6 r7 = omega arith

pub auxiliary_block : (part : Part) (r4 r5 r6 : ℕ) → (auxiliary_pointer part r4 r5 r6).z < blocks_named part
auxiliary_block Ef9345 r4 r5 r6 = omega arith
auxiliary_block Ts9347 r4 r5 r6 = omega arith
