use Prim.Native.Nat.{ℕ, ◌/◌, ◌<◌}
use mathlib.Core.Path.{◌≡◌, refl}
use native.Mathlib.Omega.{arith}
use lib.Dec.{eqb}
use Rattle.basics.specs.Bits.{bits}
use Rattle.processor.proofs.access.is_chosen.Goals as goal

high : (address : ℕ) → address < 256 → eqb (address / 16) 2 ≡ eqb (bits 4 4 address) 2
high address l = let e : bits 4 4 address ≡ address / 16 = omega arith in rw e refl

pub returns : goal.returns
returns c = high c.args.address (omega arith)
