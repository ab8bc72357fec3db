-- Accesses that are not refused and ask for no execution, while nothing runs: the register's part is all of them.
-- Assumes nothing.
use Rattle.std.specs.Prelude.{Ok}
use Prim.Native.Nat.{ℕ, ◌/◌, ◌%◌}
use mathlib.Core.Path.{◌≡◌}
use mathlib.Core.Bool.{false}
use mathlib.Core.List.{List}
use native.Mathlib.Omega.{arith}
use lib.ListN.{length}
use borrow.Author.Tests.{eq-eqb, ne_eqb}
use Rattle.board.specs.Boards.{bytes_of}
use Rattle.basics.specs.Bits.{bits, is_set}
use Rattle.processor.specs.declared.state.Processor.{Processor}
use Rattle.processor.specs.States.{chip, with_register, register_read}
use Rattle.processor.specs.Access.{outcome, executed, checked, written, read_out}

-- 4 times 8 is 2 in the address's high four bits with bit 3 clear
module _ (address : ℕ) (m : List ℕ) (p : Processor) (right : length m ≡ bytes_of p.blocks) (idle : p.busy ≡ false) (four : address / 8 ≡ 4) where
  high : bits 4 4 address ≡ 2
  high = omega (arith, four)

  low : bits 0 3 address ≡ address % 8
  low = omega arith

  unasked : is_set 3 address ≡ false
  unasked = ne_eqb (address / 8 % 2) 1 (λ q. omega (arith, four))

  pub plain_written : (v : ℕ) → written address v (chip p m) ≡ outcome (chip (with_register p (address % 8) v) m) (Ok 0)
  unfolding written checked executed
  plain_written v = rw (eq-eqb _ _ right, eq-eqb _ _ high, idle, unasked, low)

  pub plain_read : read_out address (chip p m) ≡ outcome (chip p m) (Ok (register_read p (address % 8)))
  unfolding read_out checked executed
  plain_read = rw (eq-eqb _ _ right, eq-eqb _ _ high, idle, unasked, low)
