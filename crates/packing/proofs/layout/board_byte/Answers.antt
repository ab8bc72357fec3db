use native.Mathlib.Omega.{arith}
use Rattle.packing.proofs.layout.board_byte.Goals as goal

pub returns-then-busy : goal.returns-then-busy
returns-then-busy c = rw c.if-busy.true (omega arith)

pub returns : goal.returns
returns c = rw c.if-busy.false (omega arith)
