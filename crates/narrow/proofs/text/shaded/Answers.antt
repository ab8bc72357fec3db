use native.Mathlib.Omega.{arith}
use Rattle.narrow.proofs.Bytes.{shaded_negative, shaded_plain}
use Prim.Native.Nat.{◌%◌}
use Rattle.narrow.proofs.text.shaded.Goals as goal

pub returns-then-negative : goal.returns-then-negative
returns-then-negative c = let a = c.args in rw c.if-negative.true (shaded_negative a.slice (a.attributes % 2) (omega arith) (omega arith))

pub returns : goal.returns
returns c = let a = c.args in rw c.if-negative.false (shaded_plain a.slice (a.attributes % 2) (omega arith) (omega arith))
