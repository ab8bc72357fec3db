use native.Mathlib.Omega.{arith}
use Rattle.binturamis.proofs.Leaving.{left_alone, left_packed}
use Rattle.binturamis.proofs.leave.leave.Goals as goal

pub returns-then-number-ne0 : goal.returns-then-number-ne0
returns-then-number-ne0 c a = (left_alone _ _ a.number.ensures _ _ (λ e. a.if-number-ne0.true (omega arith)), a.word.ensures)

pub returns : goal.returns
returns c a = (left_packed _ _ a.number.ensures _ _ _ (omega arith) a.packed.ensures.0, a.word-2.ensures)
