use native.Mathlib.Omega.{arith}
use Rattle.processor.proofs.Laws.{position_next}
use Rattle.processor.proofs.pointer.advance.Goals as goal

pub returns : goal.returns
returns c = position_next c.args.p c.if-old-lt128.false (omega arith) c.if-even-eq39.false
