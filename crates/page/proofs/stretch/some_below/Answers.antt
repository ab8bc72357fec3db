use Rattle.std.proofs.Common.{sym}
use native.Mathlib.Omega.{arith}
use Rattle.basics.proofs.Below.{any_none, gathered}
use Rattle.page.proofs.stretch.some_below.Goals as goal

pub loop-i-init : goal.loop-i-init
loop-i-init g c = (omega arith, λ test answers. sym (any_none test))

pub loop-i-preserved : goal.loop-i-preserved
loop-i-preserved g c = let l = c.loop-i in
    let q = c.question-found in
    (omega arith, λ test answers. gathered test l.i l.found q.result (l.invariant.1 test answers) (answers l.i q.result c.loop-i-test.true q.ensures))
