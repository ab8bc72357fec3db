use native.Mathlib.Omega.{arith}
use Prim.Native.Nat.{◌+◌}
use Rattle.page.proofs.Stretches.{goes_on_test}
use Rattle.page.proofs.stretch.goes_on_at.Goals as goal

pub returns : goal.returns
returns c = let a = c.args in
    goes_on_test a.part _ c.last_bichrome.ensures a.memory.now a.here a.above a.i (omega (arith, c.shared_slice_known-7-1.given (a.here.b + a.i)))
