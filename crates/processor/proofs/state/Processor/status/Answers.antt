use Prim.Native.Nat.{ℕ, ◌≤◌}
use mathlib.Core.Path.{◌≡◌, refl}
use mathlib.Core.Bool.{Bool, true, false}
use native.Mathlib.Omega.{arith}
use mir.Val.{bool_byte}
use Rattle.basics.specs.Choice.{one_if}
use Rattle.processor.specs.States.{status_of}
use Rattle.processor.proofs.state.Processor.status.Goals as goal

bit : (b : Bool) {n : ℕ} → n ≡ bool_byte b → (n ≡ one_if b) × (n ≤ 1)
bit true e = (e, omega (arith, e))
bit false e = (e, omega (arith, e))

pub overflow_mul-result : goal.overflow_mul-result
overflow_mul-result c = record { fits = omega (arith, (bit _ c.from.ensures).1) }

pub overflow_add-result : goal.overflow_add-result
overflow_add-result c = record { fits = omega (arith, (bit _ c.from.ensures).1, (bit _ c.from-2.ensures).1) }

pub overflow_add-result-2 : goal.overflow_add-result-2
overflow_add-result-2 c = record { fits = omega (arith, (bit _ c.from.ensures).1, (bit _ c.from-2.ensures).1, (bit _ c.from-3.ensures).1) }

pub overflow_add-result-3 : goal.overflow_add-result-3
overflow_add-result-3 c = record { fits = omega (arith, (bit _ c.from.ensures).1, (bit _ c.from-2.ensures).1, (bit _ c.from-3.ensures).1, (bit _ c.from-4.ensures).1) }

pub returns : goal.returns
unfolding status_of
returns c = rw ((bit _ c.from.ensures).0, (bit _ c.from-2.ensures).0, (bit _ c.from-3.ensures).0, (bit _ c.from-4.ensures).0) refl
