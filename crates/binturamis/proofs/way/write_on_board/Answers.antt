use Prim.Native.Nat.{◌-◌, ◌%◌}
use mathlib.Core.Path.{◌≡◌}
use native.Mathlib.Omega.{arith}
use Rattle.binturamis.proofs.Accesses.{plain_write_made, early_made, late_length, late_idle, late_made}
use Rattle.binturamis.proofs.way.write_on_board.Goals as goal

pub returns-then-refused-ne0 : goal.returns-then-refused-ne0
returns-then-refused-ne0 c = let a = c.args in
    early_made a.address a.value a.memory.now a.p.now _ (rw c.unpacked-before.ensures at c.early-refused.ensures) c.if-refused-ne0.true

pub returns-then-address-eq4 : goal.returns-then-address-eq4
returns-then-address-eq4 c = let a = c.args in
    let length = late_length a.address a.value a.memory.now a.p.now _ (rw c.unpacked-before.ensures at c.early-refused.ensures) c.if-refused-ne0.false in
    let idle = late_idle a.address a.value a.memory.now a.p.now _ (rw c.unpacked-before.ensures at c.early-refused.ensures) c.if-refused-ne0.false c.if-address-eq4.true in
    let register : a.address - 32 ≡ a.address % 8 = omega (arith, c.if-address-eq4.true) in
    plain_write_made a.address a.memory.now a.p.now length idle c.if-address-eq4.true a.value _ _ (rw register at c.unpacked.ensures) c.packed.ensures.0

pub returns : goal.returns
returns c = let a = c.args in
    late_made a.address a.value a.memory.now a.p.now _ (rw c.unpacked-before.ensures at c.early-refused.ensures) _ c.write-answered.result c.write-answered.new.memory _ _
    c.if-refused-ne0.false c.unpacked-before.ensures c.write-answered.ensures c.leave_written.ensures.0 c.leave_written.ensures.1
