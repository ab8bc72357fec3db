use Rattle.binturamis.proofs.Accesses.{full_board_lem, board_idle, still_board, past_write_made, full_address_made, full_late_made}
use native.Mathlib.Omega.{arith}
use Rattle.binturamis.proofs.binturamis_write.Goals as goal

pub unpacked_full-requires : goal.unpacked_full-requires
unpacked_full-requires c = let a = c.args in
    still_board a.p.now _ _ _ (omega arith) c.if-p-ne0.false

pub returns-then-n-lt8 : goal.returns-then-n-lt8
returns-then-n-lt8 c = let a = c.args in
    past_write_made a.address a.value _ a.memory.now a.p.now (full_board_lem a.p.now c.if-p-ne0.false) (board_idle a.p.now 0 c.if-p-ne0.false (omega arith)) c.if-memory-ne-MEMORY_BYTES.false _ c.past_32-n.ensures
    (omega arith) (omega arith) _ _ c.unpacked_full.ensures c.packed.ensures.0

pub returns-then-n-gt15 : goal.returns-then-n-gt15
returns-then-n-gt15 c = let a = c.args in
    full_address_made a.address a.value a.memory.now a.p.now c.if-p-ne0-2.false c.if-memory-ne-MEMORY_BYTES.false (omega arith)
    (λ e. omega (arith, c.past_32-n.ensures))

pub returns : goal.returns
returns c = let a = c.args in
    full_late_made a.address a.value a.memory.now a.p.now c.if-p-ne0-2.false c.if-memory-ne-MEMORY_BYTES.false (omega arith)
    (omega (arith, c.past_32-n.ensures, c.if-n-gt15.false)) _ c.write-answered.result c.write-answered.new.memory _ _
    c.unpacked_full-2.ensures c.write-answered.ensures c.leave_written.ensures.0 c.leave_written.ensures.1
