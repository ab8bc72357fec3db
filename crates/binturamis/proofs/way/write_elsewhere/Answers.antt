use lib.ListN.{length}
use mathlib.Core.Path.{◌≡◌}
use native.Mathlib.Omega.{arith}
use Rattle.binturamis.proofs.Accesses.{ts9347_board, board_idle, still_board, past_write_made}
use Rattle.binturamis.proofs.way.write_elsewhere.Goals as goal

pub unpacked_ts9347-requires : goal.unpacked_ts9347-requires
unpacked_ts9347-requires c = let a = c.args in
    still_board a.p.now _ _ _ (omega arith) c.if-p-eq4.true

pub returns-then-p-eq4 : goal.returns-then-p-eq4
returns-then-p-eq4 c = let a = c.args in
    let whole : length a.memory.now ≡ 32768 = omega (arith, c.if-memory-eq-TS9347_MEMORY_BYTES.true) in
    past_write_made a.address a.value _ a.memory.now a.p.now (ts9347_board a.p.now c.if-p-eq4.true) (board_idle a.p.now 4 c.if-p-eq4.true (omega arith)) whole _ c.past_32-n.ensures
    (omega arith) (omega arith) _ _ c.unpacked_ts9347.ensures c.packed.ensures.0
