use native.Mathlib.Omega.{arith}
use Rattle.binturamis.proofs.Calls.{draw_made}
use Rattle.binturamis.proofs.Rows.{rows_few}
use Rattle.binturamis.proofs.binturamis_draw.Goals as goal

pub leave-requires : goal.leave-requires
leave-requires c = omega (arith, rows_few _ c.draw-drawn.result _ _ _ _ c.draw-drawn.ensures)

pub returns : goal.returns
returns c = let a = c.args in
    draw_made a.p.now a.memory.now a.rom.now a.picture.now _ c.draw-drawn.result _ _ _
    c.unpacked.ensures c.draw-drawn.ensures c.leave.ensures.0 c.leave.ensures.1
