use Rattle.picture.proofs.AnyRows.{start, keep}
use Rattle.picture.proofs.Redrawing.{drew_row, redrawn_end, not_known, known_next}
use Rattle.rows.specs.Rows.{forty_row}
use Rattle.shown.specs.Lengths.{forty_bytes}
use Prim.Native.Nat.{◌+◌}
use borrow.Author.Rules.{rules}
use Rattle.picture.proofs.redraw.redraw_rows.Goals as goal

pub loop-r-init : goal.loop-r-init
loop-r-init c = (start _ _ _ _ c.requires.0, not_known c.args.scene.now.page.memory.now c.args.scene.now.page.shown 0)

pub loop-r-preserved-then-not-marked : goal.loop-r-preserved-then-not-marked
loop-r-preserved-then-not-marked c = let l = c.loop-r in
    let a = c.args in (
      keep forty_bytes _ _ (forty_row a.scene.now.page.memory.now a.scene.now.rom.now a.scene.now.page.shown) _ _ _ l.invariant.0 c.loop-r-test.true c.if-not-marked.true,
      not_known a.scene.now.page.memory.now a.scene.now.page.shown (l.r + 1),
    )

pub loop-r-preserved : goal.loop-r-preserved
loop-r-preserved c = let l = c.loop-r in
    let a = c.args in (
      drew_row _ _ a.scene.now.page.memory.now a.scene.now.rom.now a.scene.now.page.shown _ _ _ l.invariant.0 c.loop-r-test.true c.if-not-marked.false _ _ c.draw_row.new.lent
          c.row_buffer-here.ensures c.lower_halves_after-lowers.ensures c.draw_row.ensures (search rules),
      known_next a.scene.now.page.memory.now a.scene.now.page.shown l.r _ c.lower_halves_after-lowers.ensures,
    )

pub returns : goal.returns
returns c = let l = c.loop-r in
    redrawn_end _ _ c.args.scene.now.page.memory.now c.args.scene.now.rom.now c.args.scene.now.page.shown _ _ _ l.invariant.0 c.requires.1 c.loop-r-test.false
