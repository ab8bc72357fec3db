use Rattle.shown.proofs.Lengths.{rom_reaches}
use borrow.Author.Rules.{rules}
use Rattle.picture.proofs.AnyRows.{start, keep}
use Rattle.picture.proofs.Redrawing.{drew_eighty, eighty_end}
use Rattle.eighty.specs.Rows.{eighty_row}
use Rattle.shown.specs.Lengths.{eighty_bytes}
use Rattle.picture.proofs.eighty_rows.redraw_eighty.Goals as goal

pub loop-r-init : goal.loop-r-init
loop-r-init c = start _ _ _ _ c.requires.0

pub loop-r-preserved-then-not-marked : goal.loop-r-preserved-then-not-marked
loop-r-preserved-then-not-marked c = let l = c.loop-r in
    let a = c.args in
    keep eighty_bytes _ _ (eighty_row a.scene.now.page.memory.now a.scene.now.rom.now a.scene.now.page.shown) _ _ _ l.invariant c.loop-r-test.true c.if-not-marked.true

pub draw_row-requires : goal.draw_row-requires
draw_row-requires c = (search rules, rom_reaches c.args.scene.now.page.shown.part c.args.scene.now.rom.now c.args.scene.now.rom_whole, c.inks_of-inks.ensures)

pub loop-r-preserved : goal.loop-r-preserved
loop-r-preserved c = let l = c.loop-r in
    let a = c.args in
    drew_eighty _ _ a.scene.now.page.memory.now a.scene.now.rom.now a.scene.now.page.shown _ _ _ l.invariant c.loop-r-test.true c.if-not-marked.false _ c.draw_row.new.part
    c.row_buffer-here.ensures c.draw_row.ensures c.draw_row.auto.part

pub returns : goal.returns
returns c = let l = c.loop-r in
    eighty_end _ _ c.args.scene.now.page.memory.now c.args.scene.now.rom.now c.args.scene.now.page.shown _ _ _ l.invariant c.requires.1 c.loop-r-test.false
