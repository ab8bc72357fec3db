use Rattle.picture.proofs.AnyRows.{DrawnTo}
use Rattle.rows.specs.Rows.{forty_row}
use Rattle.halves.specs.Above.{KnownAbove}
use Rattle.shown.specs.Lengths.{forty_bytes}
use Rattle.picture.proofs.redraw.redraw_rows.Given as goal

abbrev pub invariant-loop-r : goal.invariant-loop-r
invariant-loop-r l = DrawnTo forty_bytes l.marked-items l.initial.picture (forty_row l.scene.page.memory.now l.scene.rom.now l.scene.page.shown) l.picture l.rows l.r × KnownAbove l.scene.page.shown l.scene.page.memory.now l.r l.above
