use Rattle.picture.proofs.AnyRows.{DrawnTo}
use Rattle.eighty.specs.Rows.{eighty_row}
use Rattle.shown.specs.Lengths.{eighty_bytes}
use Rattle.picture.proofs.eighty_rows.redraw_eighty.Given as goal

abbrev pub invariant-loop-r : goal.invariant-loop-r
invariant-loop-r l = DrawnTo eighty_bytes l.marked-items l.initial.picture (eighty_row l.scene.page.memory.now l.scene.rom.now l.scene.page.shown) l.picture l.rows l.r
