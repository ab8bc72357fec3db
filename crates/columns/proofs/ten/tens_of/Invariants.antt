use Rattle.columns.proofs.Columns.{CellsTo}
use Rattle.columns.specs.HowTens.{ten_at}
use Rattle.columns.proofs.ten.tens_of.Given as goal

abbrev pub invariant-loop-x : goal.invariant-loop-x
invariant-loop-x l = CellsTo 10 (ten_at l.scene.page.memory.now l.scene.rom.now l.scene.page.shown l.cells l.lowers l.rights) l.tens l.x
