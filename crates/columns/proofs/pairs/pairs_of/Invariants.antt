use Rattle.columns.proofs.Columns.{CellsTo}
use Rattle.columns.specs.HowTens.{pairs_at}
use Rattle.columns.proofs.pairs.pairs_of.Given as goal

abbrev pub invariant-loop-x : goal.invariant-loop-x
invariant-loop-x l = CellsTo 4 (pairs_at l.fn.cells l.shown) l.pairs l.x
