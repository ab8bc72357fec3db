use Rattle.columns.proofs.Columns.{cells_none, cells_one, cells_end}
use Rattle.columns.specs.HowTens.{pairs_at}
use native.Mathlib.Omega.{arith}
use mathlib.Core.Path.{refl}
use borrow.Author.Rules.{rules}
use Rattle.columns.proofs.pairs.pairs_of.Goals as goal

pub loop-x-init : goal.loop-x-init
loop-x-init c = cells_none 4 _ _ refl

pub loop-x-preserved : goal.loop-x-preserved
loop-x-preserved c = let l = c.loop-x in
    let a = c.args in
    cells_one 4 (pairs_at a.cells a.shown) l.pairs c.put_column.new.columns l.x c.steps-four.result l.invariant
    (rw (c.steps-four.ensures, c.cell_pairs.ensures, c.decode.ensures)) (search rules) c.put_column.ensures

pub returns : goal.returns
returns c = let l = c.loop-x in
    let a = c.args in cells_end 4 (pairs_at a.cells a.shown) l.pairs l.x l.invariant (omega arith)
