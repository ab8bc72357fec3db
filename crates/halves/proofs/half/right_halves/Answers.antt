use Rattle.halves.proofs.Halves.{right_turn}
use Rattle.page.specs.Halves.{second_half}
use Rattle.basics.proofs.Filled.{table_set}
use Rattle.basics.specs.Parts.{joined}
use lib.ListN.{length-set}
use native.Mathlib.Omega.{arith}
use mathlib.Core.Path.{refl}
use borrow.Author.Rules.{rules}
use Rattle.halves.proofs.half.right_halves.Goals as goal

pub loop-x-init : goal.loop-x-init
unfolding joined second_half
loop-x-init c = (refl, refl)

pub loop-x-preserved : goal.loop-x-preserved
loop-x-preserved c = let l = c.loop-x in
    let a = c.args in (
      simp length-set l.invariant.0,
      table_set _ _ _ _ l.invariant.1 (right_turn a.cells l.x l.halves c.is_wide.result c.goes_on-on.result (search rules) c.is_wide.ensures c.goes_on-on.ensures l.invariant.1) (omega arith),
    )
