use mathlib.Core.Bool.{true, false}
use native.Mathlib.Omega.{arith}
use borrow.Author.Rules.{rules}
use Rattle.slices.proofs.Slices.{twenty_small, half_line}
use Rattle.slices.proofs.slice.tall_slice.Goals as goal
use Rattle.slices.proofs.slice.tall_slice.Goals.{then-lower, else-lower}

pub bounds-s-slice_of_twenty : goal.bounds-s-slice_of_twenty
bounds-s-slice_of_twenty c = twenty_small c.args.alphanumeric c.if-lower.line _ c.slice_of_twenty.ensures (search rules)

pub returns : goal.returns
returns c = let a = c.args in
    elim c.if-lower.branch [
      | then-lower w ↦ half_line a.s a.alphanumeric a.lower true a.n _ _ w.if-lower.true (omega (arith, w.line-is)) c.slice_of_twenty.ensures
      | else-lower w ↦ half_line a.s a.alphanumeric a.lower false a.n _ _ w.if-lower.false w.line-is c.slice_of_twenty.ensures
    ]
