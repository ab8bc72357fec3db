use Rattle.std.proofs.Common.{◌≡◌, ◌-◌, ◌∙◌, sym, ap, arith}
use Rattle.basics.specs.Parts.{joined}
use Rattle.colour.proofs.Pass.{found, found_none, found_more, found_past, found_without, found_all}
use Rattle.colour.proofs.palette.by_rank.Goals as goal
use Rattle.colour.proofs.palette.by_rank.Goals.{else-has-via-then-has+else-rank-lt4, else-has-via-else-has}

pub loop-k-init : goal.loop-k-init
unfolding joined
loop-k-init c = sym (found_none c.args.palette)

pub loop-k-preserved-then-rank-lt4 : goal.loop-k-preserved-then-rank-lt4
loop-k-preserved-then-rank-lt4 c = let l = c.loop-k in
    found_more _ (l.k - 1) l.k (omega arith) (omega arith) _ c.from_number-colour.ensures _ c.has.ensures _ l.invariant
    c.if-has.true _ c.rank.ensures c.if-rank-lt4.true

pub loop-k-preserved : goal.loop-k-preserved
loop-k-preserved c = let l = c.loop-k in
    elim c.else-has.branch [
      | else-has-via-then-has+else-rank-lt4 w ↦
          found_past _ (l.k - 1) l.k (omega arith) (omega arith) _ c.from_number-colour.ensures _ c.has.ensures _ l.invariant
          w.if-has.true _ w.rank.ensures w.if-rank-lt4.false
      | else-has-via-else-has w ↦
          found_without _ (l.k - 1) l.k (omega arith) (omega arith) _ c.from_number-colour.ensures _ c.has.ensures _ l.invariant w.if-has.false
    ]

pub returns : goal.returns
returns c = let l = c.loop-k in
    let low : l.k ≡ 0 = omega arith in
    l.invariant ∙ ap (found _) low ∙ found_all _
