use Rattle.address.proofs.Laws.{row_small}
use Rattle.halves.proofs.Halves.{compared, on_bare, on_rows}
use Rattle.page.proofs.Stretches.{row_stretches}
use native.Mathlib.Omega.{arith}
use mathlib.Core.Path.{sym, ap, ◌∙◌}
use Prim.Native.Nat.{ℕ, ◌-◌}
use Rattle.address.specs.Rows.{row_y}
use Rattle.halves.proofs.half.some_go_on.Goals as goal

pub returns-then-not-is_fitted : goal.returns-then-not-is_fitted
returns-then-not-is_fitted c = on_bare c.args.page.now.shown c.args.page.now.memory.now c.args.page.now.memory_whole (sym c.is_fitted.ensures ∙ c.if-not-is_fitted.true) c.args.row

pub some_on-requires : goal.some_on-requires
some_on-requires c = let all = compared c.args.page.now.shown c.args.page.now.memory.now c.args.page.now.memory_whole _ _ c.first_block-z.ensures (sym c.is_fitted.ensures ∙ c.if-not-is_fitted.false) c.third_of-third.ensures in
    (all, rw c.row_y-y.ensures (row_small _ _), rw c.row_y-above.ensures (row_small _ _), omega arith, omega arith)

pub some_on-requires-2 : goal.some_on-requires-2
some_on-requires-2 c = let all = compared c.args.page.now.shown c.args.page.now.memory.now c.args.page.now.memory_whole _ _ c.first_block-z.ensures (sym c.is_fitted.ensures ∙ c.if-not-is_fitted.false) c.third_of-third.ensures in
    (all, rw c.row_y-y.ensures (row_small _ _), rw c.row_y-above.ensures (row_small _ _), omega arith, omega arith)

pub returns : goal.returns
returns c = let a = c.args in
    row_stretches _ _ _ c.some_on.ensures c.some_on-2.ensures
    ∙ on_rows a.page.now.shown a.page.now.memory.now a.page.now.memory_whole a.row _ _ _ _ c.first_block-z.ensures c.row_y-y.ensures (c.row_y-above.ensures ∙ ap (λ (o : ℕ). row_y o (a.row - 1)) (c.yor-2.ensures ∙ sym c.yor.ensures)) c.yor.ensures
