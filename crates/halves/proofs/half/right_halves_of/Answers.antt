use Rattle.basics.specs.Parts.{joined}
use Rattle.halves.proofs.Halves.{right_none, right_bare}
use Rattle.page.proofs.Codes.{has_block}
use mathlib.Core.Path.{sym, ◌∙◌}
use Rattle.address.proofs.Laws.{row_small}
use Rattle.halves.proofs.half.right_halves_of.Goals as goal

pub returns-then-not-is_fitted : goal.returns-then-not-is_fitted
unfolding joined
returns-then-not-is_fitted c = right_bare c.args.page.now.shown c.args.page.now.memory.now c.args.page.now.memory_whole (sym c.is_fitted.ensures ∙ c.if-not-is_fitted.true) c.args.row _ c.requires

pub has_wide-requires : goal.has_wide-requires
has_wide-requires c = let fitted = has_block c.args.page.now.shown c.args.page.now.memory.now c.args.page.now.memory_whole 1 (sym c.is_fitted.ensures ∙ c.if-not-is_fitted.false) in
    (rw c.first_block-z.ensures fitted, rw c.row_y-y.ensures (row_small _ _))

pub returns : goal.returns
unfolding joined
returns c = right_none c.args.page.now.shown c.args.page.now.memory.now c.args.page.now.memory_whole c.args.row _ _ _ _ c.requires c.first_block-z.ensures c.row_y-y.ensures c.yor.ensures (sym c.has_wide.ensures ∙ c.if-has_wide.false)
