use Rattle.std.proofs.Common.{sym, ◌∙◌}
use borrow.Author.Tests.{ltb-true}
use Rattle.basics.proofs.Below.{any_none, gathered}
use Rattle.moves.proofs.Spans.{bare_as, none_bare}
use Rattle.moves.proofs.span.is_bare.Goals as goal

pub loop-k-init : goal.loop-k-init
loop-k-init c = sym (any_none _)

pub loop-k-preserved : goal.loop-k-preserved
loop-k-preserved c = gathered _ _ _ _ c.loop-k.invariant (bare_as _ c.args.at _ _ c.block.ensures)

pub returns-then-has_district : goal.returns-then-has_district
returns-then-has_district c = none_bare _ c.args.at _ (ltb-true _ _ (sym c.has_district.ensures ∙ c.if-has_district.true))
