use mathlib.Core.Path.{sym, ◌∙◌}
use native.Mathlib.Omega.{arith}
use Rattle.basics.specs.Parts.{joined}
use Rattle.halves.proofs.Halves.{lower_service, lower_next, lower_none}
use Rattle.halves.proofs.half.+lower_halves.Goals as goal

pub returns-then-row-eq0 : goal.returns-then-row-eq0
unfolding joined
returns-then-row-eq0 t c = lower_service c.args.page.now.shown _ _ c.if-row-eq0.true

pub returns-then-some_go_on : goal.returns-then-some_go_on
returns-then-some_go_on t c =
    c.next_lowers.ensures ∙ lower_next c.args.page.now.shown _ _ (omega (arith, c.if-row-eq0.false)) _ c.lower_halves-lowers.ensures

pub returns : goal.returns
unfolding joined
returns t c = lower_none c.args.page.now.shown _ _ (omega (arith, c.if-row-eq0.false)) (sym c.some_go_on.ensures ∙ c.if-some_go_on.false)
