use Rattle.columns.proofs.Steps.{chosen_low, chosen_high}
use Rattle.lines.proofs.pack.chosen.Goals as goal

pub returns-then-by-eq1 : goal.returns-then-by-eq1
returns-then-by-eq1 c = chosen_high c.args.by _ c.args.steps c.stepped-high.ensures c.if-by-eq1.true

pub returns-else-by-eq1 : goal.returns-else-by-eq1
returns-else-by-eq1 c = chosen_low c.args.by _ c.args.steps c.stepped-low.ensures c.if-by-eq1.false
