use Rattle.std.proofs.Common.{arith}
use Rattle.shown.proofs.Modes.{eighty_asked, forty_asked}
use Rattle.shown.proofs.Shown.is_eighty.Goals as goal

pub returns-then-both_set : goal.returns-then-both_set
returns-then-both_set c = eighty_asked c.args.self c.if-both_set.true (omega arith) _ c.eq.ensures

pub returns-else-both_set : goal.returns-else-both_set
returns-else-both_set c = forty_asked c.args.self c.if-both_set.false
