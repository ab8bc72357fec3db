use Rattle.moves.proofs.Going.{ends_auxiliary, ends_main}
use Rattle.moves.proofs.onward.is_end.Goals as goal

pub returns-then-registers-eq39 : goal.returns-then-registers-eq39
returns-then-registers-eq39 c = ends_auxiliary c.args.stops c.args.registers c.if-stops.true c.if-registers-eq39.true

pub returns-else-registers-eq39 : goal.returns-else-registers-eq39
returns-else-registers-eq39 c = ends_main c.args.stops c.args.registers c.if-stops.true c.if-registers-eq39.false
