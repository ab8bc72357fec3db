use Rattle.moves.proofs.Going.{down_on_page}
use Rattle.moves.specs.Onward.{onward}
use Rattle.moves.proofs.onward.onward.Goals as goal

pub returns-then-stops : goal.returns-then-stops
unfolding onward
returns-then-stops c = rw c.if-stops.true c.across.ensures

pub across-requires-else-stops : goal.across-requires-else-stops
across-requires-else-stops c = rw c.down.ensures (down_on_page _ c.requires)
