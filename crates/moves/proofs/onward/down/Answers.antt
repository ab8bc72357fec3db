use Rattle.moves.proofs.Going.{went_down}
use Rattle.moves.proofs.onward.down.Goals as goal

pub returns-then-registers-eq39 : goal.returns-then-registers-eq39
returns-then-registers-eq39 c = rw c.next_y.ensures (went_down _ c.if-registers-eq39.true)
