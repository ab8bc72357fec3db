use Rattle.phases.proofs.Ends.{phase_asked, phase_refused}
use Rattle.phases.proofs.phase.phase_marks.Goals as goal

pub returns-then-can_draw : goal.returns-then-can_draw
returns-then-can_draw c = phase_asked _ _ c.can_draw.ensures _ _ _ c.if-can_draw.true c.flash_marks.ensures

pub returns : goal.returns
returns c = phase_refused _ _ c.can_draw.ensures _ _ c.if-can_draw.false
