use Rattle.shown.proofs.Refusals.{none_asked}
use Rattle.shown.proofs.Shown.is_refused_7.Goals as goal

pub returns : goal.returns
returns c = none_asked _ _ c.picture_asked.ensures _ c.is_none.ensures
