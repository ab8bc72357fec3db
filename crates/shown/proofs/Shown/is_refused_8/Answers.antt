use Rattle.shown.proofs.Refusals.{low_origin}
use Rattle.shown.proofs.Shown.is_refused_8.Goals as goal

pub returns : goal.returns
returns c = low_origin c.args.self _ c.yor.ensures
