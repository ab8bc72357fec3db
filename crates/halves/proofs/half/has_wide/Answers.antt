use Rattle.page.proofs.Stretches.{row_stretches}
use Rattle.halves.proofs.half.has_wide.Goals as goal

pub returns : goal.returns
returns c = row_stretches _ _ _ c.some_wide.ensures c.some_wide-2.ensures
