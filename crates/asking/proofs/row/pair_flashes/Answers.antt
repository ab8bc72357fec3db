use Rattle.asking.proofs.Rows.{pair_test}
use Rattle.asking.proofs.row.pair_flashes.Goals as goal

pub returns : goal.returns
returns c = pair_test _ c.ranges.c.fits c.ranges.b.fits
