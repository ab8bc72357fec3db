use Rattle.asking.proofs.Rows.{low_tall}
use Rattle.asking.proofs.row.is_tall_ef9345.Goals as goal

pub returns : goal.returns
returns c = λ code e. low_tall code c.args.b c.ranges.b.fits e
