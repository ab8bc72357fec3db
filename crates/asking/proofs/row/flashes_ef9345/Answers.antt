use Rattle.asking.proofs.Rows.{low_flash}
use Rattle.asking.proofs.row.flashes_ef9345.Goals as goal

pub returns : goal.returns
returns c = λ code e f. low_flash code c.args.b c.args.a c.ranges.b.fits e f
