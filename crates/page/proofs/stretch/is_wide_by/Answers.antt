use Rattle.page.proofs.Stretches.{wide_test}
use Rattle.page.proofs.stretch.is_wide_by.Goals as goal

pub returns : goal.returns
returns c = λ code e. wide_test code c.args.b c.ranges.b.fits e
