use Rattle.pixels.proofs.Bytes.{double_left, double_right}
use Rattle.pixels.proofs.width.doubled.Goals as goal

pub returns-then-right : goal.returns-then-right
returns-then-right c = rw (c.from.ensures, c.if-right.true) (double_right _ c.ranges.slice.fits)

pub returns-else-right : goal.returns-else-right
returns-else-right c = rw (c.from-else-right.ensures, c.if-right.false) (double_left _ c.ranges.slice.fits)
