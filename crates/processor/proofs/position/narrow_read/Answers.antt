use Rattle.processor.specs.Bytes.{narrow_read}
use Rattle.processor.proofs.position.narrow_read.Goals as goal

pub returns : goal.returns
unfolding narrow_read
returns c = rw (c.with_register-2.ensures, c.with_register.ensures, c.both_halves.ensures, c.is_odd.ensures, c.load-attributes.ensures, c.attributes_at.ensures, c.load-c.ensures)
