use Rattle.std.proofs.Common.{refl}
use Rattle.pixels.proofs.pairs.dye.Goals as goal

pub returns : goal.returns
returns c = rw (c.ink.ensures, c.invert.ensures, c.flash.ensures, c.conceal.ensures) refl
