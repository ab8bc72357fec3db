use Rattle.narrow.proofs.Inks.{ink_is}
use mathlib.Core.Path.{refl}
use Rattle.narrow.proofs.ink.ink.Goals as goal

pub returns : goal.returns
returns c = ink_is c.args.shown _ c.requires.0 c.args.e c.requires.1 _ _ _ refl refl refl
