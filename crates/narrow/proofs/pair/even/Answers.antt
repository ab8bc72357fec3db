use Rattle.narrow.proofs.Codes.{even_is}
use lib.ListN.{get_or}
use mir.Syntax.{w8}
use mir.Val.{Fits}
use borrow.Author.Rules.{rules}
use Rattle.narrow.proofs.pair.even.Goals as goal

pub returns : goal.returns
returns c = let f : Fits w8 (get_or c.args.code 2 0) = search rules in even_is _ f.fits
