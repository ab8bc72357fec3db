use Rattle.narrow.proofs.Codes.{odd_is}
use Rattle.narrow.proofs.pair.odd.Goals as goal

pub returns : goal.returns
returns c = odd_is _
