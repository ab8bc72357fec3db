use Rattle.std.proofs.Common.{◌∙◌, refl, arith}
use Rattle.colour.specs.Ranks.{rank_of}
use Rattle.colour.proofs.Laws.{bit_at, ones_below}
use Rattle.colour.proofs.palette.rank.Goals as goal

pub returns : goal.returns
unfolding rank_of
returns c = rw (bit_at c.nibble-k.result (omega arith)) (ones_below c.args.palette c.nibble-k.result c.ranges.palette.fits (omega arith) ∙ rw c.nibble-k.ensures refl)
