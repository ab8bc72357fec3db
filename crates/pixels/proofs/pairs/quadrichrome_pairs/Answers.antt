use Rattle.pixels.specs.HowPairs.{quadrichrome_pairs}
use Rattle.basics.specs.Parts.{joined}
use Rattle.pixels.proofs.pairs.quadrichrome_pairs.Goals as goal

pub returns : goal.returns
unfolding quadrichrome_pairs joined
returns c = rw (c.both.ensures, c.both-2.ensures, c.both-3.ensures, c.both-4.ensures, c.by_rank.ensures)
