use Rattle.std.proofs.Common.{◌≡◌}
use Rattle.colour.proofs.Pass.{found}
use Rattle.colour.proofs.palette.by_rank.Given as goal

abbrev pub invariant-loop-k : goal.invariant-loop-k
invariant-loop-k l = l.colours ≡ found l.palette l.k
