use Rattle.std.proofs.Common.{◌≡◌}
use Rattle.moves.specs.Spans.{is_bare_in}
use Rattle.basics.specs.Below.{any_below}
use Rattle.moves.proofs.span.is_bare.Given as goal

abbrev pub invariant-loop-k : goal.invariant-loop-k
invariant-loop-k l = l.bare ≡ any_below (is_bare_in l.blocks l.at) l.k
