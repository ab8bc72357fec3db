use Rattle.std.proofs.Common.{◌≤◌}
use Rattle.panel.proofs.read_full.Given as goal

abbrev pub invariant-loop : goal.invariant-loop
invariant-loop g l = l.n ≤ 4096
