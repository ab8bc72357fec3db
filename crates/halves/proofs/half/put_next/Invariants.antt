use Rattle.basics.proofs.Filled.{filled}
use Rattle.halves.specs.Above.{next_lower_on}
use mathlib.Core.List.{[], ◌∷◌}
use mathlib.Core.Path.{◌≡◌}
use Rattle.halves.proofs.half.put_next.Given as goal

abbrev pub invariant-loop-i : goal.invariant-loop-i
invariant-loop-i l = l.halves ≡ filled 1 (λ n. next_lower_on l.part l.memory l.here l.above l.initial.halves n ∷ []) l.initial.halves l.i
