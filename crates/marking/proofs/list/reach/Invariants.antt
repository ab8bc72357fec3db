use Prim.Native.Nat.{◌≤◌, ◌<◌, ◌-◌}
use mathlib.Core.Path.{◌≡◌}
use Rattle.address.specs.Rows.{row_y}
use Rattle.page.specs.Marks.{marked_too}
use Rattle.asking.specs.HowAsked.{tall_at}
use Rattle.marking.specs.HowMarked.{falls_to}
use Rattle.marking.proofs.Loops.{below}
use Rattle.marking.proofs.list.reach.Given as goal

abbrev pub invariant-loop-r : goal.invariant-loop-r
invariant-loop-r l = (l.row < l.r) × (l.r ≤ 25) × (l.marks ≡ marked_too (below (falls_to (λ i. tall_at l.part l.memory l.z (row_y l.yor i)) l.row) l.initial.marks l.r) l.initial.marks) × (falls_to (λ i. tall_at l.part l.memory l.z (row_y l.yor i)) l.row l.r ≡ tall_at l.part l.memory l.z (row_y l.yor l.r))

abbrev pub decreases-loop-r : goal.decreases-loop-r
decreases-loop-r l = 25 - l.r
