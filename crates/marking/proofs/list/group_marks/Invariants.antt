use Prim.Native.Nat.{◌+◌, ◌≤◌, ◌-◌}
use mathlib.Core.Path.{◌≡◌}
use Rattle.address.specs.Rows.{row_y}
use Rattle.page.specs.Marks.{marked_too}
use Rattle.asking.specs.HowAsked.{keyed_at}
use Rattle.marking.proofs.Loops.{between}
use Rattle.marking.proofs.list.group_marks.Given as goal

abbrev pub invariant-loop-y : goal.invariant-loop-y
invariant-loop-y l = (l.first ≤ l.y) × (l.y ≤ l.first + 2) × (l.y-end ≡ l.first + 2) × (l.marks ≡ marked_too (between (keyed_at l.keys l.memory l.z) l.initial.marks (row_y l.yor) l.first l.y) l.initial.marks)

abbrev pub decreases-loop-y : goal.decreases-loop-y
decreases-loop-y l = l.first + 2 - l.y
