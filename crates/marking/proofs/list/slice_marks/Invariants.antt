use Prim.Native.Nat.{◌+◌, ◌*◌, ◌≤◌, ◌-◌}
use mathlib.Core.Path.{◌≡◌}
use Rattle.address.specs.Rows.{row_y}
use Rattle.page.specs.Marks.{marked_too}
use Rattle.asking.specs.HowAsked.{keyed_at}
use Rattle.marking.proofs.Loops.{up_to}
use Rattle.marking.proofs.list.slice_marks.Given as goal

abbrev pub invariant-loop-g : goal.invariant-loop-g
invariant-loop-g l = (l.g ≤ 12) × (l.marks ≡ marked_too (up_to (keyed_at l.keys l.memory l.z) l.initial.marks (row_y l.yor) (8 + 2 * l.g)) l.initial.marks)

abbrev pub decreases-loop-g : goal.decreases-loop-g
decreases-loop-g l = 12 - l.g
