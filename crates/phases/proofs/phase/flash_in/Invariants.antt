use Prim.Native.Nat.{◌+◌, ◌*◌, ◌≤◌, ◌-◌}
use mathlib.Core.Path.{◌≡◌}
use Rattle.board.specs.declared.Part.TheVariants.{Ef9345}
use Rattle.address.specs.Rows.{row_y}
use Rattle.page.specs.Marks.{marked_too}
use Rattle.asking.specs.HowAsked.{flash_at}
use Rattle.marking.proofs.Loops.{up_to}
use Rattle.phases.proofs.phase.flash_in.Given as goal

abbrev pub invariant-loop-g : goal.invariant-loop-g
invariant-loop-g l = (l.g ≤ 6) × (l.marks ≡ marked_too (up_to (λ r. flash_at Ef9345 l.memory l.z (row_y l.yor r)) l.initial.marks (λ i. i) (1 + 4 * l.g)) l.initial.marks)

abbrev pub decreases-loop-g : goal.decreases-loop-g
decreases-loop-g l = 6 - l.g
