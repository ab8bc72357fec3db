use Rattle.page.specs.HowHalves.{right_in}
use Rattle.basics.specs.Parts.{table}
use lib.ListN.{length, take}
use mathlib.Core.Path.{◌≡◌}
use Rattle.halves.proofs.half.right_halves.Given as goal

abbrev pub invariant-loop-x : goal.invariant-loop-x
invariant-loop-x l = (length l.halves ≡ 40) × (take l.x l.halves ≡ table (right_in l.cells) l.x)
