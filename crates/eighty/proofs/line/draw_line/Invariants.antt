use Rattle.eighty.specs.HowEighty.{three_on}
use Rattle.basics.specs.Parts.{joined}
use lib.ListN.{length, take}
use mathlib.Core.Path.{◌≡◌}
use Prim.Native.Nat.{◌*◌}
use Rattle.eighty.proofs.line.draw_line.Given as goal

abbrev pub invariant-loop-p : goal.invariant-loop-p
invariant-loop-p l = (length l.line ≡ 241) × (take (3 * l.p) l.line ≡ joined (three_on l.tens.bytes l.inks l.n) l.p)
