use Prim.Native.Nat.{ℕ}
use mathlib.Core.Bool.{Bool, ◌&&◌}
use mathlib.Core.Path.{refl, ap₂, ◌∙◌}
use native.Mathlib.Omega.{arith}
use lib.Dec.{eqb}
use Rattle.page.specs.Marks.{marked_too}
use Rattle.keys.proofs.Places.{row_at_small}
use Rattle.marking.proofs.Loops.{one_marked}
use Rattle.marking.proofs.list.own_row.Goals as goal

pub bounds-marks-r : goal.bounds-marks-r
bounds-marks-r c = omega (arith, c.row_at-r.ensures, row_at_small c.args.yor c.args.y)

pub bounds-marks-r-2 : goal.bounds-marks-r-2
bounds-marks-r-2 c = omega (arith, c.row_at-r.ensures, row_at_small c.args.yor c.args.y)

pub returns : goal.returns
returns c = one_marked _ _ _ _ c.told-marks (omega (arith, c.row_at-r.ensures, row_at_small c.args.yor c.args.y)) refl ∙ ap₂ (λ (k : ℕ) (t : Bool). marked_too (λ i. eqb i k && t) c.args.marks.now) c.row_at-r.ensures c.some_code_block.ensures
