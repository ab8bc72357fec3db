use mathlib.Core.Logic.{inr}
use lib.Dec.{eqb}
use Prim.Native.Nat.{ℕ, ◌+◌}
use mathlib.Core.Path.{◌≡◌, refl, ap, ◌∙◌}
use native.Mathlib.Omega.{arith}
use Rattle.address.specs.Rows.{row_y}
use Rattle.page.specs.Marks.{marked_too}
use Rattle.asking.specs.HowAsked.{keyed_at}
use Rattle.keys.proofs.Places.{row_at_lem, row_at_small}
use Rattle.marking.proofs.Loops.{between, between_start, between_turn, or_found, or_asked}
use Rattle.address.proofs.Laws.{facts_y}
use Rattle.marking.proofs.list.group_marks.Goals as goal
use Rattle.marking.proofs.list.group_marks.Goals.{then-marked, else-marked}

pub loop-y-init : goal.loop-y-init
loop-y-init c = let s = c.args in (omega arith, omega arith, omega arith, between_start (keyed_at s.keys s.memory.now s.z) _ (row_y s.yor) _ c.told-marks)

pub bounds-marks-r : goal.bounds-marks-r
bounds-marks-r c = omega (arith, row_at_small c.args.yor c.loop-y.y, c.row_at-r.ensures)

pub bounds-marks-r-in-loop-y : goal.bounds-marks-r-in-loop-y
bounds-marks-r-in-loop-y c = omega (arith, c.row_at-r.ensures, row_at_small c.args.yor c.loop-y.y)

pub loop-y-preserved : goal.loop-y-preserved
loop-y-preserved c = let s = c.args in
    (omega arith, omega arith, refl, between_turn (keyed_at s.keys s.memory.now s.z) _ (row_y s.yor) s.first _ c.loop-y.y _ _ _ c.loop-y.invariant.3 (omega arith) (omega (arith, c.row_at-r.ensures, row_at_small s.yor c.loop-y.y)) (λ i l. ap (λ (k : ℕ). eqb i k) c.row_at-r.ensures ∙ row_at_lem s.yor c.loop-y.y i l (facts_y c.loop-y.y (inr (omega arith, omega arith)))) refl (elim c.if-marked.branch [ then-marked w ↦ or_found _ _ _ w.marks-is w.if-marked.true | else-marked w ↦ or_asked _ _ _ _ w.marks-is w.has_keyed.ensures w.if-marked.false ]))

pub returns : goal.returns
returns c = let e : c.loop-y.y ≡ c.args.first + 2 = omega arith in
    c.loop-y.invariant.3 ∙ ap (λ (k : ℕ). marked_too (between (keyed_at c.args.keys c.args.memory.now c.args.z) c.args.marks.now (row_y c.args.yor) c.args.first k) c.args.marks.now) e
