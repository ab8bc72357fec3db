use Rattle.std.proofs.Common.{ℕ, ◌≡◌, ◌∙◌, refl, ap}
use native.Mathlib.Omega.{arith}
use Rattle.page.specs.Marks.{marked_too}
use Rattle.marking.proofs.Loops.{between, between_start, between_turn, or_found, or_asked}
use Rattle.phases.proofs.rows.mark_where.Goals as goal
use Rattle.phases.proofs.rows.mark_where.Goals.{then-marks-r, else-marks-r}

pub loop-r-init : goal.loop-r-init
loop-r-init g c = (omega arith, omega arith, refl, λ test answers. between_start test _ (λ i. i) _ c.told-marks)

pub loop-r-preserved : goal.loop-r-preserved
loop-r-preserved g c = let l = c.loop-r in (
  omega arith,
  omega arith,
  l.invariant.2,
  λ test answers.
      between_turn test _ (λ i. i) _ _ l.r _ _ _ (l.invariant.3 test answers) (omega arith) (omega arith) (λ i h. refl) refl
      (elim c.if-marks-r.branch [ then-marks-r w ↦ or_found _ _ _ w.marks-is w.if-marks-r.true | else-marks-r w ↦ or_asked _ _ _ _ w.marks-is (answers l.r _ (omega arith) w.question.ensures) w.if-marks-r.false ]),
)

pub returns : goal.returns
returns g c = λ test answers. let l = c.loop-r in
    let e : l.r ≡ c.args.rows.end = omega arith in
    l.invariant.3 test answers ∙ ap (λ (k : ℕ). marked_too (between test c.args.marks.now (λ i. i) c.args.rows.start k) c.args.marks.now) e
