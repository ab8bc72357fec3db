use Rattle.std.proofs.Common.{◌≡◌, ℕ, Bool, ◌≤◌}
use Rattle.page.specs.Asked.{AnswersAs}
use Rattle.page.specs.Marks.{marked_too}
use Rattle.marking.proofs.Loops.{between}
use Rattle.phases.proofs.rows.mark_where.Given as goal

abbrev pub invariant-loop-r : goal.invariant-loop-r
invariant-loop-r g l =
    (l.fn.rows.start ≤ l.r) × (l.r ≤ l.fn.rows.end) × (l.r-end ≡ l.fn.rows.end)
    × ((test : ℕ → Bool) → AnswersAs (goal.F-post g l.question) test 25 → l.marks ≡ marked_too (between test l.initial.marks (λ i. i) l.fn.rows.start l.r) l.initial.marks)
