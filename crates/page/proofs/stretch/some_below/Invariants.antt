use Rattle.std.proofs.Common.{◌≡◌, ℕ, Bool, ◌≤◌}
use Rattle.basics.specs.Below.{any_below}
use Rattle.page.specs.Asked.{AnswersAs}
use Rattle.page.proofs.stretch.some_below.Given as goal

abbrev pub invariant-loop-i : goal.invariant-loop-i
invariant-loop-i g l = (l.i ≤ l.n) × ((test : ℕ → Bool) → AnswersAs (goal.F-post g l.question) test l.n → l.found ≡ any_below test l.i)
