-- A draw answers at most 25 rows, so that their number leaves the answer's number as it is.
-- Assumes nothing.
use Prim.Native.Nat.{ℕ, ◌≤◌}
use mathlib.Core.Path.{◌≡◌, refl, ap}
use mathlib.Core.List.{List}
use mathlib.Core.Logic.{◌≢◌}
use native.Mathlib.Omega.{arith}
use Rattle.basics.proofs.Below.{count_at_most}
use Rattle.std.proofs.Common.{Result, Ok, Err}
use Rattle.command.specs.declared.answer.DrawRefusal.{DrawRefusal}
use Rattle.command.specs.Answers.{draw_number_of, rows_of}
use Rattle.page.specs.Marks.{is_marked}
use Rattle.processor.specs.declared.state.Processor.{Processor}
use Rattle.processor.specs.declared.draw.Drawn.{Drawn}
use Rattle.processor.specs.Draws.{DrawOutcome, draw_outcome_of, drawn, drawn_page}
use Rattle.kept.proofs.Walk.{draw_known}

abbrev Few : DrawOutcome → Type 0
Few o = rows_of o.answer ≤ 25

-- a refusal has none
refused_few : (a : Result ℕ DrawRefusal) → draw_number_of a ≢ 0 → rows_of a ≤ 25
refused_few (Ok n) refused = absurd (refused refl)
refused_few (Err why) refused = omega arith

drawn_few : (p : Processor) (m rom picture : List ℕ) → Few (drawn p m rom picture)
unfolding drawn_page
drawn_few p m rom picture = draw_known Few p m rom picture (λ a e refused. refused_few a refused) (λ e can. count_at_most (is_marked p.marks) 25)

pub rows_few :
    (p : Processor) (r : Drawn) (m rom picture after : List ℕ) → draw_outcome_of r after ≡ drawn p m rom picture → rows_of r.answer ≤ 25
rows_few p r m rom picture after e = rw (ap (λ o. rows_of o.answer) e) (drawn_few p m rom picture)
