-- A call is the outcome of its operation, packed: what was unpacked, the outcome, what was packed of it and its answer make the call.
-- Assumes nothing.
use Prim.Native.Nat.{ℕ}
use mathlib.Core.Path.{◌≡◌, ap, ◌∙◌}
use mathlib.Core.Bool.{Bool}
use mathlib.Core.List.{List}
use Rattle.processor.specs.declared.state.Processor.{Processor}
use Rattle.processor.specs.declared.execute.Answered.{Answered}
use Rattle.processor.specs.declared.draw.Drawn.{Drawn}
use Rattle.command.specs.Answers.{number_of, value_of, draw_number_of, rows_of}
use Rattle.processor.specs.States.{Chip, chip}
use Rattle.processor.specs.Access.{Outcome, outcome_of}
use Rattle.processor.specs.Draws.{draw_outcome_of, drawn}
use Rattle.packing.specs.Layouts.{unpacked}
use Rattle.binturamis.specs.Calls.{word, is_refusal, bytes_after, called, call_of, draw_called, draw_call_of}

-- of an access, a phase change or a step, which has changed nothing with the numbers that pass
pub call_made :
    (unchanged : ℕ → Bool) (operation : Chip → Outcome) (bytes m : List ℕ) (p : Processor) (r : Answered) (after b : List ℕ) (w : ℕ)
    → p ≡ unpacked bytes → outcome_of r after ≡ operation (chip p m)
    → b ≡ bytes_after (unchanged (number_of r.answer)) bytes r.processor → w ≡ word (number_of r.answer) (value_of r.answer)
    → called b after w ≡ call_of unchanged bytes (operation (chip (unpacked bytes) m))
call_made unchanged operation bytes m p r after b w ep er eb ew =
    rw (eb, ew) (ap (call_of unchanged bytes) er ∙ ap (λ (q : Processor). call_of unchanged bytes (operation (chip q m))) ep)

-- of a draw
pub draw_made :
    (bytes m rom picture : List ℕ) (p : Processor) (r : Drawn) (after b : List ℕ) (w : ℕ)
    → p ≡ unpacked bytes → draw_outcome_of r after ≡ drawn p m rom picture
    → b ≡ bytes_after (is_refusal (draw_number_of r.answer)) bytes r.processor → w ≡ word (draw_number_of r.answer) (rows_of r.answer)
    → draw_called b after w ≡ draw_call_of bytes (drawn (unpacked bytes) m rom picture)
draw_made bytes m rom picture p r after b w ep er eb ew =
    rw (eb, ew) (ap (draw_call_of bytes) er ∙ ap (λ (q : Processor). draw_call_of bytes (drawn q m rom picture)) ep)
