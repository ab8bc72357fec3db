-- What a call leaves and answers: the outcome of the processor's operation, with its state as 64 bytes and its answer as one number.
-- Assumes nothing.
use Rattle.std.specs.Prelude.{ℕ, ◌+◌, ◌*◌, Bool, not, List, eqb}
use Rattle.basics.specs.Choice.{pick}
use Rattle.command.specs.Answers.{number_of, value_of, draw_number_of, rows_of}
use Rattle.processor.specs.declared.state.Processor.{Processor}
use Rattle.processor.specs.Access.{Outcome}
use Rattle.processor.specs.Draws.{DrawOutcome}
use Rattle.packing.specs.Layouts.{packed}

-- 65,536 times the answer's number, and its value, or for a draw its rows
abbrev pub word : ℕ → ℕ → ℕ
word number value = 65536 * number + value

-- a number that refuses. (A write's 3, 4 and 11 come after its register is written: is_early, kept/specs/Orders, are those that come before.)
abbrev pub is_refusal : ℕ → Bool
is_refusal n = not (eqb n 0)

-- the 64 bytes after a call: where nothing has changed those that were there, whatever they are, else the processor packed
abbrev pub bytes_after : Bool → List ℕ → Processor → List ℕ
bytes_after unchanged before p = pick unchanged before (packed p)

-- of an access, a phase change or a step: the 64 bytes and the private memory
pub record Called : Type 0 where
  pub bytes : List ℕ
  pub memory : List ℕ
  pub answer : ℕ

abbrev pub called : List ℕ → List ℕ → ℕ → Called
called bytes m answer = record { bytes = bytes; memory = m; answer = answer }

-- nothing has changed with the numbers that pass
abbrev pub call_of : (ℕ → Bool) → List ℕ → Outcome → Called
call_of unchanged before o =
    let n = number_of o.answer in called (bytes_after (unchanged n) before o.left.processor) o.left.memory (word n (value_of o.answer))

-- of a draw: the 64 bytes and the picture
pub record DrawCalled : Type 0 where
  pub bytes : List ℕ
  pub picture : List ℕ
  pub answer : ℕ

abbrev pub draw_called : List ℕ → List ℕ → ℕ → DrawCalled
draw_called bytes picture answer = record { bytes = bytes; picture = picture; answer = answer }

abbrev pub draw_call_of : List ℕ → DrawOutcome → DrawCalled
draw_call_of before o =
    let n = draw_number_of o.answer in draw_called (bytes_after (is_refusal n) before o.processor) o.picture (word n (rows_of o.answer))
