-- Calls in a row: each takes the 64 bytes that the one before it left, and says what it is lent, as the operations of kept/specs/Runs do.
-- Assumes nothing.
use Rattle.std.specs.Prelude.{ℕ, List, [], ◌∷◌}
use Rattle.command.specs.Answers.{number_of, draw_number_of}
use Rattle.processor.specs.States.{Chip, chip}
use Rattle.processor.specs.Access.{written, read_out, turned}
use Rattle.processor.specs.Moves.{stepped}
use Rattle.processor.specs.Draws.{DrawOutcome, drawn}
use Rattle.kept.specs.Orders.{is_early}
use Rattle.kept.specs.Runs.{Lent, Operation, write, read, turn, move, draw, World, lent_of, memory_lent, picture_lent, memory_kept, picture_kept}
use Rattle.packing.specs.Layouts.{packed, unpacked}
use Rattle.binturamis.specs.Calls.{is_refusal, Called, call_of, DrawCalled, draw_call_of}

-- what a caller keeps
pub record Caller : Type 0 where
  pub bytes : List ℕ
  pub memory : List ℕ
  pub rom : List ℕ
  pub picture : List ℕ

-- with a processor packed
abbrev pub caller_of : World → Caller
caller_of w = record { bytes = packed w.processor; memory = w.memory; rom = w.rom; picture = w.picture }

-- what a call leaves: the 64 bytes, the memory and the picture that it was lent; its number, and the answer that has the number in it
pub record CallDone : Type 0 where
  pub bytes : List ℕ
  pub memory : List ℕ
  pub picture : List ℕ
  pub number : ℕ
  pub answer : ℕ

abbrev pub call_done : Called → ℕ → Caller → CallDone
call_done c n b = record { bytes = c.bytes; memory = c.memory; picture = b.picture; number = n; answer = c.answer }

abbrev pub draw_call_done : DrawCalled → ℕ → List ℕ → CallDone
draw_call_done c n m = record { bytes = c.bytes; memory = m; picture = c.picture; number = n; answer = c.answer }

-- the outcomes of the operations on the processor that the bytes hold
abbrev pub held : Lent → Caller → Chip
held x b = chip (unpacked b.bytes) (lent_of x b.memory)

abbrev pub drawn_by : Lent → Lent → Lent → Caller → DrawOutcome
drawn_by x y z b = drawn (unpacked b.bytes) (lent_of x b.memory) (lent_of y b.rom) (lent_of z b.picture)

abbrev pub called_by : Operation → Caller → CallDone
called_by (write x address v) b =
    let o = written address v (held x b) in call_done (call_of is_early b.bytes o) (number_of o.answer) b
called_by (read x address) b = let o = read_out address (held x b) in call_done (call_of is_refusal b.bytes o) (number_of o.answer) b
called_by (turn x n) b = let o = turned n (held x b) in call_done (call_of is_refusal b.bytes o) (number_of o.answer) b
called_by (move x) b = let o = stepped (held x b) in call_done (call_of is_refusal b.bytes o) (number_of o.answer) b
called_by (draw x y z) b =
    let o = drawn_by x y z b in draw_call_done (draw_call_of b.bytes o) (draw_number_of o.answer) (lent_of x b.memory)

abbrev pub call : Operation → Caller → Caller
call o b =
    let d = called_by o b in
    record {
      bytes = d.bytes;
      memory = memory_kept (memory_lent o) b.memory d.memory;
      rom = b.rom;
      picture = picture_kept (picture_lent o) d.number b.picture d.picture;
    }

abbrev pub calls : List Operation → Caller → Caller
calls [] b = b
calls (o ∷ os) b = calls os (call o b)
