-- A step of a move.
-- Assumes nothing.
use Rattle.std.specs.Prelude.{ℕ, zero, suc, Bool, not, ◌||◌, Option, Some, None, Ok, Err}
use Rattle.basics.specs.Choice.{pick}
use Rattle.address.specs.Places.{block_at, loaded}
use Rattle.address.specs.declared.triple.Triple.{Triple}
use Rattle.command.specs.declared.Command as command
use Rattle.command.specs.declared.answer.Refusal.TheVariants.{WrongMemory}
use Rattle.command.specs.Commands.{command_for}
use Rattle.moves.specs.Onward.{onward, is_end}
use Rattle.processor.specs.declared.state.Processor.{Processor}
use Rattle.processor.specs.States.{Chip, chip, register_of, with_register, with_registers, with_busy}
use Rattle.processor.specs.Pointers.{pointer_of}
use Rattle.processor.specs.Bytes.{stored}
use Rattle.processor.specs.Access.{Outcome, outcome, is_astray, is_unfitted, idle, is_whole}

-- a byte goes through R1: read at the source, and stored at the destination as every byte is
unfoldable pub carried : Triple → Triple → Chip → Chip
carried from to k = let v = loaded from k.memory in stored to v (chip (with_register k.processor 1 v) k.memory)

-- 1, 2 or 3 bytes, one after another, from the source's X, Y in blocks Z, Z+1, Z+2 to the destination's. A byte stored is seen by a later read
unfoldable pub carried_all : ℕ → Triple → Triple → Chip → Chip
carried_all zero from to k = k
carried_all (suc n) from to k = carried (block_at from n) (block_at to n) (carried_all n from to k)

-- then the pointers go on, and a move with a stop may end
unfoldable pub passed_on : Bool → Processor → Processor
passed_on stops p = with_busy (with_registers p (onward stops p.registers)) (not (is_end stops p.registers))

-- one character position of a move; the source is one pointer, and the destination the other
unfoldable pub position : ℕ → Bool → Bool → Chip → Chip
position bytes auxiliary stops k =
    let p = k.processor in
    let after = carried_all bytes (pointer_of auxiliary p) (pointer_of (not auxiliary) p) k in
    chip (passed_on stops after.processor) after.memory

-- a command that is no move, which no run has while busy, moves nothing and ends
unfoldable pub position_of : Option command.Command → Chip → Chip
position_of (Some command.TheVariants.Nop) k = idle k
position_of (Some (command.TheVariants.Ind r reads)) k = idle k
position_of (Some (command.TheVariants.Krf reads increments)) k = idle k
position_of (Some (command.TheVariants.Oct reads auxiliary increments)) k = idle k
position_of (Some (command.TheVariants.Krl reads increments)) k = idle k
position_of (Some (command.TheVariants.Move bytes auxiliary stops)) k = position bytes auxiliary stops k
position_of None k = idle k

-- and so does one of which a pointer is illegal or not fitted
unfoldable pub moved : Option command.Command → Chip → Chip
moved c k = pick (is_astray c k.processor || is_unfitted c k.processor) (idle k) (position_of c k)

-- A step while nothing runs changes nothing
unfoldable pub step_of : Chip → Chip
step_of k = pick k.processor.busy (moved (command_for k.processor.part (register_of k.processor 0)) k) k

-- step is checked 1, also while nothing runs
unfoldable pub stepped : Chip → Outcome
stepped k = pick (is_whole k) (outcome (step_of k) (Ok 0)) (outcome k (Err WrongMemory))
