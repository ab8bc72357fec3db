-- Register accesses and the phase change: for each what it leaves and what it answers.
-- Assumes nothing.
use Rattle.std.specs.Prelude.{ℕ, Bool, true, false, ◌&&◌, List, [], ◌++◌, leb, eqb, length, Option, Some, None, is_none, Result, Ok, Err}
use Rattle.basics.specs.Choice.{pick}
use Rattle.basics.specs.Bits.{bits, is_set}
use Rattle.address.specs.Addresses.{Address, is_illegal, is_not_fitted, byte_addresses, code_addresses, narrow_addresses, some_address}
use Rattle.board.specs.Boards.{bytes_of}
use Rattle.command.specs.declared.Command as command
use Rattle.command.specs.declared.answer.Refusal.{Refusal}
use Rattle.command.specs.declared.answer.Refusal.TheVariants.{WrongMemory, WrongAddress, NotListed, BadPointer, WrongPhase, Busy, NotFitted}
use Rattle.command.specs.Commands.{command_for}
use Rattle.command.specs.Held.{is_read_held, is_write_held}
use Rattle.moves.specs.Spans.{span_addresses}
use Rattle.reading.specs.Marks.{phase_marks}
use Rattle.processor.specs.declared.state.Processor.{Processor}
use Rattle.processor.specs.declared.execute.Answered.{Answered}
use Rattle.processor.specs.States.{Chip, chip, register_of, register_read, shown_of, with_register, with_phase, with_busy, cleared, indirect_read, indirect_written}
use Rattle.processor.specs.Pointers.{pointer_of}
use Rattle.processor.specs.Bytes.{oct, krf, krl}

-- what is left, and the answer
pub record Outcome : Type 0 where
  pub left : Chip
  pub answer : Result ℕ Refusal

abbrev pub outcome : Chip → Result ℕ Refusal → Outcome
outcome k a = record { left = k; answer = a }

abbrev pub outcome_of : Answered → List ℕ → Outcome
outcome_of r m = outcome (chip r.processor m) r.answer

-- the addresses of its bytes, read forms too; those of a move at either pointer. (IND and NOP have none; where a byte is not listed there is no command.)
abbrev pub addresses_of : Option command.Command → Processor → List Address
addresses_of (Some command.TheVariants.Nop) p = []
addresses_of (Some (command.TheVariants.Ind r reads)) p = []
addresses_of (Some (command.TheVariants.Krf reads increments)) p = code_addresses p.blocks (pointer_of false p)
addresses_of (Some (command.TheVariants.Oct reads auxiliary increments)) p = byte_addresses p.blocks (pointer_of auxiliary p)
addresses_of (Some (command.TheVariants.Krl reads increments)) p = narrow_addresses p.blocks (pointer_of false p)
addresses_of (Some (command.TheVariants.Move bytes auxiliary stops)) p = span_addresses bytes p.blocks (pointer_of false p) ++ span_addresses bytes p.blocks (pointer_of true p)
addresses_of None p = []

-- 4: its pointer, either pointer of a move, has X above 39 or Y from 1 to 7
abbrev pub is_astray : Option command.Command → Processor → Bool
is_astray c p = some_address is_illegal (addresses_of c p)

-- 11: any of its bytes lies in a block not fitted
abbrev pub is_unfitted : Option command.Command → Processor → Bool
is_unfitted c p = some_address is_not_fitted (addresses_of c p)

-- R1 to or from a register
unfoldable pub indirect : ℕ → Bool → Processor → Processor
indirect r true p = indirect_read p r
indirect r false p = indirect_written p r

-- nothing runs any more
abbrev pub idle : Chip → Chip
idle k = chip (with_busy k.processor false) k.memory

-- what a command does where nothing refuses it. A NOP ends a move; a move sets busy, and nothing has moved yet
abbrev pub effect : Option command.Command → Chip → Chip
effect (Some command.TheVariants.Nop) k = idle k
effect (Some (command.TheVariants.Ind r reads)) k = chip (indirect r reads k.processor) k.memory
effect (Some (command.TheVariants.Krf reads increments)) k = krf reads increments k
effect (Some (command.TheVariants.Oct reads auxiliary increments)) k = oct reads auxiliary increments k
effect (Some (command.TheVariants.Krl reads increments)) k = krl reads increments k
effect (Some (command.TheVariants.Move bytes auxiliary stops)) k = chip (with_busy (cleared k.processor) true) k.memory
effect None k = k

-- what a byte names runs, after the access that gave the value v. Access is checked .. 3, 4, 11; 11 leaves what 4 leaves. 3: a
-- command to execute is not listed
unfoldable pub ran : Option command.Command → ℕ → Chip → Outcome
ran c v k =
    pick (is_none c) (outcome k (Err (NotListed v)))
    (pick (is_astray c k.processor) (outcome k (Err (BadPointer v)))
    (pick (is_unfitted c k.processor) (outcome k (Err (NotFitted v)))
    (outcome (effect c k) (Ok v))))

-- bit 3 of the address asks for execution
unfoldable pub executed : ℕ → ℕ → Chip → Outcome
executed address v k = pick (is_set 3 address) (ran (command_for k.processor.part (register_of k.processor 0)) v k) (outcome k (Ok v))

-- 1 compares with the size of the board
abbrev pub is_whole : Chip → Bool
is_whole k = eqb (length k.memory) (bytes_of k.processor.blocks)

-- Access is checked 1, 2, 10 before it takes place; held are the accesses that 10 refuses while busy
unfoldable pub checked : ℕ → Bool → Chip → Outcome → Outcome
checked address held k done =
    pick (is_whole k)
    (pick (eqb (bits 4 4 address) 2) (pick (k.processor.busy && held) (outcome k (Err Busy)) done) (outcome k (Err WrongAddress)))
    (outcome k (Err WrongMemory))

-- The access comes first, then the command runs. The address's low three bits name R0 to R7
unfoldable pub written : ℕ → ℕ → Chip → Outcome
written address v k =
    checked address (is_write_held address v) k (executed address 0 (chip (with_register k.processor (bits 0 3 address) v) k.memory))

-- a read executes too, and returns the value from before
unfoldable pub read_out : ℕ → Chip → Outcome
read_out address k = checked address (is_read_held address) k (executed address (register_read k.processor (bits 0 3 address)) k)

-- a changed phase marks
unfoldable pub phased : ℕ → Chip → Chip
phased n k =
    let p = k.processor in
    pick (eqb p.phase n) k (chip (with_phase p n (phase_marks (shown_of p) k.memory p.marks)) k.memory)

-- phase is checked 1, 9
unfoldable pub turned : ℕ → Chip → Outcome
turned n k =
    pick (is_whole k)
    (pick (leb n 1) (outcome (phased n k) (Ok 0)) (outcome k (Err WrongPhase)))
    (outcome k (Err WrongMemory))
