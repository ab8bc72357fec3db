-- What marks row r, operation by operation, in the words of the rules.
-- Assumes nothing.
use Rattle.std.specs.Prelude.{ℕ, zero, suc, Bool, true, false, not, ◌&&◌, ◌||◌, eqb, leb, get_or, Option, Some, None}
use Rattle.basics.specs.Bits.{bits, is_set}
use Rattle.address.specs.Addresses.{byte_addresses, code_addresses, narrow_addresses, all_fitted}
use Rattle.address.specs.Narrow.{is_odd, attributes_at, nibble_into}
use Rattle.address.specs.Places.{place_at, block_at, loaded}
use Rattle.address.specs.declared.triple.Triple.{Triple}
use Rattle.reading.specs.Lists.{on_list}
use Rattle.shown.specs.Modes.{is_eighty}
use Rattle.shown.specs.Refusals.{can_draw}
use Rattle.reading.specs.Marks.{flash_in}
use Rattle.command.specs.declared.Command.{Command}
use Rattle.command.specs.declared.Command.TheVariants.{Nop, Ind, Krf, Oct, Krl, Move}
use Rattle.processor.specs.declared.state.Processor.{Processor}
use Rattle.command.specs.Commands.{command_for}
use Rattle.command.specs.Held.{is_read_held, is_write_held}
use Rattle.processor.specs.States.{Chip, chip, register_of, shown_of, cleared}
use Rattle.processor.specs.Pointers.{pointer_of}
use Rattle.processor.specs.Bytes.{stored}
use Rattle.processor.specs.Access.{is_whole, addresses_of}
use Rattle.processor.specs.Moves.{carried_all}
use Rattle.kept.specs.Runs.{Operation, write, read, turn, move, draw, World, lent_of, chip_lent, registered, done}

-- a draw would get neither 7 nor 8
abbrev pub is_shown : Processor → Bool
is_shown p = can_draw (shown_of p)

-- A store that changes a byte marks the rows whose list, taken just before that store, holds it; none while a draw would get 7 or 8
abbrev pub store_rule : Triple → ℕ → Chip → ℕ → Bool
store_rule t v k r =
    let p = k.processor in
    (is_shown p && not (eqb (loaded t k.memory) v)) && on_list (shown_of p) k.memory (place_at t) r

-- A changed value in ROR, DOR, PAT or TGS marks all 25; in 80 columns one in MAT too
abbrev pub indirect_rule : ℕ → Processor → Bool
indirect_rule n p = not (eqb (get_or p.indirect n 0) (register_of p 1)) && (not (eqb n 2) || is_eighty (shown_of p))

-- A changed phase marks rows with a bichrome cell whose A3 is set, in 80 columns with a cell that flashes; none while a draw would get 7 or 8
abbrev pub phase_rule : ℕ → Chip → ℕ → Bool
phase_rule n k r = let p = k.processor in not (eqb p.phase n) && (is_shown p && flash_in (shown_of p) k.memory r)

-- KRF stores C, then B, then A
abbrev pub code_rule : Triple → Chip → ℕ → Bool
code_rule t k r =
    let p = k.processor in
    let k1 = stored (block_at t 0) (register_of p 1) k in
    let k2 = stored (block_at t 1) (register_of p 2) k1 in
    (store_rule (block_at t 0) (register_of p 1) k r || store_rule (block_at t 1) (register_of p 2) k1 r) || store_rule (block_at t 2) (register_of p 3) k2 r

-- KRL stores C, then the attributes
abbrev pub narrow_rule : Triple → Chip → ℕ → Bool
narrow_rule t k r =
    let p = k.processor in
    let k1 = stored t (register_of p 1) k in
    store_rule t (register_of p 1) k r
    || store_rule (attributes_at t) (nibble_into (is_odd t) (loaded (attributes_at t) k.memory) (register_of p 3)) k1 r

-- a command: those that store mark by their stores, where their pointer is legal and all its bytes are fitted
abbrev pub command_rule : Option Command → Chip → ℕ → Bool
command_rule (Some Nop) k r = false
command_rule (Some (Ind n true)) k r = false
command_rule (Some (Ind n false)) k r = indirect_rule n k.processor
command_rule (Some (Krf true increments)) k r = false
command_rule (Some (Krf false increments)) k r =
    all_fitted (code_addresses k.processor.blocks (pointer_of false k.processor))
    && code_rule (pointer_of false k.processor) (chip (cleared k.processor) k.memory) r
command_rule (Some (Oct true auxiliary increments)) k r = false
command_rule (Some (Oct false auxiliary increments)) k r =
    all_fitted (byte_addresses k.processor.blocks (pointer_of auxiliary k.processor))
    && store_rule (pointer_of auxiliary k.processor) (register_of k.processor 1) (chip (cleared k.processor) k.memory) r
command_rule (Some (Krl true increments)) k r = false
command_rule (Some (Krl false increments)) k r =
    all_fitted (narrow_addresses k.processor.blocks (pointer_of false k.processor))
    && narrow_rule (pointer_of false k.processor) (chip (cleared k.processor) k.memory) r
command_rule (Some (Move bytes auxiliary stops)) k r = false
command_rule None k r = false

-- an access that is not refused with 1, 2 or 10, and executes; k is what the register access left, held are the accesses that 10 refuses while busy
abbrev pub access_rule : ℕ → Bool → Chip → ℕ → Bool
access_rule address held k r =
    is_whole k
    && (eqb (bits 4 4 address) 2
    && (not (k.processor.busy && held)
    && (is_set 3 address && command_rule (command_for k.processor.part (register_of k.processor 0)) k r)))

-- a step stores its bytes one after another, each as it is read then
abbrev pub carry_rule : ℕ → Triple → Triple → Chip → ℕ → Bool
carry_rule zero from to k r = false
carry_rule (suc n) from to k r =
    let j = carried_all n from to k in
    carry_rule n from to k r || store_rule (block_at to n) (loaded (block_at from n) j.memory) j r

-- by the command that runs: a move, where its pointers are legal and all its bytes are fitted
abbrev pub move_rule : Option Command → Chip → ℕ → Bool
move_rule (Some Nop) k r = false
move_rule (Some (Ind n reads)) k r = false
move_rule (Some (Krf reads increments)) k r = false
move_rule (Some (Oct reads auxiliary increments)) k r = false
move_rule (Some (Krl reads increments)) k r = false
move_rule (Some (Move bytes auxiliary stops)) k r =
    all_fitted (addresses_of (Some (Move bytes auxiliary stops)) k.processor)
    && carry_rule bytes (pointer_of auxiliary k.processor) (pointer_of (not auxiliary) k.processor) k r
move_rule None k r = false

abbrev pub marks_row : Operation → World → ℕ → Bool
marks_row (write x address v) w r = access_rule address (is_write_held address v) (chip (registered (write x address v) w) (lent_of x w.memory)) r
marks_row (read x address) w r = access_rule address (is_read_held address) (chip_lent x w) r
marks_row (turn x n) w r = is_whole (chip_lent x w) && (leb n 1 && phase_rule n (chip_lent x w) r)
marks_row (move x) w r =
    let k = chip_lent x w in
    is_whole k && (k.processor.busy && move_rule (command_for k.processor.part (register_of k.processor 0)) k r)
marks_row (draw x y z) w r = false

-- an accepted draw clears the marks
abbrev pub clears : Operation → World → Bool
clears (write x address v) w = false
clears (read x address) w = false
clears (turn x n) w = false
clears (move x) w = false
clears (draw x y z) w = eqb (done (draw x y z) w).number 0
