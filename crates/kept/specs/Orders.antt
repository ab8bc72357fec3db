-- The order of the refusals, as the rules list it, and what each operation returns.
-- Assumes nothing.
use Rattle.std.specs.Prelude.{ℕ, Bool, not, ◌&&◌, ◌||◌, List, [], ◌∷◌, eqb, leb, length, is_none}
use Rattle.basics.specs.Bits.{bits, is_set}
use Rattle.basics.specs.Choice.{pick}
use Rattle.board.specs.Boards.{bytes_of}
use Rattle.shown.specs.Lengths.{rom_bytes, picture_bytes}
use Rattle.shown.specs.Modes.{column_bytes}
use Rattle.shown.specs.Refusals.{refused7, refused8}
use Rattle.processor.specs.declared.state.Processor.{Processor}
use Rattle.command.specs.Commands.{command_for}
use Rattle.command.specs.Held.{is_read_held, is_write_held}
use Rattle.page.specs.Marks.{marked_rows}
use Rattle.processor.specs.States.{register_of, register_read, shown_of}
use Rattle.processor.specs.Access.{is_astray, is_unfitted}
use Rattle.kept.specs.Runs.{Operation, write, read, turn, move, draw, World, lent_of, registered}

-- a condition and the number that it gives
pub record Refusal : Type 0 where
  pub when : Bool
  pub number : ℕ

abbrev pub gives : Bool → ℕ → Refusal
gives b n = record { when = b; number = n }

-- the number of the first condition that holds; 0, accepted, where none does
abbrev pub first_of : List Refusal → ℕ
first_of [] = 0
first_of (c ∷ cs) = pick c.when c.number (first_of cs)

-- Access is checked 1, 2, 10, 3, 4, 11. (p is the state after the register access itself; held are the accesses that 10 refuses while busy.)
abbrev pub access_order : ℕ → Bool → Processor → List ℕ → List Refusal
access_order address held p m =
    gives (not (eqb (length m) (bytes_of p.blocks))) 1
    ∷ gives (not (eqb (bits 4 4 address) 2)) 2
    ∷ gives (p.busy && held) 10
    ∷ gives (is_set 3 address && is_none (command_for p.part (register_of p 0))) 3
    ∷ gives (is_set 3 address && is_astray (command_for p.part (register_of p 0)) p) 4
    ∷ gives (is_set 3 address && is_unfitted (command_for p.part (register_of p 0)) p) 11
    ∷ []

-- draw 1, 5, 7, 6, 8; 6 asks for the length that goes with the mode
abbrev pub draw_order : Processor → List ℕ → List ℕ → List ℕ → List Refusal
draw_order p m rom picture =
    gives (not (eqb (length m) (bytes_of p.blocks))) 1
    ∷ gives (not (eqb (length rom) (rom_bytes p.part))) 5
    ∷ gives (refused7 (shown_of p)) 7
    ∷ gives (not (eqb (length picture) (picture_bytes (column_bytes (shown_of p))))) 6
    ∷ gives (refused8 (shown_of p)) 8
    ∷ []

-- phase 1, 9
abbrev pub phase_order : ℕ → Processor → List ℕ → List Refusal
phase_order n p m = gives (not (eqb (length m) (bytes_of p.blocks))) 1 ∷ gives (not (leb n 1)) 9 ∷ []

-- step 1
abbrev pub step_order : Processor → List ℕ → List Refusal
step_order p m = gives (not (eqb (length m) (bytes_of p.blocks))) 1 ∷ []

-- of each operation, with what it is lent
abbrev pub order : Operation → World → List Refusal
order (write x address v) w = access_order address (is_write_held address v) (registered (write x address v) w) (lent_of x w.memory)
order (read x address) w = access_order address (is_read_held address) w.processor (lent_of x w.memory)
order (turn x n) w = phase_order n w.processor (lent_of x w.memory)
order (move x) w = step_order w.processor (lent_of x w.memory)
order (draw x y z) w = draw_order w.processor (lent_of x w.memory) (lent_of y w.rom) (lent_of z w.picture)

-- 1, 2 and 10 come before the register access, 3, 4 and 11 after it
abbrev pub is_early : ℕ → Bool
is_early n = eqb n 1 || (eqb n 2 || eqb n 10)

abbrev pub is_late : ℕ → Bool
is_late n = eqb n 3 || (eqb n 4 || eqb n 11)

-- what is returned with number n: a write, a phase change or a step 0; a read the value from before, but 0 with 1, 2 and 10; a draw the number of marked
-- rows, refused 0
abbrev pub returned : Operation → World → ℕ → ℕ
returned (write x address v) w n = 0
returned (read x address) w n = pick (is_early n) 0 (register_read w.processor (bits 0 3 address))
returned (turn x phase) w n = 0
returned (move x) w n = 0
returned (draw x y z) w n = pick (eqb n 0) (marked_rows w.processor.marks 25) 0
