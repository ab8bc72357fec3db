-- An operation that is accepted and asks for execution has run its command, where all its bytes are legal and fitted.
-- Assumes nothing.
use Rattle.std.specs.Prelude.{Option, Some, None}
use Prim.Native.Nat.{ℕ}
use mathlib.Core.Path.{◌≡◌, refl, sym, ap, ◌∙◌}
use mathlib.Core.Bool.{Bool, true, false, ◌&&◌, false≢true}
use mathlib.Core.List.{List}
use native.Mathlib.Omega.{arith}
use lib.Dec.{eqb}
use lib.ListN.{length}
use borrow.Author.Tests.{eqb-true}
use Rattle.basics.specs.Bits.{is_set}
use Rattle.basics.specs.Choice.{pick}
use Rattle.basics.proofs.Choice.{and_left, and_right}
use Rattle.board.specs.Boards.{bytes_of}
use Rattle.command.specs.declared.Command.{Command}
use Rattle.command.specs.declared.Command.TheVariants.{Nop, Ind, Krf, Oct, Krl, Move}
use Rattle.command.specs.Answers.{number_of}
use Rattle.processor.specs.declared.state.Processor.{Processor}
use Rattle.processor.specs.States.{Chip, chip}
use Rattle.processor.specs.Access.{Outcome, effect, is_astray, is_unfitted}
use Rattle.kept.specs.Quiet.{asks, command_run}
use Rattle.kept.specs.Runs.{Operation, write, read, turn, move, draw, World, done, lent_of, memory_lent, registered, chip_lent}
use Rattle.kept.proofs.Walk.{Ends, command_in, write_known, read_known}

-- c is the command, k what the register access left
abbrev Ran : Option Command → Chip → Processor → List ℕ → Type 0
Ran c k p m =
    (p ≡ (effect c k).processor) × (m ≡ (effect c k).memory) × (length k.memory ≡ bytes_of k.processor.blocks)
    × (is_astray c k.processor ≡ false) × (is_unfitted c k.processor ≡ false)

access_ran :
    (address : ℕ) (held : Bool) (v : ℕ) (k : Chip) (p : Processor) → is_set 3 address ≡ true →
    Ends address held v k p (λ (o : Outcome). number_of o.answer ≡ 0 → Ran (command_in p) (chip p k.memory) o.left.processor o.left.memory)
access_ran address held v k p asked =
    record {
      wrong_memory = λ m e. absurd (omega arith);
      wrong_address = λ m a e. absurd (omega arith);
      busy = λ m a b e. absurd (omega arith);
      not_executed = λ m a b x e. absurd (false≢true (sym x ∙ asked));
      not_listed = λ m a b x u e. absurd (omega arith);
      bad_pointer = λ m a b x u s e. absurd (omega arith);
      not_fitted = λ m a b x u s f e. absurd (omega arith);
      accepted = λ m a b x u s f e. (refl, refl, eqb-true _ _ m, s, f);
    }

-- the state and the memory at which the command of an operation runs
abbrev pub at_command : Operation → World → Chip
at_command o w = chip (registered o w) (lent_of (memory_lent o) w.memory)

-- the register access leaves the part
registered_part : (o : Operation) (w : World) → (registered o w).part ≡ w.processor.part
registered_part (write x address v) w = refl
registered_part (read x address) w = refl
registered_part (turn x n) w = refl
registered_part (move x) w = refl
registered_part (draw x y z) w = refl

accepted_ran :
    (o : Operation) (w : World) → asks o ≡ true → (done o w).number ≡ 0 →
    Ran (command_in (registered o w)) (at_command o w) (done o w).processor (done o w).memory
accepted_ran (write x address v) w a e = write_known _ address v (chip_lent x w) (access_ran address _ 0 (chip_lent x w) _ a) e
accepted_ran (read x address) w a e = read_known _ address (chip_lent x w) (access_ran address _ _ (chip_lent x w) w.processor a) e
accepted_ran (turn x n) w a e = absurd (false≢true a)
accepted_ran (move x) w a e = absurd (false≢true a)
accepted_ran (draw x y z) w a e = absurd (false≢true a)

abbrev pub is_nop : Option Command → Bool
is_nop (Some Nop) = true
is_nop (Some (Ind r reads)) = false
is_nop (Some (Krf reads increments)) = false
is_nop (Some (Oct reads auxiliary increments)) = false
is_nop (Some (Krl reads increments)) = false
is_nop (Some (Move bytes auxiliary stops)) = false
is_nop None = false

picked : (b : Bool) (c d : Option Command) → pick b c (Some Nop) ≡ d → is_nop d ≡ false → (b ≡ true) × (c ≡ d)
picked true c d e n = (refl, e)
picked false c d e n = absurd (false≢true (sym n ∙ ap is_nop (sym e)))

-- it is the command in R0, on the same board
pub command_named : (o : Operation) (w : World) (c : Option Command) → is_nop c ≡ false → command_run o w ≡ c → command_in (registered o w) ≡ c
command_named o w c n e = (picked (asks o && eqb (done o w).number 0) (command_in (registered o w)) c (rw (registered_part o w) e) n).1

pub registered_blocks : (o : Operation) (w : World) → (registered o w).blocks ≡ w.processor.blocks
registered_blocks (write x address v) w = refl
registered_blocks (read x address) w = refl
registered_blocks (turn x n) w = refl
registered_blocks (move x) w = refl
registered_blocks (draw x y z) w = refl

pub command_ran :
    (o : Operation) (w : World) (c : Option Command) → is_nop c ≡ false → command_run o w ≡ c → Ran c (at_command o w) (done o w).processor (done o w).memory
command_ran o w c n e =
    let p = picked (asks o && eqb (done o w).number 0) (command_in (registered o w)) c (rw (registered_part o w) e) n in
    let a = and_left (asks o) (eqb (done o w).number 0) p.0 in
    let z = eqb-true (done o w).number 0 (and_right (asks o) (eqb (done o w).number 0) p.0) in
    rw p.1 at (accepted_ran o w a z)
