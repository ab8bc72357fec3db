-- The walk through an operation, taken once. The ends of an access, of a phase change and of a draw, each with what is known there; and a
-- property that each part of an access keeps is kept by every access.
-- Assumes nothing.
use Rattle.std.specs.Prelude.{Option, Some, None, IfSome, is_none, Result, Ok, Err}
use Prim.Native.Nat.{ℕ, zero, suc}
use mathlib.Core.Path.{◌≡◌, refl, sym, ap, ◌∙◌}
use mathlib.Core.Bool.{Bool, true, false, not, ◌&&◌, ◌||◌}
use mathlib.Core.List.{List, [], ◌∷◌}
use mathlib.Core.Logic.{◌≢◌}
use native.Mathlib.Omega.{arith}
use lib.Dec.{eqb, leb}
use lib.ListN.{length}
use borrow.Author.Tests.{not-false}
use Rattle.basics.proofs.Choice.{pick_known, pick_either, or_neither}
use Rattle.basics.specs.Bits.{bits, is_set}
use Rattle.board.specs.Boards.{bytes_of}
use Rattle.address.specs.Places.{block_at}
use Rattle.address.specs.Triples.{legal}
use Rattle.address.proofs.Fits.{byte_illegal, code_illegal, narrow_illegal}
use Rattle.address.specs.declared.triple.Triple.{Triple}
use Rattle.shown.specs.Lengths.{rom_bytes, picture_bytes}
use Rattle.shown.specs.Modes.{column_bytes}
use Rattle.shown.specs.Refusals.{refused7, refused8, can_draw}
use Rattle.processor.specs.declared.state.Processor.{Processor}
use Rattle.command.specs.declared.Command.{Command}
use Rattle.command.specs.declared.Command.TheVariants.{Nop, Ind, Krf, Oct, Krl, Move}
use Rattle.command.specs.declared.answer.Refusal.TheVariants as answer
use Rattle.command.specs.declared.answer.DrawRefusal.{DrawRefusal}
use Rattle.command.specs.declared.answer.DrawRefusal.TheVariants as drawing
use Rattle.command.specs.Answers.{draw_number_of}
use Rattle.command.specs.Commands.{command_for, Asked}
use Rattle.command.specs.Held.{is_read_held, is_write_held}
use Rattle.command.proofs.Asked.{asked_for}
use Rattle.moves.specs.Onward.{is_last, main_x, across, down, onward}
use Rattle.processor.specs.States.{Chip, chip, register_of, register_read, with_register, with_registers, with_lx, with_busy, indirect_written, shown_of}
use Rattle.processor.specs.Pointers.{pointer_of, incremented, incremented_if, advanced, advanced_if}
use Rattle.processor.specs.Bytes.{stored, oct, code_read, code_stored, krf, narrow_read, narrow_stored, krl}
use Rattle.processor.specs.Access.{Outcome, outcome, is_astray, is_unfitted, effect, indirect, ran, executed, is_whole, checked, written, read_out, phased, turned}
use Rattle.processor.specs.Moves.{carried, carried_all, passed_on, position, position_of, moved, step_of, stepped}
use Rattle.processor.proofs.Carrying.{move_pointer}
use Rattle.processor.specs.Draws.{DrawOutcome, draw_outcome, drawn_page, drawn}
use Rattle.kept.specs.Orders.{first_of, draw_order}
use Rattle.kept.specs.Quiet.{is_store}
use Rattle.kept.specs.Rules.{is_shown}
use Rattle.kept.specs.Runs.{Operation, World, step, run}

-- the test of an access's address: its high bits. (That of the memory's length is is_whole.)
abbrev pub is_chosen : ℕ → Bool
is_chosen address = eqb (bits 4 4 address) 2

-- the command that would be executed
abbrev pub command_in : Processor → Option Command
command_in p = command_for p.part (register_of p 0)

-- P at each end of an access to k that gives the value v and has left p of the state before its command, with what is known there; held are the accesses
-- that 10 refuses while busy
pub record Ends (address : ℕ) (held : Bool) (v : ℕ) (k : Chip) (p : Processor) (P : Outcome → Type 0) : Type 0 where
  pub wrong_memory : is_whole (chip p k.memory) ≡ false → P (outcome k (Err answer.WrongMemory))
  pub wrong_address : is_whole (chip p k.memory) ≡ true → is_chosen address ≡ false → P (outcome k (Err answer.WrongAddress))
  pub busy : is_whole (chip p k.memory) ≡ true → is_chosen address ≡ true → (p.busy && held) ≡ true → P (outcome k (Err answer.Busy))
  pub not_executed :
      is_whole (chip p k.memory) ≡ true → is_chosen address ≡ true → (p.busy && held) ≡ false → is_set 3 address ≡ false → P (outcome (chip p k.memory) (Ok v))
  pub not_listed :
      is_whole (chip p k.memory) ≡ true → is_chosen address ≡ true → (p.busy && held) ≡ false → is_set 3 address ≡ true → is_none (command_in p) ≡ true →
      P (outcome (chip p k.memory) (Err (answer.NotListed v)))
  pub bad_pointer :
      is_whole (chip p k.memory) ≡ true → is_chosen address ≡ true → (p.busy && held) ≡ false → is_set 3 address ≡ true → is_none (command_in p) ≡ false →
      is_astray (command_in p) p ≡ true → P (outcome (chip p k.memory) (Err (answer.BadPointer v)))
  pub not_fitted :
      is_whole (chip p k.memory) ≡ true → is_chosen address ≡ true → (p.busy && held) ≡ false → is_set 3 address ≡ true → is_none (command_in p) ≡ false →
      is_astray (command_in p) p ≡ false → is_unfitted (command_in p) p ≡ true → P (outcome (chip p k.memory) (Err (answer.NotFitted v)))
  pub accepted :
      is_whole (chip p k.memory) ≡ true → is_chosen address ≡ true → (p.busy && held) ≡ false → is_set 3 address ≡ true → is_none (command_in p) ≡ false →
      is_astray (command_in p) p ≡ false → is_unfitted (command_in p) p ≡ false → P (outcome (effect (command_in p) (chip p k.memory)) (Ok v))

access_known :
    (P : Outcome → Type 0) (address : ℕ) (held : Bool) (v : ℕ) (k : Chip) (p : Processor) → p.blocks ≡ k.processor.blocks →
    p.busy ≡ k.processor.busy → Ends address held v k p P → P (checked address held k (executed address v (chip p k.memory)))
unfolding checked executed ran
access_known P address held v k p same runs ends =
    let whole = ap (λ (n : ℕ). eqb (length k.memory) (bytes_of n)) same in
    let holds = ap (λ (b : Bool). b && held) runs in
    pick_known P (is_whole k) _ _
    (λ q.
    let m = whole ∙ q in
    pick_known P (is_chosen address) _ _
    (λ a.
    pick_known P (k.processor.busy && held) _ _ (λ h. ends.busy m a (holds ∙ h))
    (λ h.
    let b = holds ∙ h in
    pick_known P (is_set 3 address) _ _
    (λ x.
    pick_known P (is_none (command_in p)) _ _ (ends.not_listed m a b x)
    (λ u.
    pick_known P (is_astray (command_in p) p) _ _ (ends.bad_pointer m a b x u)
    (λ s. pick_known P (is_unfitted (command_in p) p) _ _ (ends.not_fitted m a b x u s) (ends.accepted m a b x u s))))
    (ends.not_executed m a b)))
    (ends.wrong_address m))
    (λ q. ends.wrong_memory (whole ∙ q))

-- a write: its register is written first
abbrev pub after_write : ℕ → ℕ → Chip → Processor
after_write address v k = with_register k.processor (bits 0 3 address) v

pub write_known :
    (P : Outcome → Type 0) (address v : ℕ) (k : Chip) → Ends address (is_write_held address v) 0 k (after_write address v k) P → P (written address v k)
unfolding written
write_known P address v k ends = access_known P address (is_write_held address v) 0 k (after_write address v k) refl refl ends

-- a read changes no register by itself
pub read_known :
    (P : Outcome → Type 0) (address : ℕ) (k : Chip) →
    Ends address (is_read_held address) (register_read k.processor (bits 0 3 address)) k k.processor P → P (read_out address k)
unfolding read_out
read_known P address k ends =
    access_known P address (is_read_held address) (register_read k.processor (bits 0 3 address)) k k.processor refl refl ends

-- the ends of a phase change
pub turn_known :
    (P : Outcome → Type 0) (n : ℕ) (k : Chip) → (is_whole k ≡ false → P (outcome k (Err answer.WrongMemory))) →
    (is_whole k ≡ true → leb n 1 ≡ false → P (outcome k (Err answer.WrongPhase))) →
    (is_whole k ≡ true → leb n 1 ≡ true → P (outcome (phased n k) (Ok 0))) → P (turned n k)
unfolding turned
turn_known P n k wrongMemory wrongPhase accepted =
    pick_known P (is_whole k) _ _ (λ m. pick_known P (leb n 1) _ _ (accepted m) (wrongPhase m)) wrongMemory

-- the ends of a step: refused, nothing runs, a command that does not move its bytes and ends, and a position of a move
pub step_known :
    (P : Outcome → Type 0) (k : Chip) → (is_whole k ≡ false → P (outcome k (Err answer.WrongMemory))) →
    (is_whole k ≡ true → k.processor.busy ≡ false → P (outcome k (Ok 0))) →
    (is_whole k ≡ true → k.processor.busy ≡ true → P (outcome (moved (command_in k.processor) k) (Ok 0))) → P (stepped k)
unfolding stepped step_of
step_known P k wrongMemory idle busy =
    pick_known P (is_whole k) _ _
    (λ m.
    pick_known (λ (j : Chip). P (outcome j (Ok 0))) k.processor.busy (moved (command_in k.processor) k) k (busy m) (idle m)) wrongMemory

-- the ends of a draw: refused, it answers the first number of its order and leaves what it found; accepted, it draws the page, and a draw
-- gets neither 7 nor 8. (Each e is of the test whose number it has.)
pub draw_known :
    (P : DrawOutcome → Type 0) (p : Processor) (m rom picture : List ℕ) →
    ((a : Result ℕ DrawRefusal) → first_of (draw_order p m rom picture) ≡ draw_number_of a → draw_number_of a ≢ 0 → P (draw_outcome p picture a)) →
    (first_of (draw_order p m rom picture) ≡ 0 → is_shown p ≡ true → P (drawn_page p m rom picture)) → P (drawn p m rom picture)
unfolding drawn can_draw
draw_known P p m rom picture refused accepted =
    pick_known P (eqb (length m) (bytes_of p.blocks)) _ _
    (λ e1.
    pick_known P (eqb (length rom) (rom_bytes p.part)) _ _
    (λ e5.
    pick_known P (refused7 _) _ _ (λ e7. refused (Err drawing.NotBuilt) (rw (e1, e5, e7)) (λ z. omega arith))
    (λ e7.
    pick_known P (eqb (length picture) (picture_bytes (column_bytes (shown_of p)))) _ _
    (λ e6.
    pick_known P (refused8 _) _ _ (λ e8. refused (Err drawing.LowOrigin) (rw (e1, e5, e7, e6, e8)) (λ z. omega arith))
    (λ e8. accepted (rw (e1, e5, e7, e6, e8)) (rw (e7, e8))))
    (λ e6. refused (Err drawing.WrongPicture) (rw (e1, e5, e7, e6)) (λ z. omega arith))))
    (λ e5. refused (Err drawing.WrongRom) (rw (e1, e5)) (λ z. omega arith)))
    (λ e1. refused (Err drawing.WrongMemory) (rw e1) (λ z. omega arith))

-- a NOP ends a move, and a move sets busy
abbrev pub turns_busy : Option Command → Bool
turns_busy (Some Nop) = true
turns_busy (Some (Ind r reads)) = false
turns_busy (Some (Krf reads increments)) = false
turns_busy (Some (Oct reads auxiliary increments)) = false
turns_busy (Some (Krl reads increments)) = false
turns_busy (Some (Move bytes auxiliary stops)) = true
turns_busy None = false

-- K is kept by each part of an access. No store keeps "the memory is m", and no IND written "the marks are l"; such a property is kept as long
-- as certain commands do not run. These are barred, and a store, an IND or a change of busy is asked about only where a command that is not barred does it.
pub record KeptBy (barred : Option Command → Bool) (K : Chip → Type 0) : Type 0 where
  pub register : (k : Chip) (n v : ℕ) → K k → K (chip (with_register k.processor n v) k.memory)
  pub lx : (k : Chip) (m a : Bool) → K k → K (chip (with_lx k.processor m a) k.memory)
  pub store :
      (c : Option Command) → is_store c ≡ true → barred c ≡ false → (t : Triple) → legal t ≡ true → (v : ℕ) (k : Chip) → K k → K (stored t v k)
  pub ind : (r : ℕ) → barred (Some (Ind r false)) ≡ false → (k : Chip) → K k → K (chip (indirect_written k.processor r) k.memory)
  pub busy : (c : Option Command) → turns_busy c ≡ true → barred c ≡ false → (k : Chip) (b : Bool) → K k → K (chip (with_busy k.processor b) k.memory)

-- and so by every command that is not barred, and by every access that executes none that is
module _ (barred : Option Command → Bool) (K : Chip → Type 0) (by : KeptBy barred K) where
  increment_keeps : (auxiliary : Bool) (k : Chip) → K k → K (chip (incremented auxiliary k.processor) k.memory)
  unfolding incremented
  increment_keeps true k h =
      let j = by.register k 5 _ h in
      pick_either (λ (q : Processor). K (chip q k.memory)) (eqb (bits 0 6 (register_of k.processor 5)) 39) _ _ (by.lx _ _ true j) j
  increment_keeps false k h =
      let j = by.register k 7 _ h in
      pick_either (λ (q : Processor). K (chip q k.memory)) (eqb (bits 0 6 (register_of k.processor 7)) 39) _ _ (by.lx _ true _ j) j

  -- KRL's increment
  pub advance_keeps : (asked : Bool) (k : Chip) → K k → K (chip (advanced_if asked k.processor) k.memory)
  unfolding advanced_if advanced
  advance_keeps true k h =
      let j = by.register k 7 _ h in
      pick_either (λ (q : Processor). K (chip q k.memory)) (is_set 7 (register_of k.processor 7) && eqb (bits 0 6 (register_of k.processor 7)) 39)
      _ _ (by.lx _ true _ j) j
  advance_keeps false k h = h

  pub asked_keeps : (asked auxiliary : Bool) (k : Chip) → K k → K (chip (incremented_if asked auxiliary k.processor) k.memory)
  unfolding incremented_if
  asked_keeps true auxiliary k h = increment_keeps auxiliary k h
  asked_keeps false auxiliary k h = h

  -- a command that stores has a legal pointer, since it is not refused
  pub effect_keeps :
      (c : Option Command) → barred c ≡ false → (k : Chip) → (is_store c ≡ true → is_astray c k.processor ≡ false) → K k → K (effect c k)
  unfolding indirect krf code_read code_stored oct krl narrow_read narrow_stored
  effect_keeps (Some Nop) n k g h = by.busy (Some Nop) refl n k false h
  effect_keeps (Some (Ind r true)) n k g h = by.register k 1 _ h
  effect_keeps (Some (Ind r false)) n k g h = by.ind r n k h
  effect_keeps (Some (Krf true increments)) n k g h =
      asked_keeps increments false _ (by.register _ 3 _ (by.register _ 2 _ (by.register _ 1 _ (by.lx k false false h))))
  effect_keeps (Some (Krf false increments)) n k g h =
      let t = pointer_of false k.processor in
      let l = not-false (legal t) (sym (code_illegal k.processor.blocks t) ∙ g refl) in
      let s = by.store (Some (Krf false increments)) refl n in
      asked_keeps increments false _ (s _ l _ _ (s _ l _ _ (s _ l _ _ (by.lx k false false h))))
  effect_keeps (Some (Oct true auxiliary increments)) n k g h = asked_keeps increments auxiliary _ (by.register _ 1 _ (by.lx k false false h))
  effect_keeps (Some (Oct false auxiliary increments)) n k g h =
      let t = pointer_of auxiliary k.processor in
      let l = not-false (legal t) (sym (byte_illegal k.processor.blocks t) ∙ g refl) in
      asked_keeps increments auxiliary _ (by.store (Some (Oct false auxiliary increments)) refl n t l _ _ (by.lx k false false h))
  effect_keeps (Some (Krl true increments)) n k g h = advance_keeps increments _ (by.register _ 3 _ (by.register _ 1 _ (by.lx k false false h)))
  effect_keeps (Some (Krl false increments)) n k g h =
      let t = pointer_of false k.processor in
      let l = not-false (legal t) (sym (narrow_illegal k.processor.blocks t) ∙ g refl) in
      let s = by.store (Some (Krl false increments)) refl n in
      advance_keeps increments _ (s _ l _ _ (s t l _ _ (by.lx k false false h)))
  effect_keeps (Some (Move bytes auxiliary stops)) n k g h = by.busy (Some (Move bytes auxiliary stops)) refl n _ true (by.lx k false false h)
  effect_keeps None n k g h = h

  -- an accepted access alone runs its command
  access_keeps :
      (address : ℕ) (held : Bool) (v : ℕ) (k : Chip) (p : Processor) → (is_set 3 address ≡ true → barred (command_in p) ≡ false) → K k →
      K (chip p k.memory) → Ends address held v k p (λ (o : Outcome). K o.left)
  access_keeps address held v k p n h j =
      record {
        wrong_memory = λ m. h;
        wrong_address = λ m a. h;
        busy = λ m a b. h;
        not_executed = λ m a b x. j;
        not_listed = λ m a b x u. j;
        bad_pointer = λ m a b x u s. j;
        not_fitted = λ m a b x u s f. j;
        accepted = λ m a b x u s f. effect_keeps (command_in p) (n x) (chip p k.memory) (λ z. s) j;
      }

  pub write_keeps :
      (address v : ℕ) (k : Chip) → (is_set 3 address ≡ true → barred (command_in (after_write address v k)) ≡ false) → K k → K (written address v k).left
  write_keeps address v k n h = write_known _ address v k (access_keeps address _ 0 k (after_write address v k) n h (by.register k _ v h))

  pub read_keeps : (address : ℕ) (k : Chip) → (is_set 3 address ≡ true → barred (command_in k.processor) ≡ false) → K k → K (read_out address k).left
  read_keeps address k n h = read_known _ address k (access_keeps address _ _ k k.processor n h h)

-- and by every step: K is kept by registers, by busy and by stores at a legal place
module _
    (K : Chip → Type 0) (register : (k : Chip) (n v : ℕ) → K k → K (chip (with_register k.processor n v) k.memory))
    (busy : (k : Chip) (b : Bool) → K k → K (chip (with_busy k.processor b) k.memory))
    (store : (t : Triple) → legal t ≡ true → (v : ℕ) (k : Chip) → K k → K (stored t v k)) where
  pub carried_keeps : (bytes : ℕ) (from to : Triple) → legal to ≡ true → (k : Chip) → K k → K (carried_all bytes from to k)
  unfolding carried_all carried
  carried_keeps zero from to g k h = h
  carried_keeps (suc n) from to g k h = store (block_at to n) g _ _ (register _ 1 _ (carried_keeps n from to g k h))

  across_keeps : (k : Chip) → K k → K (chip (with_registers k.processor (across k.processor.registers)) k.memory)
  unfolding across
  across_keeps k h = register _ 7 _ (register k 5 _ h)

  onward_keeps : (stops : Bool) (k : Chip) → K k → K (chip (with_registers k.processor (onward stops k.processor.registers)) k.memory)
  unfolding onward down
  onward_keeps true k h = across_keeps k h
  onward_keeps false k h =
      pick_either (λ (l : List ℕ). K (chip (with_registers k.processor (across l)) k.memory)) (is_last (main_x k.processor.registers)) _ _
      (across_keeps _ (register k 6 _ h)) (across_keeps k h)

  pub passed_keeps : (stops : Bool) (k : Chip) → K k → K (chip (passed_on stops k.processor) k.memory)
  unfolding passed_on
  passed_keeps stops k h = busy _ _ (onward_keeps stops k h)

  position_keeps :
      (c : Option Command) → IfSome c Asked → (k : Chip) → is_astray c k.processor ≡ false → K k → K (position_of c k)
  unfolding position_of position
  position_keeps (Some Nop) q k g h = busy k false h
  position_keeps (Some (Ind r reads)) q k g h = busy k false h
  position_keeps (Some (Krf reads increments)) q k g h = busy k false h
  position_keeps (Some (Oct reads auxiliary increments)) q k g h = busy k false h
  position_keeps (Some (Krl reads increments)) q k g h = busy k false h
  position_keeps (Some (Move bytes auxiliary stops)) q k g h =
      passed_keeps stops _ (carried_keeps bytes _ _ (move_pointer bytes auxiliary stops k.processor g q.0 (not auxiliary)) k h)
  position_keeps None q k g h = busy k false h

  pub moved_keeps : (k : Chip) → K k → K (moved (command_in k.processor) k)
  unfolding moved
  moved_keeps k h =
      let c = command_in k.processor in
      pick_known K (is_astray c k.processor || is_unfitted c k.processor) _ _ (λ e. busy k false h)
      (λ e. position_keeps c (asked_for k.processor.part (register_of k.processor 0)) k (or_neither _ _ e) h)

  pub step_keeps : (k : Chip) → K k → K (stepped k).left
  step_keeps k h = step_known (λ (o : Outcome). K o.left) k (λ m. h) (λ m i. h) (λ m b. moved_keeps k h)

pub turn_keeps : (K : Chip → Type 0) (n : ℕ) (k : Chip) → K k → K (phased n k) → K (turned n k).left
turn_keeps K n k h t = turn_known (λ (o : Outcome). K o.left) n k (λ m. h) (λ m e. h) (λ m e. t)

-- W says what holds of a world while some operations are still to come: where each of them hands it on, it holds after the run
pub run_known :
    (W : List Operation → World → Type 0) → ((o : Operation) (os : List Operation) (w : World) → W (o ∷ os) w → W os (step o w)) →
    (os : List Operation) (w : World) → W os w → W [] (run os w)
run_known W hands [] w h = h
run_known W hands (o ∷ os) w h = run_known W hands os (step o w) (hands o os w h)

abbrev pub none_barred : Option Command → Bool
none_barred c = false
