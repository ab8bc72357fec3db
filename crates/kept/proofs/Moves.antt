-- Moves: a step while nothing runs, how a move ends, and its pointers over every run.
-- Assumes nothing.
use Rattle.std.specs.Prelude.{Option, Some, None, is_none}
use Prim.Native.Nat.{ℕ, zero, suc, ◌+◌, ◌/◌, ◌%◌, ◌≤◌}
use mathlib.Core.Path.{◌≡◌, refl, sym, ap, subst, ◌∙◌}
use mathlib.Core.Bool.{Bool, true, false, not, ◌&&◌, and-false, false≢true}
use mathlib.Core.List.{List, [], ◌∷◌}
use mathlib.Core.Logic.{◌≢◌, ⊎_elim}
use native.Mathlib.Omega.{arith}
use lib.Dec.{eqb, leb}
use lib.Seq.{get_or-set_same}
use lib.ListN.{length, length-set, replicate}
use borrow.Author.Tests.{eqb-true, eqb-false, eq-eqb, ne_eqb, leb-true, not-false}
use Rattle.basics.specs.Bits.{bits, is_set}
use Rattle.basics.proofs.Choice.{bool_cases, eq_or_ne, and_left, and_right, and_none, or_none, pick_either}
use Rattle.address.specs.Addresses.{all_fitted}
use Rattle.address.proofs.Fits.{all_fitted_lem}
use Rattle.address.specs.declared.triple.Triple.{Triple}
use Rattle.board.specs.Boards.{bytes_of}
use Rattle.board.specs.declared.Part.{Part}
use Rattle.command.specs.declared.Command.{Command}
use Rattle.command.specs.declared.Command.TheVariants.{Nop, Ind, Krf, Oct, Krl, Move}
use Rattle.command.specs.Answers.{number_of, value_of}
use Rattle.command.specs.Commands.{command_of, command_for}
use Rattle.command.specs.Held.{is_read_held, is_write_held}
use Rattle.command.proofs.Listed.{named, lists_nop}
use Rattle.moves.specs.Onward.{is_last, auxiliary_x, main_x, onward, is_end}
use Rattle.moves.proofs.Going.{last_as}
use Rattle.moves.proofs.Pointers.{x_more}
use Rattle.processor.specs.declared.state.Processor.{Processor}
use Rattle.processor.specs.States.{Chip, chip, register_of, powered_up, with_register}
use Rattle.processor.specs.Pointers.{pointer_of}
use Rattle.processor.specs.Bytes.{stored}
use Rattle.processor.specs.Access.{Outcome, is_astray, is_unfitted, effect, addresses_of, written, read_out, phased}
use Rattle.processor.specs.Moves.{carried_all, passed_on, position, position_of, moved}
use Rattle.processor.specs.Draws.{DrawOutcome, drawn_page, drawn}
use Rattle.processor.specs.Sizes.{Sized}
use Rattle.processor.proofs.Carrying.{carried_register, move_pointer, both_on_page}
use Rattle.kept.specs.Demands.{Idle, is_move, most_steps, StepIdle, MoveEnds, MoveGoesOn, NopEnds, MoveFitted}
use Rattle.kept.specs.Quiet.{command_run, is_store}
use Rattle.kept.specs.Runs.{Lent, own, other, Operation, write, read, turn, move, draw, World, first, step, run, lent_of, memory_lent, memory_kept, chip_lent, Reply, reply}
use Rattle.kept.proofs.Boards.{Whole, run_whole}
use Rattle.kept.proofs.Going.{Runs, bytes_asked, Onto, onward_onto, runs_on}
use Rattle.kept.proofs.Programs.{command_there, execute_reply}
use Rattle.kept.proofs.Ran.{command_ran, command_named, registered_blocks}
use Rattle.kept.proofs.Refusals.{worlds_same}
use Rattle.kept.proofs.Running.{busy_kept}
use Rattle.kept.proofs.Sizes.{step_sized, power_up_sized}
use Rattle.kept.proofs.Walk.{command_in, after_write, turns_busy, write_known, read_known, step_known, turn_keeps, draw_known, effect_keeps, carried_keeps, run_known}

-- a step while nothing runs
kept_same : (x : Lent) (m : List ℕ) → memory_kept x m (lent_of x m) ≡ m
kept_same own m = refl
kept_same (other b) m = refl

abbrev Still : World → Lent → Outcome → Type 0
Still w x o =
    (reply (number_of o.answer) (value_of o.answer) ≡ reply 0 0) × (o.left.processor ≡ w.processor) × (o.left.memory ≡ lent_of x w.memory)

pub step_idle : StepIdle
step_idle x w m i =
    let still =
    step_known (Still w x) (chip_lent x w) (λ e. absurd (false≢true (sym e ∙ m))) (λ e f. (refl, refl, refl)) (λ e b. absurd (false≢true (sym i ∙ b))) in (
      still.0,
      worlds_same w _ _ _ _ _ _ still.1 (ap (memory_kept x w.memory) still.2 ∙ kept_same x w.memory) refl,
    )

-- a position of a move that runs
module _ (bytes : ℕ) (aux stops : Bool) (k : Chip) (s : Sized k.processor) (h : Runs bytes aux stops k.processor) where
  abbrev p : Processor
  p = k.processor

  abbrev after : Chip
  after = carried_all bytes (pointer_of aux p) (pointer_of (not aux) p) k

  one : 1 ≤ bytes
  one = bytes_asked bytes aux stops p h.is

  abbrev Stays : Chip → Type 0
  Stays j = (j.processor.part ≡ p.part) × (j.processor.blocks ≡ p.blocks) × (length j.processor.registers ≡ 8)

  stored_stays : (t : Triple) (v : ℕ) (j : Chip) → Stays j → Stays (stored t v j)
  unfolding stored
  stored_stays t v j e = e

  stays : Stays after
  stays =
      carried_keeps Stays (λ j n v e. (e.0, e.1, length-set j.processor.registers n v ∙ e.2)) (λ j b e. e) (λ t l v j e. stored_stays t v j e) bytes
      (pointer_of aux p) (pointer_of (not aux) p) (move_pointer bytes aux stops p h.astray one (not aux)) k (refl, refl, s.0)

  same : (j : ℕ) → j ≢ 1 → register_of after.processor j ≡ register_of p j
  same j n = carried_register bytes (pointer_of aux p) (pointer_of (not aux) p) k j n

  onto : Onto p.registers (onward stops after.processor.registers)
  onto =
      let o = onward_onto stops after.processor.registers stays.2 in
      rw (← same 0 (λ e. absurd (omega arith)), ← same 4 (λ e. absurd (omega arith)), ← same 5 (λ e. absurd (omega arith)), ← same 7 (λ e. absurd (omega arith)), ← same 6 (λ e. absurd (omega arith))) o

  pub position_runs : Runs bytes aux stops (position bytes aux stops k).processor
  unfolding position passed_on
  position_runs = runs_on bytes aux stops p _ h stays.0 stays.1 onto

  -- whether it ends
  pub position_busy : (position bytes aux stops k).processor.busy ≡ not (is_end stops after.processor.registers)
  unfolding position passed_on
  position_busy = refl

  -- the main pointer's X, where it was not 39
  pub position_x :
      is_last (main_x after.processor.registers) ≡ false →
      bits 0 6 (register_of (position bytes aux stops k).processor 7) ≡ bits 0 6 (register_of p 7) + 1
  unfolding position passed_on
  position_x n =
      let e = rw (same 7 (λ q. absurd (omega arith))) at n in
      ap (bits 0 6) onto.3 ∙ x_more (register_of p 7) (both_on_page bytes aux stops p h.astray one).1 (eqb-false _ _ (last_as (register_of p 7) ∙ e))

  -- what a step does
  pub moved_is : moved (command_in p) k ≡ position bytes aux stops k
  unfolding moved position_of
  moved_is = rw (h.is, h.astray, h.unfitted)

-- a world in which a move runs, and the one after a step
pub record Moving (bytes : ℕ) (aux stops : Bool) (w : World) : Type 0 where
  pub whole : Whole w
  pub sized : Sized w.processor
  pub busy : w.processor.busy ≡ true
  pub runs : Runs bytes aux stops w.processor

module _ (bytes : ℕ) (aux stops : Bool) (w : World) (h : Moving bytes aux stops w) where
  abbrev next : Processor
  next = (step (move own) w).processor

  next_is : next ≡ (position bytes aux stops (chip_lent own w)).processor
  next_is =
      step_known (λ (o : Outcome). o.left.processor ≡ (position bytes aux stops (chip_lent own w)).processor) (chip_lent own w)
      (λ m. absurd (false≢true (sym m ∙ eq-eqb _ _ h.whole))) (λ m i. absurd (false≢true (sym i ∙ h.busy)))
      (λ m b. ap (λ (k : Chip). k.processor) (moved_is bytes aux stops (chip_lent own w) h.sized h.runs))

  abbrev ended : Bool
  ended = is_end stops (after bytes aux stops (chip_lent own w) h.sized h.runs).processor.registers

  next_busy : next.busy ≡ not ended
  next_busy = ap (λ (q : Processor). q.busy) next_is ∙ position_busy bytes aux stops (chip_lent own w) h.sized h.runs

  -- it still runs where it has not ended
  goes_on_lem : ended ≡ false → Moving bytes aux stops (step (move own) w)
  goes_on_lem e =
      record {
        whole = run_whole (move own ∷ []) w h.whole;
        sized = step_sized (move own) w h.sized;
        busy = next_busy ∙ ap not e;
        runs = subst (Runs bytes aux stops) (sym next_is) (position_runs bytes aux stops (chip_lent own w) h.sized h.runs);
      }

-- one without a stop never ends
endless : (bytes : ℕ) (aux : Bool) (n : ℕ) (w : World) → Moving bytes aux false w → (run (replicate n (move own)) w).processor.busy ≡ true
unfolding is_end
endless bytes aux zero w h = h.busy
endless bytes aux (suc n) w h = endless bytes aux n (step (move own) w) (goes_on_lem bytes aux false w h refl)

-- nothing starts by a step
rests : (n : ℕ) (w : World) → Whole w → Idle w → Idle (run (replicate n (move own)) w)
rests zero w whole i = i
rests (suc n) w whole i =
    subst (λ (u : World). Idle (run (replicate n (move own)) u)) (sym (step_idle own w (eq-eqb _ _ whole) i).1) (rests n w whole i)

-- one with a stop ends before the main pointer's X passes 39
not_last : (stops : Bool) (l : List ℕ) → stops ≡ true → is_end stops l ≡ false → is_last (main_x l) ≡ false
unfolding is_end
not_last stops l t e = or_none (is_last (auxiliary_x l)) _ (rw t at e)

ends : (bytes : ℕ) (aux : Bool) (n : ℕ) (w : World) → Moving bytes aux true w → 40 ≤ bits 0 6 (register_of w.processor 7) + n → Idle (run (replicate n (move own)) w)
ends bytes aux zero w h l =
    let x = (both_on_page bytes aux true w.processor h.runs.astray (bytes_asked bytes aux true w.processor h.runs.is)).1 in absurd (omega (arith, x))
ends bytes aux (suc n) w h l =
    ⊎_elim
    (λ (e : ended bytes aux true w h ≡ true).
    rests n (step (move own) w) (run_whole (move own ∷ []) w h.whole) (next_busy bytes aux true w h ∙ ap not e))
    (λ (e : ended bytes aux true w h ≡ false).
    let x = ap (λ (q : Processor). bits 0 6 (register_of q 7)) (next_is bytes aux true w h)
    ∙ position_x bytes aux true (chip_lent own w) h.sized h.runs (not_last true _ refl e) in
    ends bytes aux n (step (move own) w) (goes_on_lem bytes aux true w h e) (omega (arith, x)))
    (bool_cases (ended bytes aux true w h))

-- the start of a move
started :
    (o : Operation) (w : World) (bytes : ℕ) (aux stops : Bool) → Sized w.processor → memory_lent o ≡ own → command_run o w ≡ Some (Move bytes aux stops) →
    Moving bytes aux stops (step o w)
unfolding pointer_of
started o w bytes aux stops s m e =
    let c = Some (Move bytes aux stops) in
    let ran = command_ran o w c refl e in
    let whole = ap (λ (x : Lent). length (lent_of x w.memory)) (sym m) ∙ ran.2 ∙ ap bytes_of (registered_blocks o w) in
    record {
      whole = run_whole (o ∷ []) w whole;
      sized = step_sized o w s;
      busy = ap (λ (q : Processor). q.busy) ran.0;
      runs =
          subst (Runs bytes aux stops) (sym ran.0) (record { is = command_named o w c refl e; astray = ran.3; unfitted = ran.4 });
    }

pub move_ends : MoveEnds
move_ends o w bytes aux s m e = ends bytes aux most_steps (step o w) (started o w bytes aux true s m e) (omega arith)

pub move_goes_on : MoveGoesOn
move_goes_on o w bytes aux n s m e = endless bytes aux n (step o w) (started o w bytes aux false s m e)

-- a NOP, 90 or 91, which 10 does not refuse
nop_free : (part : Part) (v : ℕ) → 0x90 ≤ v → v ≤ 0x91 → (is_write_held 0x28 v ≡ false) × (command_for part v ≡ Some Nop)
unfolding is_write_held command_of
nop_free part v a b =
    ⊎_elim (λ (e : v ≡ 0x90). rw e (refl, named part 0x90 (Some Nop) refl (lists_nop part)))
    (λ (n : v ≡ 0x90 → ⊥). let e : v ≡ 0x91 = omega (arith, n) in rw e (refl, named part 0x91 (Some Nop) refl (lists_nop part))) (eq_or_ne v 0x90)

pub nop_ends : NopEnds
nop_ends v w a b m s =
    let k = chip_lent own w in
    let nop = nop_free w.processor.part v a b in
    let free : (w.processor.busy && is_write_held 0x28 v) ≡ false = ap (λ (t : Bool). w.processor.busy && t) nop.0 ∙ and-false w.processor.busy in
    let whole = eqb-true _ _ m in
    let answered = execute_reply w whole s v free (Some Nop) nop.1 refl refl refl in
    let is : command_in (after_write 0x28 v k) ≡ Some Nop = ap (command_for w.processor.part) (command_there w whole s v free) ∙ nop.1 in (
      answered,
      write_known (λ (o : Outcome). number_of o.answer ≡ 0 → o.left.processor.busy ≡ false) 0x28 v k
          (record {
            wrong_memory = λ m e. absurd (omega arith);
            wrong_address = λ m a e. absurd (omega arith);
            busy = λ m a b e. absurd (omega arith);
            not_executed = λ m a b x e. absurd (false≢true (sym x));
            not_listed = λ m a b x u e. absurd (omega arith);
            bad_pointer = λ m a b x u s e. absurd (omega arith);
            not_fitted = λ m a b x u s f e. absurd (omega arith);
            accepted = λ m a b x u s f e. ap (λ (c : Option Command). (effect c (chip (after_write 0x28 v k) w.memory)).processor.busy) is;
          })
          (ap (λ (r : Reply). r.number) answered),
    )

-- what is known of a state while busy: a move runs
pub record Known (p : Processor) : Type 0 where
  pub bytes : ℕ
  pub aux : Bool
  pub stops : Bool
  pub runs : Runs bytes aux stops p

abbrev Sound : Processor → Type 0
Sound p = p.busy ≡ true → Known p

abbrev SoundChip : Chip → Type 0
SoundChip k = Sound k.processor

-- while busy, a write that is not refused executes a NOP, and a read that is not refused executes nothing
busy_write : (part : Part) (address v : ℕ) → is_write_held address v ≡ false → (bits 0 4 address ≡ 8) × (command_for part v ≡ Some Nop)
unfolding is_write_held
busy_write part address v e =
    let f = not-false _ e in
    let n = and_right (eqb (bits 0 4 address) 8) _ f in
    (eqb-true _ _ (and_left _ _ f), (nop_free part v (leb-true _ _ (and_left _ _ n)) (leb-true _ _ (and_right (leb 0x90 v) _ n))).1)

busy_read : (address : ℕ) → is_read_held address ≡ false → is_set 3 address ≡ false
unfolding is_read_held
busy_read address e = let z : bits 0 4 address ≡ 0 = eqb-true _ _ (not-false _ e) in ne_eqb (address / 8 % 2) 1 (λ q. omega (arith, z))

-- an effect: a move is known, a NOP ends one, and any other command runs while nothing does
calm_sound :
    (c : Option Command) (k : Chip) → turns_busy c ≡ false → (is_store c ≡ true → is_astray c k.processor ≡ false) → (k.processor.busy ≡ true → turns_busy c ≡ true) →
    SoundChip (effect c k)
calm_sound c k n g b t =
    let same = effect_keeps turns_busy _ (busy_kept k.processor.busy) c n k g refl in absurd (false≢true (sym n ∙ b (sym same ∙ t)))

effect_sound :
    (c : Option Command) (k : Chip) → command_in k.processor ≡ c → is_astray c k.processor ≡ false → is_unfitted c k.processor ≡ false →
    (k.processor.busy ≡ true → turns_busy c ≡ true) → SoundChip (effect c k)
unfolding pointer_of
effect_sound (Some Nop) k e s f b = λ t. absurd (false≢true t)
effect_sound (Some (Ind r reads)) k e s f b = calm_sound (Some (Ind r reads)) k refl (λ z. s) b
effect_sound (Some (Krf reads increments)) k e s f b = calm_sound (Some (Krf reads increments)) k refl (λ z. s) b
effect_sound (Some (Oct reads auxiliary increments)) k e s f b = calm_sound (Some (Oct reads auxiliary increments)) k refl (λ z. s) b
effect_sound (Some (Krl reads increments)) k e s f b = calm_sound (Some (Krl reads increments)) k refl (λ z. s) b
effect_sound (Some (Move bytes auxiliary stops)) k e s f b =
    λ t. record { bytes = bytes; aux = auxiliary; stops = stops; runs = record { is = e; astray = s; unfitted = f } }
effect_sound None k e s f b = calm_sound None k refl (λ z. s) b

write_sound : (address v : ℕ) (k : Chip) → Sized k.processor → SoundChip k → SoundChip (written address v k).left
write_sound address v k z h =
    let p = after_write address v k in
    let held = is_write_held address v in
    write_known (λ (o : Outcome). SoundChip o.left) address v k
    (record {
      wrong_memory = λ m. h;
      wrong_address = λ m a. h;
      busy = λ m a b. h;
      not_executed = λ m a b x t. absurd (false≢true (sym x ∙ executes (busy_write p.part address v (and_none p.busy held b t)).0));
      not_listed = λ m a b x u t. absurd (false≢true (sym (ap is_none (is b t)) ∙ u));
      bad_pointer = λ m a b x u s t. absurd (false≢true (sym (ap (λ (c : Option Command). is_astray c p) (is b t)) ∙ s));
      not_fitted = λ m a b x u s f t. absurd (false≢true (sym (ap (λ (c : Option Command). is_unfitted c p) (is b t)) ∙ f));
      accepted = λ m a b x u s f. effect_sound (command_in p) (chip p k.memory) refl s f (λ t. ap turns_busy (is b t));
    })
  where
    executes : bits 0 4 address ≡ 8 → is_set 3 address ≡ true
    executes e = eq-eqb (address / 8 % 2) 1 (omega (arith, e))

    is : ((after_write address v k).busy && is_write_held address v) ≡ false → k.processor.busy ≡ true → command_in (after_write address v k) ≡ Some Nop
    is b t =
        let w = busy_write k.processor.part address v (and_none k.processor.busy (is_write_held address v) b t) in
        let zero : bits 0 3 address ≡ 0 = omega (arith, w.0) in
        ap (λ (n : ℕ). command_for k.processor.part (register_of (with_register k.processor n v) 0)) zero
        ∙ ap (command_for k.processor.part) (get_or-set_same k.processor.registers 0 v 0 (rw z.0 (omega arith)))
        ∙ w.1

read_sound : (address : ℕ) (k : Chip) → SoundChip k → SoundChip (read_out address k).left
read_sound address k h =
    let p = k.processor in
    read_known (λ (o : Outcome). SoundChip o.left) address k
    (record {
      wrong_memory = λ m. h;
      wrong_address = λ m a. h;
      busy = λ m a b. h;
      not_executed = λ m a b x. h;
      not_listed = λ m a b x u. h;
      bad_pointer = λ m a b x u s. h;
      not_fitted = λ m a b x u s f. h;
      accepted =
          λ m a b x u s f.
          effect_sound (command_in p) k refl s f
          (λ t. absurd (false≢true (sym (busy_read address (and_none p.busy (is_read_held address) b t)) ∙ x)));
    })

-- the marks and the phase have no part in it
same_known : (p q : Processor) → q.registers ≡ p.registers → q.part ≡ p.part → q.blocks ≡ p.blocks → Known p → Known q
unfolding pointer_of
same_known p q er ep eb x =
    record {
      bytes = x.bytes;
      aux = x.aux;
      stops = x.stops;
      runs = record { is = rw (er, ep) x.runs.is; astray = rw (er, ep, eb) x.runs.astray; unfitted = rw (er, ep, eb) x.runs.unfitted };
    }

-- a phase change, a draw and a step
phased_sound : (n : ℕ) (k : Chip) → SoundChip k → SoundChip (phased n k)
unfolding phased
phased_sound n k h =
    pick_either SoundChip (eqb k.processor.phase n) k _ h
    (λ t. same_known k.processor _ refl refl refl (h t))

drawn_sound : (p : Processor) (m rom picture : List ℕ) → Sound p → Sound (drawn p m rom picture).processor
unfolding drawn_page
drawn_sound p m rom picture h =
    draw_known (λ (o : DrawOutcome). Sound o.processor) p m rom picture (λ a e n. h)
    (λ e can t. same_known p _ refl refl refl (h t))

moved_sound : (k : Chip) → Sized k.processor → k.processor.busy ≡ true → SoundChip k → SoundChip (moved (command_in k.processor) k)
moved_sound k s b h =
    let x = h b in
    subst SoundChip (sym (moved_is x.bytes x.aux x.stops k s x.runs))
    (λ t. record { bytes = x.bytes; aux = x.aux; stops = x.stops; runs = position_runs x.bytes x.aux x.stops k s x.runs })

step_sound : (o : Operation) (w : World) → Sized w.processor → Sound w.processor → Sound (step o w).processor
step_sound (write x address v) w s h = write_sound address v (chip_lent x w) s h
step_sound (read x address) w s h = read_sound address (chip_lent x w) h
step_sound (turn x n) w s h = turn_keeps SoundChip n (chip_lent x w) h (phased_sound n (chip_lent x w) h)
step_sound (move x) w s h =
    step_known (λ (o : Outcome). SoundChip o.left) (chip_lent x w) (λ m. h) (λ m i. h) (λ m b. moved_sound (chip_lent x w) s b h)
step_sound (draw x y z) w s h = drawn_sound w.processor (lent_of x w.memory) (lent_of y w.rom) (lent_of z w.picture) h

power_up_sound : (part : Part) (blocks : ℕ) → Sound (powered_up part blocks)
unfolding powered_up
power_up_sound part blocks t = absurd (false≢true t)

pub move_fitted : MoveFitted
move_fitted part blocks m rom picture os busy =
    let w = first part blocks m rom picture in
    let p = (run os w).processor in
    let x =
    (run_known (λ os u. Sized u.processor × Sound u.processor) (λ o os u h. (step_sized o u h.0, step_sound o u h.0 h.1)) os w
    (power_up_sized part blocks, power_up_sound part blocks)).1 busy in
    subst (λ (c : Option Command). (is_move c ≡ true) × (all_fitted (addresses_of c p) ≡ true)) (sym x.runs.is)
    (refl, all_fitted_lem (addresses_of (Some (Move x.bytes x.aux x.stops)) p) x.runs.astray x.runs.unfitted)
