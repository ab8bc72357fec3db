-- Marks are exact over every operation: row r is marked after it exactly when it was before and no accepted draw has cleared it, or the
-- rules mark it.
-- Assumes nothing.
use Rattle.std.specs.Prelude.{Option, Some, None, is_none}
use Prim.Native.Nat.{ℕ, zero, suc, ◌<◌}
use mathlib.Core.Path.{◌≡◌, refl, sym, ap, ◌∙◌}
use mathlib.Core.Bool.{Bool, true, false, not, ◌&&◌, ◌||◌, and-true, and-false, or-false, or_assoc, false≢true}
use mathlib.Core.List.{List}
use lib.Dec.{eqb}
use borrow.Author.Tests.{ne_eqb}
use Rattle.basics.proofs.Choice.{pick_either}
use Rattle.basics.specs.Choice.{pick}
use Rattle.address.specs.declared.triple.Triple.{Triple}
use Rattle.page.specs.Marks.{is_marked}
use Rattle.command.specs.declared.Command.{Command}
use Rattle.command.specs.declared.Command.TheVariants.{Nop, Ind, Krf, Oct, Krl, Move}
use Rattle.processor.specs.declared.state.Processor.{Processor}
use Rattle.command.specs.Answers.{draw_number_of}
use Rattle.processor.specs.States.{Chip, chip, register_of, with_register, cleared}
use Rattle.processor.specs.Pointers.{pointer_of}
use Rattle.address.specs.Narrow.{is_odd, attributes_at, nibble_into}
use Rattle.address.specs.Places.{block_at, loaded}
use Rattle.processor.specs.Bytes.{stored, oct, code_stored, krf, narrow_stored, krl}
use Rattle.processor.specs.Access.{is_astray, is_unfitted, effect, idle, is_whole, Outcome, indirect}
use Rattle.processor.specs.Moves.{carried, carried_all, passed_on, position, position_of, moved}
use Rattle.processor.specs.Draws.{DrawOutcome, drawn_page}
use Rattle.kept.specs.Demands.{MarksExact}
use Rattle.kept.specs.Quiet.{is_marker}
use Rattle.kept.specs.Rules.{store_rule, code_rule, narrow_rule, command_rule, access_rule, carry_rule, move_rule, marks_row}
use Rattle.kept.specs.Runs.{write, read, turn, move, draw, lent_of, chip_lent}
use Rattle.kept.proofs.Marks.{store_marks_exact, indirect_marks_exact, phase_marks_exact, draw_marks_exact, unmarked, store_marks_lem, krf_marks, krl_marks, oct_marks}
use Rattle.kept.proofs.Walk.{Ends, write_known, read_known, turn_known, step_known, draw_known, effect_keeps, command_in, after_write}

module _ (r : ℕ) (l : r < 25) where
  abbrev marked : Chip → Bool
  marked k = is_marked k.processor.marks r

  -- KRF's three stores
  three : (t : Triple) (k : Chip) → marked (code_stored t k) ≡ (marked k || code_rule t k r)
  unfolding code_stored
  three t k =
      let p = k.processor in
      let k1 = stored (block_at t 0) (register_of p 1) k in
      let k2 = stored (block_at t 1) (register_of p 2) k1 in
      let s0 = store_rule (block_at t 0) (register_of p 1) k r in
      let s1 = store_rule (block_at t 1) (register_of p 2) k1 r in
      let s2 = store_rule (block_at t 2) (register_of p 3) k2 r in
      store_marks_exact (block_at t 2) (register_of p 3) k2 r l
      ∙ ap (λ (b : Bool). b || s2)
      (store_marks_exact (block_at t 1) (register_of p 2) k1 r l
      ∙ ap (λ (b : Bool). b || s1) (store_marks_exact (block_at t 0) (register_of p 1) k r l)
      ∙ or_assoc (marked k) s0 s1)
      ∙ or_assoc (marked k) (s0 || s1) s2

  -- KRL's two
  two : (t : Triple) (k : Chip) → marked (narrow_stored t k) ≡ (marked k || narrow_rule t k r)
  unfolding narrow_stored
  two t k =
      let p = k.processor in
      let k1 = stored t (register_of p 1) k in
      let v = nibble_into (is_odd t) (loaded (attributes_at t) k.memory) (register_of p 3) in
      store_marks_exact (attributes_at t) v k1 r l
      ∙ ap (λ (b : Bool). b || store_rule (attributes_at t) v k1 r) (store_marks_exact t (register_of p 1) k r l)
      ∙ or_assoc (marked k) (store_rule t (register_of p 1) k r) (store_rule (attributes_at t) v k1 r)

  at : (a b : List Bool) → a ≡ b → is_marked a r ≡ is_marked b r
  at a b e = ap (λ (q : List Bool). is_marked q r) e

  -- what a command leaves, refused or not
  abbrev settled : Option Command → Chip → Chip
  settled c k = pick (is_none c || (is_astray c k.processor || is_unfitted c k.processor)) k (effect c k)

  -- where it is no marker, the row is marked as it was
  unruled : (c : Option Command) (k : Chip) → is_marker c ≡ false → marked (settled c k) ≡ (marked k || false)
  unruled c k n =
      pick_either (λ (j : Chip). marked j ≡ marked k) (is_none c || (is_astray c k.processor || is_unfitted c k.processor)) k (effect c k) refl
      (at _ _ (effect_keeps is_marker _ (unmarked _) c n k (λ s. absurd (false≢true (sym n ∙ store_marks_lem c s))) refl))
      ∙ sym (or-false (marked k))

  pointed :
      (astray unfitted : Bool) (k done : Chip) (rule : Bool) → marked done ≡ (marked k || rule) →
      marked (pick (astray || unfitted) k done) ≡ (marked k || ((not astray && not unfitted) && rule))
  pointed true unfitted k done rule e = sym (or-false (marked k))
  pointed false true k done rule e = sym (or-false (marked k))
  pointed false false k done rule e = e

  pointed_move :
      (astray unfitted : Bool) (k done : Chip) (rule : Bool) → marked done ≡ (marked k || rule) →
      marked (pick (astray || unfitted) (idle k) done) ≡ (marked k || ((not astray && not unfitted) && rule))
  pointed_move true unfitted k done rule e = sym (or-false (marked k))
  pointed_move false true k done rule e = sym (or-false (marked k))
  pointed_move false false k done rule e = e

  -- a command marks by its rule
  ruled : (c : Option Command) (k : Chip) → marked (settled c k) ≡ (marked k || command_rule c k r)
  unfolding indirect
  ruled (Some Nop) k = unruled (Some Nop) k refl
  ruled (Some (Ind n true)) k = unruled (Some (Ind n true)) k refl
  ruled (Some (Ind n false)) k = indirect_marks_exact k.processor n r l
  ruled (Some (Krf true increments)) k = unruled (Some (Krf true increments)) k refl
  ruled (Some (Krf false increments)) k =
      let t = pointer_of false k.processor in
      let j = chip (cleared k.processor) k.memory in
      pointed (is_astray (Some (Krf false increments)) k.processor) (is_unfitted (Some (Krf false increments)) k.processor) k (krf false increments k) (code_rule t j r) (at _ _ (krf_marks increments k) ∙ three t j)
  ruled (Some (Oct true auxiliary increments)) k = unruled (Some (Oct true auxiliary increments)) k refl
  ruled (Some (Oct false auxiliary increments)) k =
      let t = pointer_of auxiliary k.processor in
      let j = chip (cleared k.processor) k.memory in
      let v = register_of k.processor 1 in
      pointed (is_astray (Some (Oct false auxiliary increments)) k.processor) (is_unfitted (Some (Oct false auxiliary increments)) k.processor) k (oct false auxiliary increments k) (store_rule t v j r) (at _ _ (oct_marks auxiliary increments k) ∙ store_marks_exact t v j r l)
  ruled (Some (Krl true increments)) k = unruled (Some (Krl true increments)) k refl
  ruled (Some (Krl false increments)) k =
      let t = pointer_of false k.processor in
      let j = chip (cleared k.processor) k.memory in
      pointed (is_astray (Some (Krl false increments)) k.processor) (is_unfitted (Some (Krl false increments)) k.processor) k (krl false increments k) (narrow_rule t j r) (at _ _ (krl_marks increments k) ∙ two t j)
  ruled (Some (Move bytes auxiliary stops)) k = unruled (Some (Move bytes auxiliary stops)) k refl
  ruled None k = unruled None k refl

  -- a step marks by the stores of its bytes, one after another
  carried_exact : (bytes : ℕ) (from to : Triple) (k : Chip) → marked (carried_all bytes from to k) ≡ (marked k || carry_rule bytes from to k r)
  unfolding carried_all carried
  carried_exact zero from to k = sym (or-false (marked k))
  carried_exact (suc n) from to k =
      let j = carried_all n from to k in
      let v = loaded (block_at from n) j.memory in
      store_marks_exact (block_at to n) v (chip (with_register j.processor 1 v) j.memory) r l
      ∙ ap (λ (b : Bool). b || store_rule (block_at to n) v j r) (carried_exact n from to k)
      ∙ or_assoc (marked k) (carry_rule n from to k r) (store_rule (block_at to n) v j r)

  -- the pointers that go on, and the end of a move, mark nothing
  position_exact : (c : Option Command) (k : Chip) → marked (moved c k) ≡ (marked k || move_rule c k r)
  unfolding moved position_of position passed_on
  position_exact (Some Nop) k = sym (or-false (marked k))
  position_exact (Some (Ind n reads)) k = sym (or-false (marked k))
  position_exact (Some (Krf reads increments)) k =
      pick_either (λ (j : Chip). marked j ≡ marked k) (is_astray (Some (Krf reads increments)) k.processor || is_unfitted (Some (Krf reads increments)) k.processor) _ _ refl refl
      ∙ sym (or-false (marked k))
  position_exact (Some (Oct reads auxiliary increments)) k =
      pick_either (λ (j : Chip). marked j ≡ marked k)
      (is_astray (Some (Oct reads auxiliary increments)) k.processor || is_unfitted (Some (Oct reads auxiliary increments)) k.processor) _ _ refl refl
      ∙ sym (or-false (marked k))
  position_exact (Some (Krl reads increments)) k =
      pick_either (λ (j : Chip). marked j ≡ marked k) (is_astray (Some (Krl reads increments)) k.processor || is_unfitted (Some (Krl reads increments)) k.processor) _ _ refl refl
      ∙ sym (or-false (marked k))
  position_exact (Some (Move bytes auxiliary stops)) k =
      let from = pointer_of auxiliary k.processor in
      let to = pointer_of (not auxiliary) k.processor in
      let c = Some (Move bytes auxiliary stops) in
      pointed_move (is_astray c k.processor) (is_unfitted c k.processor) k _ (carry_rule bytes from to k r) (carried_exact bytes from to k)
  position_exact None k = sym (or-false (marked k))

  -- the register access itself marks nothing
  access_exact :
      (address : ℕ) (held : Bool) (v : ℕ) (k : Chip) (p : Processor) → k.processor.marks ≡ p.marks →
      Ends address held v k p (λ (o : Outcome). marked o.left ≡ ((is_marked p.marks r && true) || access_rule address held (chip p k.memory) r))
  access_exact address held v k p e =
      let j = chip p k.memory in
      let command = ruled (command_in p) j in
      record {
        wrong_memory = λ m. rw (m, and-true, or-false) (at _ _ e);
        wrong_address = λ m a. rw (m, a, and-true, or-false) (at _ _ e);
        busy = λ m a b. rw (m, a, b, and-true, or-false) (at _ _ e);
        not_executed = λ m a b x. rw (m, a, b, x, and-true, or-false);
        not_listed = λ m a b x u. rw (m, a, b, x, and-true) (rw u at command);
        bad_pointer = λ m a b x u s. rw (m, a, b, x, and-true) (rw (u, s) at command);
        not_fitted = λ m a b x u s f. rw (m, a, b, x, and-true) (rw (u, s, f) at command);
        accepted = λ m a b x u s f. rw (m, a, b, x, and-true) (rw (u, s, f) at command);
      }

-- a step's rule where it is not refused and a move runs
runs_exact :
    (whole busy before after rule : Bool) → whole ≡ true → busy ≡ true → after ≡ (before || rule) → after ≡ ((before && true) || (whole && (busy && rule)))
runs_exact true true before after rule m b e = e ∙ ap (λ (t : Bool). t || rule) (sym (and-true before))
runs_exact true false before after rule m b e = absurd (false≢true b)
runs_exact false busy before after rule m b e = absurd (false≢true m)

pub marks_exact : MarksExact
unfolding drawn_page
marks_exact (write x address v) w r l =
    let k = chip_lent x w in write_known _ address v k (access_exact r l address _ 0 k (after_write address v k) refl)
marks_exact (read x address) w r l = let k = chip_lent x w in read_known _ address k (access_exact r l address _ _ k w.processor refl)
marks_exact (turn x n) w r l =
    let k = chip_lent x w in
    turn_known (λ (o : Outcome). marked r l o.left ≡ ((marked r l k && true) || marks_row (turn x n) w r)) n k
    (λ m. rw (m, and-true, or-false))
    (λ m e. rw (m, e, and-true, or-false))
    (λ m e. rw (m, e, and-true) (phase_marks_exact n k r l))
marks_exact (move x) w r l =
    let k = chip_lent x w in
    step_known (λ (o : Outcome). marked r l o.left ≡ ((marked r l k && true) || marks_row (move x) w r)) k
    (λ m. rw (m, and-true, or-false))
    (λ m i. rw (m, i, and-true, or-false))
    (λ m b. runs_exact (is_whole k) k.processor.busy (marked r l k) _ (move_rule (command_in k.processor) k r) m b (position_exact r l (command_in k.processor) k))
marks_exact (draw x y z) w r l =
    let m = lent_of x w.memory in
    let rom = lent_of y w.rom in
    let picture = lent_of z w.picture in
    let before = is_marked w.processor.marks r in
    draw_known (λ (o : DrawOutcome). is_marked o.processor.marks r ≡ ((before && not (eqb (draw_number_of o.answer) 0)) || false))
    w.processor m rom picture
    (λ a e n. rw (ne_eqb (draw_number_of a) 0 n, and-true, or-false))
    (λ e can. rw and-false (draw_marks_exact w.processor m rom picture r l))
