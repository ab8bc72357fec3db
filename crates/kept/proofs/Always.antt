-- Demand 3: after each accepted draw of any run from power-up, the picture is the one drawn afresh.
-- Assumes nothing.
use Rattle.std.specs.Prelude.{Result}
use Prim.Native.Nat.{ℕ, ◌<◌}
use mathlib.Core.Path.{◌≡◌, refl, sym, ap, subst, ◌∙◌}
use mathlib.Core.Bool.{Bool, true, false, not, ◌&&◌, ◌||◌, false≢true}
use mathlib.Core.List.{List}
use mathlib.Core.Logic.{◌≢◌, ◌⊎◌, inl, inr, ⊎_elim}
use native.Mathlib.Omega.{arith}
use lib.Dec.{eqb}
use lib.ListN.{length, get_or, set}
use lib.Seq.{get_or-set_other, set-get_or}
use borrow.Author.Tests.{eqb-true, ne_eqb}
use Rattle.basics.specs.Parts.{part_of}
use Rattle.basics.specs.Choice.{pick}
use Rattle.basics.proofs.Choice.{pick_known, pick_either, pick_same}
use Rattle.basics.proofs.Parts.{table_at}
use Rattle.address.specs.Places.{place_at}
use Rattle.address.specs.declared.triple.Triple.{Triple}
use Rattle.shown.specs.declared.Shown.{Shown}
use Rattle.board.specs.Boards.{bytes_of}
use Rattle.board.specs.declared.Part.{Part}
use Rattle.shown.specs.Lengths.{rom_bytes, row_bytes, picture_bytes}
use Rattle.shown.specs.Modes.{is_eighty, column_bytes}
use Rattle.shown.specs.Refusals.{refused7}
use Rattle.shown.proofs.Modes.{bytes_same}
use Rattle.shown.proofs.Refusals.{can_draw_same}
use Rattle.page.specs.Marks.{is_marked, all_marked}
use Rattle.picture.specs.Redraws.{redrawn, fresh}
use Rattle.picture.proofs.Redrawing.{redrawn_fresh, fresh_part}
use Rattle.picture.proofs.Registers.{row_ignores}
use Rattle.processor.specs.declared.state.Processor.{Processor}
use Rattle.command.specs.declared.answer.DrawRefusal.{DrawRefusal}
use Rattle.command.specs.Answers.{draw_number_of}
use Rattle.processor.specs.States.{Chip, chip, shown_by, shown_of, powered_up, register_of, indirect_written}
use Rattle.processor.specs.Bytes.{stored}
use Rattle.processor.specs.Access.{phased}
use Rattle.processor.specs.Draws.{DrawOutcome, drawn_page, drawn}
use Rattle.kept.specs.Fresh.{FreshOn, Fresh, FreshIn}
use Rattle.kept.specs.Demands.{DrawFresh}
use Rattle.kept.specs.Orders.{first_of, order, is_late}
use Rattle.kept.specs.Premises.{EveryRowMarked, Fair, FairRun}
use Rattle.kept.specs.Runs.{Lent, own, other, Operation, write, read, turn, move, draw, World, first, step, run, done, lent_of, chip_lent}
use Rattle.kept.specs.Rules.{is_shown}
use Rattle.kept.proofs.Numbers.{number_first}
use Rattle.kept.proofs.Refusals.{refusal_stays}
use Rattle.kept.proofs.Walk as walk
use Rattle.kept.proofs.Walk.{draw_known, KeptBy, none_barred, write_keeps, read_keeps, turn_keeps, run_known}
use Rattle.kept.proofs.Steps.{store_before, store_keeps, phase_before, phase_keeps}

-- no change, or MAT in 40 columns
unmarked_change : (a b c : Bool) → (not a && (not b || c)) ≡ false → (a ≡ true) ⊎ ((b ≡ true) × (c ≡ false))
unmarked_change true b c e = inl refl
unmarked_change false true false e = inr (refl, refl)
unmarked_change false true true e = absurd (false≢true (sym e))
unmarked_change false false c e = absurd (false≢true (sym e))

-- every row is marked at power-up
all_marked_lem : (r : ℕ) → r < 25 → is_marked all_marked r ≡ true
all_marked_lem r l = table_at (λ s. true) 25 r false l

module _ (rom picture : List ℕ) where
  abbrev FreshChip : Chip → Type 0
  FreshChip k = Fresh k.processor k.memory rom picture

  stored_fresh : (t : Triple) (v : ℕ) (k : Chip) → FreshChip k → FreshChip (stored t v k)
  unfolding stored
  stored_fresh t v k f r l e =
      let p = k.processor in
      let shown = shown_of p in
      let b = f r l (store_before shown k.memory (place_at t) v p.marks r l e) in
      (b.0, b.1 ∙ sym (store_keeps shown k.memory (place_at t) v p.marks b.0 r l e rom))

  -- IND: an equal value leaves the register, MAT is not looked at in 40 columns, and any other change marks every row
  module _ (i : List ℕ) (phase blocks : ℕ) (part : Part) (marks : List Bool) (m : List ℕ) (f : FreshOn (shown_by i phase blocks part) marks m rom picture) where
    equal_fresh : (r v : ℕ) → get_or i r 0 ≡ v → FreshOn (shown_by (set i r v) phase blocks part) marks m rom picture
    equal_fresh r v e =
        subst (λ (j : List ℕ). FreshOn (shown_by j phase blocks part) marks m rom picture) (sym (ap (set i r) (sym e) ∙ set-get_or i r 0)) f

    mat_fresh : (v : ℕ) → is_eighty (shown_by i phase blocks part) ≡ false → FreshOn (shown_by (set i 2 v) phase blocks part) marks m rom picture
    mat_fresh v forty s l e =
        let old = shown_by i phase blocks part in
        let new = shown_by (set i 2 v) phase blocks part in
        let tgs = get_or-set_other i 2 1 v 0 (λ q. omega arith) in
        let pat = get_or-set_other i 2 3 v 0 (λ q. omega arith) in
        let dor = get_or-set_other i 2 4 v 0 (λ q. omega arith) in
        let ror = get_or-set_other i 2 7 v 0 (λ q. omega arith) in (
          can_draw_same new old tgs refl pat ror ∙ (f s l e).0,
          ap (λ (k : ℕ). part_of (row_bytes k) picture s) (bytes_same new old tgs refl)
              ∙ (f s l e).1
              ∙ row_ignores old new (sym tgs) (sym pat) (sym dor) (sym ror) refl refl m rom s forty refl,
        )

    same_or_mat :
        (r v : ℕ) → (not (eqb (get_or i r 0) v) && (not (eqb r 2) || is_eighty (shown_by i phase blocks part))) ≡ false →
        FreshOn (shown_by (set i r v) phase blocks part) marks m rom picture
    same_or_mat r v e =
        ⊎_elim (λ t. equal_fresh r v (eqb-true _ _ t))
        (λ t. subst (λ (j : ℕ). FreshOn (shown_by (set i j v) phase blocks part) marks m rom picture) (sym (eqb-true r 2 t.0)) (mat_fresh v t.1))
        (unmarked_change (eqb (get_or i r 0) v) (eqb r 2) (is_eighty (shown_by i phase blocks part)) e)

  marked_fresh : (shown : Shown) (m : List ℕ) → FreshOn shown all_marked m rom picture
  marked_fresh shown m s l e = absurd (false≢true (sym e ∙ all_marked_lem s l))

  indirect_fresh : (r : ℕ) (k : Chip) → FreshChip k → FreshChip (chip (indirect_written k.processor r) k.memory)
  unfolding indirect_written
  indirect_fresh r k f =
      let p = k.processor in
      let new = shown_by (set p.indirect r (register_of p 1)) p.phase p.blocks p.part in
      pick_known (λ (marks : List Bool). FreshOn new marks k.memory rom picture)
      (not (eqb (get_or p.indirect r 0) (register_of p 1)) && (not (eqb r 2) || is_eighty (shown_of p))) all_marked p.marks
      (λ e. marked_fresh new k.memory)
      (λ e. same_or_mat p.indirect p.phase p.blocks p.part p.marks k.memory f r (register_of p 1) e)

  -- no other register is looked at, no LX bit and not busy
  fresh_kept : KeptBy none_barred FreshChip
  fresh_kept =
      record {
        register = λ k n v f. f;
        lx = λ k m a f. f;
        store = λ c s n t g v k f. stored_fresh t v k f;
        ind = λ r n k f. indirect_fresh r k f;
        busy = λ c t n k b f. f;
      }

  phased_fresh : (n : ℕ) (k : Chip) → FreshChip k → FreshChip (phased n k)
  unfolding phased
  phased_fresh n k f =
      let p = k.processor in
      let shown = shown_of p in
      let turned = shown_by p.indirect n p.blocks p.part in
      pick_known FreshChip (eqb p.phase n) k _ (λ e. f)
      (λ e r l u.
      let b = f r l (phase_before shown k.memory p.marks r l u) in (
        can_draw_same turned shown refl refl refl refl ∙ b.0,
        ap (λ (k : ℕ). part_of (row_bytes k) picture r) (bytes_same turned shown refl refl)
            ∙ b.1
            ∙ phase_keeps shown k.memory p.marks r l turned refl refl refl refl refl refl refl b.0 u rom,
      ))

-- the draw, of a picture whose unmarked rows are fresh: an accepted one leaves the fresh picture
module _ (p : Processor) (m rom picture : List ℕ) (f : Fresh p m rom picture) where
  abbrev seen : Shown
  seen = shown_of p

  page_fresh : redrawn p.marks picture m rom seen ≡ fresh m rom seen
  page_fresh = redrawn_fresh p.marks picture m rom seen (λ r l e. (f r l e).1)

  -- keep n q is what is kept of a picture q that a draw with number n left: an accepted draw's
  module _ (keep : ℕ → List ℕ → List ℕ) (keeps : (q : List ℕ) → keep 0 q ≡ q) where
    abbrev LeftFresh : DrawOutcome → Type 0
    LeftFresh o = Fresh o.processor m rom (keep (draw_number_of o.answer) o.picture)

    abbrev DrawnFresh : DrawOutcome → Type 0
    DrawnFresh o = draw_number_of o.answer ≡ 0 → keep (draw_number_of o.answer) o.picture ≡ fresh m rom (shown_of o.processor)

    page_kept : keep 0 (redrawn p.marks picture m rom seen) ≡ fresh m rom seen
    page_kept = keeps (redrawn p.marks picture m rom seen) ∙ page_fresh

    page_left : is_shown p ≡ true → LeftFresh (drawn_page p m rom picture)
    unfolding drawn_page
    page_left can r l e = (can, ap (λ (q : List ℕ). part_of (row_bytes (column_bytes seen)) q r) page_kept ∙ fresh_part m rom seen r l)

    page_drawn : DrawnFresh (drawn_page p m rom picture)
    unfolding drawn_page
    page_drawn z = page_kept

    pub drawn_left :
        ((a : Result ℕ DrawRefusal) → draw_number_of a ≢ 0 → Fresh p m rom (keep (draw_number_of a) picture)) → LeftFresh (drawn p m rom picture)
    drawn_left refused = draw_known LeftFresh p m rom picture (λ a s n. refused a n) (λ s can. page_left can)

    pub drawn_accepted : DrawnFresh (drawn p m rom picture)
    drawn_accepted = draw_known DrawnFresh p m rom picture (λ a s n z. absurd (n z)) (λ s can. page_drawn)

-- every row marked: any picture will do
marked_any : (w : World) → EveryRowMarked w → (picture : List ℕ) → Fresh w.processor w.memory w.rom picture
marked_any w all picture r l e = absurd (false≢true (sym e ∙ all r (omega arith)))

-- what is lent with a wrong length is refused, and then nothing has changed
wrong_access : (o : Operation) (w : World) → first_of (order o w) ≡ 1 → step o w ≡ w
wrong_access o w e = let one = number_first o w ∙ e in refusal_stays o w (λ z. absurd (omega arith)) (rw one)

refused_draw : (x y z : Lent) (w : World) → first_of (order (draw x y z) w) ≢ 0 → step (draw x y z) w ≡ w
refused_draw x y z w n = refusal_stays (draw x y z) w (λ e. n (sym (number_first (draw x y z) w) ∙ e)) (pick_same (is_late (done (draw x y z) w).number) w.processor)

module _ (x y z : Lent) (w : World) where
  abbrev m : List ℕ
  m = lent_of x w.memory

  abbrev rom : List ℕ
  rom = lent_of y w.rom

  abbrev picture : List ℕ
  picture = lent_of z w.picture

  abbrev Refused : Type 0
  Refused = first_of (order (draw x y z) w) ≢ 0

  abbrev memory_bytes : ℕ
  memory_bytes = bytes_of w.processor.blocks

  abbrev asks_rom : ℕ
  asks_rom = rom_bytes w.processor.part

  wrong_memory : length m ≢ memory_bytes → Refused
  wrong_memory n = rw (ne_eqb (length m) memory_bytes n) (λ e. absurd (omega arith))

  wrong_rom : length rom ≢ asks_rom → Refused
  wrong_rom n =
      pick_either (λ i. i ≢ 0) (not (eqb (length m) memory_bytes)) 1 _ (λ e. absurd (omega arith))
      (rw (ne_eqb (length rom) asks_rom n) (λ e. absurd (omega arith)))

  abbrev asked : ℕ
  asked = picture_bytes (column_bytes (shown_of w.processor))

  wrong_picture : length picture ≢ asked → Refused
  wrong_picture n =
      pick_either (λ i. i ≢ 0) (not (eqb (length m) memory_bytes)) 1 _ (λ e. absurd (omega arith))
      (pick_either (λ i. i ≢ 0) (not (eqb (length rom) asks_rom)) 5 _ (λ e. absurd (omega arith))
      (pick_either (λ i. i ≢ 0) (refused7 (shown_of w.processor)) 7 _ (λ e. absurd (omega arith))
      (rw (ne_eqb (length picture) asked n) (λ e. absurd (omega arith)))))

-- each operation, and so each run
same_fresh : (w u : World) → u ≡ w → FreshIn w → FreshIn u
same_fresh w u e f = subst FreshIn (sym e) f

first_is_1 : (m : List ℕ) (asked rest : ℕ) → length m ≢ asked → pick (not (eqb (length m) asked)) 1 rest ≡ 1
first_is_1 m asked rest n = rw (ne_eqb (length m) asked n)

draw_keeps : (x y z : Lent) (w : World) → Fair (draw x y z) w → FreshIn w → FreshIn (step (draw x y z) w)
draw_keeps (other b) y z w g f = same_fresh w _ (refused_draw (other b) y z w (wrong_memory (other b) y z w g.0)) f
draw_keeps own (other b) z w g f = same_fresh w _ (refused_draw own (other b) z w (wrong_rom own (other b) z w g.1)) f
draw_keeps own own own w g f = drawn_left w.processor w.memory w.rom w.picture f (λ n q. q) (λ q. refl) (λ a n. f)
draw_keeps own own (other b) w g f =
    ⊎_elim (λ n. same_fresh w _ (refused_draw own own (other b) w (wrong_picture own own (other b) w n)) f)
    (λ all.
    drawn_left w.processor w.memory w.rom b (marked_any w all b) (λ n q. pick (eqb n 0) q w.picture) (λ q. refl)
    (λ a n. rw (ne_eqb (draw_number_of a) 0 n) f))
    g.2

step_keeps : (o : Operation) (w : World) → Fair o w → FreshIn w → FreshIn (step o w)
step_keeps (write own address v) w g f = write_keeps none_barred _ (fresh_kept w.rom w.picture) address v (chip_lent own w) (λ x. refl) f
step_keeps (write (other b) address v) w g f = same_fresh w _ (wrong_access (write (other b) address v) w (first_is_1 b _ _ g)) f
step_keeps (read own address) w g f = read_keeps none_barred _ (fresh_kept w.rom w.picture) address (chip_lent own w) (λ x. refl) f
step_keeps (read (other b) address) w g f = same_fresh w _ (wrong_access (read (other b) address) w (first_is_1 b _ _ g)) f
step_keeps (turn own n) w g f =
    let k = chip_lent own w in turn_keeps (FreshChip w.rom w.picture) n k f (phased_fresh w.rom w.picture n k f)
step_keeps (turn (other b) n) w g f = same_fresh w _ (wrong_access (turn (other b) n) w (first_is_1 b _ _ g)) f
step_keeps (move own) w g f =
    walk.step_keeps (FreshChip w.rom w.picture) (λ k n v h. h) (λ k b h. h) (λ t l v k h. stored_fresh w.rom w.picture t v k h) (chip_lent own w) f
step_keeps (move (other b)) w g f = same_fresh w _ (wrong_access (move (other b)) w (first_is_1 b _ _ g)) f
step_keeps (draw x y z) w g f = draw_keeps x y z w g f

first_fresh : (part : Part) (blocks : ℕ) (m rom picture : List ℕ) → FreshIn (first part blocks m rom picture)
unfolding powered_up
first_fresh part blocks m rom picture = marked_fresh rom picture (shown_of (powered_up part blocks)) m

-- each unmarked row is fresh, and there is one only while a draw would get neither 7 nor 8
pub always_fresh :
    (part : Part) (blocks : ℕ) (m rom picture : List ℕ) (os : List Operation) → FairRun os (first part blocks m rom picture) →
    FreshIn (run os (first part blocks m rom picture))
always_fresh part blocks m rom picture os g =
    (run_known (λ os u. FairRun os u × FreshIn u) (λ o os u h. (h.0.1, step_keeps o u h.0.0 h.1)) os (first part blocks m rom picture)
    (g, first_fresh part blocks m rom picture)).1

-- a draw that is accepted leaves the picture drawn afresh
draw_accepted :
    (x y z : Lent) (w : World) → Fair (draw x y z) w → FreshIn w → (done (draw x y z) w).number ≡ 0 →
    let after = step (draw x y z) w in after.picture ≡ fresh after.memory after.rom (shown_of after.processor)
draw_accepted (other b) y z w g f e = absurd (wrong_memory (other b) y z w g.0 (sym (number_first (draw (other b) y z) w) ∙ e))
draw_accepted own (other b) z w g f e = absurd (wrong_rom own (other b) z w g.1 (sym (number_first (draw own (other b) z) w) ∙ e))
draw_accepted own own own w g f e = drawn_accepted w.processor w.memory w.rom w.picture f (λ n q. q) (λ q. refl) e
draw_accepted own own (other b) w g f e =
    ⊎_elim (λ n. absurd (wrong_picture own own (other b) w n (sym (number_first (draw own own (other b)) w) ∙ e)))
    (λ all.
    drawn_accepted w.processor w.memory w.rom b (marked_any w all b) (λ n q. pick (eqb n 0) q w.picture) (λ q. refl) e)
    g.2

pub draw_fresh : DrawFresh
draw_fresh part blocks m rom picture os x y z fair g e =
    draw_accepted x y z (run os (first part blocks m rom picture)) g (always_fresh part blocks m rom picture os fair) e
