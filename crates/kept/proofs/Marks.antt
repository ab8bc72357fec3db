-- Marks are exact: after each thing that can mark, row r is marked exactly when it was before, or the rule marks it.
-- Assumes nothing.
use Rattle.std.specs.Prelude.{Option, Some, None}
use Prim.Native.Nat.{ℕ, ◌<◌}
use mathlib.Core.Path.{◌≡◌, refl, sym, ◌∙◌}
use mathlib.Core.Bool.{Bool, true, false, not, ◌&&◌, ◌||◌, false≢true, or-false, or-true}
use mathlib.Core.List.{List}
use lib.Dec.{eqb}
use lib.ListN.{get_or}
use Rattle.basics.proofs.Choice.{and_none}
use Rattle.basics.specs.Bits.{bits, is_set}
use Rattle.basics.specs.Choice.{pick}
use Rattle.basics.proofs.Parts.{table_at}
use Rattle.address.specs.declared.triple.Triple.{Triple}
use Rattle.shown.specs.Modes.{is_eighty}
use Rattle.page.specs.Marks.{is_marked, marked_too, all_marked}
use Rattle.reading.specs.Lists.{on_list}
use Rattle.reading.specs.Marks.{store_marks, flash_in, phase_marks}
use Rattle.processor.specs.declared.state.Processor.{Processor}
use Rattle.processor.specs.States.{Chip, chip, register_of, indirect_written, with_phase, with_register, cleared, shown_of}
use Rattle.command.specs.declared.Command.{Command}
use Rattle.command.specs.declared.Command.TheVariants.{Nop, Ind, Krf, Oct, Krl, Move}
use Rattle.command.specs.Commands.{command_for}
use Rattle.processor.specs.Pointers.{pointer_of}
use Rattle.address.specs.Places.{place_at, loaded}
use Rattle.processor.specs.Bytes.{stored, oct, code_stored, krf, narrow_stored, krl}
use Rattle.processor.specs.Access.{written, read_out, phased}
use Rattle.processor.specs.Draws.{drawn_page}
use Rattle.kept.specs.Quiet.{is_store, is_marker}
use Rattle.kept.specs.Rules.{is_shown, store_rule, indirect_rule, phase_rule}
use Rattle.kept.proofs.Walk.{KeptBy, advance_keeps, asked_keeps, effect_keeps, write_keeps, read_keeps}

too :
    (b : Bool) (f : ℕ → Bool) (marks : List Bool) (r : ℕ) → r < 25 → is_marked (pick b (marked_too f marks) marks) r ≡ (is_marked marks r || (b && f r))
unfolding marked_too
too true f marks r l = table_at (λ s. is_marked marks s || f s) 25 r false l
too false f marks r l = sym (or-false (is_marked marks r))

all :
    (b : Bool) (marks : List Bool) (r : ℕ) → r < 25 → is_marked (pick b all_marked marks) r ≡ (is_marked marks r || b)
all true marks r l = table_at (λ s. true) 25 r false l ∙ sym (or-true (is_marked marks r))
all false marks r l = sym (or-false (is_marked marks r))

-- a store
pub store_marks_exact :
    (t : Triple) (v : ℕ) (k : Chip) (r : ℕ) → r < 25 →
    is_marked (stored t v k).processor.marks r ≡ (is_marked k.processor.marks r || store_rule t v k r)
unfolding stored store_marks
store_marks_exact t v k r l =
    let p = k.processor in
    too (is_shown p && not (eqb (loaded t k.memory) v)) (on_list (shown_of p) k.memory (place_at t)) p.marks r l

-- IND
pub indirect_marks_exact :
    (p : Processor) (n r : ℕ) → r < 25 → is_marked (indirect_written p n).marks r ≡ (is_marked p.marks r || indirect_rule n p)
unfolding indirect_written
indirect_marks_exact p n r l = all (not (eqb (get_or p.indirect n 0) (register_of p 1)) && (not (eqb n 2) || is_eighty (shown_of p))) p.marks r l

turns :
    (same can : Bool) (f : ℕ → Bool) (n : ℕ) (k : Chip) (r : ℕ) → r < 25 →
    is_marked (pick same k (chip (with_phase k.processor n (pick can (marked_too f k.processor.marks) k.processor.marks)) k.memory)).processor.marks r
    ≡ (is_marked k.processor.marks r || (not same && (can && f r)))
turns true can f n k r l = sym (or-false (is_marked k.processor.marks r))
turns false can f n k r l = too can f k.processor.marks r l

-- a phase change
pub phase_marks_exact :
    (n : ℕ) (k : Chip) (r : ℕ) → r < 25 → is_marked (phased n k).processor.marks r ≡ (is_marked k.processor.marks r || phase_rule n k r)
unfolding phased phase_marks
phase_marks_exact n k r l =
    let p = k.processor in turns (eqb p.phase n) (is_shown p) (flash_in (shown_of p) k.memory) n k r l

-- an accepted draw clears them
pub draw_marks_exact :
    (p : Processor) (m rom picture : List ℕ) (r : ℕ) → r < 25 → is_marked (drawn_page p m rom picture).processor.marks r ≡ false
unfolding drawn_page
draw_marks_exact p m rom picture r l = table_at (λ s. false) 25 r false l

-- each command that stores marks too
pub store_marks_lem : (c : Option Command) → is_store c ≡ true → is_marker c ≡ true
store_marks_lem (Some Nop) e = e
store_marks_lem (Some (Ind r true)) e = e
store_marks_lem (Some (Ind r false)) e = refl
store_marks_lem (Some (Krf reads increments)) e = e
store_marks_lem (Some (Oct reads auxiliary increments)) e = e
store_marks_lem (Some (Krl reads increments)) e = e
store_marks_lem (Some (Move bytes auxiliary stops)) e = e
store_marks_lem None e = e

-- a command that marks nothing keeps the marks
pub unmarked : (l : List Bool) → KeptBy is_marker (λ (k : Chip). k.processor.marks ≡ l)
unmarked l =
    record {
      register = λ k n v e. e;
      lx = λ k m a e. e;
      store = λ c s n t g v k e. absurd (false≢true (sym n ∙ store_marks_lem c s));
      ind = λ r n k e. absurd (false≢true (sym n));
      busy = λ c t n k b e. e;
    }

-- KRF marks by its three stores, KRL by its two and OCT by its one, each by the lists just before it; the forms that read mark nothing
pub krf_marks :
    (increments : Bool) (k : Chip) →
    (krf false increments k).processor.marks ≡ (code_stored (pointer_of false k.processor) (chip (cleared k.processor) k.memory)).processor.marks
unfolding krf
krf_marks increments k = asked_keeps is_marker _ (unmarked _) increments false (code_stored _ _) refl

pub krl_marks :
    (increments : Bool) (k : Chip) →
    (krl false increments k).processor.marks ≡ (narrow_stored (pointer_of false k.processor) (chip (cleared k.processor) k.memory)).processor.marks
unfolding krl
krl_marks increments k = advance_keeps is_marker _ (unmarked _) increments (narrow_stored _ _) refl

pub krf_read_marks : (increments : Bool) (k : Chip) → (krf true increments k).processor.marks ≡ k.processor.marks
krf_read_marks increments k = effect_keeps is_marker _ (unmarked _) (Some (Krf true increments)) refl k (λ s. absurd (false≢true s)) refl

pub oct_marks :
    (auxiliary increments : Bool) (k : Chip) →
    (oct false auxiliary increments k).processor.marks
    ≡ (stored (pointer_of auxiliary k.processor) (register_of k.processor 1) (chip (cleared k.processor) k.memory)).processor.marks
unfolding oct
oct_marks auxiliary increments k = asked_keeps is_marker _ (unmarked _) increments auxiliary (stored _ _ _) refl

pub oct_read_marks : (auxiliary increments : Bool) (k : Chip) → (oct true auxiliary increments k).processor.marks ≡ k.processor.marks
oct_read_marks auxiliary increments k = effect_keeps is_marker _ (unmarked _) (Some (Oct true auxiliary increments)) refl k (λ s. absurd (false≢true s)) refl

-- every other access marks nothing
pub write_unmarked :
    (address v : ℕ) (k : Chip) →
    let p = with_register k.processor (bits 0 3 address) v in
    (is_set 3 address && is_marker (command_for p.part (register_of p 0))) ≡ false → (written address v k).left.processor.marks ≡ k.processor.marks
write_unmarked address v k n = write_keeps is_marker _ (unmarked k.processor.marks) address v k (and_none (is_set 3 address) _ n) refl

pub read_unmarked :
    (address : ℕ) (k : Chip) → (is_set 3 address && is_marker (command_for k.processor.part (register_of k.processor 0))) ≡ false →
    (read_out address k).left.processor.marks ≡ k.processor.marks
read_unmarked address k n = read_keeps is_marker _ (unmarked k.processor.marks) address k (and_none (is_set 3 address) _ n) refl
