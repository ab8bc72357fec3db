-- The steps of demand 3: while a draw would get neither 7 nor 8, a row that a store or a phase change leaves unmarked keeps its
-- bytes, for every ROM.
-- Assumes nothing.
use Prim.Native.Nat.{ℕ, ◌<◌}
use mathlib.Core.Path.{◌≡◌, sym, ap, ◌∙◌}
use mathlib.Core.Bool.{Bool, true, false, not, ◌&&◌, ◌||◌}
use mathlib.Core.List.{List}
use mathlib.Core.Logic.{⊎_elim}
use lib.Dec.{eqb}
use lib.ListN.{set}
use lib.Seq.{set-get_or}
use borrow.Author.Tests.{eqb-true}
use Rattle.basics.specs.Choice.{pick}
use Rattle.basics.proofs.Choice.{bool_cases, or_none, or_neither}
use Rattle.basics.specs.Below.{any_below}
use Rattle.basics.proofs.Below.{any_same}
use Rattle.basics.proofs.Parts.{table_at}
use Rattle.address.specs.Places.{byte_at}
use Rattle.shown.specs.declared.Shown.{Shown}
use Rattle.shown.specs.Modes.{is_eighty}
use Rattle.shown.specs.Refusals.{can_draw}
use Rattle.narrow.specs.Codes.{pair_flashes}
use Rattle.page.specs.Codes.{code_at}
use Rattle.page.specs.Inputs.{CellInput, cell_input, row_input, flashes, no_input}
use Rattle.page.specs.Marks.{is_marked, marked_too}
use Rattle.picture.specs.Rows.{row_of}
use Rattle.reading.specs.Lists.{on_list}
use Rattle.reading.specs.Marks.{store_marks, flash_in, phase_marks}
use Rattle.reading.proofs.Stable.{agree_off}
use Rattle.rows.proofs.Phases.{any_flashes}
use Rattle.eighty.proofs.Registers.{any_pair_flashes}
use Rattle.picture.proofs.Registers.{row_steady}
use Rattle.kept.proofs.Frame.{frame_law}

-- a row that was not marked too was not marked before
not_before : (f : ℕ → Bool) (marks : List Bool) (r : ℕ) → r < 25 → is_marked (marked_too f marks) r ≡ false → is_marked marks r ≡ false
unfolding marked_too
not_before f marks r l e = or_neither (is_marked marks r) (f r) (sym (table_at (λ s. is_marked marks s || f s) 25 r false l) ∙ e)

chosen_before :
    (b : Bool) (f : ℕ → Bool) (marks : List Bool) (r : ℕ) → r < 25 → is_marked (pick b (marked_too f marks) marks) r ≡ false → is_marked marks r ≡ false
chosen_before true f marks r l e = not_before f marks r l e
chosen_before false f marks r l e = e

-- and it did not pass
not_passed : (f : ℕ → Bool) (marks : List Bool) (r : ℕ) → r < 25 → is_marked (marked_too f marks) r ≡ false → f r ≡ false
unfolding marked_too
not_passed f marks r l e = or_none (is_marked marks r) (f r) (sym (table_at (λ s. is_marked marks s || f s) 25 r false l) ∙ e)

-- a store
pub store_before :
    (shown : Shown) (m : List ℕ) (p v : ℕ) (marks : List Bool) (r : ℕ) → r < 25 →
    is_marked (store_marks shown m p v marks) r ≡ false → is_marked marks r ≡ false
unfolding store_marks
store_before shown m p v marks r l e = chosen_before (can_draw shown && not (eqb (byte_at m p) v)) (on_list shown m p) marks r l e

module _ (shown : Shown) (m : List ℕ) (p v : ℕ) (marks : List Bool) (can : can_draw shown ≡ true) (r : ℕ) (l : r < 25) where
  abbrev Same-bytes : Type 0
  Same-bytes = (rom : List ℕ) → row_of (set m p v) rom shown r ≡ row_of m rom shown r

  unchanged : byte_at m p ≡ v → Same-bytes
  unchanged e rom = ap (λ (n : List ℕ). row_of n rom shown r) (ap (set m p) (sym e) ∙ set-get_or m p 0)

  changed : eqb (byte_at m p) v ≡ false → is_marked (store_marks shown m p v marks) r ≡ false → Same-bytes
  unfolding store_marks
  changed e unmarked rom =
      sym (frame_law shown m (set m p v) r
      (agree_off shown m p v r
      (not_passed (on_list shown m p) marks r l (rw (can, e) at unmarked)))
      rom)

  pub store_keeps : is_marked (store_marks shown m p v marks) r ≡ false → Same-bytes
  store_keeps unmarked = ⊎_elim (λ e. unchanged (eqb-true _ _ e)) (λ e. changed e unmarked) (bool_cases (eqb (byte_at m p) v))

-- a phase change
module _ (shown : Shown) (m : List ℕ) (marks : List Bool) (r : ℕ) (l : r < 25) where
  pub phase_before : is_marked (phase_marks shown m marks) r ≡ false → is_marked marks r ≡ false
  unfolding phase_marks
  phase_before e = chosen_before (can_draw shown) (flash_in shown m) marks r l e

  abbrev flashes_by : Bool → Bool
  flashes_by eighty = any_below (λ x. pick eighty (pair_flashes (code_at shown m r x)) (flashes shown.part (code_at shown m r x))) 40

  -- no cell flashes, in each mode
  still_eighty : flash_in shown m r ≡ false → is_eighty shown ≡ true → any_pair_flashes shown m r ≡ false
  unfolding flash_in
  still_eighty e eighty = sym (ap flashes_by eighty) ∙ e

  still_forty : flash_in shown m r ≡ false → is_eighty shown ≡ false → any_flashes shown.part (row_input shown m r) ≡ false
  unfolding flash_in row_input cell_input
  still_forty e forty =
      any_same _ _ 40 (λ x h. ap (λ (c : CellInput). flashes shown.part c.code) (table_at (cell_input shown m r) 40 x no_input h))
      ∙ sym (ap flashes_by forty)
      ∙ e

  -- b is what is shown in another phase
  pub phase_keeps :
      (b : Shown) → shown.tgs ≡ b.tgs → shown.mat ≡ b.mat → shown.pat ≡ b.pat → shown.dor ≡ b.dor → shown.ror ≡ b.ror → shown.blocks ≡ b.blocks →
      shown.part ≡ b.part → can_draw shown ≡ true → is_marked (phase_marks shown m marks) r ≡ false → (rom : List ℕ) → row_of m rom shown r ≡ row_of m rom b r
  unfolding phase_marks
  phase_keeps b tgs mat pat dor ror blocks part can e rom =
      let none = not_passed (flash_in shown m) marks r l (rw can at e) in
      row_steady shown b tgs pat dor ror blocks part m rom r mat (still_eighty none) (still_forty none)
