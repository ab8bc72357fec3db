-- The ends of a phase change.
-- Assumes nothing.
use Prim.Native.Nat.{ℕ, ◌<◌}
use mathlib.Core.Path.{◌≡◌, refl, sym, ap, ap₂, ◌∙◌}
use mathlib.Core.Bool.{Bool, true, false, not, ◌||◌, and-false}
use mathlib.Core.List.{List, [], ◌∷◌}
use lib.ListN.{length, get_or}
use Rattle.basics.specs.Bits.{is_set}
use Rattle.basics.specs.Choice.{pick}
use Rattle.basics.specs.Below.{any_below}
use Rattle.basics.proofs.Below.{any_same, any_never}
use Rattle.basics.proofs.Parts.{table_at}
use Rattle.board.specs.Boards.{bytes_of}
use Rattle.board.specs.declared.Part.{Part}
use Rattle.board.specs.declared.Part.TheVariants.{Ts9347}
use Rattle.address.specs.Rows.{row_y}
use Rattle.shown.specs.declared.Shown.{Shown}
use Rattle.shown.specs.Modes.{is_eighty}
use Rattle.shown.specs.Origins.{yor_of, first_block}
use Rattle.shown.specs.Refusals.{can_draw}
use Rattle.address.proofs.Laws.{y_facts, facts_page, row_legal}
use Rattle.page.specs.Codes.{code_at, row_buffer}
use Rattle.page.specs.HowCodes.{code_of, is_fitted}
use Rattle.page.proofs.Codes.{code_kept, bare_block, bare_byte}
use Rattle.page.specs.Inputs.{flashes}
use Rattle.page.specs.Marks.{marked_too}
use Rattle.narrow.specs.Codes.{even_of, odd_of, pair_flashes}
use Rattle.asking.specs.HowAsked.{blinks}
use Rattle.asking.proofs.Rows.{still_test, blink_flashes}
use Rattle.phases.specs.HowPhases.{flashes_in}
use Rattle.reading.specs.Marks.{column_flashes, flash_in, phase_marks}
use Rattle.reading.proofs.Marking.{marked_none, marked_same}

-- the test of a column, by the mode
module _ (shown : Shown) (code : List ℕ) where
  pub forty_flashes : (part : Part) → shown.part ≡ part → is_eighty shown ≡ false → flashes part code ≡ column_flashes shown code
  forty_flashes part p e = rw (e, p)

  -- of a TS9347 by A3 alone
  pub forty_blinks : shown.part ≡ Ts9347 → is_eighty shown ≡ false → blinks code ≡ column_flashes shown code
  forty_blinks p e = blink_flashes code ∙ forty_flashes Ts9347 p e

  pub eighty_flashes : is_eighty shown ≡ true → pair_flashes code ≡ column_flashes shown code
  eighty_flashes e = rw e

-- a phase change, by the test, the block and the origin that the code has
pub flash_made :
    (shown : Shown) (m : List ℕ) → length m ≡ bytes_of shown.blocks → (z yor : ℕ) (marks after : List Bool) (f : List ℕ → Bool)
    → ((code : List ℕ) → f code ≡ column_flashes shown code)
    → z ≡ first_block shown → yor ≡ yor_of shown → after ≡ marked_too (λ r. any_below (λ x. f (code_of m z (row_y yor r) x)) 40) marks
    → after ≡ marked_too (flash_in shown m) marks
unfolding flash_in
flash_made shown m whole z yor marks after f ef ez eo e =
    e
    ∙ marked_same _ marks _
    (λ i l. rw (ez, eo) (any_same _ _ 40 (λ x h. ap f (sym (code_kept shown m whole i x h)) ∙ ef (code_at shown m i x))))

-- a column whose A is 0 does not flash
module _ (code : List ℕ) (none : get_or code 2 0 ≡ 0) where
  bare_flashes : (part : Part) → flashes part code ≡ false
  unfolding blinks
  bare_flashes part = still_test code part (rw none)

  bare_pair : pair_flashes code ≡ false
  unfolding pair_flashes even_of odd_of
  bare_pair = rw none (ap₂ ◌||◌ (and-false (not (is_set 7 (get_or code 0 0)))) (and-false (not (is_set 7 (get_or code 1 0)))))

  bare_column : (shown : Shown) → column_flashes shown code ≡ false
  bare_column shown = go (is_eighty shown)
    where
      go : (t : Bool) → pick t (pair_flashes code) (flashes shown.part code) ≡ false
      go true = bare_pair
      go false = bare_flashes shown.part

-- where the page's third block is not fitted
module _ (shown : Shown) (m : List ℕ) (whole : length m ≡ bytes_of shown.blocks) (bare : is_fitted shown 2 ≡ false) where
  no_a : (r x : ℕ) → x < 40 → get_or (code_of m (first_block shown) (row_y (yor_of shown) r) x) 2 0 ≡ 0
  unfolding code_of
  no_a r x l =
      let row = row_y (yor_of shown) r in
      bare_byte m (first_block shown) row x 2 (facts_page x row l (y_facts row (row_legal (yor_of shown) r))) (bare_block shown m whole 2 bare)

  no_flash : (r : ℕ) → flash_in shown m r ≡ false
  unfolding flash_in
  no_flash r = any_never _ 40 (λ x l. ap (column_flashes shown) (code_kept shown m whole r x l) ∙ bare_column _ (no_a r x l) shown)

  pub flash_none : (marks : List Bool) → length marks ≡ 25 → marks ≡ marked_too (flash_in shown m) marks
  flash_none marks h = marked_none _ marks h (λ i l. no_flash i)

-- a column of the row buffer, by its three bytes
pub by_bytes :
    (part : Part) (eighty : Bool) (code : List ℕ) → flashes_in part eighty (get_or code 0 0 ∷ get_or code 1 0 ∷ get_or code 2 0 ∷ []) ≡ flashes_in part eighty code
unfolding flashes pair_flashes even_of odd_of
by_bytes part true code = refl
by_bytes part false code = refl

-- the row whose forty columns were asked
pub row_flashed :
    (shown : Shown) (m : List ℕ) (cells : List (List ℕ)) (r x : ℕ) (eighty found : Bool)
    → found ≡ any_below (λ i. flashes_in shown.part eighty (get_or cells i [])) x → x ≡ 40
    → cells ≡ row_buffer shown m r → eighty ≡ is_eighty shown → found ≡ flash_in shown m r
unfolding flash_in
row_flashed shown m cells r x eighty found e ex ec ee =
    e
    ∙ rw (ex, ee)
    (any_same _ _ 40 (λ i l. ap (column_flashes shown) (ap (λ (a : List (List ℕ)). get_or a i []) ec ∙ table_at (code_at shown m r) 40 i [] l)))

-- the two ends of a phase change
module _ (shown : Shown) (drawn : Bool) (learnt : drawn ≡ can_draw shown) where
  pub phase_refused : (m : List ℕ) (marks : List Bool) → drawn ≡ false → marks ≡ phase_marks shown m marks
  unfolding phase_marks
  phase_refused m marks e = rw (sym learnt ∙ e)

  pub phase_asked : (m : List ℕ) (marks after : List Bool) → drawn ≡ true → after ≡ marked_too (flash_in shown m) marks → after ≡ phase_marks shown m marks
  unfolding phase_marks
  phase_asked m marks after e q = rw (sym learnt ∙ e) q
