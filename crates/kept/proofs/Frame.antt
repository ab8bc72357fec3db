-- The frame law. Two memories that agree on every place that row r's list holds in the first: all that r takes from memory is the same in
-- the second, its row buffer in 80 columns, and with it r's bytes for every ROM. (That the list is the same is `list_same` of crate reading.)
-- Assumes nothing.
use Prim.Native.Nat.{ℕ, zero, suc, ◌<◌}
use mathlib.Core.Path.{◌≡◌, refl, sym, ap, ◌∙◌}
use mathlib.Core.Bool.{Bool, true, false, not, ◌&&◌}
use mathlib.Core.List.{List}
use mathlib.Core.Logic.{⊎_elim}
use native.Mathlib.Omega.{arith}
use Rattle.basics.proofs.Choice.{bool_cases}
use Rattle.basics.proofs.Below.{any_hit}
use Rattle.basics.proofs.Parts.{table_same}
use Rattle.address.specs.Addresses.{is_at}
use Rattle.address.specs.Slices.{slice_address}
use Rattle.shown.specs.declared.Shown.{Shown}
use Rattle.shown.specs.Modes.{is_eighty}
use Rattle.page.specs.Codes.{code_at, row_buffer}
use Rattle.page.specs.Halves.{is_tall, is_wide, goes_on, second_half, lower_half, right_half}
use Rattle.sources.specs.Sources.{cell_source, character_of, kept_slice}
use Rattle.page.specs.Inputs.{decoded, Slices, taken_from, cell_input, row_input}
use Rattle.sources.specs.declared.source.Source.{Source}
use Rattle.sources.specs.declared.source.Source.TheVariants.{Rom, Block}
use Rattle.halves.proofs.Halves.{half_same}
use Rattle.rows.specs.Rows.{painted}
use Rattle.eighty.specs.Rows.{eighty_lines}
use Rattle.picture.proofs.Rows.{row_eighty, row_forty}
use Rattle.reading.specs.Lists.{source_holds, cell_holds, slices_hold, has_tall}
use Rattle.reading.specs.Agreeing.{Agree, AgreeOnList}
use Rattle.reading.proofs.Stable.{taken_same, Own, Sliced, Up, code_same, own_above, up_above, its_own, its_slices, its_up}
use Rattle.kept.specs.Agreeing.{FrameLaw}

module _ (shown : Shown) (m n : List ℕ) where
  tall_hit : (r x : ℕ) → x < 40 → is_tall shown.part (code_at shown m r x) ≡ true → has_tall shown m r ≡ true
  unfolding has_tall
  tall_hit r x l t = any_hit (λ x. is_tall shown.part (code_at shown m r x)) 40 x l t

  lower_same : (x r : ℕ) → x < 40 → Own shown m n r → Up shown m n r → lower_half shown m r x ≡ lower_half shown n r x
  unfolding second_half
  lower_same x zero l own up = refl
  lower_same x (suc k) l own up = go (is_tall shown.part (code_at shown m (suc k) x)) refl (λ o u. lower_same x k l o u)
    where
      go :
          (t : Bool) → is_tall shown.part (code_at shown m (suc k) x) ≡ t → (Own shown m n k → Up shown m n k → lower_half shown m k x ≡ lower_half shown n k x)
          → (goes_on (is_tall shown.part (code_at shown m (suc k) x)) (code_at shown m (suc k) x) (code_at shown m k x) && not (lower_half shown m k x))
          ≡ (goes_on (is_tall shown.part (code_at shown n (suc k) x)) (code_at shown n (suc k) x) (code_at shown n k x) && not (lower_half shown n k x))
      go true d below =
          let t = tall_hit (suc k) x l d in
          rw (code_same shown m n (suc k) x own l, code_same shown m n k x (own_above shown m n k t up) l, below (own_above shown m n k t up) (up_above shown m n k t up))
      go false d below = rw (← code_same shown m n (suc k) x own l, d)

  right_same : (r x : ℕ) → x < 40 → Own shown m n r → right_half shown m r x ≡ right_half shown n r x
  right_same r x l own = half_same is_wide (code_at shown m r) (code_at shown n r) x (λ i h. code_same shown m n r i own (omega arith))

  slice_hit : (r x p : ℕ) → x < 40 → cell_holds shown p (code_at shown m r x) ≡ true → slices_hold shown m p r ≡ true
  unfolding slices_hold
  slice_hit r x p l h = any_hit (λ x. cell_holds shown p (code_at shown m r x)) 40 x l h

  -- what a cell takes from a source whose places agree
  slices_taken : (blocks c : ℕ) (s : Source) → Agree (λ p. source_holds blocks p c s) m n → taken_from blocks m c s ≡ taken_from blocks n c s
  unfolding kept_slice
  slices_taken blocks c (Rom set) a = refl
  slices_taken blocks c (Block z) a =
      ap Slices.from_memory
      (table_same _ _ 10
      (λ k l.
      taken_same (λ p. source_holds blocks p c (Block z)) m n a (slice_address blocks c k z)
      (λ p h. any_hit (λ j. is_at p (slice_address blocks c j z)) 10 k l h)))

  cell_same : (r x : ℕ) → Own shown m n r → Up shown m n r → Sliced shown m n r → x < 40 → cell_input shown m r x ≡ cell_input shown n r x
  unfolding cell_input cell_holds
  cell_same r x own up sl l =
      let code = code_at shown m r x in
      rw (
        ← code_same shown m n r x own l,
        ← lower_same x r l own up,
        ← right_same r x l own,
        ← slices_taken shown.blocks (character_of (decoded shown.part code)) (cell_source shown (decoded shown.part code)) (λ p h. sl p (slice_hit r x p l h)),
      )

-- the frame law
module _ (shown : Shown) (m n : List ℕ) (r : ℕ) (agree : AgreeOnList shown m n r) where
  -- all that it takes from memory is the same
  input_same : is_eighty shown ≡ false → row_input shown m r ≡ row_input shown n r
  unfolding row_input
  input_same forty =
      table_same _ _ 40
      (λ x l. cell_same shown m n r x (its_own shown m n r agree) (its_up shown m n r agree forty) (its_slices shown m n r agree forty) l)

  buffer_same : row_buffer shown m r ≡ row_buffer shown n r
  buffer_same = table_same _ _ 40 (λ x l. code_same shown m n r x (its_own shown m n r agree) l)

-- and so are its bytes, for every ROM
pub frame_law : FrameLaw
frame_law shown m n r agree rom =
    ⊎_elim
    (λ e. row_eighty m rom shown r e ∙ ap (eighty_lines rom shown) (buffer_same shown m n r agree) ∙ sym (row_eighty n rom shown r e))
    (λ e. row_forty m rom shown r e ∙ ap (painted rom shown) (input_same shown m n r agree e) ∙ sym (row_forty n rom shown r e))
    (bool_cases (is_eighty shown))
