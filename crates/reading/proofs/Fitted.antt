-- A byte that is not fitted is on no reading list.
-- Assumes nothing.
use Prim.Native.Nat.{ℕ, zero, suc, ◌≤◌}
use mathlib.Core.Path.{◌≡◌, refl, ap, ◌∙◌}
use mathlib.Core.Bool.{false, not, and-false}
use mathlib.Core.List.{List}
use mathlib.Core.Logic.{⊎_elim}
use native.Mathlib.Omega.{arith}
use borrow.Author.Tests.{ne_eqb}
use Rattle.basics.proofs.Choice.{bool_cases, lt_or_le}
use Rattle.basics.proofs.Below.{any_never}
use Rattle.address.specs.Addresses.{address_of, is_at}
use Rattle.board.specs.Boards.{bytes_of}
use Rattle.address.specs.Places.{place_at}
use Rattle.address.specs.Slices.{slice_at, slice_address}
use Rattle.address.specs.Triples.{legal}
use Rattle.address.specs.declared.triple.Triple.{Triple}
use Rattle.address.proofs.Addresses.{address_illegal, address_bare, address_fitted}
use Rattle.address.proofs.Laws.{legal_fitted}
use Rattle.address.proofs.Places.{legal_place}
use Rattle.shown.specs.declared.Shown.{Shown}
use Rattle.shown.specs.Modes.{is_eighty}
use Rattle.sources.specs.Sources.{cell_source, character_of}
use Rattle.sources.specs.declared.source.Source.{Source}
use Rattle.sources.specs.declared.source.Source.TheVariants.{Rom, Block}
use Rattle.page.specs.Codes.{code_address, code_at}
use Rattle.page.specs.Inputs.{decoded}
use Rattle.reading.specs.Lists.{code_holds, row_holds, source_holds, cell_holds, slices_hold, has_tall, above_holds, on_list}

-- p is past the last of n blocks
module _ (n p : ℕ) (past : bytes_of n ≤ p) where
  off_address : (t : Triple) → is_at p (address_of n t) ≡ false
  off_address t =
      ⊎_elim
      (λ e.
      ⊎_elim
      (λ l. ap (is_at p) (address_fitted n t e l) ∙ ne_eqb p (place_at t) (λ q. omega (arith, past, q, legal_place n t (legal_fitted n t e l))))
      (λ l. ap (is_at p) (address_bare n t e l))
      (lt_or_le t.z n))
      (λ e. ap (is_at p) (address_illegal n t e))
      (bool_cases (legal t))

  off_source : (c : ℕ) (s : Source) → source_holds n p c s ≡ false
  unfolding slice_address
  off_source c (Rom set) = refl
  off_source c (Block z) = any_never _ 10 (λ i l. off_address (slice_at c i z))

module _ (shown : Shown) (m : List ℕ) (p : ℕ) (past : bytes_of shown.blocks ≤ p) where
  off_code : (r x : ℕ) → code_holds shown p r x ≡ false
  unfolding code_holds code_address
  off_code r x = rw (off_address shown.blocks p past _, off_address shown.blocks p past _, off_address shown.blocks p past _)

  off_row : (r : ℕ) → row_holds shown p r ≡ false
  unfolding row_holds
  off_row r = any_never _ 40 (λ x l. off_code r x)

  off_cell : (code : List ℕ) → cell_holds shown p code ≡ false
  unfolding cell_holds
  off_cell code = off_source shown.blocks p past (character_of (decoded shown.part code)) (cell_source shown (decoded shown.part code))

  off_slices : (r : ℕ) → slices_hold shown m p r ≡ false
  unfolding slices_hold
  off_slices r = any_never _ 40 (λ x l. off_cell (code_at shown m r x))

  off_above : (r : ℕ) → above_holds shown m p r ≡ false
  unfolding above_holds
  off_above zero = refl
  off_above (suc r) = rw (off_row r, off_above r) (and-false (has_tall shown m (suc r)))

  pub off_list : (r : ℕ) → on_list shown m p r ≡ false
  unfolding on_list
  off_list r = rw (off_row r, off_slices r, off_above r) (and-false (not (is_eighty shown)))
