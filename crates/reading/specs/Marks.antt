-- What a store and a phase change mark.
-- Assumes nothing.
use Rattle.std.specs.Prelude.{ℕ, Bool, false, not, ◌&&◌, ◌||◌, List, [], ◌∷◌, eqb, set}
use Rattle.basics.specs.Choice.{pick}
use Rattle.basics.specs.Below.{any_below}
use Rattle.address.specs.Narrow.{attributes_at}
use Rattle.address.specs.Places.{place_at, block_at, byte_at}
use Rattle.address.specs.declared.triple.Triple.{Triple}
use Rattle.shown.specs.declared.Shown.{Shown}
use Rattle.shown.specs.Modes.{is_eighty}
use Rattle.shown.specs.Refusals.{can_draw}
use Rattle.narrow.specs.Codes.{pair_flashes}
use Rattle.page.specs.Codes.{code_at}
use Rattle.page.specs.Inputs.{flashes}
use Rattle.page.specs.Marks.{marked_too}
use Rattle.reading.specs.Lists.{on_list}

-- A store that changes a byte marks the rows whose list, taken just before that store, holds it. While a draw would get 7 or 8, a
-- store marks nothing
unfoldable pub store_marks : Shown → List ℕ → ℕ → ℕ → List Bool → List Bool
store_marks shown m p v marks = pick (can_draw shown && not (eqb (byte_at m p) v)) (marked_too (on_list shown m p) marks) marks

-- a value that is stored at a place
pub record Store : Type 0 where
  pub place : ℕ
  pub value : ℕ

-- Several stores are each a store, with the lists just before it: the memory as the stores before it left it
unfoldable pub stores_marks : Shown → List ℕ → List Store → List Bool → List Bool
stores_marks shown m [] marks = marks
stores_marks shown m (s ∷ stores) marks =
    stores_marks shown (set m s.place s.value) stores (store_marks shown m s.place s.value marks)

-- some of the stores changes a byte that row r's list, taken in memory n, holds; m is the memory before the first
unfoldable pub changes_on : Shown → List ℕ → List ℕ → List Store → ℕ → Bool
changes_on shown n m [] r = false
changes_on shown n m (s ∷ stores) r =
    (not (eqb (byte_at m s.place) s.value) && on_list shown n s.place r)
    || changes_on shown n (set m s.place s.value) stores r

-- C, B and A to the blocks Z, Z+1, Z+2, in that order
unfoldable pub code_stores : Triple → ℕ → ℕ → ℕ → List Store
code_stores t c b a =
    record { place = place_at (block_at t 0); value = c }
    ∷ record { place = place_at (block_at t 1); value = b }
    ∷ record { place = place_at (block_at t 2); value = a }
    ∷ []

-- C to the block Z, and the attributes of its column to theirs
unfoldable pub narrow_stores : Triple → ℕ → ℕ → List Store
narrow_stores t c a =
    record { place = place_at t; value = c }
    ∷ record { place = place_at (attributes_at t); value = a }
    ∷ []

-- a column with a bichrome cell whose A3 is set; in 80 columns, with a cell that has C7 = 0 and the flash bit
abbrev pub column_flashes : Shown → List ℕ → Bool
column_flashes shown code = pick (is_eighty shown) (pair_flashes code) (flashes shown.part code)

-- row r has one
unfoldable pub flash_in : Shown → List ℕ → ℕ → Bool
flash_in shown m r = any_below (λ x. column_flashes shown (code_at shown m r x)) 40

-- A changed phase marks rows with a cell that flashes; while a draw would get 7 or 8 it marks nothing
unfoldable pub phase_marks : Shown → List ℕ → List Bool → List Bool
phase_marks shown m marks = pick (can_draw shown) (marked_too (flash_in shown m) marks) marks
