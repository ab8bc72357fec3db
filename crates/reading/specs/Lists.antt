-- The reading list of a row, as a test on places: p is on row r's list.
-- Assumes nothing.
use Rattle.std.specs.Prelude.{ℕ, zero, suc, Bool, false, not, ◌&&◌, ◌||◌, List}
use Rattle.basics.specs.Below.{any_below}
use Rattle.address.specs.Addresses.{is_at}
use Rattle.address.specs.Slices.{slice_address}
use Rattle.shown.specs.declared.Shown.{Shown}
use Rattle.shown.specs.Modes.{is_eighty}
use Rattle.page.specs.Codes.{code_address, code_at}
use Rattle.page.specs.Halves.{is_tall}
use Rattle.sources.specs.Sources.{cell_source, character_of}
use Rattle.page.specs.Inputs.{decoded}
use Rattle.sources.specs.declared.source.Source.{Source}
use Rattle.sources.specs.declared.source.Source.TheVariants.{Rom, Block}

-- p is one of the three bytes of the cell; a byte that is not fitted is on no list
unfoldable pub code_holds : Shown → ℕ → ℕ → ℕ → Bool
code_holds shown p r x = is_at p (code_address shown r x 0) || (is_at p (code_address shown r x 1) || is_at p (code_address shown r x 2))

-- Row r reads its 120 bytes
unfoldable pub row_holds : Shown → ℕ → ℕ → Bool
row_holds shown p r = any_below (code_holds shown p r) 40

-- all ten slices of a character in a block of memory (where legal, and fitted on a board of so many blocks); the ROM's are on no list
abbrev pub source_holds : ℕ → ℕ → ℕ → Source → Bool
source_holds blocks p c (Rom set) = false
source_holds blocks p c (Block z) = any_below (λ n. is_at p (slice_address blocks c n z)) 10

-- all ten slices of a user or quadrichrome cell (a Q cell of a TS9347 is a user one)
unfoldable pub cell_holds : Shown → ℕ → List ℕ → Bool
cell_holds shown p code = source_holds shown.blocks p (character_of (decoded shown.part code)) (cell_source shown (decoded shown.part code))

-- of each user or quadrichrome cell in it
unfoldable pub slices_hold : Shown → List ℕ → ℕ → ℕ → Bool
slices_hold shown m p r = any_below (λ x. cell_holds shown p (code_at shown m r x)) 40

-- row r has a double height bichrome cell
unfoldable pub has_tall : Shown → List ℕ → ℕ → Bool
has_tall shown m r = any_below (λ x. is_tall shown.part (code_at shown m r x)) 40

-- and, if r is not 0 and has a double height bichrome cell, the 120 bytes of row r − 1, and so upward while the row added has one too
unfoldable pub above_holds : Shown → List ℕ → ℕ → ℕ → Bool
above_holds shown m p zero = false
above_holds shown m p (suc r) = has_tall shown m (suc r) && (row_holds shown p r || above_holds shown m p r)

-- in 80 columns its list is its 120 bytes, and nothing else
unfoldable pub on_list : Shown → List ℕ → ℕ → ℕ → Bool
on_list shown m p r = row_holds shown p r || (not (is_eighty shown) && (slices_hold shown m p r || above_holds shown m p r))
