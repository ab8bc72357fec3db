-- How the code marks: which rows it finds for a byte that changes. Nothing here has to be believed: `asked` and `own_asked` of proofs/Lists.antt show that
-- the rows so asked, in 40 columns and in 80, are those whose lists hold such a byte, and `store_changes`, `code_changes`, `narrow_changes` and
-- `span_changes` of proofs/Changes.antt that one store, the three of a code, the two of a position of 80 columns, and those of a move's position mark those rows.
-- Assumes nothing.
use Rattle.std.specs.Prelude.{ℕ, zero, suc, Bool, not, ◌&&◌, ◌||◌, List, eqb, leb, ltb}
use Rattle.basics.specs.Choice.{pick}
use Rattle.address.specs.Places.{place_of, byte_at}
use Rattle.shown.specs.declared.Shown.{Shown}
use Rattle.shown.specs.Refusals.{can_draw}
use Rattle.page.specs.Marks.{is_marked, marked_too}
use Rattle.reading.specs.Lists.{on_list}
use Rattle.keys.specs.HowKeys.{some_block}

-- block z where the byte at place p is not v
unfoldable pub changed_block : List ℕ → ℕ → ℕ → ℕ → ℕ
changed_block m p z v = pick (eqb (byte_at m p) v) 255 z

-- from a row down, while the rows have a cell of double height
unfoldable pub falls_to : (ℕ → Bool) → ℕ → ℕ → Bool
falls_to tall row zero = eqb zero row
falls_to tall row (suc r) = eqb (suc r) row || (tall (suc r) && falls_to tall row r)

-- y is one from first on, below end
unfoldable pub in_group : ℕ → ℕ → ℕ → Bool
in_group first end y = leb first y && ltb y end

-- row r's list holds the byte at X and Y in some block
unfoldable pub some_on_list : Shown → List ℕ → ℕ → ℕ → List ℕ → ℕ → Bool
some_on_list shown m x y blocks r = some_block (λ z. on_list shown m (place_of x y z) r) blocks

-- the marks after bytes at X and Y have changed in the blocks
unfoldable pub change_marks : Shown → List ℕ → ℕ → ℕ → List ℕ → List Bool → List Bool
change_marks shown m x y blocks marks = pick (can_draw shown) (marked_too (some_on_list shown m x y blocks) marks) marks

-- row r is not marked
abbrev pub is_unmarked : List Bool → ℕ → Bool
is_unmarked marks r = not (is_marked marks r)
