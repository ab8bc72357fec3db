-- The three packed bytes that a byte of a cell's line chooses. Nothing here has to be believed: `ink_line` of proofs/Drawn.antt shows that
-- they are the pixels of the line.
-- Assumes nothing.
use Rattle.std.specs.Prelude.{ℕ, ◌+◌, ◌*◌, List, [], ◌∷◌, ◌++◌, get_or}
use Rattle.basics.specs.Bits.{is_set}
use Rattle.basics.specs.Parts.{table, joined}
use Rattle.colour.specs.Colours.{packed_of, packed_line}
use Rattle.shown.specs.declared.Shown.{Shown}
use Rattle.narrow.specs.Pixels.{ink_colour}

-- by bits 0 to 5 of the byte, and D
unfoldable pub ink_of : Shown → ℕ → List ℕ
ink_of shown e = packed_line (λ x. ink_colour shown (is_set 6 e) (is_set x e)) 3

-- those of every byte, four apart
unfoldable pub inks_of : Shown → List ℕ
inks_of shown = joined (λ e. ink_of shown e ++ 0 ∷ []) 128

-- where those of byte e are found
unfoldable pub three_in : List ℕ → ℕ → List ℕ
three_in inks e = get_or inks (4 * e) 0 ∷ get_or inks (4 * e + 1) 0 ∷ get_or inks (4 * e + 2) 0 ∷ []

-- two pixels by their two bits and D
abbrev pub pair_by : Shown → ℕ → ℕ
pair_by shown i = packed_of (ink_colour shown (is_set 2 i) (is_set 0 i)) (ink_colour shown (is_set 2 i) (is_set 1 i))

unfoldable pub eight_of : Shown → List ℕ
eight_of shown = table (pair_by shown) 8
