-- A's set bits are the palette of a quadrichrome cell.
-- Assumes nothing.
use Rattle.std.specs.Prelude.{ℕ, Bool, ◌&&◌, eqb}
use Rattle.basics.specs.Bits.{is_set}
use Rattle.basics.specs.Below.{count_below, last_below}
use Rattle.colour.specs.declared.Colour.{Colour}
use Rattle.colour.specs.Colours.{colour_of, nibble_of, white}

-- the rank of a colour is the number of set bits below it in A
unfoldable pub rank_of : ℕ → Colour → ℕ
rank_of a colour = count_below (λ k. is_set k a) (nibble_of colour)

-- the palette A has the colour, and its rank is r
unfoldable pub has_rank : ℕ → ℕ → Colour → Bool
has_rank a r colour = is_set (nibble_of colour) a && eqb (rank_of a colour) r

-- the colour of rank r in the palette A. A rank with no colour is colour 7, white
unfoldable pub colour_of_rank : ℕ → ℕ → Colour
colour_of_rank a r = colour_of (last_below (nibble_of white) (λ k. has_rank a r (colour_of k)) 8)
