-- Colours are the eight colours by name, and two pixels are packed in a byte.
-- Assumes nothing.
use Rattle.std.specs.Prelude.{ℕ, ◌+◌, ◌*◌, ◌%◌, List, [], ◌∷◌, get_or}
use Rattle.basics.specs.Parts.{table}
use Rattle.colour.specs.declared.Colour.{Colour}

-- 0 black, 1 red, 2 green, 3 yellow, 4 blue, 5 magenta, 6 cyan, 7 white
abbrev pub black : Colour
black = record { 0 = 0 }

abbrev pub red : Colour
red = record { 0 = 1 }

abbrev pub green : Colour
green = record { 0 = 2 }

abbrev pub yellow : Colour
yellow = record { 0 = 3 }

abbrev pub blue : Colour
blue = record { 0 = 4 }

abbrev pub magenta : Colour
magenta = record { 0 = 5 }

abbrev pub cyan : Colour
cyan = record { 0 = 6 }

abbrev pub white : Colour
white = record { 0 = 7 }

-- the colour of a number, by its name; only the number's low three bits count
abbrev pub colour_of : ℕ → Colour
colour_of n = get_or (black ∷ red ∷ green ∷ yellow ∷ blue ∷ magenta ∷ cyan ∷ white ∷ []) (n % 8) black

-- the four bits that stand for a colour
abbrev pub nibble_of : Colour → ℕ
nibble_of colour = colour.0 % 8

-- two pixels a byte, the left pixel in the low four bits
abbrev pub packed_of : Colour → Colour → ℕ
packed_of left right = nibble_of left + 16 * nibble_of right

-- n packed bytes of a line of pixels
abbrev pub packed_line : (ℕ → Colour) → ℕ → List ℕ
packed_line pixel n = table (λ i. packed_of (pixel (2 * i)) (pixel (2 * i + 1))) n
