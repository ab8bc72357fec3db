-- How the code works out the ten lines of a cell of twelve bits: for each a byte, bits 0 to 5 its pixels' bits and bit 6 its D, which chooses
-- three packed bytes (HowInks.antt). Nothing here has to be believed: `ink_line` of proofs/Drawn.antt shows that these are the pixels of Pixels.antt.
-- Assumes nothing.
use Rattle.std.specs.Prelude.{ℕ, Bool, not, List, ltb, eqb}
use Rattle.basics.specs.Choice.{pick}
use Rattle.basics.specs.Bits.{is_set, from_bits}
use Rattle.basics.specs.Parts.{table}
use Rattle.shown.specs.declared.Shown.{Shown}
use Rattle.narrow.specs.declared.pair.Narrow.{Narrow}
use Rattle.narrow.specs.Pixels.{mosaic_bit, narrow_bit}

-- seven bits: six pixels and D
abbrev pub with_d : Bool → (ℕ → Bool) → ℕ → Bool
with_d d f x = pick (eqb x 6) d (f x)

abbrev pub byte_by : Bool → (ℕ → Bool) → ℕ
byte_by d f = from_bits (with_d d f) 7

-- the byte of line n
unfoldable pub byte_of : List ℕ → Shown → Narrow → ℕ → ℕ
byte_of rom shown cell n = byte_by (is_set 0 cell.attributes) (narrow_bit rom shown cell n)

unfoldable pub narrow_ten : List ℕ → Shown → Narrow → List ℕ
narrow_ten rom shown cell = table (byte_of rom shown cell) 10

-- of a slice, inverted or not
unfoldable pub shaded_of : ℕ → Bool → Bool → ℕ
shaded_of s negative d = byte_by d (λ x. pick negative (not (is_set x s)) (is_set x s))

-- of two windows
unfoldable pub windows_of : Bool → Bool → Bool → ℕ
windows_of left right d = byte_by d (λ x. pick (ltb x 3) left right)

-- the ten bytes of a mosaic
unfoldable pub mosaic_ten : Narrow → List ℕ
mosaic_ten cell = table (λ n. byte_by (is_set 0 cell.attributes) (mosaic_bit cell n)) 10
