-- A row of 80 columns without a cell that flashes looks the same in every phase. Its cells are found by ROR, DOR, the part and the board, and their pixels by
-- DOR, MAT, PAT and the phase.
-- Assumes nothing.
use Prim.Native.Nat.{ℕ, ◌+◌, ◌*◌}
use mathlib.Core.Path.{◌≡◌, refl, ap, ap₂, ◌∙◌}
use mathlib.Core.Bool.{Bool, true, false, not, ◌&&◌}
use mathlib.Core.List.{List, [], ◌++◌}
use lib.ListN.{get_or}
use Rattle.basics.specs.Choice.{pick}
use Rattle.basics.specs.Bits.{is_set}
use Rattle.basics.specs.Below.{any_below}
use Rattle.basics.proofs.Choice.{or_none, or_neither}
use Rattle.basics.proofs.Below.{any_not}
use Rattle.basics.proofs.Parts.{table_at, table_same, joined_same}
use Rattle.shown.specs.declared.Shown.{Shown}
use Rattle.colour.specs.Colours.{packed_of}
use Rattle.page.specs.Codes.{code_at, row_buffer}
use Rattle.page.proofs.Codes.{code_ignores}
use Rattle.narrow.specs.declared.pair.Narrow.{Narrow}
use Rattle.narrow.specs.Codes.{even_of, odd_of, narrow_flashes, pair_flashes}
use Rattle.narrow.specs.Pixels.{character_bit, text_underlined, text_flashed, text_inverted, text_bit, mosaic_bit, narrow_bit, ink_colour, narrow_pixel, narrow_line, pair_line}
use Rattle.eighty.specs.Rows.{eighty_line, eighty_lines, eighty_row}

-- some column of row r flashes
abbrev pub any_pair_flashes : Shown → List ℕ → ℕ → Bool
any_pair_flashes shown m r = any_below (λ x. pair_flashes (code_at shown m r x)) 40

-- two records that differ in the phase
module _ (a b : Shown) (mat : a.mat ≡ b.mat) (pat : a.pat ≡ b.pat) (dor : a.dor ≡ b.dor) where
  ink_same : (d t : Bool) → ink_colour a d t ≡ ink_colour b d t
  unfolding ink_colour
  ink_same d t = rw (mat, dor)

  module _ (rom : List ℕ) (cell : Narrow) (still : narrow_flashes cell ≡ false) (n x : ℕ) where
    flash_steady : is_set 2 cell.attributes ≡ false → (t : Bool) → text_flashed cell a t ≡ text_flashed cell b t
    unfolding text_flashed
    flash_steady e t = rw e

    -- a mosaic never flashes
    bit_steady : narrow_bit rom a cell n x ≡ narrow_bit rom b cell n x
    unfolding narrow_bit
    bit_steady = go (is_set 7 cell.character) still
      where
        go :
            (c7 : Bool) → (not c7 && is_set 2 cell.attributes) ≡ false
            → pick c7 (mosaic_bit cell n x) (text_bit rom a cell n x) ≡ pick c7 (mosaic_bit cell n x) (text_bit rom b cell n x)
        go true e = refl
        go false e = ap (text_inverted cell) (flash_steady e (text_underlined cell n (character_bit rom cell n x)))

    pixel_steady : narrow_pixel rom a cell n x ≡ narrow_pixel rom b cell n x
    pixel_steady = ap (ink_colour a (is_set 0 cell.attributes)) bit_steady ∙ ink_same (is_set 0 cell.attributes) (narrow_bit rom b cell n x)

  module _ (rom : List ℕ) (n : ℕ) where
    line_steady : (cell : Narrow) → narrow_flashes cell ≡ false → narrow_line rom a cell n ≡ narrow_line rom b cell n
    unfolding narrow_line
    line_steady cell e = table_same _ _ 3 (λ i l. ap₂ packed_of (pixel_steady rom cell e n (2 * i)) (pixel_steady rom cell e n (2 * i + 1)))

    pair_steady : (code : List ℕ) → pair_flashes code ≡ false → pair_line rom a code n ≡ pair_line rom b code n
    unfolding pair_line pair_flashes
    pair_steady code e = ap₂ ◌++◌ (line_steady (even_of code) (or_neither (narrow_flashes (even_of code)) _ e)) (line_steady (odd_of code) (or_none (narrow_flashes (even_of code)) _ e))

  pub eighty_steady :
      a.ror ≡ b.ror → a.part ≡ b.part → a.blocks ≡ b.blocks → (m rom : List ℕ) (r : ℕ)
      → any_pair_flashes a m r ≡ false → eighty_row m rom a r ≡ eighty_row m rom b r
  unfolding eighty_lines eighty_line
  eighty_steady ror part blocks m rom r none =
      joined_same _ _ 10
      (λ n k.
      joined_same _ _ 40
      (λ x l.
      pair_steady rom n (get_or (row_buffer a m r) x [])
      (ap pair_flashes (table_at (code_at a m r) 40 x [] l) ∙ any_not (λ x. pair_flashes (code_at a m r x)) 40 x none l)))
      ∙ rw (table_same (code_at a m r) (code_at b m r) 40 (λ x l. code_ignores a b ror dor part blocks m r x))
