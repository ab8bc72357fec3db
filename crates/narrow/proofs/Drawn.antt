-- The bytes that the code chooses for a line have the pixels of the cell.
-- Assumes nothing.
use Prim.Native.Nat.{ℕ, ◌+◌, ◌*◌, ◌<◌}
use mathlib.Core.Path.{◌≡◌, ap, ap₂, ◌∙◌}
use mathlib.Core.Bool.{Bool}
use mathlib.Core.List.{List}
use native.Mathlib.Omega.{arith}
use lib.ListN.{length, length-append}
use borrow.Author.Tests.{ne_eqb}
use Rattle.basics.specs.Choice.{pick}
use Rattle.basics.specs.Bits.{is_set}
use Rattle.basics.proofs.Bits.{number_small, number_bit}
use Rattle.basics.proofs.Parts.{length_table, table_same}
use Rattle.shown.specs.declared.Shown.{Shown}
use Rattle.shown.specs.Lengths.{eighty_bytes}
use Rattle.colour.specs.Colours.{packed_of}
use Rattle.narrow.specs.declared.pair.Narrow.{Narrow}
use Rattle.narrow.specs.Pixels.{narrow_bit, ink_colour, narrow_pixel, narrow_line, pair_line}
use Rattle.narrow.specs.Codes.{even_of, odd_of}
use Rattle.narrow.specs.HowTens.{with_d, byte_of}
use Rattle.narrow.specs.HowInks.{ink_of}

module _ (rom : List ℕ) (shown : Shown) (cell : Narrow) (n : ℕ) where
  abbrev f : ℕ → Bool
  f = with_d (is_set 0 cell.attributes) (narrow_bit rom shown cell n)

  pub byte_small : byte_of rom shown cell n < 128
  unfolding byte_of
  byte_small = number_small f 7

  its_bit : (x : ℕ) → x < 7 → is_set x (byte_of rom shown cell n) ≡ f x
  unfolding byte_of
  its_bit x l = number_bit f 7 x l

  -- a pixel of it
  its_pixel : (x : ℕ) → x < 6 → ink_colour shown (is_set 6 (byte_of rom shown cell n)) (is_set x (byte_of rom shown cell n)) ≡ narrow_pixel rom shown cell n x
  its_pixel x l =
      ap₂ (ink_colour shown) (its_bit 6 (omega arith))
      (its_bit x (omega arith) ∙ ap (λ (t : Bool). pick t (is_set 0 cell.attributes) (narrow_bit rom shown cell n x)) (ne_eqb x 6 (λ e. omega arith)))

  pub ink_line : ink_of shown (byte_of rom shown cell n) ≡ narrow_line rom shown cell n
  unfolding ink_of narrow_line
  ink_line = table_same _ _ 3 (λ i l. ap₂ packed_of (its_pixel (2 * i) (omega arith)) (its_pixel (2 * i + 1) (omega arith)))

pub ink_long : (shown : Shown) (e : ℕ) → length (ink_of shown e) ≡ 3
unfolding ink_of
ink_long shown e = length_table _ 3

pub narrow_long : (rom : List ℕ) (shown : Shown) (cell : Narrow) (n : ℕ) → length (narrow_line rom shown cell n) ≡ 3
unfolding narrow_line
narrow_long rom shown cell n = length_table _ 3

pub pair_long : (rom : List ℕ) (shown : Shown) (code : List ℕ) (n : ℕ) → length (pair_line rom shown code n) ≡ eighty_bytes
unfolding pair_line
pair_long rom shown code n =
    length-append (narrow_line rom shown (even_of code) n) (narrow_line rom shown (odd_of code) n)
    ∙ ap₂ ◌+◌ (narrow_long rom shown (even_of code) n) (narrow_long rom shown (odd_of code) n)
