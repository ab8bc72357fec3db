-- Laws of whole slice bytes: doubled halves, and the effective byte.
-- Assumes nothing.
use Prim.Native.Nat.{ℕ, ◌/◌, ◌%◌, ◌<◌}
use mathlib.Core.Path.{◌≡◌, refl, sym, ◌∙◌}
use mathlib.Core.Bool.{Bool, true, false, ◌&&◌}
use mathlib.Core.List.{List, [], ◌∷◌}
use lib.Dec.{eqb}
use lib.ListN.{get_or}
use Rattle.basics.specs.Bits.{from_bits}
use Rattle.basics.proofs.Bits.{number_same}
use Rattle.basics.proofs.Computed.{agree}
use Rattle.cell.specs.declared.kind.Cell.{Cell}
use Rattle.pixels.specs.Pixels.{taken_bit, underlined}
use Rattle.pixels.specs.HowPairs.{wide_of, underline_of, effective_of}

-- the code's table: each bit of a nibble twice
abbrev pub doubled_table : List ℕ
doubled_table = 0 ∷ 3 ∷ 12 ∷ 15 ∷ 48 ∷ 51 ∷ 60 ∷ 63 ∷ 192 ∷ 195 ∷ 204 ∷ 207 ∷ 240 ∷ 243 ∷ 252 ∷ 255 ∷ []

pub double_left : (s : ℕ) → s < 256 → get_or doubled_table (s % 16) 0 ≡ from_bits (taken_bit true false s) 8
unfolding from_bits
double_left = agree (λ s. get_or doubled_table (s % 16) 0) (λ s. from_bits (taken_bit true false s) 8) 256 tt

pub double_right : (s : ℕ) → s < 256 → get_or doubled_table (s / 16) 0 ≡ from_bits (taken_bit true true s) 8
unfolding from_bits
double_right = agree (λ s. get_or doubled_table (s / 16) 0) (λ s. from_bits (taken_bit true true s) 8) 256 tt

all_set : from_bits (λ x. true) 8 ≡ 255
unfolding from_bits
all_set = refl

-- the two ways of the effective byte: underlined, and the taken bits alone
module _ (cell : Cell) (right : Bool) (n s : ℕ) where
  pub effective_lined : (underline_of cell && eqb n 9) ≡ true → 255 ≡ effective_of cell right n s
  unfolding effective_of
  effective_lined e =
      sym (number_same (λ x. underlined (underline_of cell) n (taken_bit (wide_of cell) right s x)) (λ x. true) 8 (λ x l. rw e) ∙ all_set)

  pub effective_taken : (underline_of cell && eqb n 9) ≡ false → from_bits (taken_bit (wide_of cell) right s) 8 ≡ effective_of cell right n s
  unfolding effective_of
  effective_taken e =
      sym (number_same (λ x. underlined (underline_of cell) n (taken_bit (wide_of cell) right s x)) (taken_bit (wide_of cell) right s) 8 (λ x l. rw e))
