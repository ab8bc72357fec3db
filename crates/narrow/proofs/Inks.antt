-- The packed bytes as the code works them out: pairs of pixels by their two bits and D.
-- Assumes nothing.
use Prim.Native.Nat.{ℕ, ◌+◌, ◌*◌, ◌/◌, ◌%◌, ◌^◌, ◌<◌}
use mathlib.Core.Path.{◌≡◌, refl, ap, ap₂, ◌∙◌}
use mathlib.Core.Bool.{Bool, true, false}
use mathlib.Core.List.{List, [], ◌∷◌, ◌++◌}
use native.Mathlib.Omega.{arith}
use lib.ListN.{get_or, length}
use Rattle.basics.specs.Bits.{bits, is_set}
use Rattle.basics.specs.Parts.{joined}
use Rattle.basics.proofs.Computed.{agree_test2}
use Rattle.basics.proofs.Parts.{table_at, joined_at}
use Rattle.shown.specs.declared.Shown.{Shown}
use Rattle.colour.specs.declared.Colour.{Colour}
use Rattle.colour.specs.Colours.{black, red, green, yellow, blue, magenta, cyan, white, colour_of, packed_of}
use Rattle.narrow.specs.Pixels.{ink_colour}
use Rattle.narrow.specs.HowInks.{ink_of, inks_of, three_in, pair_by, eight_of}

-- the pair that byte e chooses for its pixels 2 * j and 2 * j + 1
abbrev chosen : ℕ → ℕ → ℕ
chosen e j = e / 64 * 4 + e / 4 ^ j % 4

low : (e j : ℕ) → e < 128 → j < 3 → is_set 0 (chosen e j) ≡ is_set (2 * j) e
low = agree_test2 (λ e j. is_set 0 (chosen e j)) (λ e j. is_set (2 * j) e) 128 3 tt

high : (e j : ℕ) → e < 128 → j < 3 → is_set 1 (chosen e j) ≡ is_set (2 * j + 1) e
high = agree_test2 (λ e j. is_set 1 (chosen e j)) (λ e j. is_set (2 * j + 1) e) 128 3 tt

its_d : (e j : ℕ) → e < 128 → j < 3 → is_set 2 (chosen e j) ≡ is_set 6 e
its_d = agree_test2 (λ e j. is_set 2 (chosen e j)) (λ e j. is_set 6 e) 128 3 tt

module _ (shown : Shown) (eight : List ℕ) (is : eight ≡ eight_of shown) (e : ℕ) (l : e < 128) where
  pair_is :
      (j at : ℕ) → j < 3 → at ≡ chosen e j → at < 8
      → get_or eight at 0 ≡ packed_of (ink_colour shown (is_set 6 e) (is_set (2 * j) e)) (ink_colour shown (is_set 6 e) (is_set (2 * j + 1) e))
  unfolding eight_of
  pair_is j at h q small =
      ap (λ (z : List ℕ). get_or z at 0) is
      ∙ table_at (pair_by shown) 8 at 0 small
      ∙ ap (pair_by shown) q
      ∙ ap₂ packed_of (ap₂ (ink_colour shown) (its_d e j l h) (low e j l h)) (ap₂ (ink_colour shown) (its_d e j l h) (high e j l h))

  pub ink_is :
      (p q r : ℕ) → p ≡ e / 64 * 4 + e % 4 → q ≡ e / 64 * 4 + e / 4 % 4 → r ≡ e / 64 * 4 + e / 16 % 4
      → (get_or eight p 0 ∷ get_or eight q 0 ∷ get_or eight r 0 ∷ 0 ∷ []) ≡ ink_of shown e ++ 0 ∷ []
  unfolding ink_of joined
  ink_is p q r ep eq er =
      rw (pair_is 0 p (omega arith) (ep ∙ omega arith) (omega arith), pair_is 1 q (omega arith) eq (omega arith), pair_is 2 r (omega arith) er (omega arith))

listed :
    {a b c d e f g h a' b' c' d' e' f' g' h' : ℕ} → a ≡ a' → b ≡ b' → c ≡ c' → d ≡ d' → e ≡ e' → f ≡ f' → g ≡ g' → h ≡ h'
    → (a ∷ b ∷ c ∷ d ∷ e ∷ f ∷ g ∷ h ∷ []) ≡ (a' ∷ b' ∷ c' ∷ d' ∷ e' ∷ f' ∷ g' ∷ h' ∷ [])
listed p q r s t u v w = rw (p, q, r, s, t, u, v, w)

abbrev colours : List Colour
colours = black ∷ red ∷ green ∷ yellow ∷ blue ∷ magenta ∷ cyan ∷ white ∷ []

-- the colours of the bits, by the low three bits of the registers
module _ (shown : Shown) where
  low_three : (n : ℕ) → colour_of n ≡ colour_of (bits 0 3 n)
  low_three n = let e : n % 8 ≡ bits 0 3 n % 8 = omega arith in ap (λ (k : ℕ). get_or colours k black) e

  pub ink_none : (d : Bool) → colour_of shown.mat ≡ ink_colour shown d false
  unfolding ink_colour
  ink_none d = low_three shown.mat

  pub ink_one : colour_of shown.dor ≡ ink_colour shown false true
  unfolding ink_colour
  ink_one = low_three shown.dor

  pub ink_other : colour_of (shown.dor / 16) ≡ ink_colour shown true true
  unfolding ink_colour
  ink_other =
      let e : shown.dor / 16 % 8 ≡ bits 4 3 shown.dor % 8 = omega arith in
      ap (λ (k : ℕ). get_or colours k black) e

  module _ (none one other : Colour) (en : none ≡ colour_of shown.mat) (e1 : one ≡ colour_of shown.dor) (eo : other ≡ colour_of (shown.dor / 16)) where
    pub eight_is :
        (p0 p1 p2 p3 p4 p5 p6 p7 : ℕ) → p0 ≡ packed_of none none → p1 ≡ packed_of one none → p2 ≡ packed_of none one → p3 ≡ packed_of one one
        → p4 ≡ packed_of none none → p5 ≡ packed_of other none → p6 ≡ packed_of none other → p7 ≡ packed_of other other
        → (p0 ∷ p1 ∷ p2 ∷ p3 ∷ p4 ∷ p5 ∷ p6 ∷ p7 ∷ []) ≡ eight_of shown
    unfolding eight_of joined
    eight_is p0 p1 p2 p3 p4 p5 p6 p7 q0 q1 q2 q3 q4 q5 q6 q7 =
        let a = en ∙ ink_none false in
        let b = en ∙ ink_none true in
        let c = e1 ∙ ink_one in
        let d = eo ∙ ink_other in
        listed (q0 ∙ ap₂ packed_of a a) (q1 ∙ ap₂ packed_of c a) (q2 ∙ ap₂ packed_of a c) (q3 ∙ ap₂ packed_of c c) (q4 ∙ ap₂ packed_of b b)
        (q5 ∙ ap₂ packed_of d b) (q6 ∙ ap₂ packed_of b d) (q7 ∙ ap₂ packed_of d d)

-- the three bytes and one more
pub ink_four : (shown : Shown) (e : ℕ) → length (ink_of shown e ++ 0 ∷ []) ≡ 4
unfolding ink_of joined
ink_four shown e = refl

pub ink_found : (shown : Shown) (inks : List ℕ) (e : ℕ) → inks ≡ inks_of shown → e < 128 → three_in inks e ≡ ink_of shown e
unfolding inks_of ink_of three_in joined
ink_found shown inks e is l = rw (at 0 (4 * e) (omega arith) (omega arith), at 1 (4 * e + 1) (omega arith) refl, at 2 (4 * e + 2) (omega arith) refl)
  where
    at : (j i : ℕ) → j < 4 → i ≡ 4 * e + j → get_or inks i 0 ≡ get_or (ink_of shown e ++ 0 ∷ []) j 0
    at j i h q =
        ap (λ (z : List ℕ). get_or z i 0) is
        ∙ ap (λ (z : ℕ). get_or (inks_of shown) z 0) q
        ∙ joined_at 4 (λ z. ink_of shown z ++ 0 ∷ []) 128 (λ z k. ink_four shown z) e j 0 l h
