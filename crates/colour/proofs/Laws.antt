-- Laws of colours, ranks and palettes.
-- Assumes nothing.
use Prim.Native.Nat.{ℕ, ◌*◌, ◌%◌, ◌^◌, ◌<◌, ◌≤◌}
use mathlib.Core.Path.{◌≡◌, refl, ◌∙◌, ap}
use mathlib.Core.Bool.{true, false, ◌&&◌}
use mathlib.Core.Logic.{⊎_elim}
use native.Mathlib.Omega.{arith}
use lib.Dec.{eqb}
use lib.Count.{ones, ones_in}
use borrow.Author.Tests.{eq-eqb, ne_eqb}
use Rattle.basics.specs.Bits.{is_set}
use Rattle.basics.specs.Below.{count_below}
use Rattle.basics.proofs.Computed.{agree, agree2}
use Rattle.basics.proofs.Few.{eight}
use Rattle.basics.proofs.Choice.{bool_cases}
use Rattle.basics.proofs.Below.{count_passed, last_never, last_only}
use Rattle.colour.specs.Colours.{colour_of, nibble_of, white}
use Rattle.colour.specs.Ranks.{rank_of, has_rank, colour_of_rank}

-- the colour of a number is the one that its low three bits name
pub named : (n k : ℕ) → n % 8 ≡ k → colour_of k ≡ colour_of n
named n k e = let same : k % 8 ≡ n % 8 = omega arith in rw same

-- 1 << k at eight bits
pub bit_at : (k : ℕ) → k < 8 → 1 * 2 ^ k % 256 ≡ 2 ^ k
bit_at = agree (λ k. 1 * 2 ^ k % 256) (λ k. 2 ^ k) 8 tt

-- the ones of a byte below bit k are its set bits below k
pub ones_below : (a k : ℕ) → a < 256 → k < 8 → ones (a % 2 ^ k) ≡ count_below (λ j. is_set j a) k
unfolding ones ones_in count_below
ones_below = agree2 (λ a k. ones (a % 2 ^ k)) (λ a k. count_below (λ j. is_set j a) k) 256 8 tt

-- how many colours of the palette are below number k: the rank of colour k, and all of them at 8
abbrev pub below : ℕ → ℕ → ℕ
below a = count_below (λ j. is_set j a)

-- the number of a number's colour is that number
pub number_of_lem : (k : ℕ) → k < 8 → nibble_of (colour_of k) ≡ k
number_of_lem = eight (λ k. nibble_of (colour_of k) ≡ k) refl refl refl refl refl refl refl refl

pub rank_of_lem : (a k : ℕ) → k < 8 → rank_of a (colour_of k) ≡ below a k
unfolding rank_of
rank_of_lem a k l = ap (below a) (number_of_lem k l)

module _ (a : ℕ) where
  has_rank_lem : (r k : ℕ) → k < 8 → has_rank a r (colour_of k) ≡ (is_set k a && eqb (below a k) r)
  unfolding has_rank
  has_rank_lem r k l = rw (rank_of_lem a k l, number_of_lem k l)

  -- a colour has no rank but its own, and that only where the palette has it
  other_rank : (r k : ℕ) → k < 8 → (is_set k a ≡ true → below a k ≡ r → ⊥) → has_rank a r (colour_of k) ≡ false
  other_rank r k l h =
      has_rank_lem r k l ∙ ⊎_elim (λ t. rw t (ne_eqb (below a k) r (h t))) (λ t. rw t) (bool_cases (is_set k a))

  -- the colour of the rank of a colour that the palette has is that colour: the rank names it and no other
  named_by : (k : ℕ) → k < 8 → is_set k a ≡ true → colour_of_rank a (below a k) ≡ colour_of k
  unfolding colour_of_rank
  named_by k l h =
      ap colour_of
      (last_only (λ j. has_rank a (below a k) (colour_of j)) (nibble_of white) 8 k l (has_rank_lem (below a k) k l ∙ rw h (eq-eqb (below a k) (below a k) refl))
      (λ j m past. other_rank (below a k) j m (λ t e. omega (arith, count_passed (λ i. is_set i a) k j past h))))

  pub of_its_rank : (k : ℕ) → k < 8 → is_set k a ≡ true → colour_of_rank a (rank_of a (colour_of k)) ≡ colour_of k
  of_its_rank k l h = ap (colour_of_rank a) (rank_of_lem a k l) ∙ named_by k l h

  -- of a palette of n colours each rank from n on is white: all four where A is 0
  pub missing_white : (r : ℕ) → below a 8 ≤ r → colour_of_rank a r ≡ white
  unfolding colour_of_rank
  missing_white r p =
      ap colour_of
      (last_never (λ j. has_rank a r (colour_of j)) (nibble_of white) 8
      (λ j m. other_rank r j m (λ t e. omega (arith, count_passed (λ i. is_set i a) j 8 m t))))
