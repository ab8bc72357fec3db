-- The pass over a palette: what it has found on its way down from the highest bit, and what a turn adds to it.
-- Assumes nothing.
use Prim.Native.Nat.{ℕ, ◌+◌, ◌<◌, ◌≤◌}
use mathlib.Core.Path.{◌≡◌, refl, sym, ◌∙◌, ap}
use mathlib.Core.Bool.{Bool, true, false}
use mathlib.Core.List.{List, [], ◌∷◌}
use native.Mathlib.Omega.{arith}
use lib.Dec.{ltb}
use lib.ListN.{get_or}
use borrow.Author.Tests.{lt-ltb, le-ltb}
use Rattle.basics.specs.Bits.{is_set}
use Rattle.basics.specs.Choice.{pick, one_if}
use Rattle.basics.specs.Parts.{joined, table}
use Rattle.basics.proofs.Choice.{pick_either}
use Rattle.basics.proofs.Below.{count_none, count_step}
use Rattle.basics.proofs.Parts.{table_same}
use Rattle.colour.specs.declared.Colour.{Colour}
use Rattle.colour.specs.Colours.{colour_of, nibble_of, black, white}
use Rattle.colour.specs.Ranks.{rank_of, colour_of_rank}
use Rattle.colour.proofs.Laws.{below, number_of_lem, rank_of_lem, of_its_rank, missing_white}

-- the colour of rank r where that is one of the four, the only ones that the pass takes
abbrev ranked : ℕ → ℕ → Colour
ranked a r = pick (ltb r 4) (colour_of_rank a r) white

over : (a r : ℕ) → 4 ≤ r → ranked a r ≡ white
over a r h = rw (le-ltb r 4 h)

-- what the pass has found when it has come down to number k: the colours from k on, in the order of their ranks
abbrev pub found : ℕ → ℕ → List Colour
found a k = table (λ i. ranked a (below a k + i)) 4

pub found_none : (a : ℕ) → found a 8 ≡ table (λ i. white) 4
found_none a =
    table_same _ _ 4 (λ i l. pick_either (λ c. c ≡ white) (ltb (below a 8 + i) 4) _ _ (missing_white a (below a 8 + i) (omega arith)) refl)

-- a turn of the pass, down from n to k, from what the code learnt of colour k: whether the palette has it, and then its rank
module _ (a k n : ℕ) (down : n ≡ k + 1) (l : n ≤ 8) (colour : Colour) (is : colour ≡ colour_of k) (has : Bool) (h : has ≡ is_set (nibble_of colour) a) where
  asked : is_set k a ≡ has
  asked = ap (λ (m : ℕ). is_set m a) (sym (ap nibble_of is ∙ number_of_lem k (omega arith))) ∙ sym h

  next : below a n ≡ below a k + one_if has
  next = ap (below a) down ∙ count_step (λ j. is_set j a) k ∙ ap (λ (t : Bool). below a k + one_if t) asked

  module _ (xs : List Colour) (e : xs ≡ found a n) where
    pub found_without : has ≡ false → xs ≡ found a k
    found_without t = let same : below a n ≡ below a k = next ∙ rw t (omega arith) in e ∙ rw same

    module _ (t : has ≡ true) (r : ℕ) (q : r ≡ rank_of a colour) where
      rank : r ≡ below a k
      rank = q ∙ ap (rank_of a) is ∙ rank_of_lem a k (omega arith)

      one : below a n ≡ r + 1
      one = next ∙ rw (t, rank)

      pub found_past : 4 ≤ r → xs ≡ found a k
      found_past m = e ∙ table_same _ _ 4 (λ i low. over a (below a n + i) (omega (arith, one)) ∙ sym (over a (below a k + i) (omega (arith, rank))))

      pub found_more : r < 4 → (colour ∷ get_or xs 0 black ∷ get_or xs 1 black ∷ get_or xs 2 black ∷ []) ≡ found a k
      unfolding joined
      found_more m =
          let low : below a k + 0 ≡ r = omega (arith, rank) in
          let its : colour ≡ colour_of_rank a r = is ∙ sym (of_its_rank a k (omega arith) (asked ∙ t)) ∙ ap (colour_of_rank a) (sym (q ∙ ap (rank_of a) is)) in
          let first : colour ≡ ranked a (below a k + 0) = its ∙ rw (low, lt-ltb r 4 m) in
          let moved : (i : ℕ) → below a n + i ≡ below a k + (1 + i) = λ i. omega (arith, one) in
          rw (e, first, ap (ranked a) (moved 0), ap (ranked a) (moved 1), ap (ranked a) (moved 2))

pub found_all : (a : ℕ) → found a 0 ≡ table (colour_of_rank a) 4
found_all a =
    table_same _ _ 4
    (λ i l. let z : below a 0 + i ≡ i = rw (count_none (λ j. is_set j a)) (omega arith) in ap (ranked a) z ∙ rw (lt-ltb i 4 l))
