-- Laws of a stretch of cells: its bytes stand side by side, and the tests of its bytes are those of its cells.
-- Assumes nothing.
use Prim.Native.Nat.{ℕ, zero, suc, ◌+◌, ◌*◌, ◌/◌, ◌%◌, ◌≤◌, ◌<◌}
use mathlib.Core.Path.{◌≡◌, refl, sym, ap, ap₂, ◌∙◌}
use mathlib.Core.Bool.{Bool, true, false, not, ◌&&◌, ◌||◌, false≢true, and-false, or_assoc}
use mathlib.Core.List.{List}
use mathlib.Core.Logic.{⊎_elim}
use native.Mathlib.Omega.{arith}
use lib.Dec.{ltb, leb, eqb}
use lib.ListN.{get_or}
use borrow.Author.Tests.{ne_eqb, eqb-true, leb-true, le-leb, not-false}
use Rattle.basics.specs.Bits.{bits, is_set}
use Rattle.basics.specs.Below.{any_below}
use Rattle.basics.proofs.Below.{any_not, any_same, any_never, any_split}
use Rattle.basics.proofs.Computed.{agree_test}
use Rattle.basics.proofs.Choice.{bool_cases, lt_or_le, eq_or_ne, and_left, and_right, and_both, or_cases, or_none, or_neither}
use Rattle.address.specs.Places.{place_of, block_of}
use Rattle.address.proofs.Laws.{place_left, place_service, place_right}
use Rattle.board.specs.declared.Part.{Part}
use Rattle.board.specs.declared.Part.TheVariants.{Ef9345, Ts9347}
use Rattle.cell.specs.Cells.{is_quadrichrome}
use Rattle.cell.specs.HowCells.{last_bichrome}
use Rattle.page.specs.HowCodes.{code_of}
use Rattle.page.specs.Halves.{is_tall}
use Rattle.page.specs.Inputs.{flashes}
use Rattle.narrow.specs.Codes.{even_of, odd_of, pair_flashes}
use Rattle.keys.specs.declared.key.Keys.{Keys}
use Rattle.keys.specs.HowKeys.{keys_high, is_source, from_block, keyed}
use Rattle.asking.specs.HowAsked.{shows_character, blinks, code_in, flash_at, blink_at, character_at, keyed_at}
use Rattle.page.proofs.Stretches.{bichrome_test, tall_test, row_stretches}
use Rattle.keys.proofs.Tests.{or_swap}

-- a byte of a cell stands at the same place of each block
pub place_in : (x y b : ℕ) → 1024 * b + place_of x y 0 ≡ place_of x y b
place_in x y b =
    ⊎_elim
    (λ l. omega (arith, place_left x y 0 l, place_left x y b l))
    (λ l.
    ⊎_elim
    (λ e. omega (arith, place_service x y 0 l e, place_service x y b l e))
    (λ n. omega (arith, place_right x y 0 l n, place_right x y b l n))
    (eq_or_ne y 0))
    (lt_or_le x 32)

pub code_in_lem : (m : List ℕ) (z y x : ℕ) → code_in m z (place_of x y 0) ≡ code_of m z y x
unfolding code_in code_of
code_in_lem m z y x = rw (place_in x y (block_of z 0), place_in x y (block_of z 1), place_in x y (block_of z 2))

-- the service row is one stretch
pub service_fits : place_of 0 0 0 + 40 ≤ 1024
service_fits = omega (arith, place_left 0 0 0 (omega arith))

pub service_code : (m : List ℕ) (z i : ℕ) → i < 40 → code_in m z (place_of 0 0 0 + i) ≡ code_of m z 0 i
service_code m z i l = ap (code_in m z) same ∙ code_in_lem m z 0 i
  where
    same : place_of 0 0 0 + i ≡ place_of i 0 0
    same =
        ⊎_elim
        (λ q. omega (arith, place_left 0 0 0 (omega arith), place_left i 0 0 q))
        (λ q. omega (arith, place_left 0 0 0 (omega arith), place_service i 0 0 q refl))
        (lt_or_le i 32)

-- its three bytes, from where their blocks start
module _ (m : List ℕ) (z at start : ℕ) where
  pub in_c : start ≡ 1024 * block_of z 0 → get_or m (start + at) 0 ≡ get_or (code_in m z at) 0 0
  unfolding code_in
  in_c e = rw e

  pub in_b : start ≡ 1024 * block_of z 1 → get_or m (start + at) 0 ≡ get_or (code_in m z at) 1 0
  unfolding code_in
  in_b e = rw e

  pub in_a : start ≡ 1024 * block_of z 2 → get_or m (start + at) 0 ≡ get_or (code_in m z at) 2 0
  unfolding code_in
  in_a e = rw e

-- what is asked of the places of a row's cells is asked of the cells
pub row_asked : (g : List ℕ → Bool) (m : List ℕ) (z y : ℕ) → any_below (λ x. g (code_in m z (place_of x y 0))) 40 ≡ any_below (λ x. g (code_of m z y x)) 40
row_asked g m z y = any_same _ _ 40 (λ x l. ap g (code_in_lem m z y x))

pub rows_asked :
    (g : List ℕ → Bool) (m : List ℕ) (z y n : ℕ)
    → any_below (λ k. any_below (λ x. g (code_in m z (place_of x (y + k) 0))) 40) n ≡ any_below (λ k. any_below (λ x. g (code_of m z (y + k) x)) 40) n
rows_asked g m z y n = any_same _ _ n (λ k l. row_asked g m z (y + k))

-- the C of a character of 80 columns, not of a mosaic
text_test : (c : ℕ) → c < 256 → ltb c 128 ≡ not (is_set 7 c)
text_test = agree_test (λ c. ltb c 128) (λ c. not (is_set 7 c)) 256 tt

-- the B of a bichrome cell of an EF9345
low_test : (b : ℕ) → b < 256 → ltb b 192 ≡ leb b (last_bichrome Ef9345)
unfolding last_bichrome
low_test = agree_test (λ b. ltb b 192) (λ b. leb b 191) 256 tt

-- the tests of a cell, by the bytes that the code reads
module _ (code : List ℕ) where
  pub flash_test :
      (part : Part) (last b a : ℕ) → last ≡ last_bichrome part → b < 256 → b ≡ get_or code 1 0 → a ≡ get_or code 2 0
      → (leb b last && eqb (a / 8 % 2) 1) ≡ flashes part code
  unfolding flashes
  flash_test part last b a k h e f = ap (λ (t : Bool). t && eqb (a / 8 % 2) 1) (bichrome_test part last b k h) ∙ rw (e, f)

  -- of an EF9345, by the number in the loop
  pub low_flash : (b a : ℕ) → b < 256 → b ≡ get_or code 1 0 → a ≡ get_or code 2 0 → (ltb b 192 && eqb (a / 8 % 2) 1) ≡ flashes Ef9345 code
  low_flash b a h e f = ap (λ (t : Bool). t && eqb (a / 8 % 2) 1) (low_test b h) ∙ flash_test Ef9345 _ b a refl h e f

  pub low_tall : (b : ℕ) → b < 256 → b ≡ get_or code 1 0 → (ltb b 192 && eqb (b / 2 % 2) 1) ≡ is_tall Ef9345 code
  low_tall b h e = ap (λ (t : Bool). t && eqb (b / 2 % 2) 1) (low_test b h) ∙ tall_test code Ef9345 _ b refl h e

  -- of a TS9347 B1 alone tells double height
  pub bit_1_test : (b : ℕ) → b ≡ get_or code 1 0 → eqb (b / 2 % 2) 1 ≡ is_tall Ts9347 code
  unfolding is_tall
  bit_1_test b e = rw e

  -- in 80 columns
  pub pair_test :
      get_or code 0 0 < 256 → get_or code 1 0 < 256
      → ((ltb (get_or code 0 0) 128 && eqb (get_or code 2 0 / 64 % 2) 1) || (ltb (get_or code 1 0) 128 && eqb (get_or code 2 0 / 4 % 2) 1)) ≡ pair_flashes code
  unfolding pair_flashes even_of odd_of
  pair_test c b =
      let even : get_or code 2 0 / 64 % 2 ≡ bits 4 4 (get_or code 2 0) / 4 % 2 = omega arith in
      let odd : get_or code 2 0 / 4 % 2 ≡ bits 0 4 (get_or code 2 0) / 4 % 2 = omega arith in
      rw (even, odd, text_test _ c, text_test _ b)

  pub blink_test : (a : ℕ) → a ≡ get_or code 2 0 → eqb (a / 8 % 2) 1 ≡ blinks code
  unfolding blinks
  blink_test a e = rw e

  -- of the cell with the character, and of no other, bit 7 of its B is asked
  pub character_test : (c b t : ℕ) → c ≡ get_or code 0 0 → b ≡ get_or code 1 0 → (eqb (c % 128) t && leb 128 b) ≡ shows_character t code
  unfolding shows_character
  character_test c b t e f = rw (e, f)

  -- a cell that does not blink does not flash
  pub still_test : (part : Part) → blinks code ≡ false → flashes part code ≡ false
  unfolding blinks flashes
  still_test part e = let bichrome = not (is_quadrichrome part (get_or code 1 0)) in ap (λ (t : Bool). bichrome && t) e ∙ and-false bichrome

  -- of a TS9347 it flashes exactly when it blinks
  pub blink_flashes : blinks code ≡ flashes Ts9347 code
  unfolding blinks flashes
  blink_flashes = refl

-- the three parts in which a row is asked
pub three_parts :
    (f : ℕ → Bool) (first second third : Bool)
    → first ≡ any_below (λ i. f (0 + i)) 16 → second ≡ any_below (λ i. f (16 + i)) 16 → third ≡ any_below (λ i. f (32 + i)) 8
    → (first || (second || third)) ≡ any_below f 40
three_parts f first second third p q r =
    sym (or_assoc first second third)
    ∙ row_stretches f (first || second) third
    (ap₂ ◌||◌ (p ∙ any_same _ _ 16 (λ i l. ap f (omega arith))) q ∙ sym (any_split f 16 16) ∙ any_same f (λ i. f (0 + i)) 32 (λ i l. ap f (omega arith)))
    r

-- n rows that follow on have their two stretches in a block
module _ (y n : ℕ) (high : y + n ≤ 32) where
  pub lefts_fit : place_of 0 y 0 + 32 * n ≤ 1024
  lefts_fit = omega (arith, place_left 0 y 0 (omega arith))

  pub rights_fit : 8 ≤ y → place_of 32 y 0 + 8 * n ≤ 1024
  rights_fit low = omega (arith, place_right 32 y 0 (omega arith) (λ e. omega arith))

-- the places of a row's cells
module _ (y : ℕ) where
  left_place : (i : ℕ) → i < 32 → place_of 0 y 0 + i ≡ place_of i y 0
  left_place i l = omega (arith, place_left 0 y 0 (omega arith), place_left i y 0 l)

  right_place : (i : ℕ) → i < 8 → place_of 32 y 0 + i ≡ place_of (32 + i) y 0
  right_place i l =
      ⊎_elim
      (λ e. omega (arith, place_service 32 y 0 (omega arith) e, place_service (32 + i) y 0 (omega arith) e))
      (λ n. omega (arith, place_right 32 y 0 (omega arith) n, place_right (32 + i) y 0 (omega arith) n))
      (eq_or_ne y 0)

  -- those of the row k Ys on follow on
  next_left : (k i : ℕ) → i < 32 → place_of 0 y 0 + (32 * k + i) ≡ place_of i (y + k) 0
  next_left k i l = omega (arith, place_left 0 y 0 (omega arith), place_left i (y + k) 0 l)

  next_right : (k i : ℕ) → i < 8 → 8 ≤ y → place_of 32 y 0 + (8 * k + i) ≡ place_of (32 + i) (y + k) 0
  next_right k i l h = omega (arith, place_right 32 y 0 (omega arith) (λ e. omega arith), place_right (32 + i) (y + k) 0 (omega arith) (λ e. omega arith))

  -- all in their block
  pub left_low : (n i : ℕ) → y + n ≤ 32 → i < 32 * n → place_of 0 y 0 + i < 1024
  left_low n i h l = omega (arith, l, lefts_fit y n h)

  pub right_low : (i : ℕ) → y < 32 → i < 8 → place_of 32 y 0 + i < 1024
  right_low i h l =
      ⊎_elim
      (λ e. omega (arith, place_service 32 y 0 (omega arith) e))
      (λ n. omega (arith, place_right 32 y 0 (omega arith) n))
      (eq_or_ne y 0)

  pub rights_low : (n i : ℕ) → 8 ≤ y → y + n ≤ 32 → i < 8 * n → place_of 32 y 0 + i < 1024
  rights_low n i low h l = omega (arith, l, rights_fit y n h low)

  -- what is asked in parts is asked of the cells
  module _ (test : ℕ → Bool) where
    pub one_row :
        (first second third : Bool)
        → first ≡ any_below (λ i. test (place_of 0 y 0 + i)) 16 → second ≡ any_below (λ i. test (place_of 0 y 0 + 16 + i)) 16
        → third ≡ any_below (λ i. test (place_of 32 y 0 + i)) 8
        → (first || (second || third)) ≡ any_below (λ x. test (place_of x y 0)) 40
    one_row first second third p q r =
        three_parts (λ x. test (place_of x y 0)) first second third
        (p ∙ any_same _ (λ i. test (place_of (0 + i) y 0)) 16 (λ i l. ap test (let e : i ≡ 0 + i = omega arith in left_place i (omega arith) ∙ ap (λ (x : ℕ). place_of x y 0) e)))
        (q ∙ any_same _ _ 16 (λ i l. ap test (let e : place_of 0 y 0 + 16 + i ≡ place_of 0 y 0 + (16 + i) = omega arith in e ∙ left_place (16 + i) (omega arith))))
        (r ∙ any_same _ _ 8 (λ i l. ap test (right_place i l)))

    abbrev lefts : ℕ → Bool
    lefts i = test (place_of 0 y 0 + i)

    abbrev rights : ℕ → Bool
    rights i = test (place_of 32 y 0 + i)

    abbrev passes : ℕ → Bool
    passes k = any_below (λ x. test (place_of x (y + k) 0)) 40

    row_passes : (k : ℕ) → 8 ≤ y → (any_below (λ i. lefts (32 * k + i)) 32 || any_below (λ i. rights (8 * k + i)) 8) ≡ passes k
    row_passes k h =
        row_stretches (λ x. test (place_of x (y + k) 0)) _ _
        (any_same _ (λ i. test (place_of (0 + i) (y + k) 0)) 32 (λ i l. ap test (let e : i ≡ 0 + i = omega arith in next_left k i l ∙ ap (λ (x : ℕ). place_of x (y + k) 0) e)))
        (any_same _ _ 8 (λ i l. ap test (next_right k i l h)))

    stretches_pass : (n : ℕ) → 8 ≤ y → (any_below lefts (32 * n) || any_below rights (8 * n)) ≡ any_below passes n
    unfolding any_below
    stretches_pass zero h = refl
    stretches_pass (suc n) h =
        let el : 32 * suc n ≡ 32 * n + 32 = omega arith in
        let er : 8 * suc n ≡ 8 * n + 8 = omega arith in
        ap₂ ◌||◌ (ap (any_below lefts) el ∙ any_split lefts (32 * n) 32) (ap (any_below rights) er ∙ any_split rights (8 * n) 8)
        ∙ or_swap (any_below lefts (32 * n)) (any_below (λ i. lefts (32 * n + i)) 32) (any_below rights (8 * n)) (any_below (λ i. rights (8 * n + i)) 8)
        ∙ ap₂ ◌||◌ (stretches_pass n h) (row_passes n h)

    -- n rows at once
    pub several_rows :
        (n : ℕ) (left right : Bool) → 8 ≤ y → left ≡ any_below lefts (32 * n) → right ≡ any_below rights (8 * n) → (left || right) ≡ any_below passes n
    several_rows n left right h p q = ap₂ ◌||◌ p q ∙ stretches_pass n h

-- of the cells
pub several_cells :
    (g : List ℕ → Bool) (m : List ℕ) (z y n : ℕ) (left right : Bool) → 8 ≤ y
    → left ≡ any_below (λ i. g (code_in m z (place_of 0 y 0 + i))) (32 * n) → right ≡ any_below (λ i. g (code_in m z (place_of 32 y 0 + i))) (8 * n)
    → (left || right) ≡ any_below (λ k. any_below (λ x. g (code_of m z (y + k) x)) 40) n
several_cells g m z y n left right h p q = several_rows y (λ at. g (code_in m z at)) n left right h p q ∙ rows_asked g m z y n

-- where nothing blinks nothing flashes
pub none_flashes :
    (part : Part) (m : List ℕ) (z y n : ℕ) (t : Bool) → t ≡ any_below (λ k. blink_at m z (y + k)) n → t ≡ false
    → (k : ℕ) → k < n → flash_at part m z (y + k) ≡ false
none_flashes part m z y n t e off k l =
    any_never _ 40
    (λ x h. still_test (code_of m z (y + k) x) part (any_not (λ i. blinks (code_of m z (y + k) i)) 40 x (any_not (λ i. blink_at m z (y + i)) n k (sym e ∙ off) l) h))

-- where the keys need not be asked
module _ (keys : Keys) (high : keys_high keys ≡ true) where
  user_high : (leb 4 keys.user0 && (leb 8 keys.user10 && leb 8 keys.user11)) ≡ true
  unfolding keys_high
  user_high = and_left _ _ high

  quad_high : (leb 16 keys.quad0 && (leb 16 keys.quad1 && leb 16 keys.quad2)) ≡ true
  unfolding keys_high
  quad_high = and_right (leb 4 keys.user0 && (leb 8 keys.user10 && leb 8 keys.user11)) _ high

  -- a B that a key fits is not that of a cell from the ROM
  from_high : (code : List ℕ) → from_block keys code ≡ true → 128 ≤ get_or code 1 0
  unfolding from_block
  from_high code e =
      let b = get_or code 1 0 in
      let u = leb-true 4 keys.user0 (and_left _ _ user_high) in
      let us = and_right (leb 4 keys.user0) _ user_high in
      let v = leb-true 8 keys.user10 (and_left _ _ us) in
      let w = leb-true 8 keys.user11 (and_right (leb 8 keys.user10) _ us) in
      let p = leb-true 16 keys.quad0 (and_left _ _ quad_high) in
      let qs = and_right (leb 16 keys.quad0) _ quad_high in
      let q = leb-true 16 keys.quad1 (and_left _ _ qs) in
      let r = leb-true 16 keys.quad2 (and_right (leb 16 keys.quad1) _ qs) in
      ⊎_elim
      (λ t.
      ⊎_elim (λ a. omega (arith, eqb-true (b / 32) keys.user0 a))
      (λ a.
      ⊎_elim (λ k. omega (arith, eqb-true (b / 16) keys.user10 k)) (λ k. omega (arith, eqb-true (b / 16) keys.user11 k))
      (or_cases (eqb (b / 16) keys.user10) _ a))
      (or_cases (eqb (b / 32) keys.user0) _ t))
      (λ t.
      ⊎_elim (λ a. omega (arith, eqb-true (b / 8) keys.quad0 a))
      (λ a.
      ⊎_elim (λ k. omega (arith, eqb-true (b / 8) keys.quad1 k)) (λ k. omega (arith, eqb-true (b / 8) keys.quad2 k))
      (or_cases (eqb (b / 8) keys.quad1) _ a))
      (or_cases (eqb (b / 8) keys.quad0) _ t))
      (or_cases (eqb (b / 32) keys.user0 || (eqb (b / 16) keys.user10 || eqb (b / 16) keys.user11)) _ e)

  keyed_shows : (code : List ℕ) → keyed keys code ≡ true → shows_character keys.character code ≡ true
  unfolding keyed shows_character
  keyed_shows code e =
      let t = eqb (get_or code 0 0 % 128) keys.character in
      and_both _ _ (and_left t _ e) (le-leb 128 (get_or code 1 0) (from_high code (and_right t _ e)))

  pub no_character : (code : ℕ → List ℕ) (n : ℕ) → any_below (λ x. shows_character keys.character (code x)) n ≡ false → false ≡ any_below (λ x. keyed keys (code x)) n
  no_character code n e = sym (any_never (λ x. keyed keys (code x)) n (λ x l. unkeyed (code x) (any_not (λ i. shows_character keys.character (code i)) n x e l)))
    where
      unkeyed : (one : List ℕ) → shows_character keys.character one ≡ false → keyed keys one ≡ false
      unkeyed one off = ⊎_elim (λ t. absurd (false≢true (sym off ∙ keyed_shows one t))) (λ t. t) (bool_cases (keyed keys one))

  -- of several rows
  pub none_keyed :
      (m : List ℕ) (z y n : ℕ) (t : Bool) → t ≡ any_below (λ k. character_at m z (y + k) keys.character) n → t ≡ false
      → (k : ℕ) → k < n → keyed_at keys m z (y + k) ≡ false
  none_keyed m z y n t e off k l = sym (no_character (code_of m z (y + k)) 40 (any_not (λ i. character_at m z (y + i) keys.character) n k (sym e ∙ off) l))

-- no part of a byte is 255
module _ (keys : Keys) (code : List ℕ) (none : is_source keys ≡ false) (small : get_or code 1 0 < 256) where
  unmet : (v key : ℕ) → v < 255 → not (eqb key 255) ≡ false → eqb v key ≡ false
  unmet v key l e = ne_eqb v key (λ q. omega (arith, eqb-true key 255 (not-false _ e)))

  sourceless : keyed keys code ≡ false
  unfolding keyed from_block is_source
  sourceless =
      let b = get_or code 1 0 in
      let n1 = or_none (not (eqb keys.user0 255)) _ none in
      let n2 = or_none (not (eqb keys.user10 255)) _ n1 in
      let n3 = or_none (not (eqb keys.user11 255)) _ n2 in
      let n4 = or_none (not (eqb keys.quad0 255)) _ n3 in
      ap (λ (t : Bool). eqb (get_or code 0 0 % 128) keys.character && t)
      (ap₂ ◌||◌
      (ap₂ ◌||◌ (unmet (b / 32) keys.user0 (omega arith) (or_neither _ _ none))
      (ap₂ ◌||◌ (unmet (b / 16) keys.user10 (omega arith) (or_neither _ _ n1)) (unmet (b / 16) keys.user11 (omega arith) (or_neither _ _ n2))))
      (ap₂ ◌||◌ (unmet (b / 8) keys.quad0 (omega arith) (or_neither _ _ n3))
      (ap₂ ◌||◌ (unmet (b / 8) keys.quad1 (omega arith) (or_neither _ _ n4))
      (unmet (b / 8) keys.quad2 (omega arith) (or_none (not (eqb keys.quad1 255)) _ n4)))))
      ∙ and-false (eqb (get_or code 0 0 % 128) keys.character)

pub no_source :
    (keys : Keys) (n : ℕ) → is_source keys ≡ false → (m : List ℕ) (z y : ℕ) → ((k : ℕ) → get_or m k 0 < 256)
    → any_below (λ x. keyed keys (code_of m z y x)) n ≡ false
unfolding code_of
no_source keys n none m z y bytes = any_never _ n (λ x l. sourceless keys (code_of m z y x) none (bytes (place_of x y (block_of z 1))))
