-- Laws of bits: those of a number that is made of its bits, the fields of a byte, and the bits of two numbers together.
-- Assumes nothing.
use Prim.Native.Nat.{ℕ, zero, suc, ◌+◌, ◌-◌, ◌*◌, ◌/◌, ◌%◌, ◌^◌, ◌<◌, ◌≤◌}
use mathlib.Core.Path.{◌≡◌, refl, sym, ap, ◌∙◌}
use mathlib.Core.Bool.{Bool, true, false, ◌||◌}
use mathlib.Core.Logic.{⊎_elim}
use native.Mathlib.Nat.{pow-suc, div-eq_of_lt, add-mul-div_left, add-mul-mod_self_left, add-div_right, mul-one, mul-zero, add-zero}
use native.Mathlib.Omega.{arith}
use lib.Dec.{eqb, leb}
use lib.Bits.{bit_or, or_add_and, or_lt, and_le_l, and_le_r}
use lib.Pow.{pow_pos, pow-add}
use Rattle.basics.specs.Bits.{is_set, bits, from_bits}
use borrow.Author.Tests.{le-leb, lt-leb}
use Rattle.basics.proofs.Choice.{eq_or_ne, lt_or_le, or_left, or_right}
use Rattle.basics.proofs.Computed.{agree, agree_test2}

module _ (f : ℕ → Bool) where
  -- a turn of the number's making
  number_set : (n : ℕ) → f n ≡ true → from_bits f (suc n) ≡ from_bits f n + 2 ^ n
  unfolding from_bits
  number_set n t = rw (t, mul-one (2 ^ n))

  number_unset : (n : ℕ) → f n ≡ false → from_bits f (suc n) ≡ from_bits f n
  unfolding from_bits
  number_unset n t = rw (t, mul-zero (2 ^ n), add-zero (from_bits f n))

  pub number_small : (n : ℕ) → from_bits f n < 2 ^ n
  unfolding from_bits
  number_small zero = omega arith
  number_small (suc n) = go (f n) refl (number_small n)
    where
      go : (t : Bool) → f n ≡ t → from_bits f n < 2 ^ n → from_bits f (suc n) < 2 ^ suc n
      go true e l = omega (arith, number_set n e, pow-suc 2 n)
      go false e l = omega (arith, number_unset n e, pow-suc 2 n, pow_pos n)

  -- bit k of it is f k
  pub number_bit : (n k : ℕ) → k < n → is_set k (from_bits f n) ≡ f k
  number_bit zero k l = absurd (omega arith)
  number_bit (suc n) k l = go (f n) refl (number_bit n k)
    where
      top : f n ≡ true → is_set n (from_bits f (suc n)) ≡ true
      top e = rw (number_set n e, add-div_right (from_bits f n) (pow_pos n), div-eq_of_lt (number_small n))

      none : f n ≡ false → is_set n (from_bits f (suc n)) ≡ false
      none e = rw (number_unset n e, div-eq_of_lt (number_small n))

      half : k < n → 2 ^ n ≡ 2 ^ k * (2 * 2 ^ (n - k - 1))
      half h =
          let e : n ≡ k + suc (n - k - 1) = omega arith in
          let d : 2 ^ suc (n - k - 1) ≡ 2 * 2 ^ (n - k - 1) = omega (arith, pow-suc 2 (n - k - 1)) in
          ap (λ (m : ℕ). 2 ^ m) e ∙ pow-add 2 k (suc (n - k - 1)) ∙ ap (λ (m : ℕ). 2 ^ k * m) d

      lower : k < n → f n ≡ true → is_set k (from_bits f (suc n)) ≡ is_set k (from_bits f n)
      lower h e =
          ap (is_set k) (number_set n e ∙ ap (λ (m : ℕ). from_bits f n + m) (half h))
          ∙ ap (λ (m : ℕ). eqb (m % 2) 1) (add-mul-div_left (from_bits f n) (2 * 2 ^ (n - k - 1)) (pow_pos k))
          ∙ ap (λ (m : ℕ). eqb m 1) (add-mul-mod_self_left (from_bits f n / 2 ^ k) 2 (2 ^ (n - k - 1)))

      go : (t : Bool) → f n ≡ t → (k < n → is_set k (from_bits f n) ≡ f k) → is_set k (from_bits f (suc n)) ≡ f k
      go true e below = ⊎_elim (λ q. rw q (top e ∙ sym e)) (λ q. lower (omega arith) e ∙ below (omega arith)) (eq_or_ne k n)
      go false e below = ⊎_elim (λ q. rw q (none e ∙ sym e)) (λ q. ap (is_set k) (number_unset n e) ∙ below (omega arith)) (eq_or_ne k n)

-- numbers of the same bits are the same
pub number_same : (f g : ℕ → Bool) (n : ℕ) → ((k : ℕ) → k < n → f k ≡ g k) → from_bits f n ≡ from_bits g n
unfolding from_bits
number_same f g zero e = refl
number_same f g (suc n) e = rw (number_same f g n (λ k l. e k (omega arith)), e n (omega arith))

-- a byte is the number of its bits
pub byte_number : (s : ℕ) → s < 256 → s ≡ from_bits (λ k. is_set k s) 8
unfolding from_bits
byte_number = agree (λ s. s) (λ s. from_bits (λ k. is_set k s) 8) 256 tt

-- the two bits of a byte from bit 2 * i up: the low one and the high one
pub field_low : (s i : ℕ) → s < 256 → i < 4 → is_set 0 (bits (2 * i) 2 s) ≡ is_set (2 * i) s
field_low = agree_test2 (λ s i. is_set 0 (bits (2 * i) 2 s)) (λ s i. is_set (2 * i) s) 256 4 tt

pub field_high : (s i : ℕ) → s < 256 → i < 4 → is_set 1 (bits (2 * i) 2 s) ≡ is_set (2 * i + 1) s
field_high = agree_test2 (λ s i. is_set 1 (bits (2 * i) 2 s)) (λ s i. is_set (2 * i + 1) s) 256 4 tt

-- the bits of two numbers reach a power of two where those of one do
pub or_reaches : (k a b : ℕ) → leb (2 ^ k) (bit_or a b) ≡ (leb (2 ^ k) a || leb (2 ^ k) b)
or_reaches k a b =
    ⊎_elim
    (λ (p : a < 2 ^ k).
    ⊎_elim
    (λ (q : b < 2 ^ k). lt-leb (2 ^ k) (bit_or a b) (or_lt k a b p q) ∙ sym (rw (lt-leb (2 ^ k) a p, lt-leb (2 ^ k) b q)))
    (λ (q : 2 ^ k ≤ b). high (omega (arith, or_add_and a b, and_le_l a b)) ∙ sym (or_right (leb (2 ^ k) a) _ (le-leb (2 ^ k) b q)))
    (lt_or_le b (2 ^ k)))
    (λ (p : 2 ^ k ≤ a). high (omega (arith, or_add_and a b, and_le_r a b)) ∙ sym (or_left _ (leb (2 ^ k) b) (le-leb (2 ^ k) a p)))
    (lt_or_le a (2 ^ k))
  where
    high : 2 ^ k ≤ bit_or a b → leb (2 ^ k) (bit_or a b) ≡ true
    high h = le-leb (2 ^ k) (bit_or a b) h
