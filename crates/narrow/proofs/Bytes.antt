-- The byte of a line as the code works it out: from a slice, or from two windows.
-- Assumes nothing.
use Prim.Native.Nat.{ℕ, ◌+◌, ◌-◌, ◌*◌, ◌/◌, ◌%◌, ◌<◌, ◌≤◌}
use mathlib.Core.Path.{◌≡◌, refl, sym, ap, ◌∙◌}
use mathlib.Core.Bool.{Bool, true, false, not}
use mathlib.Core.Logic.{⊎_elim}
use mathlib.Core.List.{[], ◌∷◌}
use native.Mathlib.Nat.{div-one}
use native.Mathlib.Omega.{arith}
use lib.Dec.{ltb, eqb}
use borrow.Author.Tests.{lt-ltb, le-ltb}
use Rattle.basics.specs.Choice.{pick, one_if}
use Rattle.basics.specs.Bits.{is_set, from_bits}
use Rattle.basics.specs.Parts.{joined}
use Rattle.basics.proofs.Choice.{eq_or_ne, lt_or_le}
use Rattle.basics.proofs.Bits.{number_same}
use Rattle.basics.proofs.Computed.{agree, agree2}
use Rattle.narrow.specs.declared.pair.Narrow.{Narrow}
use Rattle.narrow.specs.Pixels.{window_bit, mosaic_bit}
use Rattle.narrow.specs.HowTens.{with_d, byte_by, shaded_of, windows_of, mosaic_ten}

-- bit 0 as the code asks for it
pub lowest : (n : ℕ) → eqb (n % 2) 1 ≡ is_set 0 n
lowest n = ap (λ (k : ℕ). eqb (k % 2) 1) (sym (div-one n))

-- the same six bits
pub byte_same : (d : Bool) (f g : ℕ → Bool) → ((x : ℕ) → x < 6 → f x ≡ g x) → byte_by d f ≡ byte_by d g
byte_same d f g e = number_same (with_d d f) (with_d d g) 7 (λ x l. ⊎_elim (λ q. rw q) (λ n. ap (pick (eqb x 6) d) (e x (omega arith))) (eq_or_ne x 6))

-- of a slice
pub shaded_negative : (s d : ℕ) → s < 256 → d < 2 → 63 - s % 64 + d * 64 ≡ shaded_of s true (eqb d 1)
unfolding shaded_of from_bits
shaded_negative = agree2 (λ s d. 63 - s % 64 + d * 64) (λ s d. byte_by (eqb d 1) (λ x. not (is_set x s))) 256 2 tt

pub shaded_plain : (s d : ℕ) → s < 256 → d < 2 → s % 64 + d * 64 ≡ shaded_of s false (eqb d 1)
unfolding shaded_of from_bits
shaded_plain = agree2 (λ s d. s % 64 + d * 64) (λ s d. byte_by (eqb d 1) (λ x. is_set x s)) 256 2 tt

-- of two windows
one_if_lem : (n : ℕ) → n < 2 → n ≡ one_if (eqb n 1)
one_if_lem = agree (λ n. n) (λ n. one_if (eqb n 1)) 2 tt

three_each : (left right d : Bool) → one_if left * 7 + one_if right * 56 + one_if d * 64 ≡ windows_of left right d
unfolding windows_of from_bits
three_each true true true = refl
three_each true true false = refl
three_each true false true = refl
three_each true false false = refl
three_each false true true = refl
three_each false true false = refl
three_each false false true = refl
three_each false false false = refl

pub windows_is :
    (left right d : ℕ) → left < 2 → right < 2 → d < 2 → left * 7 + right * 56 + d * 64 ≡ windows_of (eqb left 1) (eqb right 1) (eqb d 1)
windows_is left right d h k l =
    ap (λ (n : ℕ). n * 7 + right * 56 + d * 64) (one_if_lem left h)
    ∙ ap (λ (n : ℕ). one_if (eqb left 1) * 7 + n * 56 + d * 64) (one_if_lem right k)
    ∙ ap (λ (n : ℕ). one_if (eqb left 1) * 7 + one_if (eqb right 1) * 56 + n * 64) (one_if_lem d l)
    ∙ three_each (eqb left 1) (eqb right 1) (eqb d 1)

module _ (cell : Narrow) where
  abbrev d0 : Bool
  d0 = is_set 0 cell.attributes

  -- the two windows of a line
  line_windows : (n : ℕ) → byte_by d0 (mosaic_bit cell n) ≡ windows_of (window_bit cell (2 * (n / 2) + 0)) (window_bit cell (2 * (n / 2) + 1)) d0
  unfolding windows_of
  line_windows n = byte_same d0 _ _ (λ x l. ⊎_elim (λ h. left x h) (λ h. right x h l) (lt_or_le x 3))
    where
      left : (x : ℕ) → x < 3 → mosaic_bit cell n x ≡ pick (ltb x 3) (window_bit cell (2 * (n / 2) + 0)) (window_bit cell (2 * (n / 2) + 1))
      left x h =
          let e : x / 3 ≡ 0 = omega arith in
          rw (lt-ltb x 3 h) (ap (λ (k : ℕ). window_bit cell (2 * (n / 2) + k)) e)

      right : (x : ℕ) → 3 ≤ x → x < 6 → mosaic_bit cell n x ≡ pick (ltb x 3) (window_bit cell (2 * (n / 2) + 0)) (window_bit cell (2 * (n / 2) + 1))
      right x h l =
          let e : x / 3 ≡ 1 = omega arith in
          rw (le-ltb x 3 h) (ap (λ (k : ℕ). window_bit cell (2 * (n / 2) + k)) e)

  module _ (c a : ℕ) (is_c : c ≡ cell.character) (is-a : a ≡ cell.attributes) where
    abbrev of : ℕ → ℕ → ℕ
    of left right = windows_of (eqb (left % 2) 1) (eqb (right % 2) 1) (eqb (a % 2) 1)

    pub mosaic_ten_lem :
        (p q r s t : ℕ) → p ≡ of c (c / 2) → q ≡ of (c / 4) (c / 8) → r ≡ of (c / 16) (c / 32) → s ≡ of (c / 64) (a / 2) → t ≡ of (a / 4) (a / 8)
        → (p ∷ p ∷ q ∷ q ∷ r ∷ r ∷ s ∷ s ∷ t ∷ t ∷ []) ≡ mosaic_ten cell
    unfolding mosaic_ten joined
    mosaic_ten_lem p q r s t ep eq er es et =
        rw (ep, eq, er, es, et, lowest a, lowest c, is_c, is-a, line_windows 0, line_windows 2, line_windows 4, line_windows 6, line_windows 8)
