-- Laws of the decoder: a law for each row of the table of sets, and when B makes a cell quadrichrome.
-- Assumes nothing.
use Prim.Native.Nat.{ℕ, ◌/◌, ◌%◌, ◌≤◌, ◌<◌}
use mathlib.Core.Path.{◌≡◌, sym, ◌∙◌}
use mathlib.Core.Bool.{Bool, true, false, not, ◌&&◌}
use native.Mathlib.Omega.{arith}
use lib.Dec.{ltb, leb, eqb}
use borrow.Author.Tests.{lt-ltb, le-ltb, le-leb, eq-eqb, ne_eqb}
use Rattle.basics.specs.Bits.{bit, bits, is_set}
use Rattle.basics.proofs.Computed.{agree_test}
use Rattle.board.specs.declared.Part.{Part}
use Rattle.board.specs.declared.Part.TheVariants.{Ef9345, Ts9347}
use Rattle.colour.specs.Colours.{colour_of}
use Rattle.colour.specs.declared.Colour.{Colour}
use Rattle.cell.specs.Cells.{ef9345_set, ts9347_set, set_of, alphanumeric_of, are_both_set, bichrome_of, quadrichrome_of, is_quadrichrome, cell_of}
use Rattle.cell.specs.HowCells.{last_bichrome}
use Rattle.cell.specs.declared.kind.Set.{Set}
use Rattle.cell.specs.declared.kind.Set.TheVariants.{G0, G10, G11, G20, G21, Goe, UserG0, UserG1, Q}
use Rattle.cell.specs.declared.kind.BichromeCell.{BichromeCell}
use Rattle.cell.specs.declared.kind.Cell.TheVariants.{Bichrome, Quadrichrome}

-- an EF9345's
module _ (n : ℕ) where
  pub set-G0 : n < 2 → G0 ≡ ef9345_set n
  unfolding ef9345_set
  set-G0 h = simp (lt-ltb n 2 h)

  pub set-G10 : n ≡ 2 → G10 ≡ ef9345_set n
  unfolding ef9345_set
  set-G10 h = rw h

  pub set-G11 : n ≡ 3 → G11 ≡ ef9345_set n
  unfolding ef9345_set
  set-G11 h = rw h

  pub set-G20 : 4 ≤ n → n < 6 → G20 ≡ ef9345_set n
  unfolding ef9345_set
  set-G20 l h = simp (le-ltb n 2 (omega arith), le-ltb n 3 (omega arith), le-ltb n 4 l, lt-ltb n 6 h)

  pub set-G21 : 6 ≤ n → n < 8 → G21 ≡ ef9345_set n
  unfolding ef9345_set
  set-G21 l h = simp (le-ltb n 2 (omega arith), le-ltb n 3 (omega arith), le-ltb n 4 (omega arith), le-ltb n 6 l, lt-ltb n 8 h)

  pub set-UserG0 : 8 ≤ n → n < 10 → UserG0 ≡ ef9345_set n
  unfolding ef9345_set
  set-UserG0 l h =
      simp (le-ltb n 2 (omega arith), le-ltb n 3 (omega arith), le-ltb n 4 (omega arith), le-ltb n 6 (omega arith), le-ltb n 8 l, lt-ltb n 10 h)

  pub set-UserG1 : 10 ≤ n → UserG1 (n % 2) ≡ ef9345_set n
  unfolding ef9345_set
  set-UserG1 l =
      simp
      (le-ltb n 2 (omega arith), le-ltb n 3 (omega arith), le-ltb n 4 (omega arith), le-ltb n 6 (omega arith), le-ltb n 8 (omega arith), le-ltb n 10 l)

pub high_bits : (b : ℕ) → b < 256 → b / 16 ≡ bits 4 4 b
high_bits b h = omega arith

-- a TS9347's
module _ (b : ℕ) where
  set : (k : ℕ) → bit k b ≡ 1 → is_set k b ≡ true
  set k e = eq-eqb (bit k b) 1 e

  clear : (k : ℕ) → bit k b ≡ 0 → is_set k b ≡ false
  clear k e = ne_eqb (bit k b) 1 (λ h. omega (arith, e, h))

  pub ts9347-G0 : b < 128 → b / 16 % 4 < 2 → G0 ≡ ts9347_set b
  unfolding ts9347_set
  ts9347-G0 l h = simp (clear 7 (omega arith), clear 5 (omega arith))

  pub ts9347-G10 : b < 128 → b / 16 % 4 ≡ 2 → G10 ≡ ts9347_set b
  unfolding ts9347_set
  ts9347-G10 l h = simp (clear 7 (omega arith), set 5 (omega arith), clear 4 (omega arith))

  pub ts9347-Goe : b < 128 → b / 16 % 4 ≡ 3 → Goe ≡ ts9347_set b
  unfolding ts9347_set
  ts9347-Goe l h = simp (clear 7 (omega arith), set 5 (omega arith), set 4 (omega arith))

  pub ts9347-UserG0 : 128 ≤ b → b < 160 → UserG0 ≡ ts9347_set b
  unfolding ts9347_set
  ts9347-UserG0 l h = simp (set 7 (omega arith), clear 6 (omega arith), clear 5 (omega arith))

  pub ts9347-UserG1 : 160 ≤ b → b < 192 → UserG1 (b / 16 % 2) ≡ ts9347_set b
  unfolding ts9347_set
  ts9347-UserG1 l h = simp (set 7 (omega arith), clear 6 (omega arith), set 5 (omega arith))

  pub ts9347-Q : 192 ≤ b → b < 256 → Q (b / 8 % 8) ≡ ts9347_set b
  unfolding ts9347_set
  ts9347-Q l h = simp (set 7 (omega arith), set 6 (omega arith))

-- a byte's bits 7 and 6 are both set from 192 on
pub top_two : (b : ℕ) → b < 256 → are_both_set b ≡ leb 192 b
top_two = agree_test (λ b. are_both_set b) (λ b. leb 192 b) 256 tt

pub wide_bits : (b : ℕ) → b < 256 → (ltb b 192 && eqb (b / 8 % 2) 1) ≡ (not (are_both_set b) && is_set 3 b)
wide_bits = agree_test (λ b. ltb b 192 && eqb (b / 8 % 2) 1) (λ b. not (are_both_set b) && is_set 3 b) 256 tt

-- by the last B of a bichrome cell
pub quadrichrome_last : (part : Part) (b : ℕ) → b < 256 → is_quadrichrome part b ≡ ltb (last_bichrome part) b
unfolding last_bichrome
quadrichrome_last Ef9345 b h = agree_test (λ b. are_both_set b) (λ b. ltb 191 b) 256 tt b h
quadrichrome_last Ts9347 b h = sym (le-ltb 255 b (omega arith))

pub bichrome_last : (part : Part) (b : ℕ) → b < 256 → not (is_quadrichrome part b) ≡ leb b (last_bichrome part)
unfolding last_bichrome
bichrome_last Ef9345 b h = agree_test (λ b. not (are_both_set b)) (λ b. leb b 191) 256 tt b h
bichrome_last Ts9347 b h = sym (le-leb b 255 (omega arith))

-- below 192 each part has a bichrome cell
pub below_last : (part : Part) (b : ℕ) → b < 192 → b ≤ last_bichrome part
unfolding last_bichrome
below_last Ef9345 b l = omega arith
below_last Ts9347 b l = omega arith

module _ (part : Part) (c b a : ℕ) (h : b < 256) where
  pub cell_bichrome : b ≤ last_bichrome part → Bichrome (bichrome_of part c b a) ≡ cell_of part c b a
  unfolding cell_of
  cell_bichrome l = rw (quadrichrome_last part b h ∙ le-ltb (last_bichrome part) b l)

  pub cell_quadrichrome : last_bichrome part < b → Quadrichrome (quadrichrome_of c b a) ≡ cell_of part c b a
  unfolding cell_of
  cell_quadrichrome l = rw (quadrichrome_last part b h ∙ lt-ltb (last_bichrome part) b l)

  -- a bichrome cell is what its parts are
  pub bichrome_parts :
      (f g : ℕ) {s : Set} {u w k t m l : Bool} {p q : Colour}
      → s ≡ set_of part b → u ≡ (alphanumeric_of s && is_set 4 b) → w ≡ (not (are_both_set b) && is_set 3 b) → k ≡ is_set 2 b → t ≡ is_set 1 b → m ≡ is_set 7 a
      → p ≡ colour_of f → l ≡ is_set 3 a → q ≡ colour_of g → f % 8 ≡ bits 4 3 a % 8 → g % 8 ≡ bits 0 3 a % 8
      → ◌≡◌ {A = BichromeCell}
      (record {
        character = c;
        set = s;
        underline = u;
        wide = w;
        conceal = k;
        tall = t;
        negative = m;
        foreground = p;
        flash = l;
        background = q;
      })
      (bichrome_of part c b a)
  unfolding bichrome_of
  bichrome_parts f g es eu ew ek et em ep el eq ef eg = cc
