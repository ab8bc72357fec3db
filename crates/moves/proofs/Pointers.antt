-- A pointer that has gone on: its X and Y are legal where they were, and its block is the one that it was.
-- Assumes nothing.
use Prim.Native.Nat.{ℕ, ◌+◌, ◌/◌, ◌%◌, ◌<◌, ◌≤◌}
use mathlib.Core.Path.{◌≡◌, refl}
use mathlib.Core.Bool.{true}
use mathlib.Core.Logic.{inr, ⊎_elim}
use native.Mathlib.Omega.{arith}
use Rattle.basics.specs.Bits.{bit, bits}
use Rattle.basics.proofs.Choice.{and_both, and_right, eq_or_ne}
use Rattle.board.specs.declared.Part.{Part}
use Rattle.board.specs.declared.Part.TheVariants.{Ef9345, Ts9347}
use Rattle.address.specs.Places.{block_at}
use Rattle.address.specs.Pointers.{main_pointer, auxiliary_pointer}
use Rattle.address.specs.Triples.{legal, legal_in}
use Rattle.address.specs.declared.triple.Triple.{Triple}
use Rattle.address.proofs.Laws.{facts_page, Row}
use Rattle.moves.specs.Onward.{next_x, next_y}
use Rattle.moves.proofs.Going.{next_last, next_more, next_31, next_0, next_row}

-- the next X: below 40, one more where it was not 39, and the bits above it stay
module _ (v : ℕ) (l : bits 0 6 v < 40) where
  abbrev Stays : ℕ → Type 0
  Stays w = (bits 0 6 w < 40) × (w / 64 ≡ v / 64)

  pub x_stays : Stays (next_x v)
  x_stays =
      ⊎_elim (λ (e : v % 64 ≡ 39). rw (← next_last v e) (omega arith, omega arith)) (λ (n : v % 64 ≡ 39 → ⊥). rw (← next_more v n) (omega arith, omega arith))
      (eq_or_ne (v % 64) 39)

  pub x_more : (v % 64 ≡ 39 → ⊥) → bits 0 6 (next_x v) ≡ bits 0 6 v + 1
  x_more n = rw (← next_more v n) (omega arith)

-- the next Y: legal where it was, and the bits above it stay
module _ (v : ℕ) (h : Row (bits 0 5 v)) where
  below : (v % 32 ≡ 31 → ⊥) → (v % 32 ≡ 0 → ⊥) → Row (bits 0 5 (v + 1))
  below n z = ⊎_elim (λ (e : bits 0 5 v ≡ 0). absurd (z (omega arith))) (λ (b : (8 ≤ bits 0 5 v) × (bits 0 5 v < 32)). inr (omega (arith, b.0), omega arith)) h

  pub y_stays : Row (bits 0 5 (next_y v)) × (next_y v / 32 ≡ v / 32)
  y_stays =
      ⊎_elim (λ (e : v % 32 ≡ 31). rw (← next_31 v e) (inr (omega arith, omega arith), omega arith))
      (λ (n : v % 32 ≡ 31 → ⊥).
      ⊎_elim (λ (e : v % 32 ≡ 0). rw (← next_0 v e) (h, refl)) (λ (z : v % 32 ≡ 0 → ⊥). rw (← next_row v n z) (below n z, omega arith)) (eq_or_ne (v % 32) 0))
      (eq_or_ne (v % 32) 31)

-- bits above X, and above Y
high_bits : (a b : ℕ) → a / 64 ≡ b / 64 → (bit 6 a ≡ bit 6 b) × (bit 7 a ≡ bit 7 b)
high_bits a b e = (omega (arith, e), omega (arith, e))

above_y : (a b : ℕ) → a / 32 ≡ b / 32 → (bit 5 a ≡ bit 5 b) × (bit 6 a ≡ bit 6 b) × (bit 7 a ≡ bit 7 b) × (bits 5 3 a ≡ bits 5 3 b)
above_y a b e = (omega (arith, e), omega (arith, e), omega (arith, e), omega (arith, e))

-- and so the block
pub main_block_stays :
    (part : Part) (r6 s6 r7 s7 : ℕ) → s6 / 32 ≡ r6 / 32 → s7 / 64 ≡ r7 / 64 → (main_pointer part s6 s7).z ≡ (main_pointer part r6 r7).z
main_block_stays Ef9345 r6 s6 r7 s7 e f =
    let y = above_y s6 r6 e in
    let x = high_bits s7 r7 f in
    rw (y.0, y.2, x.0, x.1)
main_block_stays Ts9347 r6 s6 r7 s7 e f =
    let y = above_y s6 r6 e in
    let x = high_bits s7 r7 f in
    rw (y.3, x.0, x.1)

pub auxiliary_block_stays :
    (part : Part) (r4 r5 s5 r6 s6 : ℕ) → s5 / 64 ≡ r5 / 64 → s6 / 32 ≡ r6 / 32 → (auxiliary_pointer part r4 s5 s6).z ≡ (auxiliary_pointer part r4 r5 r6).z
auxiliary_block_stays Ef9345 r4 r5 s5 r6 s6 e f =
    let y = above_y s6 r6 f in
    let x = high_bits s5 r5 e in
    rw (y.1, x.0, x.1)
auxiliary_block_stays Ts9347 r4 r5 s5 r6 s6 e f = main_block_stays Ts9347 r4 r4 r5 s5 refl e

-- X and Y are where they are for either part
pub main_at : (part : Part) (r6 r7 : ℕ) → ((main_pointer part r6 r7).x ≡ bits 0 6 r7) × ((main_pointer part r6 r7).y ≡ bits 0 5 r6)
main_at Ef9345 r6 r7 = (refl, refl)
main_at Ts9347 r6 r7 = (refl, refl)

pub auxiliary_at : (part : Part) (r4 r5 r6 : ℕ) → ((auxiliary_pointer part r4 r5 r6).x ≡ bits 0 6 r5) × ((auxiliary_pointer part r4 r5 r6).y ≡ bits 0 5 r4)
auxiliary_at Ef9345 r4 r5 r6 = (refl, refl)
auxiliary_at Ts9347 r4 r5 r6 = (refl, refl)

-- a triple in the same block, with a legal X and Y, is legal and fitted where the other was
pub gone_on :
    (blocks k : ℕ) (t u : Triple) → u.z ≡ t.z → u.x < 40 → Row u.y → legal_in blocks (block_at t k) ≡ true → legal_in blocks (block_at u k) ≡ true
unfolding legal_in
gone_on blocks k t u ez lx ry e = and_both _ _ (facts_page u.x u.y lx ry) (rw ez (and_right (legal t) _ e))
