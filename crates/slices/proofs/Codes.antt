-- The slices that the lines of the cell of a code show, by B alone: bit 1 doubles the lines of a cell of every type.
-- Assumes nothing.
use Prim.Native.Nat.{ℕ, ◌/◌, ◌%◌, ◌<◌, ◌≤◌}
use mathlib.Core.Path.{◌≡◌, ap, ◌∙◌}
use mathlib.Core.Bool.{Bool, true, false, not}
use mathlib.Core.List.{List}
use mathlib.Core.Logic.{⊎_elim}
use native.Mathlib.Omega.{arith}
use lib.Dec.{eqb}
use lib.ListN.{length}
use borrow.Author.Tests.{ne_eqb}
use Rattle.basics.specs.Bits.{bit, bits, is_set}
use Rattle.basics.proofs.Choice.{lt_or_le}
use Rattle.basics.proofs.Computed.{agree_test}
use Rattle.board.specs.declared.Part.{Part}
use Rattle.board.specs.declared.Part.TheVariants.{Ef9345, Ts9347}
use Rattle.cell.specs.declared.kind.Cell.{Cell}
use Rattle.cell.specs.Cells.{ef9345_set, ts9347_set, set_of, alphanumeric_of, bichrome_of, resolution_of, quadrichrome_of, cell_of}
use Rattle.cell.specs.HowCells.{last_bichrome}
use Rattle.cell.proofs.Codes.{ts9347-Q, below_last, cell_bichrome, cell_quadrichrome}
use Rattle.pixels.specs.Slices.{bichrome_slice, quadrichrome_slice, slice_shown}
use Rattle.slices.specs.HowSlices.{twenty_at, by_number, half_of}
use Rattle.slices.proofs.Slices.{shown_tall, shown_single, shown_low, shown_high}

-- the alphanumeric sets of B below 192
pub ef9345_letters : (b : ℕ) → b < 192 → not (eqb (b / 32 % 4) 1) ≡ alphanumeric_of (set_of Ef9345 b)
unfolding ef9345_set
ef9345_letters = agree_test (λ b. not (eqb (b / 32 % 4) 1)) (λ b. alphanumeric_of (ef9345_set (bits 4 4 b))) 192 tt

pub ts9347_letters : (b : ℕ) → b < 192 → eqb (b / 32 % 2) 0 ≡ alphanumeric_of (set_of Ts9347 b)
unfolding ts9347_set
ts9347_letters = agree_test (λ b. eqb (b / 32 % 2) 0) (λ b. alphanumeric_of (ts9347_set b)) 192 tt

module _ (part : Part) (c b a : ℕ) (h : b < 256) (lower : Bool) (slices : List ℕ) where
  abbrev shown_by : (ℕ → ℕ) → List ℕ
  shown_by number = by_number slices number

  abbrev cell : Cell
  cell = cell_of part c b a

  bichrome : b ≤ last_bichrome part → shown_by (bichrome_slice (bichrome_of part c b a) lower) ≡ shown_by (slice_shown cell lower)
  bichrome l = ap (λ (z : Cell). shown_by (slice_shown z lower)) (cell_bichrome part c b a h l)

  quadrichrome : last_bichrome part < b → shown_by (quadrichrome_slice (quadrichrome_of c b a)) ≡ shown_by (slice_shown cell lower)
  quadrichrome l = ap (λ (z : Cell). shown_by (slice_shown z lower)) (cell_quadrichrome part c b a h l)

  -- bit 1 clear: each line shows the slice of its own number
  pub code_single : b / 2 % 2 ≡ 0 → length slices ≡ 10 → slices ≡ shown_by (slice_shown cell lower)
  unfolding bichrome_of quadrichrome_of resolution_of
  code_single e k =
      let clear : is_set 1 b ≡ false = ne_eqb (b / 2 % 2) 1 (λ q. omega (arith, e, q)) in
      ⊎_elim
      (λ (l : last_bichrome part < b). shown_high (quadrichrome_of c b a) slices (rw clear) k ∙ quadrichrome l)
      (λ (l : b ≤ last_bichrome part). shown_single (bichrome_of part c b a) lower slices clear k ∙ bichrome l)
      (lt_or_le (last_bichrome part) b)

  -- bit 1 set: below 192 the cell is of double height
  pub code_tall :
      b < 192 → is_set 1 b ≡ true → (letters : Bool) → letters ≡ alphanumeric_of (set_of part b) → (ten : List ℕ)
      → ten ≡ shown_by (twenty_at letters lower) → ten ≡ shown_by (slice_shown cell lower)
  unfolding bichrome_of
  code_tall l set letters e ten p = p ∙ shown_tall (bichrome_of part c b a) lower slices letters e set ∙ bichrome (below_last part b l)

-- and from 192 on of low resolution, or of double height and not alphanumeric
module _ (c b a : ℕ) (h : b < 256) (k : 192 ≤ b) (set : is_set 1 b ≡ true) (lower half : Bool) (slices ten : List ℕ) (p : ten ≡ by_number slices (twenty_at false half)) where
  halved : (other : Bool) → half ≡ other → ten ≡ by_number slices (twenty_at false other)
  halved other e = p ∙ ap (λ (t : Bool). by_number slices (twenty_at false t)) e

  pub code_half : (part : Part) → half ≡ half_of part b lower → ten ≡ by_number slices (slice_shown (cell_of part c b a) lower)
  unfolding last_bichrome bichrome_of quadrichrome_of resolution_of
  code_half Ef9345 e =
      let one : bit 2 b ≡ bit 2 b % 2 = omega arith in
      shown_low (quadrichrome_of c b a) slices (bit 2 b) (rw set) ten (halved _ (e ∙ ap (λ (n : ℕ). eqb n 1) one))
      ∙ quadrichrome Ef9345 c b a h lower slices (omega arith)
  code_half Ts9347 e =
      halved lower e
      ∙ shown_tall (bichrome_of Ts9347 c b a) lower slices false (ap alphanumeric_of (ts9347-Q b k h)) set
      ∙ bichrome Ts9347 c b a h lower slices (omega arith)
