-- The slices that the lines of a cell show, as the code puts them side by side, and how high they are.
-- Assumes nothing.
use Prim.Native.Nat.{ℕ, ◌+◌, ◌*◌, ◌/◌, ◌%◌, ◌<◌, ◌≤◌}
use mathlib.Core.Path.{◌≡◌, refl, sym, ap, ◌∙◌}
use mathlib.Core.Bool.{Bool, true, false}
use mathlib.Core.List.{List}
use mathlib.Core.Logic.{⊎_elim}
use native.Mathlib.Omega.{arith}
use lib.Dec.{eqb}
use lib.ListN.{length, get_or}
use borrow.Author.Tests.{eqb-true, eqb-false}
use Rattle.basics.specs.Choice.{pick}
use Rattle.basics.proofs.Choice.{bool_cases}
use Rattle.basics.proofs.Parts.{table_same, table_of}
use Rattle.cell.specs.declared.kind.BichromeCell.{BichromeCell}
use Rattle.cell.specs.declared.kind.QuadrichromeCell.{QuadrichromeCell}
use Rattle.cell.specs.declared.kind.Resolution.{Resolution}
use Rattle.cell.specs.declared.kind.Resolution.TheVariants.{High, Low}
use Rattle.cell.specs.declared.kind.Cell.{Cell}
use Rattle.cell.specs.declared.kind.Cell.TheVariants.{Bichrome, Quadrichrome}
use Rattle.cell.specs.Cells.{alphanumeric_of}
use Rattle.pixels.specs.Slices.{slice_of_twenty, bichrome_slice, resolved_slice, quadrichrome_slice, slice_shown}
use Rattle.pixels.proofs.Heights.{twenty_alphanumeric, twenty_other}
use Rattle.slices.specs.HowSlices.{twenty_at, by_number}

-- line n of a half of twenty lines shows slice 5 + n / 2 at most
half_most : (a lower : Bool) (n : ℕ) → n < 10 → twenty_at a lower n ≤ 5 + n / 2
half_most true true n l = omega (arith, twenty_alphanumeric (10 + n) (omega arith))
half_most true false n l = omega (arith, twenty_alphanumeric n (omega arith))
half_most false true n l = omega (arith, twenty_other (10 + n) (omega arith))
half_most false false n l = omega (arith, twenty_other n (omega arith))

-- each is one of ten
pub twenty_small : (a : Bool) (line slice : ℕ) → slice ≡ slice_of_twenty a line → line < 20 → slice < 10
twenty_small true line slice e l = omega (arith, e, twenty_alphanumeric line l)
twenty_small false line slice e l = omega (arith, e, twenty_other line l)

-- the slice of a line of a half, from the half that the code asked for
pub half_line :
    (s : List ℕ) (a lower t : Bool) (n line slice : ℕ)
    → lower ≡ t → line ≡ pick t (10 + n) n → slice ≡ slice_of_twenty a line → get_or s slice 0 ≡ get_or s (twenty_at a lower n) 0
half_line s a lower t n line slice e l p =
    ap (λ (i : ℕ). get_or s i 0) (p ∙ ap (slice_of_twenty a) (l ∙ sym (ap (λ (u : Bool). pick u (10 + n) n) e)))

-- the slices that the lines of a bichrome cell show
module _ (b : BichromeCell) (lower : Bool) (slices : List ℕ) where
  pub shown_tall : (a : Bool) → a ≡ alphanumeric_of b.set → b.tall ≡ true → by_number slices (twenty_at a lower) ≡ by_number slices (bichrome_slice b lower)
  unfolding bichrome_slice
  shown_tall a e t = table_same _ _ 10 (λ n l. rw (t, e))

  pub shown_single : b.tall ≡ false → length slices ≡ 10 → slices ≡ by_number slices (bichrome_slice b lower)
  unfolding bichrome_slice
  shown_single t h = table_of slices 10 0 h ∙ table_same _ _ 10 (λ n l. rw t)

bichrome_most : (b : BichromeCell) (lower : Bool) (n : ℕ) → n < 10 → bichrome_slice b lower n ≤ 5 + n / 2
unfolding bichrome_slice
bichrome_most b lower n l = ⊎_elim (λ t. rw t (half_most _ lower n l)) (λ t. rw t (omega arith)) (bool_cases b.tall)

-- low resolution shows the slices as a half of double height does
low_half : (t : Bool) (k n : ℕ) → n < 10 → t ≡ eqb (k % 2) 1 → twenty_at false t n ≡ 5 * (k % 2) + n / 2
low_half true k n l e = sym (twenty_other (10 + n) (omega arith)) ∙ omega (arith, eqb-true (k % 2) 1 (sym e))
low_half false k n l e = sym (twenty_other n (omega arith)) ∙ omega (arith, eqb-false (k % 2) 1 (sym e))

-- those that the lines of a quadrichrome cell show
module _ (q : QuadrichromeCell) (slices : List ℕ) where
  pub shown_low :
      (k : ℕ) → q.resolution ≡ Low k → (ten : List ℕ) → ten ≡ by_number slices (twenty_at false (eqb (k % 2) 1)) → ten ≡ by_number slices (quadrichrome_slice q)
  shown_low k e ten p = p ∙ table_same _ _ 10 (λ n l. rw e (ap (λ (i : ℕ). get_or slices i 0) (low_half (eqb (k % 2) 1) k n l refl)))

  pub shown_high : q.resolution ≡ High → length slices ≡ 10 → slices ≡ by_number slices (quadrichrome_slice q)
  shown_high e h = table_of slices 10 0 h ∙ table_same _ _ 10 (λ n l. rw e)

resolved_most : (r : Resolution) (n : ℕ) → n < 10 → resolved_slice r n ≤ 5 + n / 2
resolved_most High n l = omega arith
resolved_most (Low k) n l = omega arith

-- whatever the cell, line n shows slice 5 + n / 2 at most: one of ten
pub shown_most : (cell : Cell) (lower : Bool) (n : ℕ) → n < 10 → slice_shown cell lower n ≤ 5 + n / 2
shown_most (Bichrome b) lower n l = bichrome_most b lower n l
shown_most (Quadrichrome q) lower n l = resolved_most q.resolution n l

pub shown_small : (cell : Cell) (lower : Bool) (n : ℕ) → n < 10 → slice_shown cell lower n < 10
shown_small cell lower n l = omega (arith, shown_most cell lower n l)
