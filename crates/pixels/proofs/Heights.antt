-- Laws of the slices of twenty lines, computed over the twenty, and of the line that an underline is on.
-- Assumes nothing.
use Prim.Native.Nat.{ℕ, ◌+◌, ◌-◌, ◌/◌, ◌<◌}
use mathlib.Core.Path.{◌≡◌, sym, ap, ◌∙◌}
use mathlib.Core.Bool.{Bool, true, false, ◌&&◌}
use lib.Dec.{eqb}
use lib.ListN.{get_or}
use Rattle.basics.proofs.Computed.{agree}
use Rattle.cell.specs.Cells.{alphanumeric_of}
use Rattle.pixels.specs.Slices.{alphanumeric_twenty, other_twenty, slice_of_twenty, bichrome_slice, slice_shown}
use Rattle.pixels.specs.HowPairs.{underline_of, underlined_on}
use Rattle.cell.specs.declared.kind.BichromeCell.{BichromeCell}
use Rattle.cell.specs.declared.kind.Cell.{Cell}
use Rattle.cell.specs.declared.kind.Cell.TheVariants.{Bichrome}

pub twenty_alphanumeric : (line : ℕ) → line < 20 → (line - 1) / 2 ≡ slice_of_twenty true line
unfolding slice_of_twenty
twenty_alphanumeric = agree (λ l. (l - 1) / 2) (λ l. get_or alphanumeric_twenty l 0) 20 tt

pub twenty_other : (line : ℕ) → line < 20 → line / 2 ≡ slice_of_twenty false line
unfolding slice_of_twenty
twenty_other = agree (λ l. l / 2) (λ l. get_or other_twenty l 0) 20 tt

-- the three ways of a bichrome cell's line
module _ (cell : BichromeCell) (lower : Bool) (n : ℕ) where
  pub slice_single : cell.tall ≡ false → n ≡ bichrome_slice cell lower n
  unfolding bichrome_slice
  slice_single e = rw e

  pub slice_lower : cell.tall ≡ true → lower ≡ true → slice_of_twenty (alphanumeric_of cell.set) (10 + n) ≡ bichrome_slice cell lower n
  unfolding bichrome_slice
  slice_lower e l = rw (e, l)

  pub slice_upper : cell.tall ≡ true → lower ≡ false → slice_of_twenty (alphanumeric_of cell.set) n ≡ bichrome_slice cell lower n
  unfolding bichrome_slice
  slice_upper e l = rw (e, l)

-- where an underlined cell is underlined
pub underlined_where :
    (cell : Cell) (b : BichromeCell) (lower : Bool) (n s : ℕ)
    → cell ≡ Bichrome b → b.underline ≡ true → s ≡ bichrome_slice b lower n → eqb s 9 ≡ underlined_on cell lower n
unfolding underlined_on
underlined_where cell b lower n s e u f =
    ap (λ (k : ℕ). eqb k 9) f
    ∙ ap (λ (t : Bool). t && eqb (bichrome_slice b lower n) 9) (sym u)
    ∙ ap (λ (c : Cell). underline_of c && eqb (slice_shown c lower n) 9) (sym e)
