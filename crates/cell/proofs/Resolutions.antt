-- Laws of the resolution, one for each way that the code takes. The bits are asked as numbers, so that arithmetic gives them.
-- Assumes nothing.
use Prim.Native.Nat.{ℕ}
use mathlib.Core.Path.{◌≡◌}
use borrow.Author.Tests.{eq-eqb, ne_eqb}
use Rattle.basics.specs.Bits.{bit}
use Rattle.cell.specs.declared.kind.Resolution.TheVariants.{High, Low}
use Rattle.cell.specs.Cells.{resolution_of}

module _ (b : ℕ) where
  pub resolution_low : (k : ℕ) → bit 1 b ≡ 1 → k ≡ bit 2 b → Low k ≡ resolution_of b
  unfolding resolution_of
  resolution_low k h e = rw (eq-eqb (bit 1 b) 1 h, e)

  pub resolution_high : (bit 1 b ≡ 1 → ⊥) → High ≡ resolution_of b
  unfolding resolution_of
  resolution_high n = rw (ne_eqb (bit 1 b) 1 n)
