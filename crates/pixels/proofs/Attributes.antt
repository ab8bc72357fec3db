-- The law of flash, by the tests of the code.
-- Assumes nothing.
use Rattle.std.proofs.Common.{ℕ, ◌/◌, ◌%◌, ◌≡◌, Bool, true, false, not, ◌&&◌, refl, arith}
use lib.Dec.{eqb}
use Rattle.basics.specs.Choice.{pick, one_if}
use Rattle.basics.specs.Bits.{bit, is_set}
use Rattle.shown.specs.declared.Shown.{Shown}
use Rattle.cell.specs.declared.kind.BichromeCell.{BichromeCell}
use Rattle.pixels.specs.Pixels.{flashed}

hidden : (b f p d : Bool) → (b && not ((f && p) && d)) ≡ pick (f && (p && d)) false b
hidden true true true true = refl
hidden true true true false = refl
hidden true true false d = refl
hidden true false p d = refl
hidden false true true true = refl
hidden false true true false = refl
hidden false true false d = refl
hidden false false p d = refl

pub flash_told :
    (cell : BichromeCell) (shown : Shown) (b differs : Bool) → differs ≡ not (eqb shown.phase (one_if cell.negative))
    → (b && not ((cell.flash && eqb (shown.pat / 64 % 2) 1) && differs)) ≡ flashed cell shown b
unfolding flashed
flash_told cell shown b differs e =
    let six : shown.pat / 64 % 2 ≡ bit 6 shown.pat = omega arith in rw (six, e) (hidden b cell.flash (is_set 6 shown.pat) (not (eqb shown.phase (one_if cell.negative))))
