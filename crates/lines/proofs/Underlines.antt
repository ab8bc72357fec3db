-- Where the cells of a line are underlined: a cell that is underlined is alphanumeric, and shows slice 9 on its last line alone.
-- Assumes nothing.
use Prim.Native.Nat.{ℕ, ◌+◌, ◌<◌}
use mathlib.Core.Path.{◌≡◌, refl, sym, ap, ap₂, ◌∙◌}
use mathlib.Core.Bool.{Bool, true, false, ◌&&◌}
use mathlib.Core.List.{List, []}
use mathlib.Core.Logic.{⊎_elim}
use native.Mathlib.Omega.{arith}
use lib.Dec.{eqb}
use lib.ListN.{get_or}
use borrow.Author.Tests.{ne_eqb}
use Rattle.basics.specs.Choice.{pick}
use Rattle.basics.specs.Parts.{table}
use Rattle.basics.proofs.Choice.{bool_cases, and_left}
use Rattle.basics.proofs.Parts.{table_at, table_same}
use Rattle.board.specs.declared.Part.{Part}
use Rattle.cell.specs.declared.kind.BichromeCell.{BichromeCell}
use Rattle.cell.specs.declared.kind.Cell.TheVariants.{Bichrome, Quadrichrome}
use Rattle.cell.specs.Cells.{alphanumeric_of, bichrome_of, quadrichrome_of, is_quadrichrome, cell_of}
use Rattle.pixels.specs.Slices.{slice_of_twenty, bichrome_slice}
use Rattle.pixels.specs.HowPairs.{underlined_on}
use Rattle.pixels.proofs.Heights.{twenty_alphanumeric, slice_single, slice_lower, slice_upper}
use Rattle.columns.specs.HowColumns.{byte_in}
use Rattle.lines.specs.HowLines.{lined_byte, lined_on, bytes_on}

-- of an alphanumeric's twenty lines the last alone shows slice 9
half_early : (lower : Bool) (n : ℕ) → n < 9 → slice_of_twenty true (pick lower (10 + n) n) ≡ 9 → ⊥
half_early true n l e = omega (arith, twenty_alphanumeric (10 + n) (omega arith))
half_early false n l e = omega (arith, twenty_alphanumeric n (omega arith))

slice_early : (b : BichromeCell) → alphanumeric_of b.set ≡ true → (lower : Bool) (n : ℕ) → n < 9 → bichrome_slice b lower n ≡ 9 → ⊥
slice_early b alphanumeric lower n l e = ⊎_elim (tall lower e) (λ t. omega (arith, slice_single b lower n t)) (bool_cases b.tall)
  where
    tall : (lower : Bool) → bichrome_slice b lower n ≡ 9 → b.tall ≡ true → ⊥
    tall true e t = half_early true n l (ap (λ (a : Bool). slice_of_twenty a (10 + n)) (sym alphanumeric) ∙ slice_lower b true n t refl ∙ e)
    tall false e t = half_early false n l (ap (λ (a : Bool). slice_of_twenty a n) (sym alphanumeric) ∙ slice_upper b false n t refl ∙ e)

-- an underlined cell is alphanumeric
bichrome_early :
    (b : BichromeCell) → (b.underline ≡ true → alphanumeric_of b.set ≡ true) → (lower : Bool) (n : ℕ) → n < 9 →
    (b.underline && eqb (bichrome_slice b lower n) 9) ≡ false
bichrome_early b only lower n l =
    ⊎_elim
    (λ u. ap₂ ◌&&◌ u (ne_eqb (bichrome_slice b lower n) 9 (slice_early b (only u) lower n l)))
    (λ u. ap (λ (t : Bool). t && eqb (bichrome_slice b lower n) 9) u)
    (bool_cases b.underline)

cell_early : (part : Part) (c b a : ℕ) (lower : Bool) (n : ℕ) → n < 9 → underlined_on (cell_of part c b a) lower n ≡ false
unfolding underlined_on cell_of bichrome_of
cell_early part c b a lower n l = go (is_quadrichrome part b)
  where
    go : (q : Bool) → underlined_on (pick q (Quadrichrome (quadrichrome_of c b a)) (Bichrome (bichrome_of part c b a))) lower n ≡ false
    go true = refl
    go false = bichrome_early (bichrome_of part c b a) (λ u. and_left _ _ u) lower n l

module _ (part : Part) (cells : List (List ℕ)) (lowers : List Bool) (tens : List ℕ) (n : ℕ) (plain : List ℕ) (is_plain : plain ≡ table (byte_in tens n) 40) where
  -- the cells are asked
  pub bytes_lined : (k : ℕ) → n ≡ k → table (lined_on part cells lowers plain k) 40 ≡ bytes_on part cells lowers tens n
  unfolding bytes_on
  bytes_lined k e =
      table_same _ _ 40
      (λ x l.
      ap₂ (lined_byte part (get_or cells x []) (get_or lowers x false)) (sym e) (ap (λ (z : List ℕ). get_or z x 0) is_plain ∙ table_at (byte_in tens n) 40 x 0 l))

  -- none is underlined
  pub bytes_plain : n < 9 → plain ≡ bytes_on part cells lowers tens n
  unfolding bytes_on lined_byte
  bytes_plain h =
      is_plain
      ∙ table_same _ _ 40
      (λ x l.
      let code = get_or cells x [] in
      sym (ap (λ (t : Bool). pick t 255 (byte_in tens n x)) (cell_early part (get_or code 0 0) (get_or code 1 0) (get_or code 2 0) (get_or lowers x false) n h)))
