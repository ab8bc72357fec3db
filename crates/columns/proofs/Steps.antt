-- Four pairs kept as two and the steps from them: the way back.
-- Assumes nothing.
use Prim.Native.Nat.{ℕ, ◌+◌, ◌/◌, ◌%◌, ◌<◌}
use mathlib.Core.Path.{◌≡◌, refl, sym, ◌∙◌}
use mathlib.Core.List.{List}
use native.Mathlib.Omega.{arith}
use lib.Dec.{eqb}
use lib.ListN.{length, get_or}
use lib.Seq.{ext_get_or}
use borrow.Author.Tests.{eqb-true, eqb-false}
use Rattle.basics.specs.Choice.{pick}
use Rattle.basics.proofs.Choice.{pick_known}
use Rattle.basics.proofs.Few.{four}
use Rattle.basics.proofs.Parts.{length_table, table_at}
use Rattle.shown.specs.declared.Shown.{Shown}
use Rattle.cell.specs.declared.kind.Cell.{Cell}
use Rattle.cell.specs.declared.kind.Cell.TheVariants.{Bichrome, Quadrichrome}
use Rattle.pixels.specs.HowPairs.{bichrome_pairs, quadrichrome_pairs, cell_pairs}
use Rattle.columns.specs.HowTens.{step_to, steps_of, from_steps}

-- a byte and the step from it
step_back : (a b : ℕ) → a < 256 → b < 256 → (a + step_to a b) % 256 ≡ b
step_back a b h k = omega arith

pub steps_four : (pairs : List ℕ) → length (steps_of pairs) ≡ 4
unfolding steps_of
steps_four pairs = refl

steps_back : (pairs : List ℕ) → length pairs ≡ 4 → ((i : ℕ) → i < 4 → get_or pairs i 0 < 256) → from_steps (steps_of pairs) ≡ pairs
unfolding steps_of from_steps
steps_back pairs h small =
    ext_get_or 0 (from_steps (steps_of pairs)) pairs (sym h)
    (four _ refl (step_back _ _ (small 0 (omega arith)) (small 1 (omega arith))) refl (step_back _ _ (small 2 (omega arith)) (small 3 (omega arith))))

-- a cell has four pairs, and each is a byte
pairs_four : (cell : Cell) (shown : Shown) → length (cell_pairs cell shown) ≡ 4
unfolding bichrome_pairs quadrichrome_pairs
pairs_four (Bichrome cell) shown = length_table _ 4
pairs_four (Quadrichrome cell) shown = length_table _ 4

pair_small : (cell : Cell) (shown : Shown) (i : ℕ) → i < 4 → get_or (cell_pairs cell shown) i 0 < 256
unfolding bichrome_pairs quadrichrome_pairs
pair_small (Bichrome cell) shown i l = rw (table_at {A = ℕ} _ 4 i 0 l) (omega arith)
pair_small (Quadrichrome cell) shown i l = rw (table_at {A = ℕ} _ 4 i 0 l) (omega arith)

pub pairs_back : (cell : Cell) (shown : Shown) → from_steps (steps_of (cell_pairs cell shown)) ≡ cell_pairs cell shown
pairs_back cell shown = steps_back (cell_pairs cell shown) (pairs_four cell shown) (pair_small cell shown)

-- one of four pairs, by two bits: from no bit or the right pixel's, with the step where the left pixel's is set
module _ (by r : ℕ) (steps : List ℕ) where
  pub chosen_low : r ≡ pick (eqb (by % 2) 1) ((get_or steps 0 0 + get_or steps 1 0) % 256) (get_or steps 0 0) → (by / 2 % 2 ≡ 1 → ⊥) → r ≡ get_or (from_steps steps) (by % 4) 0
  unfolding from_steps
  chosen_low e n =
      e
      ∙ pick_known (λ (b : ℕ). b ≡ get_or (from_steps steps) (by % 4) 0) (eqb (by % 2) 1) _ _
      (λ t. let q : by % 4 ≡ 1 = omega (arith, eqb-true (by % 2) 1 t, n) in rw q)
      (λ t. let q : by % 4 ≡ 0 = omega (arith, eqb-false (by % 2) 1 t, n) in rw q)

  pub chosen_high : r ≡ pick (eqb (by % 2) 1) ((get_or steps 2 0 + get_or steps 3 0) % 256) (get_or steps 2 0) → by / 2 % 2 ≡ 1 → r ≡ get_or (from_steps steps) (by % 4) 0
  unfolding from_steps
  chosen_high e h =
      e
      ∙ pick_known (λ (b : ℕ). b ≡ get_or (from_steps steps) (by % 4) 0) (eqb (by % 2) 1) _ _
      (λ t. let q : by % 4 ≡ 3 = omega (arith, eqb-true (by % 2) 1 t) in rw q)
      (λ t. let q : by % 4 ≡ 2 = omega (arith, eqb-false (by % 2) 1 t) in rw q)
