-- Which registers a row of 40 columns looks at: DOR and ROR, with the part and the board, for what it takes from private memory, PAT and the phase for its
-- pixels. TGS and MAT do not matter, nor does the phase where no cell flashes.
-- Assumes nothing.
use Prim.Native.Nat.{ℕ}
use mathlib.Core.Path.{◌≡◌, ap, ◌∙◌}
use mathlib.Core.Bool.{false}
use mathlib.Core.List.{List}
use lib.ListN.{get_or}
use Rattle.basics.proofs.Parts.{table_same}
use Rattle.board.specs.declared.Part.{Part}
use Rattle.shown.specs.declared.Shown.{Shown}
use Rattle.cell.specs.declared.kind.Set.{Set}
use Rattle.cell.specs.declared.kind.Set.TheVariants.{G0, G10, G11, G20, G21, Goe, UserG0, UserG1, Q}
use Rattle.cell.specs.declared.kind.Cell.{Cell}
use Rattle.cell.specs.declared.kind.Cell.TheVariants.{Bichrome, Quadrichrome}
use Rattle.pixels.specs.Pixels.{concealed, flashed}
use Rattle.page.specs.Codes.{code_at}
use Rattle.page.specs.Halves.{is_tall, is_wide, second_half, lower_half, right_half}
use Rattle.page.proofs.Codes.{code_ignores}
use Rattle.halves.proofs.Halves.{half_same}
use Rattle.sources.specs.Sources.{set_source, cell_source}
use Rattle.page.specs.Inputs.{CellInput, decoded, cell_input, no_input, row_input}
use Rattle.rows.specs.Rows.{painted, forty_row}
use Rattle.rows.proofs.Alike.{Alike, painted_alike}
use Rattle.rows.proofs.Phases.{any_flashes, painted_steady}

-- what a row takes from private memory, by DOR, ROR, the part and the board alone
module _ (a b : Shown) (dor : a.dor ≡ b.dor) (ror : a.ror ≡ b.ror) (part : a.part ≡ b.part) (blocks : a.blocks ≡ b.blocks) where
  set_same : (set : Set) → set_source a set ≡ set_source b set
  set_same G0 = rw part
  set_same G10 = rw part
  set_same G11 = rw part
  set_same G20 = rw part
  set_same G21 = rw part
  set_same Goe = rw part
  set_same UserG0 = rw dor
  set_same (UserG1 s) = rw dor
  set_same (Q n) = rw dor

  source_same : (cell : Cell) → cell_source a cell ≡ cell_source b cell
  source_same (Bichrome cell) = set_same cell.set
  source_same (Quadrichrome cell) = rw dor

  lower_same : (m : List ℕ) (r x : ℕ) → lower_half a m r x ≡ lower_half b m r x
  lower_same m r x =
      half_same (is_tall a.part) (λ i. code_at a m i x) (λ i. code_at b m i x) r (λ i l. code_ignores a b ror dor part blocks m i x)
      ∙ ap (λ (p : Part). second_half (is_tall p) (λ i. code_at b m i x) r) part

  right_same : (m : List ℕ) (r x : ℕ) → right_half a m r x ≡ right_half b m r x
  right_same m r x = half_same is_wide (code_at a m r) (code_at b m r) x (λ i l. code_ignores a b ror dor part blocks m r i)

  pub input_ignores : (m : List ℕ) (r : ℕ) → row_input a m r ≡ row_input b m r
  unfolding row_input cell_input
  input_ignores m r =
      table_same _ _ 40
      (λ x l.
      rw
      (lower_same m r x, right_same m r x, code_ignores a b ror dor part blocks m r x, source_same (decoded a.part (code_at b m r x)), part, blocks))

-- its pixels, by PAT, the phase and the part alone
module _ (a b : Shown) (pat : a.pat ≡ b.pat) (phase : a.phase ≡ b.phase) where
  cell_same : (cell : Cell) → Alike a b cell
  unfolding concealed flashed
  cell_same (Bichrome cell) = λ t. rw (pat, phase)
  cell_same (Quadrichrome cell) = tt

  pub painted_ignores : a.part ≡ b.part → (rom : List ℕ) (inputs : List CellInput) → painted rom a inputs ≡ painted rom b inputs
  painted_ignores part rom inputs = painted_alike a b part rom inputs (λ x l. cell_same (decoded a.part (get_or inputs x no_input).code))

-- a row, by these six
pub row_ignores :
    (a b : Shown) → a.pat ≡ b.pat → a.dor ≡ b.dor → a.ror ≡ b.ror → a.part ≡ b.part → a.blocks ≡ b.blocks → a.phase ≡ b.phase → (m rom : List ℕ) (r : ℕ)
    → forty_row m rom a r ≡ forty_row m rom b r
row_ignores a b pat dor ror part blocks phase m rom r =
    painted_ignores a b pat phase part rom (row_input a m r) ∙ ap (painted rom b) (input_ignores a b dor ror part blocks m r)

-- two records that differ in the phase
pub row_steady :
    (a b : Shown) → a.pat ≡ b.pat → a.dor ≡ b.dor → a.ror ≡ b.ror → a.part ≡ b.part → a.blocks ≡ b.blocks → (m rom : List ℕ) (r : ℕ)
    → any_flashes a.part (row_input a m r) ≡ false → forty_row m rom a r ≡ forty_row m rom b r
row_steady a b pat dor ror part blocks m rom r none =
    painted_steady a b pat part rom (row_input a m r) none ∙ ap (painted rom b) (input_ignores a b dor ror part blocks m r)
