-- Which registers a row looks at, in each mode. In 40 columns MAT does not matter; and a row without a cell that flashes looks the same in
-- every phase.
-- Assumes nothing.
use Prim.Native.Nat.{ℕ}
use mathlib.Core.Path.{◌≡◌, sym, ◌∙◌}
use mathlib.Core.Bool.{true, false}
use mathlib.Core.List.{List}
use mathlib.Core.Logic.{⊎_elim}
use Rattle.basics.proofs.Choice.{bool_cases}
use Rattle.shown.specs.declared.Shown.{Shown}
use Rattle.shown.specs.Modes.{is_eighty}
use Rattle.shown.proofs.Modes.{eighty_same}
use Rattle.page.specs.Inputs.{row_input}
use Rattle.rows.proofs.Phases.{any_flashes}
use Rattle.rows.proofs.Registers as forty
use Rattle.eighty.proofs.Registers.{any_pair_flashes, eighty_steady}
use Rattle.picture.specs.Rows.{row_of}
use Rattle.picture.proofs.Rows.{row_eighty, row_forty}

-- two records of one part and one board
module _
    (a b : Shown) (tgs : a.tgs ≡ b.tgs) (pat : a.pat ≡ b.pat) (dor : a.dor ≡ b.dor) (ror : a.ror ≡ b.ror)
    (blocks : a.blocks ≡ b.blocks) (part : a.part ≡ b.part) (m rom : List ℕ) (r : ℕ)
  where
    -- two records that differ in MAT
    pub row_ignores : is_eighty a ≡ false → a.phase ≡ b.phase → row_of m rom a r ≡ row_of m rom b r
    row_ignores e phase =
        row_forty m rom a r e
        ∙ forty.row_ignores a b pat dor ror part blocks phase m rom r
        ∙ sym (row_forty m rom b r (sym (eighty_same a b tgs part) ∙ e))

    -- two that differ in the phase
    pub row_steady :
        a.mat ≡ b.mat → (is_eighty a ≡ true → any_pair_flashes a m r ≡ false) → (is_eighty a ≡ false → any_flashes a.part (row_input a m r) ≡ false)
        → row_of m rom a r ≡ row_of m rom b r
    row_steady mat pairs cells =
        ⊎_elim
        (λ e. row_eighty m rom a r e ∙ eighty_steady a b mat pat dor ror part blocks m rom r (pairs e) ∙ sym (row_eighty m rom b r (sym (eighty_same a b tgs part) ∙ e)))
        (λ e.
        row_forty m rom a r e ∙ forty.row_steady a b pat dor ror part blocks m rom r (cells e) ∙ sym (row_forty m rom b r (sym (eighty_same a b tgs part) ∙ e)))
        (bool_cases (is_eighty a))
