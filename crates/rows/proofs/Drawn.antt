-- What the code draws of a row is the row.
-- Assumes nothing.
use Prim.Native.Nat.{ℕ, ◌<◌}
use mathlib.Core.Path.{◌≡◌, refl, sym, ap, ◌∙◌}
use mathlib.Core.Bool.{Bool, false}
use mathlib.Core.List.{List, []}
use lib.ListN.{get_or}
use Rattle.basics.specs.Parts.{table, joined}
use Rattle.basics.proofs.Parts.{table_at, table_same, joined_same}
use Rattle.shown.specs.declared.Shown.{Shown}
use Rattle.pixels.specs.Slices.{slice_shown}
use Rattle.pixels.specs.Pixels.{cell_line}
use Rattle.page.specs.Codes.{code_at, row_buffer}
use Rattle.page.specs.Halves.{lower_half, right_half, lower_halves}
use Rattle.page.specs.HowHalves.{right_in}
use Rattle.sources.specs.Sources.{character_of, cell_source, kept_slice, slice_from, slices_of}
use Rattle.page.specs.Inputs.{decoded, taken_from, slice_byte, cell_input, no_input, row_input}
use Rattle.sources.specs.declared.source.Source.{Source}
use Rattle.sources.specs.declared.source.Source.TheVariants.{Rom, Block}
use Rattle.halves.proofs.Halves.{right_row}
use Rattle.columns.specs.HowTens.{tens_of, pairs_of}
use Rattle.lines.specs.HowLines.{line_on}
use Rattle.slices.proofs.Slices.{shown_small}
use Rattle.lines.proofs.Drawn.{pixels_on, drawn_line}
use Rattle.rows.specs.Rows.{painted_cell, painted_line, painted}
use Rattle.rows.specs.HowRows.{input_at, inputs_of}

-- a cell's slice, through all that it takes from memory
slice_taken :
    (blocks : ℕ) (m rom : List ℕ) (c : ℕ) (source : Source) (n : ℕ) → n < 10
    → slice_from blocks m rom c source n ≡ slice_byte rom c (taken_from blocks m c source) n
slice_taken blocks m rom c (Rom set) n l = refl
slice_taken blocks m rom c (Block z) n l = sym (table_at (kept_slice blocks m c z) 10 n 0 l)

module _
    (m rom : List ℕ) (m-small : (i : ℕ) → get_or m i 0 < 256) (rom-small : (i : ℕ) → get_or rom i 0 < 256) (shown : Shown) (cells : List (List ℕ))
    (lowers rights : List Bool) (is-rights : rights ≡ table (right_in cells) 40)
  where
    -- cell x of line n
    drawn_cell :
        (n x : ℕ) → n < 10 → x < 40
        → pixels_on m rom shown cells lowers rights n x ≡ painted_cell rom shown n (get_or (inputs_of m shown cells lowers) x no_input)
    unfolding slices_of input_at
    drawn_cell n x h l =
        let cell = decoded shown.part (get_or cells x []) in
        let lower = get_or lowers x false in
        let number = slice_shown cell lower n in
        let right : get_or rights x false ≡ right_in cells x = ap (λ (z : List Bool). get_or z x false) is-rights ∙ table_at (right_in cells) 40 x false l in
        ap (λ (r : Bool). cell_line cell shown r number (slices_of m rom shown cell number)) right
        ∙ ap (cell_line cell shown (right_in cells x) number) (slice_taken shown.blocks m rom (character_of cell) (cell_source shown cell) number (shown_small cell lower n h))
        ∙ ap (painted_cell rom shown n) (sym (table_at (input_at m shown cells lowers) 40 x no_input l))

    pub drawn_row :
        (tens pairs lent : List ℕ) → tens ≡ tens_of m rom shown cells lowers rights → pairs ≡ pairs_of cells shown
        → lent ≡ joined (line_on shown.part cells lowers tens pairs) 10 → lent ≡ painted rom shown (inputs_of m shown cells lowers)
    unfolding painted painted_line
    drawn_row tens pairs lent is-tens is-pairs is-lent =
        is-lent
        ∙ joined_same _ _ 10
        (λ n h.
        drawn_line m rom shown cells lowers rights m-small rom-small tens pairs is-tens is-pairs n h
        ∙ joined_same _ _ 40 (λ x l. drawn_cell n x h l))

-- what the code takes for a row is what the row takes
module _
    (m : List ℕ) (shown : Shown) (r : ℕ) (cells : List (List ℕ)) (lowers : List Bool) (is-cells : cells ≡ row_buffer shown m r)
    (is-lowers : lowers ≡ lower_halves shown m r)
  where
    code_is : (x : ℕ) → x < 40 → get_or cells x [] ≡ code_at shown m r x
    code_is x l = ap (λ (z : List (List ℕ)). get_or z x []) is-cells ∙ table_at (code_at shown m r) 40 x [] l

    lower_is : (x : ℕ) → x < 40 → get_or lowers x false ≡ lower_half shown m r x
    lower_is x l = ap (λ (z : List Bool). get_or z x false) is-lowers ∙ table_at (lower_half shown m r) 40 x false l

    right_is : (x : ℕ) → x < 40 → right_in cells x ≡ right_half shown m r x
    right_is x l = ap (λ (z : List (List ℕ)). right_in z x) is-cells ∙ right_row shown m r x l

    input_is : (x : ℕ) → x < 40 → input_at m shown cells lowers x ≡ cell_input shown m r x
    unfolding input_at cell_input
    input_is x l = rw (right_is x l, code_is x l, lower_is x l)

    pub inputs_row : inputs_of m shown cells lowers ≡ row_input shown m r
    unfolding row_input
    inputs_row = table_same _ _ 40 input_is
