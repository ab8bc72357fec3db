-- Two records of one part that give each pixel's bit the same colour paint the same row.
-- Assumes nothing.
use Prim.Native.Nat.{ℕ, ◌+◌, ◌*◌, ◌<◌}
use mathlib.Core.Path.{◌≡◌, refl, ap, ap₂, ◌∙◌}
use mathlib.Core.Bool.{Bool}
use mathlib.Core.List.{List}
use lib.ListN.{get_or}
use Rattle.basics.proofs.Parts.{joined_same, table_same}
use Rattle.board.specs.declared.Part.{Part}
use Rattle.shown.specs.declared.Shown.{Shown}
use Rattle.shown.specs.Lengths.{forty_bytes}
use Rattle.colour.specs.Colours.{packed_of}
use Rattle.cell.specs.declared.kind.Cell.{Cell}
use Rattle.cell.specs.declared.kind.Cell.TheVariants.{Bichrome, Quadrichrome}
use Rattle.pixels.specs.Pixels.{dyed, cell_pixel, cell_line}
use Rattle.page.specs.Inputs.{CellInput, decoded, no_input}
use Rattle.rows.specs.Rows.{cell_line_at, painted_cell, painted_line, painted}

module _ (a b : Shown) where
  -- the colours of a cell's bits are the same for both; a quadrichrome cell has no bits that the registers act on
  abbrev pub Alike : Cell → Type 0
  Alike (Bichrome cell) = (t : Bool) → dyed cell a t ≡ dyed cell b t
  Alike (Quadrichrome cell) = Unit {0}

  module _ (right : Bool) (n s : ℕ) where
    pixel_alike : (cell : Cell) → Alike cell → (x : ℕ) → cell_pixel cell a right n s x ≡ cell_pixel cell b right n s x
    pixel_alike (Bichrome cell) h x = h _
    pixel_alike (Quadrichrome cell) h x = refl

    line_alike : (cell : Cell) → Alike cell → cell_line cell a right n s ≡ cell_line cell b right n s
    unfolding cell_line
    line_alike cell h =
        table_same _ _ forty_bytes (λ i l. ap₂ packed_of (pixel_alike cell h (2 * i)) (pixel_alike cell h (2 * i + 1)))

  -- of the same part
  module _ (part : a.part ≡ b.part) (rom : List ℕ) where
    cell_alike : (n : ℕ) (input : CellInput) → Alike (decoded a.part input.code) → painted_cell rom a n input ≡ painted_cell rom b n input
    cell_alike n input h =
        line_alike _ _ _ (decoded a.part input.code) h
        ∙ ap (λ (p : Part). cell_line_at rom b (decoded p input.code) input.slices input.lower input.right n) part

    pub painted_alike :
        (inputs : List CellInput) → ((x : ℕ) → x < 40 → Alike (decoded a.part (get_or inputs x no_input).code)) → painted rom a inputs ≡ painted rom b inputs
    unfolding painted painted_line
    painted_alike inputs h = joined_same _ _ 10 (λ n k. joined_same _ _ 40 (λ x l. cell_alike n (get_or inputs x no_input) (h x l)))
