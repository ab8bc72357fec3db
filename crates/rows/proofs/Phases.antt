-- A row without a bichrome cell whose A3 is set looks the same in every phase.
-- Assumes nothing.
use Prim.Native.Nat.{ℕ}
use mathlib.Core.Path.{◌≡◌}
use mathlib.Core.Bool.{Bool, true, false, not, ◌&&◌}
use mathlib.Core.List.{List}
use lib.ListN.{get_or}
use Rattle.basics.specs.Choice.{pick}
use Rattle.basics.specs.Bits.{is_set}
use Rattle.basics.specs.Below.{any_below}
use Rattle.basics.proofs.Below.{any_not}
use Rattle.board.specs.declared.Part.{Part}
use Rattle.shown.specs.declared.Shown.{Shown}
use Rattle.cell.specs.declared.kind.BichromeCell.{BichromeCell}
use Rattle.cell.specs.declared.kind.Cell.TheVariants.{Bichrome, Quadrichrome}
use Rattle.cell.specs.Cells.{bichrome_of, quadrichrome_of, is_quadrichrome, cell_of}
use Rattle.pixels.specs.Pixels.{concealed, flashed, dyed}
use Rattle.page.specs.Inputs.{CellInput, flashes, no_input}
use Rattle.rows.specs.Rows.{painted}
use Rattle.rows.proofs.Alike.{Alike, painted_alike}

-- some cell of a row flashes
abbrev pub any_flashes : Part → List CellInput → Bool
any_flashes part inputs = any_below (λ x. flashes part (get_or inputs x no_input).code) 40

module _ (a b : Shown) (pat : a.pat ≡ b.pat) where
  dyed_steady : (cell : BichromeCell) → cell.flash ≡ false → (t : Bool) → dyed cell a t ≡ dyed cell b t
  unfolding concealed flashed
  dyed_steady cell e t = rw (e, pat)

  cell_steady : (part : Part) (c b' a' : ℕ) → (not (is_quadrichrome part b') && is_set 3 a') ≡ false → Alike a b (cell_of part c b' a')
  unfolding cell_of bichrome_of
  cell_steady part c b' a' e = go (is_quadrichrome part b') e
    where
      go : (q : Bool) → (not q && is_set 3 a') ≡ false → Alike a b (pick q (Quadrichrome (quadrichrome_of c b' a')) (Bichrome (bichrome_of part c b' a')))
      go true f = tt
      go false f = dyed_steady (bichrome_of part c b' a') f

  pub painted_steady :
      a.part ≡ b.part → (rom : List ℕ) (inputs : List CellInput) → any_flashes a.part inputs ≡ false → painted rom a inputs ≡ painted rom b inputs
  unfolding flashes
  painted_steady part rom inputs none =
      painted_alike a b part rom inputs
      (λ x l. cell_steady a.part _ _ _ (any_not (λ x. flashes a.part (get_or inputs x no_input).code) 40 x none l))
