-- The same of the rows of the mode: the redrawn picture and the fresh one, and the loop that redraws in each mode.
-- Assumes nothing.
use Prim.Native.Nat.{ℕ, ◌+◌, ◌-◌, ◌*◌, ◌<◌, ◌≤◌}
use mathlib.Core.Path.{◌≡◌, sym, ap, ◌∙◌}
use mathlib.Core.Bool.{Bool, true, false}
use mathlib.Core.List.{List, []}
use native.Mathlib.Omega.{arith}
use Rattle.std.specs.Prelude.{Option, None, Some, unwrap_or}
use lib.ListN.{length}
use borrow.Rule.Slice.PartMut.{put_mid, mid_of}
use Rattle.basics.specs.Below.{any_below}
use Rattle.basics.specs.Choice.{pick}
use Rattle.basics.specs.Parts.{part_of}
use Rattle.basics.proofs.Below.{any_not, count_never}
use Rattle.shown.specs.declared.Shown.{Shown}
use Rattle.shown.specs.Lengths.{forty_bytes, eighty_bytes, row_bytes, picture_bytes}
use Rattle.shown.specs.Modes.{is_eighty, column_bytes}
use Rattle.page.specs.Codes.{row_buffer}
use Rattle.page.specs.Halves.{lower_halves}
use Rattle.halves.specs.Above.{KnownAbove}
use Rattle.rows.specs.Rows.{painted, forty_row}
use Rattle.eighty.specs.Rows.{eighty_lines, eighty_row}
use Rattle.rows.specs.HowRows.{inputs_of}
use Rattle.page.specs.Marks.{is_marked, marked_rows}
use Rattle.picture.specs.Rows.{row_of}
use Rattle.picture.specs.Redraws.{redrawn_rows, redrawn, fresh}
use Rattle.rows.proofs.Drawn.{inputs_row}
use Rattle.eighty.proofs.Drawn.{eighty_long}
use Rattle.picture.proofs.Rows.{painted_long, row_long}
use Rattle.picture.proofs.AnyRows.{redrawn_rows_long, redrawn_rows_fresh, redrawn_rows_all, redrawn_rows_none, fresh_rows_part, DrawnTo, drew, end}

module _ (marks : List Bool) (picture m rom : List ℕ) (shown : Shown) where
  pub redrawn_long : length picture ≡ picture_bytes (column_bytes shown) → length (redrawn marks picture m rom shown) ≡ picture_bytes (column_bytes shown)
  unfolding redrawn
  redrawn_long h = redrawn_rows_long (column_bytes shown) marks picture (row_of m rom shown) (λ r. row_long m rom shown r) h

  pub redrawn_fresh :
      ((r : ℕ) → r < 25 → is_marked marks r ≡ false → part_of (row_bytes (column_bytes shown)) picture r ≡ row_of m rom shown r)
      → redrawn marks picture m rom shown ≡ fresh m rom shown
  unfolding redrawn fresh
  redrawn_fresh h = redrawn_rows_fresh (column_bytes shown) marks picture (row_of m rom shown) h

  -- with none marked, it stays as it was, and none is counted
  pub redrawn_none :
      (b : Bool) → b ≡ any_below (is_marked marks) 25 → b ≡ false → length picture ≡ picture_bytes (column_bytes shown) →
      (picture ≡ redrawn marks picture m rom shown) × (0 ≡ marked_rows marks 25)
  unfolding redrawn
  redrawn_none b e f h =
      let none = sym e ∙ f in (
        redrawn_rows_none (column_bytes shown) marks picture (row_of m rom shown) none h,
        sym (count_never (is_marked marks) 25 (λ r l. any_not (is_marked marks) 25 r none l)),
      )

  pub redrawn_all : ((r : ℕ) → r < 25 → is_marked marks r ≡ true) → redrawn marks picture m rom shown ≡ fresh m rom shown
  unfolding redrawn fresh
  redrawn_all h = redrawn_rows_all (column_bytes shown) marks picture (row_of m rom shown) h

-- what is left of the rows of a mode is what a redraw leaves
module _ (marks : List Bool) (old m rom : List ℕ) (shown : Shown) where
  abbrev redrawn_in : Bool → List ℕ
  redrawn_in eighty =
      redrawn_rows (pick eighty eighty_bytes forty_bytes) marks old (λ r. pick eighty (eighty_row m rom shown r) (forty_row m rom shown r))

  pub eighty_redrawn : is_eighty shown ≡ true → redrawn_rows eighty_bytes marks old (eighty_row m rom shown) ≡ redrawn marks old m rom shown
  unfolding redrawn row_of
  eighty_redrawn e = sym (ap redrawn_in e)

  pub forty_redrawn : is_eighty shown ≡ false → redrawn_rows forty_bytes marks old (forty_row m rom shown) ≡ redrawn marks old m rom shown
  unfolding redrawn row_of
  forty_redrawn e = sym (ap redrawn_in e)

-- the loop over the rows of 40 columns: a row that is drawn from its row buffer and its lower halves, and the end
module _
    (marks : List Bool) (old m rom : List ℕ) (shown : Shown) (picture : List ℕ) (rows r : ℕ)
    (d : DrawnTo forty_bytes marks old (forty_row m rom shown) picture rows r)
  where
    pub drew_row :
        r < 25 → is_marked marks r ≡ true → (cells : List (List ℕ)) (lowers : List Bool) (part : List ℕ)
        → cells ≡ row_buffer shown m r → lowers ≡ lower_halves shown m r → part ≡ painted rom shown (inputs_of m shown cells lowers)
        → length part ≡ length (mid_of (row_bytes forty_bytes * r) (row_bytes forty_bytes * r + row_bytes forty_bytes - row_bytes forty_bytes * r) picture)
        → DrawnTo forty_bytes marks old (forty_row m rom shown)
        (put_mid (row_bytes forty_bytes * r) (row_bytes forty_bytes * r + row_bytes forty_bytes - row_bytes forty_bytes * r) picture part) (rows + 1) (r + 1)
    drew_row l on cells lowers part b h e same =
        drew forty_bytes marks old (forty_row m rom shown) picture rows r d l on (λ i. painted_long rom shown _) part
        (e ∙ ap (painted rom shown) (inputs_row m shown r cells lowers b h)) same

    pub redrawn_end : is_eighty shown ≡ false → 25 ≤ r → (picture ≡ redrawn marks old m rom shown) × (rows ≡ marked_rows marks 25)
    redrawn_end forty l =
        let done = end forty_bytes marks old (forty_row m rom shown) picture rows r d l in
        (done.0 ∙ forty_redrawn marks old m rom shown forty, done.1)

-- the loop over those of 80: a row that is drawn from its row buffer, and the end
module _
    (marks : List Bool) (old m rom : List ℕ) (shown : Shown) (picture : List ℕ) (rows r : ℕ)
    (d : DrawnTo eighty_bytes marks old (eighty_row m rom shown) picture rows r)
  where
    pub drew_eighty :
        r < 25 → is_marked marks r ≡ true → (cells : List (List ℕ)) (part : List ℕ)
        → cells ≡ row_buffer shown m r → part ≡ eighty_lines rom shown cells
        → length part ≡ length (mid_of (row_bytes eighty_bytes * r) (row_bytes eighty_bytes * r + row_bytes eighty_bytes - row_bytes eighty_bytes * r) picture)
        → DrawnTo eighty_bytes marks old (eighty_row m rom shown)
        (put_mid (row_bytes eighty_bytes * r) (row_bytes eighty_bytes * r + row_bytes eighty_bytes - row_bytes eighty_bytes * r) picture part) (rows + 1) (r + 1)
    drew_eighty l on cells part b e same =
        drew eighty_bytes marks old (eighty_row m rom shown) picture rows r d l on (λ i. eighty_long rom shown _) part
        (e ∙ ap (eighty_lines rom shown) b) same

    pub eighty_end : is_eighty shown ≡ true → 25 ≤ r → (picture ≡ redrawn marks old m rom shown) × (rows ≡ marked_rows marks 25)
    eighty_end eighty l =
        let done = end eighty_bytes marks old (eighty_row m rom shown) picture rows r d l in
        (done.0 ∙ eighty_redrawn marks old m rom shown eighty, done.1)

-- what the loop knows of the row above: nothing, or the row that it has just drawn
pub not_known : (m : List ℕ) (shown : Shown) (r : ℕ) → KnownAbove shown m r None
not_known m shown r lowers e = absurd (cc)

pub known_next : (m : List ℕ) (shown : Shown) (r : ℕ) (lowers : List Bool) → lowers ≡ lower_halves shown m r → KnownAbove shown m (r + 1) (Some lowers)
known_next m shown r lowers h others e =
    let back : r + 1 - 1 ≡ r = omega arith in
    let same : lowers ≡ others = ap (λ (o : Option (List Bool)). unwrap_or o []) e in
    (omega arith, sym same ∙ h ∙ ap (lower_halves shown m) (sym back))

pub fresh_part : (m rom : List ℕ) (shown : Shown) (r : ℕ) → r < 25 → part_of (row_bytes (column_bytes shown)) (fresh m rom shown) r ≡ row_of m rom shown r
unfolding fresh
fresh_part m rom shown r l = fresh_rows_part (column_bytes shown) (row_of m rom shown) (λ i. row_long m rom shown i) r l
