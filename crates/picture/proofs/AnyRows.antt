-- Redraws of rows of k bytes a column, whatever draws them. Where every unmarked row of the picture is fresh, the redrawn picture is the
-- fresh one; with every row marked it is so whatever the picture was. And the loop that redraws: what holds after r rows, as one record, its
-- two turns and its end.
-- Assumes nothing.
use Prim.Native.Nat.{ℕ, ◌+◌, ◌-◌, ◌*◌, ◌<◌, ◌≤◌}
use mathlib.Core.Path.{◌≡◌, refl, sym, ap, ◌∙◌}
use mathlib.Core.Bool.{Bool, true, false, false≢true}
use mathlib.Core.List.{List}
use mathlib.Core.Logic.{⊎_elim}
use native.Mathlib.Omega.{arith}
use lib.ListN.{length}
use lib.Seq.{take_all}
use borrow.Rule.Slice.PartMut.{put_mid, mid_of, same_len_mid}
use Rattle.basics.specs.Choice.{one_if}
use Rattle.basics.specs.Below.{any_below}
use Rattle.basics.specs.Parts.{part_of}
use Rattle.basics.proofs.Choice.{bool_cases}
use Rattle.basics.proofs.Below.{any_not, count_none, count_step}
use Rattle.basics.proofs.Parts.{Each, joined_same, joined_part, parts_joined}
use Rattle.basics.proofs.Filled.{filled, filled_none, filled_part, filled_keep, filled_end}
use Rattle.shown.specs.Lengths.{row_bytes, picture_bytes}
use Rattle.shown.proofs.Lengths.{rows_long, part_long}
use Rattle.page.specs.Marks.{is_marked, marked_rows}
use Rattle.picture.specs.Redraws.{row_after, redrawn_rows, fresh_rows}

module _ (k : ℕ) (marks : List Bool) (picture : List ℕ) (row : ℕ → List ℕ) where
  row_marked : (r : ℕ) → is_marked marks r ≡ true → row r ≡ row_after k marks picture row r
  row_marked r e = rw e

  row_kept : (r : ℕ) → is_marked marks r ≡ false → part_of (row_bytes k) picture r ≡ row_after k marks picture row r
  row_kept r e = rw e

  pub each_after :
      ((r : ℕ) → length (row r) ≡ row_bytes k) → length picture ≡ picture_bytes k → (n : ℕ) → n ≤ 25 → Each (row_bytes k) (row_after k marks picture row) n
  each_after each h n w r l =
      ⊎_elim (λ e. rw e (each r)) (λ e. rw e (part_long k picture r h (omega arith))) (bool_cases (is_marked marks r))

  pub redrawn_rows_long : ((r : ℕ) → length (row r) ≡ row_bytes k) → length picture ≡ picture_bytes k → length (redrawn_rows k marks picture row) ≡ picture_bytes k
  unfolding redrawn_rows
  redrawn_rows_long each h = rows_long k _ (each_after each h 25 (omega arith))

  -- where each unmarked row is fresh, the redrawn picture is
  pub redrawn_rows_fresh :
      ((r : ℕ) → r < 25 → is_marked marks r ≡ false → part_of (row_bytes k) picture r ≡ row r) → redrawn_rows k marks picture row ≡ fresh_rows row
  unfolding redrawn_rows fresh_rows
  redrawn_rows_fresh h = joined_same _ _ 25 (λ r l. ⊎_elim (λ e. rw e) (λ e. sym (row_kept r e) ∙ h r l e) (bool_cases (is_marked marks r)))

  -- with every row marked, whatever the picture was
  pub redrawn_rows_all : ((r : ℕ) → r < 25 → is_marked marks r ≡ true) → redrawn_rows k marks picture row ≡ fresh_rows row
  redrawn_rows_all h = redrawn_rows_fresh (λ r l e. absurd (false≢true (sym e ∙ h r l)))

  -- with none marked, it stays as it was
  pub redrawn_rows_none : any_below (is_marked marks) 25 ≡ false → length picture ≡ picture_bytes k → picture ≡ redrawn_rows k marks picture row
  unfolding redrawn_rows
  redrawn_rows_none none h =
      sym (parts_joined (row_bytes k) picture 25 (omega arith) ∙ take_all (row_bytes k * 25) picture (omega arith))
      ∙ joined_same _ _ 25 (λ r l. row_kept r (any_not (is_marked marks) 25 r none l))

-- a row of the fresh picture
pub fresh_rows_part :
    (k : ℕ) (row : ℕ → List ℕ) → ((r : ℕ) → length (row r) ≡ row_bytes k) → (r : ℕ) → r < 25 → part_of (row_bytes k) (fresh_rows row) r ≡ row r
unfolding fresh_rows
fresh_rows_part k row each r l = joined_part (row_bytes k) row 25 (λ i h. each i) r l

-- the first r rows are as a redraw leaves them, the others as they were; and `rows` of the r are marked
pub record DrawnTo (k : ℕ) (marks : List Bool) (old : List ℕ) (row : ℕ → List ℕ) (picture : List ℕ) (rows r : ℕ) : Type 0 where
  pub within : r ≤ 25
  pub few : rows ≤ r
  pub count : rows ≡ marked_rows marks r
  pub was : length old ≡ picture_bytes k
  pub long : length picture ≡ picture_bytes k
  pub drawn : picture ≡ filled (row_bytes k) (row_after k marks old row) old r

module _ (k : ℕ) (marks : List Bool) (old : List ℕ) (row : ℕ → List ℕ) where
  pub start : length old ≡ picture_bytes k → DrawnTo k marks old row old 0 0
  start h =
      record {
        within = omega arith;
        few = omega arith;
        count = sym (count_none (is_marked marks));
        was = h;
        long = h;
        drawn = filled_none (row_bytes k) (row_after k marks old row) old;
      }

  module _ (picture : List ℕ) (rows r : ℕ) (d : DrawnTo k marks old row picture rows r) where
    pub keep : r < 25 → is_marked marks r ≡ false → DrawnTo k marks old row picture rows (r + 1)
    keep l off =
        let more = count_step (is_marked marks) r ∙ ap (λ (b : Bool). marked_rows marks r + one_if b) off in
        record {
          within = omega arith;
          few = omega arith;
          count = omega arith;
          was = d.was;
          long = d.long;
          drawn = d.drawn ∙ filled_keep (row_bytes k) (row_after k marks old row) old r (row_kept k marks old row r off);
        }

    pub drew :
        r < 25 → is_marked marks r ≡ true → ((i : ℕ) → length (row i) ≡ row_bytes k) → (part : List ℕ) → part ≡ row r
        → length part ≡ length (mid_of (row_bytes k * r) (row_bytes k * r + row_bytes k - row_bytes k * r) picture)
        → DrawnTo k marks old row (put_mid (row_bytes k * r) (row_bytes k * r + row_bytes k - row_bytes k * r) picture part) (rows + 1) (r + 1)
    drew l on each part e same =
        let more = count_step (is_marked marks) r ∙ ap (λ (b : Bool). marked_rows marks r + one_if b) on in
        let at = row_bytes k * r in
        record {
          within = omega arith;
          few = omega arith;
          count = omega arith;
          was = d.was;
          long = same_len_mid at (at + row_bytes k - at) picture part same ∙ d.long;
          drawn =
              filled_part (row_bytes k) (row_after k marks old row) old picture part r at (at + row_bytes k - at)
              (each_after k marks old row each d.was r d.within) d.drawn (e ∙ row_marked k marks old row r on) refl (omega arith);
        }

    pub end : 25 ≤ r → (picture ≡ redrawn_rows k marks old row) × (rows ≡ marked_rows marks 25)
    unfolding redrawn_rows
    end l =
        let w = d.within in
        let done : r ≡ 25 = omega arith in
        let whole : length old ≡ row_bytes k * 25 = omega (arith, d.was) in
        (filled_end (row_bytes k) (row_after k marks old row) old picture 25 r d.drawn w l whole, d.count ∙ ap (marked_rows marks) done)
