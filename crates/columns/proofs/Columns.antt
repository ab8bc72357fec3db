-- The bytes of forty cells, as many lines for each, those of a line side by side: a cell's bytes put among the others, cell by cell, and
-- each found again.
-- Assumes nothing.
use Prim.Native.Nat.{ℕ, ◌+◌, ◌*◌, ◌/◌, ◌%◌, ◌≤◌, ◌<◌}
use mathlib.Core.Path.{◌≡◌, refl, sym, ap, ◌∙◌}
use mathlib.Core.Bool.{false}
use mathlib.Core.List.{List, [], ◌∷◌}
use mathlib.Core.Logic.{⊎_elim}
use native.Mathlib.Nat.{not-suc-le-zero, eq-or-lt_of_le}
use native.Mathlib.Omega.{arith}
use lib.Dec.{eqb}
use lib.ListN.{length, get_or, set, length-set}
use lib.Seq.{get_or-set_same, get_or-set_other, ext_get_or}
use borrow.Author.Tests.{eqb-true, eqb-false}
use Rattle.basics.specs.Parts.{table}
use Rattle.basics.proofs.Choice.{bool_cases}
use Rattle.basics.proofs.Few.{four}
use Rattle.basics.proofs.Parts.{length_table, table_at}
use Rattle.columns.specs.HowColumns.{besides, side_by_side, byte_in, put_at}

-- the first n bytes of cell x are put among those of the others, which are what they were
pub record PutTo (lines : ℕ) (columns₀ : List ℕ) (x : ℕ) (column columns : List ℕ) (n : ℕ) : Type 0 where
  pub long : length columns ≡ 40 * lines
  pub here : (k : ℕ) → k < n → byte_in columns k x ≡ get_or column k 0
  pub others : (i : ℕ) → eqb (i % 40) x ≡ false → get_or columns i 0 ≡ get_or columns₀ i 0

module _ (lines : ℕ) (columns₀ : List ℕ) (x : ℕ) (column : List ℕ) where
  pub put_none : length columns₀ ≡ 40 * lines → PutTo lines columns₀ x column columns₀ 0
  put_none h = record { long = h; here = λ k l. absurd (not-suc-le-zero l); others = λ i e. refl }

  -- the next byte, at the place that the code has
  pub put_one :
      (columns : List ℕ) (n place : ℕ) → place ≡ 40 * n + x → x < 40 → n < lines → PutTo lines columns₀ x column columns n
      → PutTo lines columns₀ x column (set columns place (get_or column n 0)) (n + 1)
  put_one columns n place e hx hn p =
      let h : length columns ≡ 40 * lines = p.long in
      record {
        long = length-set columns place (get_or column n 0) ∙ h;
        here =
            λ k l.
            ⊎_elim
            (λ (q : k ≡ n). rw (q, ← e) (get_or-set_same columns place (get_or column n 0) 0 (omega arith)))
            (λ (b : k < n). get_or-set_other columns place (40 * k + x) (get_or column n 0) 0 (λ q. omega arith) ∙ p.here k b)
            (eq-or-lt_of_le (omega arith));
        others = λ i f. get_or-set_other columns place i (get_or column n 0) 0 (λ q. eqb-false (i % 40) x f (omega arith)) ∙ p.others i f;
      }

  pub put_end :
      (columns : List ℕ) (n : ℕ) → PutTo lines columns₀ x column columns n → n ≤ lines → lines ≤ n → columns ≡ table (put_at columns₀ x column) (40 * lines)
  put_end columns n p a b =
      let h : length columns ≡ 40 * lines = p.long in
      ext_get_or 0 columns _ (h ∙ sym (length_table (put_at columns₀ x column) (40 * lines)))
      (λ i l. value i (omega arith) ∙ sym (table_at (put_at columns₀ x column) (40 * lines) i 0 (omega arith)))
    where
      value : (i : ℕ) → i < 40 * lines → get_or columns i 0 ≡ put_at columns₀ x column i
      value i l =
          ⊎_elim
          (λ e.
          let q : i % 40 ≡ x = eqb-true (i % 40) x e in
          rw e (ap (λ (j : ℕ). get_or columns j 0) (omega arith) ∙ p.here (i / 40) (omega arith)))
          (λ e. rw e (p.others i e))
          (bool_cases (eqb (i % 40) x))

-- the bytes of the first x cells are right
pub record CellsTo (lines : ℕ) (column : ℕ → List ℕ) (columns : List ℕ) (x : ℕ) : Type 0 where
  pub long : length columns ≡ 40 * lines
  pub right : (i : ℕ) → i < 40 * lines → i % 40 < x → get_or columns i 0 ≡ besides column i

module _ (lines : ℕ) (column : ℕ → List ℕ) where
  pub cells_none : (columns : List ℕ) → length columns ≡ 40 * lines → CellsTo lines column columns 0
  cells_none columns h = record { long = h; right = λ i l b. absurd (not-suc-le-zero b) }

  pub cells_one :
      (columns columns' : List ℕ) (x : ℕ) (t : List ℕ)
      → CellsTo lines column columns x → t ≡ column x → length t ≡ lines → columns' ≡ table (put_at columns x t) (40 * length t) → CellsTo lines column columns' (x + 1)
  cells_one columns columns' x t p e h q =
      let q' : columns' ≡ table (put_at columns x t) (40 * lines) = q ∙ ap (λ (n : ℕ). table (put_at columns x t) (40 * n)) h in
      record {
        long = ap length q' ∙ length_table (put_at columns x t) (40 * lines);
        right = λ i l b. ap (λ (z : List ℕ). get_or z i 0) q' ∙ table_at (put_at columns x t) (40 * lines) i 0 l ∙ value i l b;
      }
    where
      value : (i : ℕ) → i < 40 * lines → i % 40 < x + 1 → put_at columns x t i ≡ besides column i
      value i l b =
          ⊎_elim
          (λ c. rw c (ap (λ (z : List ℕ). get_or z (i / 40) 0) (e ∙ ap column (sym (eqb-true (i % 40) x c)))))
          (λ c.
          let d = eqb-false (i % 40) x c in
          rw c (p.right i l (omega (arith, d))))
          (bool_cases (eqb (i % 40) x))

  pub cells_end : (columns : List ℕ) (x : ℕ) → CellsTo lines column columns x → 40 ≤ x → columns ≡ side_by_side column lines
  unfolding side_by_side
  cells_end columns x p b =
      let h : length columns ≡ 40 * lines = p.long in
      ext_get_or 0 columns _ (h ∙ sym (length_table (besides column) (40 * lines)))
      (λ i l. p.right i (omega arith) (omega arith) ∙ sym (table_at (besides column) (40 * lines) i 0 (omega arith)))

  -- the byte of cell x on line n
  pub side_at : (n x : ℕ) → n < lines → x < 40 → byte_in (side_by_side column lines) n x ≡ get_or (column x) n 0
  unfolding side_by_side
  side_at n x h l =
      let i = 40 * n + x in
      table_at (besides column) (40 * lines) i 0 (omega arith)
      ∙ ap (λ (z : ℕ). get_or (column z) (i / 40) 0) (omega arith)
      ∙ ap (λ (z : ℕ). get_or (column x) z 0) (omega arith)

-- the four bytes of cell x
pub side_column :
    (column : ℕ → List ℕ) (columns : List ℕ) (x : ℕ)
    → columns ≡ side_by_side column 4 → length (column x) ≡ 4 → x < 40
    → ◌≡◌ {A = List ℕ} (get_or columns x 0 ∷ get_or columns (40 + x) 0 ∷ get_or columns (80 + x) 0 ∷ get_or columns (120 + x) 0 ∷ []) (column x)
side_column column columns x e h l =
    ext_get_or 0 _ (column x) (sym h)
    (four (λ (f : ℕ). get_or (get_or columns x 0 ∷ get_or columns (40 + x) 0 ∷ get_or columns (80 + x) 0 ∷ get_or columns (120 + x) 0 ∷ []) f 0 ≡ get_or (column x) f 0)
    (at 0 x (omega arith) (omega arith)) (at 1 (40 + x) (omega arith) (omega arith)) (at 2 (80 + x) (omega arith) (omega arith))
    (at 3 (120 + x) (omega arith) (omega arith)))
  where
    at : (n i : ℕ) → n < 4 → i ≡ 40 * n + x → get_or columns i 0 ≡ get_or (column x) n 0
    at n i b q = ap (λ (z : List ℕ). get_or z i 0) e ∙ ap (λ (j : ℕ). get_or (side_by_side column 4) j 0) q ∙ side_at 4 column n x b l
