-- The loops that mark: what was asked after each turn, the turn and the end. One goes over the rows of a group, one over the groups, and one down from the
-- row that has a byte among its own.
-- Assumes nothing.
use Prim.Native.Nat.{ℕ, ◌+◌, ◌-◌, ◌≤◌, ◌<◌}
use mathlib.Core.Path.{◌≡◌, refl, sym, ap, ap₂, ◌∙◌}
use mathlib.Core.Bool.{Bool, true, false, not, ◌&&◌, ◌||◌, and-false, or-false}
use mathlib.Core.List.{List}
use mathlib.Core.Logic.{⊎_elim}
use native.Mathlib.Omega.{arith}
use lib.Dec.{eqb, ltb, leb}
use borrow.Author.Tests.{eq-eqb, ne_eqb, lt-ltb, le-ltb, le-leb, lt-leb, not-true, not-false}
use lib.ListN.{length, set}
use Rattle.basics.proofs.Choice.{or_right, lt_or_le, eq_or_ne}
use Rattle.address.specs.Rows.{row_y}
use Rattle.address.proofs.Laws.{row_service, row_from_one}
use Rattle.page.specs.Marks.{is_marked, marked_too}
use Rattle.marking.specs.HowMarked.{in_group, falls_to}
use Rattle.marking.proofs.Falls.{falls_own, falls_above, falls_below}
use Rattle.reading.proofs.Marking.{marked_again, marked_none, marked_same, marked_set, marked_twice}

-- what was asked of a row's Y, for the row
pub row_asked : (f : ℕ → Bool) (t : Bool) (y k : ℕ) → t ≡ f y → y ≡ k → t ≡ f k
row_asked f t y k p q = p ∙ ap f q

-- a mark that is there, and one for which the row is asked
pub or_found : (a b v : Bool) → v ≡ a → a ≡ true → v ≡ (a || b)
or_found a b v e t = e ∙ t ∙ sym (ap (λ (s : Bool). s || b) t)

pub or_asked : (a b v t : Bool) → v ≡ t → t ≡ b → a ≡ false → v ≡ (a || b)
or_asked a b v t e q f = e ∙ q ∙ sym (ap (λ (s : Bool). s || b) f)

absorbed : (a b : Bool) → ((a && b) || b) ≡ b
absorbed true true = refl
absorbed true false = refl
absorbed false b = refl

or_same : (a : Bool) → (a || a) ≡ a
or_same true = refl
or_same false = refl

-- a loop over the rows: those below r were asked
module _ (f : ℕ → Bool) (marks : List Bool) where
  abbrev pub below : ℕ → ℕ → Bool
  below r i = ltb i r && f i

  pub below_start : length marks ≡ 25 → marks ≡ marked_too (below 0) marks
  below_start h = marked_none (below 0) marks h (λ i l. ap (λ (t : Bool). t && f i) (le-ltb i 0 (omega arith)))

  below_step : (r i : ℕ) → (below r i || (eqb i r && f r)) ≡ below (r + 1) i
  below_step r i =
      ⊎_elim
      (λ (l : i < r).
      ap₂ ◌||◌ (ap (λ (t : Bool). t && f i) (lt-ltb i r l)) (ap (λ (t : Bool). t && f r) (ne_eqb i r (λ e. omega arith)))
      ∙ or-false (f i)
      ∙ sym (ap (λ (t : Bool). t && f i) (lt-ltb i (r + 1) (omega arith))))
      (λ (h : r ≤ i).
      ap (λ (t : Bool). t || (eqb i r && f r)) (ap (λ (t : Bool). t && f i) (le-ltb i r h))
      ∙ ⊎_elim
      (λ (e : i ≡ r).
      ap (λ (t : Bool). t && f r) (eq-eqb i r e) ∙ ap f (sym e) ∙ sym (ap (λ (t : Bool). t && f i) (lt-ltb i (r + 1) (omega arith))))
      (λ (n : i ≡ r → ⊥).
      ap (λ (t : Bool). t && f r) (ne_eqb i r n) ∙ sym (ap (λ (t : Bool). t && f i) (le-ltb i (r + 1) (omega arith))))
      (eq_or_ne i r))
      (lt_or_le i r)

  pub below_turn :
      (after : List Bool) (r : ℕ) (new t : Bool) → after ≡ marked_too (below r) marks → r < 25 → t ≡ f r → new ≡ (is_marked after r || t)
      → set after r new ≡ marked_too (below (r + 1)) marks
  below_turn after r new t d l et en =
      marked_set (below r) marks (below (r + 1)) after r new (f r) d l (en ∙ ap (λ (b : Bool). is_marked after r || b) et) (λ i h. below_step r i)

  -- no row from r on passes
  pub below_end : (after : List Bool) (r : ℕ) → after ≡ marked_too (below r) marks → ((i : ℕ) → i < 25 → r ≤ i → f i ≡ false) → after ≡ marked_too f marks
  below_end after r d none =
      d
      ∙ marked_same (below r) marks f
      (λ i l.
      ⊎_elim (λ (h : i < r). ap (λ (t : Bool). t && f i) (lt-ltb i r h))
      (λ (h : r ≤ i). ap (λ (t : Bool). t && f i) (le-ltb i r h) ∙ sym (none i l h))
      (lt_or_le i r))

-- a loop over the numbers of a group, which asks the row that has each: a Y, or the row's own
module _ (f : ℕ → Bool) (marks : List Bool) (y : ℕ → ℕ) (first : ℕ) where
  abbrev pub between : ℕ → ℕ → Bool
  between end i = in_group first end (y i) && f (y i)

  pub between_start : length marks ≡ 25 → marks ≡ marked_too (between first) marks
  unfolding in_group
  between_start h = marked_none (between first) marks h (λ i l. ap (λ (t : Bool). t && f (y i)) (empty (y i)))
    where
      empty : (k : ℕ) → (leb first k && ltb k first) ≡ false
      empty k =
          ⊎_elim (λ (q : k < first). ap (λ (t : Bool). t && ltb k first) (lt-leb first k q))
          (λ (q : first ≤ k). ap (λ (t : Bool). leb first k && t) (le-ltb k first q) ∙ and-false (leb first k))
          (lt_or_le k first)

  between_step : (end k : ℕ) → first ≤ end → ((in_group first end k && f k) || (eqb k end && f end)) ≡ (in_group first (end + 1) k && f k)
  unfolding in_group
  between_step end k h =
      ⊎_elim
      (λ (l : k < end).
      ap₂ ◌||◌ (ap (λ (t : Bool). (leb first k && t) && f k) (lt-ltb k end l)) (ap (λ (t : Bool). t && f end) (ne_eqb k end (λ e. omega arith)))
      ∙ or-false ((leb first k && true) && f k)
      ∙ sym (ap (λ (t : Bool). (leb first k && t) && f k) (lt-ltb k (end + 1) (omega arith))))
      (λ (g : end ≤ k).
      ap (λ (t : Bool). (t && f k) || (eqb k end && f end)) (ap (λ (t : Bool). leb first k && t) (le-ltb k end g) ∙ and-false (leb first k))
      ∙ ⊎_elim
      (λ (e : k ≡ end).
      ap (λ (t : Bool). t && f end) (eq-eqb k end e)
      ∙ ap f (sym e)
      ∙ sym (ap₂ (λ (s t : Bool). (s && t) && f k) (le-leb first k (omega arith)) (lt-ltb k (end + 1) (omega arith))))
      (λ (n : k ≡ end → ⊥).
      ap (λ (t : Bool). t && f end) (ne_eqb k end n)
      ∙ sym (ap (λ (t : Bool). t && f k) (ap (λ (t : Bool). leb first k && t) (le-ltb k (end + 1) (omega arith)) ∙ and-false (leb first k))))
      (eq_or_ne k end))
      (lt_or_le k end)

  pub between_turn :
      (after : List Bool) (end r : ℕ) (new t : Bool) → after ≡ marked_too (between end) marks → first ≤ end → r < 25
      → ((i : ℕ) → i < 25 → eqb i r ≡ eqb (y i) end) → t ≡ f end → new ≡ (is_marked after r || t)
      → set after r new ≡ marked_too (between (end + 1)) marks
  between_turn after end r new t d h l at et en =
      marked_set (between end) marks (between (end + 1)) after r new (f end) d l (en ∙ ap (λ (b : Bool). is_marked after r || b) et)
      (λ i k. ap (λ (b : Bool). between end i || (b && f end)) (at i k) ∙ between_step end (y i) h)

-- one row, by itself
pub one_marked :
    (marks : List Bool) (r : ℕ) (new t : Bool) → length marks ≡ 25 → r < 25 → new ≡ (is_marked marks r || t)
    → set marks r new ≡ marked_too (λ i. eqb i r && t) marks
one_marked marks r new t h l e =
    marked_set (λ i. false) marks (λ i. eqb i r && t) marks r new t (marked_none (λ i. false) marks h (λ i l. refl)) l e (λ i l. refl)

-- a loop over groups, by a number that each row has, its Y or its own: the rows whose number is below end were asked
module _ (f : ℕ → Bool) (marks : List Bool) (y : ℕ → ℕ) where
  abbrev pub up_to : ℕ → ℕ → Bool
  up_to end i = ltb (y i) end && f (y i)

  -- row 0 first; the others have numbers from low on
  up_start :
      (low : ℕ) (first : List Bool) → first ≡ marked_too (λ i. eqb i 0 && f 0) marks → 0 < low → y 0 ≡ 0 → ((i : ℕ) → (i ≡ 0 → ⊥) → low ≤ y i)
      → first ≡ marked_too (up_to low) marks
  up_start low first d l e0 en =
      d
      ∙ marked_same (λ i. eqb i 0 && f 0) marks (up_to low)
      (λ i h.
      ⊎_elim
      (λ (q : i ≡ 0).
      let z : y i ≡ 0 = ap y q ∙ e0 in
      ap (λ (b : Bool). b && f 0) (eq-eqb i 0 q)
      ∙ ap f (sym z)
      ∙ sym (ap (λ (b : Bool). b && f (y i)) (lt-ltb (y i) low (omega arith))))
      (λ (q : i ≡ 0 → ⊥).
      ap (λ (b : Bool). b && f 0) (ne_eqb i 0 q) ∙ sym (ap (λ (b : Bool). b && f (y i)) (le-ltb (y i) low (en i q))))
      (eq_or_ne i 0))

  -- the loop begins with row 0 asked
  module _ (low : ℕ) (first : List Bool) (begun : first ≡ marked_too (up_to low) marks) where
    pub up_begins : first ≡ marked_too (up_to low) first
    up_begins = begun ∙ sym (marked_again (up_to low) (up_to low) marks first begun (λ i l. or_same (up_to low i)))

    pub up_ends : (after : List Bool) → after ≡ marked_too (λ i. f (y i)) first → after ≡ marked_too (λ i. f (y i)) marks
    up_ends after e = e ∙ marked_again (up_to low) (λ i. f (y i)) marks first begun (λ i l. absorbed (ltb (y i) low) (f (y i)))

  -- a group of n
  module _ (n end : ℕ) where
    join : (k : ℕ) → ((ltb k end && f k) || (in_group end (end + n) k && f k)) ≡ (ltb k (end + n) && f k)
    unfolding in_group
    join k =
        ⊎_elim
        (λ (l : k < end).
        ap₂ ◌||◌ (ap (λ (t : Bool). t && f k) (lt-ltb k end l)) (ap (λ (t : Bool). (t && ltb k (end + n)) && f k) (lt-leb end k l))
        ∙ or-false (f k)
        ∙ sym (ap (λ (t : Bool). t && f k) (lt-ltb k (end + n) (omega arith))))
        (λ (h : end ≤ k).
        ap₂ ◌||◌ (ap (λ (t : Bool). t && f k) (le-ltb k end h)) (ap (λ (t : Bool). (t && ltb k (end + n)) && f k) (le-leb end k h)))
        (lt_or_le k end)

    -- it is asked
    pub up_asked :
        (before after : List Bool) (next : ℕ) → next ≡ end + n → before ≡ marked_too (up_to end) marks
        → after ≡ marked_too (λ i. in_group end (end + n) (y i) && f (y i)) before → after ≡ marked_too (up_to next) marks
    up_asked before after next en d e =
        e
        ∙ ap (marked_too (λ i. in_group end (end + n) (y i) && f (y i))) d
        ∙ marked_twice (up_to end) marks (λ i. in_group end (end + n) (y i) && f (y i)) (up_to next)
        (λ i l. join (y i) ∙ ap (λ (k : ℕ). up_to k i) (sym en))

    -- it is left, since none of it passes
    pub up_left :
        (before : List Bool) (next : ℕ) → next ≡ end + n → before ≡ marked_too (up_to end) marks → ((k : ℕ) → k < n → f (end + k) ≡ false)
        → before ≡ marked_too (up_to next) marks
    up_left before next en d none = d ∙ marked_same (up_to end) marks (up_to next) (λ i l. step (y i) ∙ ap (λ (k : ℕ). up_to k i) (sym en))
      where
        off : (k : ℕ) → end ≤ k → k < end + n → f k ≡ false
        off k h l = let e : k ≡ end + (k - end) = omega arith in ap f e ∙ none (k - end) (omega arith)

        step : (k : ℕ) → (ltb k end && f k) ≡ (ltb k (end + n) && f k)
        step k =
            ⊎_elim
            (λ (l : k < end). ap (λ (t : Bool). t && f k) (lt-ltb k end l ∙ sym (lt-ltb k (end + n) (omega arith))))
            (λ (h : end ≤ k).
            ap (λ (t : Bool). t && f k) (le-ltb k end h)
            ∙ ⊎_elim
            (λ (l : k < end + n). sym (ap (λ (t : Bool). ltb k (end + n) && t) (off k h l) ∙ and-false (ltb k (end + n))))
            (λ (l : end + n ≤ k). sym (ap (λ (t : Bool). t && f k) (le-ltb k (end + n) l)))
            (lt_or_le k (end + n)))
            (lt_or_le k end)

  pub up_end : (after : List Bool) (end : ℕ) → after ≡ marked_too (up_to end) marks → ((i : ℕ) → i < 25 → y i < end) → after ≡ marked_too (λ i. f (y i)) marks
  up_end after end d h = d ∙ marked_same (up_to end) marks (λ i. f (y i)) (λ i l. ap (λ (t : Bool). t && f (y i)) (lt-ltb (y i) end (h i l)))

-- by their Ys, from 8 on
pub begun_by_y :
    (f : ℕ → Bool) (marks first : List Bool) (yor : ℕ) → first ≡ marked_too (λ i. eqb i 0 && f 0) marks → first ≡ marked_too (up_to f marks (row_y yor) 8) marks
begun_by_y f marks first yor d =
    up_start f marks (row_y yor) 8 first d (omega arith) (row_service yor 0 refl) (λ i n. omega (arith, row_from_one yor i n))

-- by their own numbers, from 1 on
pub begun_by_row :
    (f : ℕ → Bool) (marks : List Bool) (new t : Bool) → length marks ≡ 25 → t ≡ f 0 → new ≡ (is_marked marks 0 || t)
    → set marks 0 new ≡ marked_too (up_to f marks (λ i. i) 1) marks
begun_by_row f marks new t h e n =
    up_start f marks (λ i. i) 1 _ (one_marked marks 0 new (f 0) h (omega arith) (n ∙ ap (λ (b : Bool). is_marked marks 0 || b) e)) (omega arith) refl (λ i q. omega arith)

-- the rows that a byte of a row's own reaches
module _ (tall : ℕ → Bool) (row : ℕ) (marks : List Bool) where
  abbrev falls : ℕ → Bool
  falls = falls_to tall row

  pub reach_start : length marks ≡ 25 → row < 25 → set marks row true ≡ marked_too (below falls marks (row + 1)) marks
  reach_start h l =
      below_turn falls marks marks row true true
      (marked_none (below falls marks row) marks h (λ i k. none i)) l (sym (falls_own tall row)) (sym (or_right (is_marked marks row) true refl))
    where
      none : (i : ℕ) → (ltb i row && falls i) ≡ false
      none i =
          ⊎_elim (λ (q : i < row). ap (λ (t : Bool). ltb i row && t) (falls_above tall row i q) ∙ and-false (ltb i row))
          (λ (q : row ≤ i). ap (λ (t : Bool). t && falls i) (le-ltb i row q))
          (lt_or_le i row)

  -- the loop begins with the row itself marked
  pub reach_begins : (first : List Bool) → first ≡ marked_too (below falls marks (row + 1)) marks → first ≡ marked_too (below falls first (row + 1)) first
  reach_begins first d = d ∙ sym (marked_again (below falls marks (row + 1)) (below falls marks (row + 1)) marks first d (λ i l. or_same (below falls marks (row + 1) i)))

  pub reach_ends : (first after : List Bool) → first ≡ marked_too (below falls marks (row + 1)) marks → after ≡ marked_too falls first → after ≡ marked_too falls marks
  reach_ends first after d e =
      e ∙ marked_again (below falls marks (row + 1)) falls marks first d (λ i l. absorbed (ltb i (row + 1)) (falls i))

  pub reach_turn :
      (after : List Bool) (r : ℕ) → after ≡ marked_too (below falls marks r) marks → r < 25 → falls r ≡ true
      → set after r true ≡ marked_too (below falls marks (r + 1)) marks
  reach_turn after r d l e = below_turn falls marks after r true true d l (sym e) (sym (or_right (is_marked after r) true refl))

  -- the row is asked
  pub reach_on : (r : ℕ) (t : Bool) → falls r ≡ tall r → t ≡ tall r → not t ≡ false → falls r ≡ true
  reach_on r t e q n = e ∙ sym q ∙ not-false t n

  pub reach_off : (r : ℕ) (t : Bool) → falls r ≡ tall r → t ≡ tall r → not t ≡ true → falls r ≡ false
  reach_off r t e q n = e ∙ sym q ∙ not-true t n

  pub reach_left :
      (after : List Bool) (r : ℕ) → after ≡ marked_too (below falls marks r) marks → row < r → falls r ≡ false → after ≡ marked_too falls marks
  reach_left after r d h e = below_end falls marks after r d (λ i l k. falls_below tall row r i h e k)
