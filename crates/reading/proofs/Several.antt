-- Several stores mark what the lists before the first of them hold: a store that changes a byte marks the rows that hold it, and every
-- other row's list is as it was.
-- Assumes nothing.
use Prim.Native.Nat.{ℕ}
use mathlib.Core.Path.{◌≡◌, refl, sym, ap, ap₂, ◌∙◌}
use mathlib.Core.Bool.{Bool, true, false, not, ◌&&◌, ◌||◌}
use mathlib.Core.List.{List, [], ◌∷◌}
use mathlib.Core.Logic.{⊎_elim}
use lib.Dec.{eqb}
use lib.ListN.{length, set}
use lib.Seq.{set-get_or}
use borrow.Author.Tests.{eqb-true, not-false}
use Rattle.basics.specs.Choice.{pick}
use Rattle.basics.proofs.Choice.{bool_cases, and_none}
use Rattle.address.specs.Places.{byte_at}
use Rattle.shown.specs.declared.Shown.{Shown}
use Rattle.shown.specs.Refusals.{can_draw}
use Rattle.page.specs.Marks.{marked_too}
use Rattle.reading.specs.Lists.{on_list}
use Rattle.reading.specs.Marks.{Store, store_marks, stores_marks, changes_on}
use Rattle.reading.proofs.Marking.{marked_none, marked_twice, marked_long}
use Rattle.reading.proofs.Stable.{agree_off, list_same}

-- the store changes its byte
abbrev changes : List ℕ → Store → Bool
changes m s = not (eqb (byte_at m s.place) s.value)

abbrev after : List ℕ → Store → List ℕ
after m s = set m s.place s.value

-- two memories in which row r has the same list
lists_same :
    (shown : Shown) (a b : List ℕ) (r : ℕ) → ((p : ℕ) → on_list shown a p r ≡ on_list shown b p r) → (m : List ℕ) (stores : List Store)
    → changes_on shown a m stores r ≡ changes_on shown b m stores r
unfolding changes_on
lists_same shown a b r e m [] = refl
lists_same shown a b r e m (s ∷ stores) =
    ap₂ ◌||◌ (ap (λ (t : Bool). changes m s && t) (e s.place)) (lists_same shown a b r e (after m s) stores)

module _ (shown : Shown) (m : List ℕ) (s : Store) where
  abbrev marks_it : ℕ → Bool
  marks_it r = changes m s && on_list shown m s.place r

  -- a row that the store does not mark has the same list after it
  list_kept : (r : ℕ) → marks_it r ≡ false → (p : ℕ) → on_list shown m p r ≡ on_list shown (after m s) p r
  list_kept r e p =
      ⊎_elim
      (λ t. list_same shown m (after m s) r (agree_off shown m s.place s.value r (and_none (changes m s) _ e t)) p)
      (λ f.
      let same = eqb-true (byte_at m s.place) s.value (not-false _ f) in
      ap (λ (n : List ℕ). on_list shown n p r) (sym (ap (set m s.place) (sym same) ∙ set-get_or m s.place 0)))
      (bool_cases (changes m s))

  -- so the lists before it serve for the stores that follow
  one_more : (stores : List Store) (r : ℕ) → (marks_it r || changes_on shown (after m s) (after m s) stores r) ≡ (marks_it r || changes_on shown m (after m s) stores r)
  one_more stores r = go (marks_it r) refl
    where
      go : (t : Bool) → marks_it r ≡ t → (t || changes_on shown (after m s) (after m s) stores r) ≡ (t || changes_on shown m (after m s) stores r)
      go true e = refl
      go false e = sym (lists_same shown m (after m s) r (list_kept r e) (after m s) stores)

-- a store while a draw is not refused
store_marked :
    (shown : Shown) (m : List ℕ) (s : Store) (marks : List Bool) → can_draw shown ≡ true → length marks ≡ 25
    → store_marks shown m s.place s.value marks ≡ marked_too (marks_it shown m s) marks
unfolding store_marks
store_marked shown m s marks can h = rw can (go (changes m s))
  where
    go : (t : Bool) → pick t (marked_too (on_list shown m s.place) marks) marks ≡ marked_too (λ r. t && on_list shown m s.place r) marks
    go true = refl
    go false = marked_none (λ r. false) marks h (λ i l. refl)

several_drawn :
    (shown : Shown) (stores : List Store) (m : List ℕ) (marks : List Bool) → can_draw shown ≡ true → length marks ≡ 25
    → stores_marks shown m stores marks ≡ marked_too (changes_on shown m m stores) marks
unfolding stores_marks changes_on
several_drawn shown [] m marks can h = marked_none (λ r. false) marks h (λ i l. refl)
several_drawn shown (s ∷ stores) m marks can h =
    let one = store_marked shown m s marks can h in
    several_drawn shown stores (after m s) (store_marks shown m s.place s.value marks) can (ap length one ∙ marked_long (marks_it shown m s) marks)
    ∙ ap (marked_too (changes_on shown (after m s) (after m s) stores)) one
    ∙ marked_twice (marks_it shown m s) marks (changes_on shown (after m s) (after m s) stores) _ (λ r l. one_more shown m s stores r)

several_refused : (shown : Shown) (stores : List Store) (m : List ℕ) (marks : List Bool) → can_draw shown ≡ false → stores_marks shown m stores marks ≡ marks
unfolding stores_marks store_marks
several_refused shown [] m marks can = refl
several_refused shown (s ∷ stores) m marks can =
    several_refused shown stores (after m s) (store_marks shown m s.place s.value marks) can ∙ rw can

-- the law, for any stores
pub several :
    (shown : Shown) (stores : List Store) (m : List ℕ) (marks : List Bool) → length marks ≡ 25
    → stores_marks shown m stores marks ≡ pick (can_draw shown) (marked_too (changes_on shown m m stores) marks) marks
several shown stores m marks h =
    ⊎_elim (λ can. several_drawn shown stores m marks can h ∙ rw can) (λ can. several_refused shown stores m marks can ∙ rw can) (bool_cases (can_draw shown))
