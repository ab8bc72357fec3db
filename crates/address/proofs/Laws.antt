-- Laws of the definitions, one for each way that the code takes, and the tests of a legal triple as facts.
-- Assumes nothing.
use Prim.Native.Nat.{ℕ, ◌+◌, ◌-◌, ◌*◌, ◌%◌, ◌≤◌, ◌<◌}
use mathlib.Core.Path.{◌≡◌, refl}
use mathlib.Core.Bool.{Bool, true, false}
use mathlib.Core.Logic.{◌⊎◌, inl, inr, ⊎_elim}
use native.Mathlib.Omega.{arith}
use lib.Dec.{ltb, leb, eqb}
use borrow.Author.Tests.{lt-ltb, le-ltb, le-leb, lt-leb, eq-eqb, ne_eqb, ltb-true, leb-true, eqb-true}
use Rattle.basics.specs.Choice.{pick}
use Rattle.basics.proofs.Choice.{and_left, and_right, and_both, or_cases, or_left, or_right}
use Rattle.address.specs.declared.triple.Triple.{Triple}
use Rattle.address.specs.Triples.{legal_y, on_page, legal, legal_in}
use Rattle.address.specs.Places.{place_of}
use Rattle.address.specs.Rows.{row_y}

-- two triples are equal where their fields are
pub triple : {a b c x y z : ℕ} → a ≡ x → b ≡ y → c ≡ z → ◌≡◌ {A = Triple} (record { x = a; y = b; z = c }) (record { x = x; y = y; z = z })
triple p q r = cc

module _ (y : ℕ) where
  pub y_zero : y ≡ 0 → legal_y y ≡ true
  unfolding legal_y
  y_zero e = rw e

  pub y_low : (y ≡ 0 → ⊥) → y < 8 → legal_y y ≡ false
  unfolding legal_y
  y_low n l = simp (ne_eqb _ _ n, lt-leb _ _ l)

  pub y_high : 8 ≤ y → legal_y y ≡ ltb y 32
  unfolding legal_y
  y_high l = simp (ne_eqb y 0 (λ e. omega arith), le-leb _ _ l)

  -- Y 0 or 8..31, as facts
  abbrev pub Row : Type 0
  Row = (y ≡ 0) ⊎ ((8 ≤ y) × (y < 32))

  pub y_facts : legal_y y ≡ true → Row
  unfolding legal_y
  y_facts e =
      ⊎_elim (λ p. inl (eqb-true y 0 p)) (λ p. inr (leb-true 8 y (and_left _ _ p), ltb-true y 32 (and_right (leb 8 y) _ p))) (or_cases (eqb y 0) _ e)

  pub facts_y : Row → legal_y y ≡ true
  unfolding legal_y
  facts_y r =
      ⊎_elim (λ e. or_left (eqb y 0) _ (eq-eqb y 0 e)) (λ p. or_right (eqb y 0) _ (and_both _ _ (le-leb 8 y p.0) (lt-ltb y 32 p.1))) r

module _ (x y : ℕ) where
  pub page_column : on_page x y ≡ true → x < 40
  unfolding on_page
  page_column e = ltb-true x 40 (and_left _ _ e)

  pub page_row : on_page x y ≡ true → Row y
  unfolding on_page
  page_row e = y_facts y (and_right (ltb x 40) _ e)

  pub facts_page : x < 40 → Row y → on_page x y ≡ true
  unfolding on_page
  facts_page h r = and_both _ _ (lt-ltb x 40 h) (facts_y y r)

  pub bad_column : 40 ≤ x → on_page x y ≡ false
  unfolding on_page
  bad_column h = simp (le-ltb _ _ h)

  pub good_column : x < 40 → on_page x y ≡ legal_y y
  unfolding on_page
  good_column h = simp (lt-ltb _ _ h)

-- on a board of so many blocks
module _ (n : ℕ) (t : Triple) where
  pub legal_page : legal_in n t ≡ true → legal t ≡ true
  unfolding legal_in
  legal_page e = and_left _ _ e

  pub legal_fitted : legal t ≡ true → t.z < n → legal_in n t ≡ true
  unfolding legal_in
  legal_fitted e l = and_both _ _ e (lt-ltb t.z n l)

  pub legal_block : legal_in n t ≡ true → t.z < n
  unfolding legal_in
  legal_block e = ltb-true t.z n (and_right (on_page t.x t.y) _ e)

-- the three rules of a place
module _ (x y z : ℕ) where
  pub place_left : x < 32 → place_of x y z ≡ 1024 * z + 32 * y + x
  unfolding place_of
  place_left h = simp (lt-ltb _ _ h)

  pub place_service : 32 ≤ x → y ≡ 0 → place_of x y z ≡ 1024 * z + x
  unfolding place_of
  place_service h e = simp (le-ltb _ _ h, eq-eqb _ _ e)

  pub place_right : 32 ≤ x → (y ≡ 0 → ⊥) → place_of x y z ≡ 1024 * z + 8 * y + x - 32
  unfolding place_of
  place_right h n = simp (le-ltb _ _ h, ne_eqb _ _ n)

-- the two rules of a row's Y
module _ (yor r : ℕ) where
  pub row_service : r ≡ 0 → row_y yor r ≡ 0
  unfolding row_y
  row_service e = rw e

  pub row_from_one : (r ≡ 0 → ⊥) → row_y yor r ≡ 8 + (yor - 8 + r - 1) % 24
  unfolding row_y
  row_from_one n = simp (ne_eqb r 0 n)

  pub row_small : row_y yor r < 32
  unfolding row_y
  row_small = go (eqb r 0)
    where
      go : (t : Bool) → pick t 0 (8 + (yor - 8 + r - 1) % 24) < 32
      go true = omega arith
      go false = omega arith

  -- it is legal
  pub row_facts : Row (row_y yor r)
  unfolding row_y
  row_facts = go (eqb r 0)
    where
      go : (t : Bool) → Row (pick t 0 (8 + (yor - 8 + r - 1) % 24))
      go true = inl refl
      go false = inr (omega arith, omega arith)

  pub row_legal : legal_y (row_y yor r) ≡ true
  row_legal = facts_y _ row_facts
