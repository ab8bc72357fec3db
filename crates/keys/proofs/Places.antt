-- Which rows have a byte among their own: the place of a legal triple is that of one cell's byte on the page, or of none.
-- Assumes nothing.
use Prim.Native.Nat.{ℕ, ◌+◌, ◌-◌, ◌%◌, ◌≤◌, ◌<◌}
use mathlib.Core.Path.{◌≡◌, sym, ap, ◌∙◌}
use mathlib.Core.Bool.{Bool, true, false, ◌&&◌}
use mathlib.Core.Logic.{◌⊎◌, ⊎_elim}
use native.Mathlib.Omega.{arith}
use lib.Dec.{eqb}
use borrow.Author.Tests.{lt-ltb, le-ltb, eq-eqb, eqb-true}
use Rattle.basics.proofs.Choice.{and_left, and_right, and_both, or_cases, or_left, or_right, eq_or_ne, lt_or_le}
use Rattle.basics.proofs.Below.{any_hit, any_at}
use Rattle.basics.proofs.Computed.{agree_test}
use Rattle.address.specs.Addresses.{is_at}
use Rattle.address.specs.Triples.{legal_y, on_page}
use Rattle.address.specs.Places.{place_of, block_of}
use Rattle.address.specs.Rows.{row_y}
use Rattle.address.proofs.Addresses.{listed}
use Rattle.address.proofs.Laws.{y_facts, page_column, page_row, facts_page, row_legal, row_service, row_from_one}
use Rattle.address.proofs.Places.{place_injective}
use Rattle.shown.specs.declared.Shown.{Shown}
use Rattle.shown.specs.Origins.{yor_of, first_block}
use Rattle.page.specs.Codes.{code_address}
use Rattle.reading.specs.Lists.{code_holds, row_holds}
use Rattle.keys.specs.HowKeys.{row_at, code_block}
use Rattle.keys.proofs.Tests.{together}

pub page_y : (x y : ℕ) → on_page x y ≡ true → y < 32
page_y x y e = ⊎_elim (λ r. omega arith) (λ r. omega arith) (page_row x y e)

-- 255 is no block of the page
pub no_code_block : (first : ℕ) → first < 32 → code_block first 255 ≡ false
unfolding code_block
no_code_block = agree_test (λ first. code_block first 255) (λ first. false) 32 tt

-- a place of the board
module _ (x y z : ℕ) (page : on_page x y ≡ true) (shown : Shown) (fits : z < shown.blocks) (r : ℕ) where
  -- the row's Y and one of the three blocks
  abbrev own : Bool
  own = code_block (first_block shown) z && eqb (row_y (yor_of shown) r) y

  column_legal : (a : ℕ) → a < 40 → on_page a (row_y (yor_of shown) r) ≡ true
  column_legal a l = let row = row_y (yor_of shown) r in facts_page a row l (y_facts row (row_legal (yor_of shown) r))

  at_byte : (a k : ℕ) → a < 40 → is_at (place_of x y z) (code_address shown r a k) ≡ eqb (place_of x y z) (place_of a (row_y (yor_of shown) r) (block_of (first_block shown) k))
  unfolding code_address
  at_byte a k l =
      listed shown.blocks (record { x = a; y = row_y (yor_of shown) r; z = block_of (first_block shown) k }) x y z page fits (column_legal a l)

  found : (a k : ℕ) → a < 40 → is_at (place_of x y z) (code_address shown r a k) ≡ true → (row_y (yor_of shown) r ≡ y) × (block_of (first_block shown) k ≡ z)
  found a k l e =
      let same = place_injective x y z a (row_y (yor_of shown) r) (block_of (first_block shown) k) page (column_legal a l) (eqb-true _ _ (sym (at_byte a k l) ∙ e)) in
      (omega arith, omega arith)

  there : (k : ℕ) → row_y (yor_of shown) r ≡ y → block_of (first_block shown) k ≡ z → is_at (place_of x y z) (code_address shown r x k) ≡ true
  there k e f =
      at_byte x k (page_column x y page)
      ∙ eq-eqb _ _ (sym (ap (λ (a : ℕ). place_of x a (block_of (first_block shown) k)) e ∙ ap (place_of x y) f))

  only : (a : ℕ) → a < 40 → code_holds shown (place_of x y z) r a ≡ true → own ≡ true
  unfolding code_holds code_block
  only a l e =
      ⊎_elim (λ p. let w = found a 0 l p in and_both _ _ (or_left _ _ (eq-eqb _ _ w.1)) (eq-eqb _ _ w.0))
      (λ q.
      ⊎_elim
      (λ p. let w = found a 1 l p in and_both _ _ (or_right (eqb (block_of (first_block shown) 0) z) _ (or_left _ _ (eq-eqb _ _ w.1))) (eq-eqb _ _ w.0))
      (λ p.
      let w = found a 2 l p in
      and_both _ _ (or_right (eqb (block_of (first_block shown) 0) z) _ (or_right (eqb (block_of (first_block shown) 1) z) _ (eq-eqb _ _ w.1))) (eq-eqb _ _ w.0))
      (or_cases (is_at (place_of x y z) (code_address shown r a 1)) _ q))
      (or_cases (is_at (place_of x y z) (code_address shown r a 0)) _ e)

  held : own ≡ true → code_holds shown (place_of x y z) r x ≡ true
  unfolding code_holds code_block
  held e =
      let f = eqb-true _ _ (and_right (code_block (first_block shown) z) _ e) in
      ⊎_elim (λ p. or_left _ _ (there 0 f (eqb-true _ _ p)))
      (λ q.
      ⊎_elim
      (λ p. or_right (is_at (place_of x y z) (code_address shown r x 0)) _ (or_left _ _ (there 1 f (eqb-true _ _ p))))
      (λ p.
      or_right (is_at (place_of x y z) (code_address shown r x 0)) _ (or_right (is_at (place_of x y z) (code_address shown r x 1)) _ (there 2 f (eqb-true _ _ p))))
      (or_cases (eqb (block_of (first_block shown) 1) z) _ q))
      (or_cases (eqb (block_of (first_block shown) 0) z) _ (and_left _ _ e))

  pub own_bytes : (code_block (first_block shown) z && eqb (row_y (yor_of shown) r) y) ≡ row_holds shown (place_of x y z) r
  unfolding row_holds
  own_bytes =
      together _ _
      (λ e. any_hit _ 40 x (page_column x y page) (held e))
      (λ e. let w = any_at _ 40 e in only w.at w.low w.passes)

-- a row is found by its Y
module _ (yor y : ℕ) where
  pub row_at_service : y < 8 → row_at yor y ≡ 0
  unfolding row_at
  row_at_service h = simp (lt-ltb _ _ h)

  row_at_other : 8 ≤ y → row_at yor y ≡ 1 + (y + 16 - (yor - 8) % 24) % 24
  unfolding row_at
  row_at_other h = simp (le-ltb _ _ h)

  -- the number that the code has
  pub row_at_made : (f r : ℕ) → 8 ≤ y → f ≡ yor - 8 → r ≡ 1 + (y + 16 - f % 24) % 24 → r ≡ row_at yor y
  row_at_made f r h e q = q ∙ ap (λ (g : ℕ). 1 + (y + 16 - g % 24) % 24) e ∙ sym (row_at_other h)

  pub row_at_small : row_at yor y < 25
  row_at_small = ⊎_elim (λ l. omega (arith, row_at_service l)) (λ l. omega (arith, row_at_other l)) (lt_or_le y 8)

  pub row_at_lem : (r : ℕ) → r < 25 → legal_y y ≡ true → eqb r (row_at yor y) ≡ eqb (row_y yor r) y
  row_at_lem r l e =
      together _ _
      (λ t. eq-eqb _ _ (there_at (eqb-true _ _ t) (y_facts y e)))
      (λ t. eq-eqb _ _ (back_at (eqb-true _ _ t) (y_facts y e)))
    where
      there_at : r ≡ row_at yor y → (y ≡ 0) ⊎ ((8 ≤ y) × (y < 32)) → row_y yor r ≡ y
      there_at q f =
          ⊎_elim
          (λ z. row_service yor r (q ∙ row_at_service (omega arith)) ∙ sym z)
          (λ z. let k = row_at_other z.0 in let s = row_from_one yor r (λ n. omega (arith, k)) in omega (arith, k, s))
          f

      back_at : row_y yor r ≡ y → (y ≡ 0) ⊎ ((8 ≤ y) × (y < 32)) → r ≡ row_at yor y
      back_at q f =
          ⊎_elim
          (λ (o : r ≡ 0).
          let s = row_service yor r o in ⊎_elim (λ z. o ∙ sym (row_at_service (omega arith))) (λ z. absurd (omega (arith, s))) f)
          (λ (n : r ≡ 0 → ⊥).
          let s = row_from_one yor r n in
          ⊎_elim (λ z. absurd (omega (arith, s))) (λ z. let k = row_at_other z.0 in omega (arith, k, s, n)) f)
          (eq_or_ne r 0)
