-- Laws of the addresses of a command's bytes: what 4 and 11 ask of them is what the triples say, and where neither holds each is legal and
-- fitted.
-- Assumes nothing.
use Prim.Native.Nat.{ℕ}
use mathlib.Core.Path.{◌≡◌, refl, sym, ap, ◌∙◌}
use mathlib.Core.Bool.{Bool, true, false, not, ◌&&◌, ◌||◌}
use mathlib.Core.List.{List}
use native.Mathlib.Omega.{arith}
use borrow.Author.Tests.{not-true, not-false}
use Rattle.basics.proofs.Choice.{and_left, and_right, and_both, or_none, or_neither}
use Rattle.address.specs.declared.triple.Triple.{Triple}
use Rattle.address.specs.Addresses.{Address, address_of, is_illegal, is_not_fitted, byte_addresses, code_addresses, narrow_addresses, some_address, all_fitted}
use Rattle.address.specs.Narrow.{attributes_at}
use Rattle.address.specs.Places.{block_at}
use Rattle.address.specs.Triples.{legal, fitted, legal_in}
use Rattle.address.proofs.Laws.{triple}
use Rattle.address.proofs.Addresses.{illegal_test, bare_test}

-- 4 and 11 fail exactly where all is fitted
module _ (bytes : List Address) where
  pub all_illegal : all_fitted bytes ≡ true → some_address is_illegal bytes ≡ false
  all_illegal e = not-true _ (and_left _ _ e)

  pub all_bare : all_fitted bytes ≡ true → some_address is_not_fitted bytes ≡ false
  all_bare e = not-true _ (and_right (not (some_address is_illegal bytes)) _ e)

  pub all_fitted_lem : some_address is_illegal bytes ≡ false → some_address is_not_fitted bytes ≡ false → all_fitted bytes ≡ true
  all_fitted_lem p q = rw (p, q)

module _ (n : ℕ) (t : Triple) where
  -- one address
  pub address_legal : is_illegal (address_of n t) ≡ false → is_not_fitted (address_of n t) ≡ false → legal_in n t ≡ true
  unfolding legal_in
  address_legal p q =
      let e : legal t ≡ true = not-false _ (sym (illegal_test n t) ∙ p) in
      and_both _ _ e (not-false _ (sym (rw e at (bare_test n t)) ∙ q))

  pub legal_address : legal_in n t ≡ true → (is_illegal (address_of n t) ≡ false) × (is_not_fitted (address_of n t) ≡ false)
  unfolding legal_in
  legal_address e =
      let p : legal t ≡ true = and_left _ _ e in
      let q : fitted n t ≡ true = and_right (legal t) _ e in
      (illegal_test n t ∙ ap not p, bare_test n t ∙ rw (p, q))

module _ (n : ℕ) (t : Triple) where
  -- 4: the bytes of one command have one X and Y
  pub byte_illegal : some_address is_illegal (byte_addresses n t) ≡ not (legal t)
  byte_illegal = rw (illegal_test n t) (go (legal t))
    where
      go : (b : Bool) → (not b || false) ≡ not b
      go true = refl
      go false = refl

  pub code_illegal : some_address is_illegal (code_addresses n t) ≡ not (legal t)
  code_illegal = rw (illegal_test n (block_at t 0), illegal_test n (block_at t 1), illegal_test n (block_at t 2)) (go (legal t))
    where
      go : (b : Bool) → (not b || (not b || (not b || false))) ≡ not b
      go true = refl
      go false = refl

  pub narrow_illegal : some_address is_illegal (narrow_addresses n t) ≡ not (legal t)
  narrow_illegal = rw (illegal_test n t, illegal_test n (attributes_at t)) (go (legal t))
    where
      go : (b : Bool) → (not b || (not b || false)) ≡ not b
      go true = refl
      go false = refl

  -- 11, where 4 is not: one of the blocks is not fitted
  module _ (e : legal t ≡ true) where
    pub byte_bare : some_address is_not_fitted (byte_addresses n t) ≡ not (fitted n t)
    byte_bare = rw (bare_test n t, e) (go (fitted n t))
      where
        go : (a : Bool) → (not a || false) ≡ not a
        go true = refl
        go false = refl

    pub code_bare :
        some_address is_not_fitted (code_addresses n t) ≡ not (fitted n (block_at t 0) && (fitted n (block_at t 1) && fitted n (block_at t 2)))
    code_bare =
        rw (bare_test n (block_at t 0), bare_test n (block_at t 1), bare_test n (block_at t 2), e)
        (go (fitted n (block_at t 0)) (fitted n (block_at t 1)) (fitted n (block_at t 2)))
      where
        go : (a b c : Bool) → (not a || (not b || (not c || false))) ≡ not (a && (b && c))
        go true true true = refl
        go true true false = refl
        go true false c = refl
        go false b c = refl

    pub narrow_bare : some_address is_not_fitted (narrow_addresses n t) ≡ not (fitted n t && fitted n (attributes_at t))
    narrow_bare = rw (bare_test n t, bare_test n (attributes_at t), e) (go (fitted n t) (fitted n (attributes_at t)))
      where
        go : (a b : Bool) → (not a || (not b || false)) ≡ not (a && b)
        go true true = refl
        go true false = refl
        go false b = refl

  -- where neither is, each byte is legal and fitted
  pub byte_legal : some_address is_illegal (byte_addresses n t) ≡ false → some_address is_not_fitted (byte_addresses n t) ≡ false → legal_in n t ≡ true
  byte_legal p q = address_legal n t (or_neither _ _ p) (or_neither _ _ q)

  abbrev pub Code : Type 0
  Code = (legal_in n (block_at t 0) ≡ true) × (legal_in n (block_at t 1) ≡ true) × (legal_in n (block_at t 2) ≡ true)

  pub code_legal : some_address is_illegal (code_addresses n t) ≡ false → some_address is_not_fitted (code_addresses n t) ≡ false → Code
  code_legal p q =
      let p1 = or_none (is_illegal (address_of n (block_at t 0))) _ p in
      let q1 = or_none (is_not_fitted (address_of n (block_at t 0))) _ q in
      let p2 = or_none (is_illegal (address_of n (block_at t 1))) _ p1 in
      let q2 = or_none (is_not_fitted (address_of n (block_at t 1))) _ q1 in (
        address_legal n (block_at t 0) (or_neither _ _ p) (or_neither _ _ q),
        address_legal n (block_at t 1) (or_neither _ _ p1) (or_neither _ _ q1),
        address_legal n (block_at t 2) (or_neither _ _ p2) (or_neither _ _ q2),
      )

  abbrev pub Narrow : Type 0
  Narrow = (legal_in n t ≡ true) × (legal_in n (attributes_at t) ≡ true)

  pub narrow_legal : some_address is_illegal (narrow_addresses n t) ≡ false → some_address is_not_fitted (narrow_addresses n t) ≡ false → Narrow
  narrow_legal p q =
      let p1 = or_none (is_illegal (address_of n t)) _ p in
      let q1 = or_none (is_not_fitted (address_of n t)) _ q in
      (address_legal n t (or_neither _ _ p) (or_neither _ _ q), address_legal n (attributes_at t) (or_neither _ _ p1) (or_neither _ _ q1))

  -- and so from `all_fitted`, and back
  pub byte_all : all_fitted (byte_addresses n t) ≡ true → legal_in n t ≡ true
  byte_all e = byte_legal (all_illegal (byte_addresses n t) e) (all_bare (byte_addresses n t) e)

  pub code_all : all_fitted (code_addresses n t) ≡ true → Code
  code_all e = code_legal (all_illegal (code_addresses n t) e) (all_bare (code_addresses n t) e)

  pub narrow_all : all_fitted (narrow_addresses n t) ≡ true → Narrow
  narrow_all e = narrow_legal (all_illegal (narrow_addresses n t) e) (all_bare (narrow_addresses n t) e)

  pub all_byte : legal_in n t ≡ true → all_fitted (byte_addresses n t) ≡ true
  all_byte e = let s = legal_address n t e in rw (s.0, s.1)

  pub all_code : Code → all_fitted (code_addresses n t) ≡ true
  all_code e =
      let s = legal_address n (block_at t 0) e.0 in
      let u = legal_address n (block_at t 1) e.1 in
      let v = legal_address n (block_at t 2) e.2 in
      rw (s.0, s.1, u.0, u.1, v.0, v.1)

  pub all_narrow : Narrow → all_fitted (narrow_addresses n t) ≡ true
  all_narrow e =
      let s = legal_address n t e.0 in
      let u = legal_address n (attributes_at t) e.1 in
      rw (s.0, s.1, u.0, u.1)

  -- the first byte of a code is at the pointer
  pub own_block : block_at t 0 ≡ t
  own_block = triple refl refl (omega arith)

  pub code_own : Code → legal_in n t ≡ true
  code_own e = rw own_block at e.0
