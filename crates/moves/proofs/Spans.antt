-- Laws of the bytes of a move at a pointer: what 4 and 11 ask of them is what the triples say, and where neither holds each is legal and fitted.
-- Assumes nothing.
use Prim.Native.Nat.{ℕ, zero, suc, ◌+◌, ◌*◌, ◌/◌, ◌<◌, ◌≤◌}
use mathlib.Core.Path.{◌≡◌, refl, sym, ap, ap₂, ◌∙◌}
use mathlib.Core.Bool.{Bool, true, false, not, ◌||◌, or_assoc, or-false}
use mathlib.Core.List.{List, [], ◌∷◌, ◌++◌}
use mathlib.Core.Logic.{⊎_elim}
use native.Mathlib.Omega.{arith}
use lib.Dec.{leb, ltb}
use borrow.Author.Tests.{lt-ltb, le-ltb, le-leb, lt-leb}
use Rattle.basics.specs.Below.{any_below}
use Rattle.basics.specs.Parts.{joined, table}
use Rattle.basics.proofs.Below.{any_not, any_same, any_never}
use Rattle.basics.proofs.Choice.{lt_or_le}
use Rattle.address.specs.Addresses.{Address, address_of, is_illegal, is_not_fitted, some_address}
use Rattle.address.specs.Places.{block_at}
use Rattle.address.specs.Triples.{legal, legal_in}
use Rattle.address.specs.declared.triple.Triple.{Triple}
use Rattle.address.proofs.Addresses.{illegal_test, bare_test}
use Rattle.address.proofs.Fits.{address_legal, legal_address}
use Rattle.moves.specs.Spans.{span_addresses, is_bare_in}

-- some address of two lists passes
pub some_both : (f : Address → Bool) (a b : List Address) → some_address f (a ++ b) ≡ (some_address f a || some_address f b)
some_both f [] b = refl
some_both f (x ∷ a) b = ap (λ (t : Bool). f x || t) (some_both f a b) ∙ sym (or_assoc (f x) (some_address f a) (some_address f b))

-- and of a table
some_table : (f : Address → Bool) (g : ℕ → Address) (n : ℕ) → some_address f (table g n) ≡ any_below (λ k. f (g k)) n
unfolding joined any_below
some_table f g zero = refl
some_table f g (suc n) = some_both f (table g n) (g n ∷ []) ∙ ap₂ ◌||◌ (some_table f g n) (or-false (f (g n)))

module _ (blocks : ℕ) (t : Triple) where
  -- 4: the bytes have one X and Y
  always : (b : Bool) (n : ℕ) → any_below (λ k. b) (suc n) ≡ b
  unfolding any_below
  always b zero = refl
  always true (suc n) = ap (λ (a : Bool). a || true) (always true n)
  always false (suc n) = ap (λ (a : Bool). a || false) (always false n)

  from_one : (b : Bool) (bytes : ℕ) → 1 ≤ bytes → any_below (λ k. b) bytes ≡ b
  from_one b zero l = absurd (omega arith)
  from_one b (suc n) l = always b n

  pub span_illegal : (bytes : ℕ) → 1 ≤ bytes → some_address is_illegal (span_addresses bytes blocks t) ≡ not (legal t)
  span_illegal bytes l =
      some_table is_illegal (λ k. address_of blocks (block_at t k)) bytes
      ∙ any_same _ (λ k. not (legal t)) bytes (λ k h. illegal_test blocks (block_at t k))
      ∙ from_one (not (legal t)) bytes l

  -- 11, where 4 is not: one of the blocks is not fitted
  pub span_bare : (bytes : ℕ) → legal t ≡ true → some_address is_not_fitted (span_addresses bytes blocks t) ≡ any_below (is_bare_in blocks t) bytes
  span_bare bytes e =
      some_table is_not_fitted (λ k. address_of blocks (block_at t k)) bytes
      ∙ any_same _ (is_bare_in blocks t) bytes (λ k h. bare_test blocks (block_at t k) ∙ rw e)

  -- where neither is, each byte is legal and fitted
  pub span_legal :
      (bytes : ℕ) → some_address is_illegal (span_addresses bytes blocks t) ≡ false → some_address is_not_fitted (span_addresses bytes blocks t) ≡ false →
      (k : ℕ) → k < bytes → legal_in blocks (block_at t k) ≡ true
  span_legal bytes p q k l =
      address_legal blocks (block_at t k)
      (any_not _ bytes k (sym (some_table is_illegal (λ i. address_of blocks (block_at t i)) bytes) ∙ p) l)
      (any_not _ bytes k (sym (some_table is_not_fitted (λ i. address_of blocks (block_at t i)) bytes) ∙ q) l)

-- the test as the code makes it
pub le_not_lt : (a b : ℕ) → leb b a ≡ not (ltb a b)
le_not_lt a b = ⊎_elim (λ l. rw (lt-leb b a l, lt-ltb a b l)) (λ l. rw (le-leb b a l, le-ltb a b l)) (lt_or_le a b)

pub bare_as : (blocks : ℕ) (t : Triple) (k z : ℕ) → z ≡ (block_at t k).z → leb blocks z ≡ is_bare_in blocks t k
bare_as blocks t k z e = rw (← e) (le_not_lt z blocks)

-- and the other way: where each is legal and fitted, neither is
pub span_fitted :
    (bytes blocks : ℕ) (t : Triple) → ((k : ℕ) → k < bytes → legal_in blocks (block_at t k) ≡ true) →
    (some_address is_illegal (span_addresses bytes blocks t) ≡ false) × (some_address is_not_fitted (span_addresses bytes blocks t) ≡ false)
span_fitted bytes blocks t h = (
  some_table is_illegal (λ k. address_of blocks (block_at t k)) bytes ∙ any_never _ bytes (λ k l. (legal_address blocks (block_at t k) (h k l)).0),
  some_table is_not_fitted (λ k. address_of blocks (block_at t k)) bytes ∙ any_never _ bytes (λ k l. (legal_address blocks (block_at t k) (h k l)).1),
)

-- on a board that has the whole district none is
pub none_bare : (blocks : ℕ) (t : Triple) (bytes : ℕ) → t.z / 4 * 4 + 3 < blocks → false ≡ any_below (is_bare_in blocks t) bytes
none_bare blocks t bytes l = sym (any_never (is_bare_in blocks t) bytes (λ k h. ap not (lt-ltb (block_at t k).z blocks (omega arith))))
