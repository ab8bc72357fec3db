-- Laws of the address answer: its three ways, what is read and listed at it, and that on a board of n blocks a byte past the last fitted block is
-- 0 as memory has it.
-- Assumes nothing.
use Prim.Native.Nat.{ℕ, ◌≤◌, ◌<◌}
use mathlib.Core.Path.{◌≡◌, refl, sym, ap, ◌∙◌}
use mathlib.Core.Bool.{Bool, true, false, not, ◌&&◌}
use mathlib.Core.List.{List}
use mathlib.Core.Logic.{⊎_elim}
use native.Mathlib.Omega.{arith}
use lib.Dec.{eqb}
use lib.ListN.{length, get_or-eq_default}
use borrow.Author.Tests.{lt-ltb, le-ltb, ne_eqb}
use Rattle.basics.specs.Choice.{pick}
use Rattle.basics.proofs.Choice.{lt_or_le}
use Rattle.std.proofs.Common.{Ok, Err}
use Rattle.address.specs.declared.answer.NoPlace.TheVariants.{Illegal, NotFitted}
use Rattle.address.specs.declared.triple.Triple.{Triple}
use Rattle.address.specs.Addresses.{address_of, is_illegal, is_not_fitted, byte_from, is_at}
use Rattle.board.specs.Boards.{bytes_of}
use Rattle.address.specs.Places.{place_of, place_at, byte_at}
use Rattle.address.specs.Triples.{on_page, legal, fitted}
use Rattle.address.proofs.Places.{place_block, place_injective}

module _ (n : ℕ) (t : Triple) where
  -- the three ways
  pub address_illegal : legal t ≡ false → address_of n t ≡ Err Illegal
  unfolding address_of
  address_illegal e = rw e

  pub address_bare : legal t ≡ true → n ≤ t.z → address_of n t ≡ Err NotFitted
  unfolding address_of
  address_bare e l = rw (e, le-ltb t.z n l)

  pub address_fitted : legal t ≡ true → t.z < n → address_of n t ≡ Ok (place_at t)
  unfolding address_of
  address_fitted e l = rw (e, lt-ltb t.z n l)

  -- as tests
  pub illegal_test : is_illegal (address_of n t) ≡ not (legal t)
  unfolding address_of
  illegal_test = go (legal t) (fitted n t)
    where
      go : (a b : Bool) → is_illegal (pick a (pick b (Ok (place_at t)) (Err NotFitted)) (Err Illegal)) ≡ not a
      go true true = refl
      go true false = refl
      go false b = refl

  pub bare_test : is_not_fitted (address_of n t) ≡ (legal t && not (fitted n t))
  unfolding address_of
  bare_test = go (legal t) (fitted n t)
    where
      go : (a b : Bool) → is_not_fitted (pick a (pick b (Ok (place_at t)) (Err NotFitted)) (Err Illegal)) ≡ (a && not b)
      go true true = refl
      go true false = refl
      go false b = refl

  -- a byte past the last fitted block is 0 in memory too: so drawing may read memory, or 0 past its end
  pub byte_kept : (m : List ℕ) → length m ≡ bytes_of n → legal t ≡ true → byte_from m (address_of n t) ≡ byte_at m (place_at t)
  byte_kept m h e =
      ⊎_elim
      (λ l. ap (byte_from m) (address_fitted e l))
      (λ l. ap (byte_from m) (address_bare e l) ∙ sym (get_or-eq_default m 0 (omega (arith, h, l, (place_block t.x t.y t.z e).0))))
      (lt_or_le t.z n)

  -- the place of a fitted byte is the address's exactly when it is the triple's
  pub listed : (x y z : ℕ) → on_page x y ≡ true → z < n → legal t ≡ true → is_at (place_of x y z) (address_of n t) ≡ eqb (place_of x y z) (place_at t)
  listed x y z g l e =
      ⊎_elim
      (λ k. ap (is_at (place_of x y z)) (address_fitted e k))
      (λ k.
      ap (is_at (place_of x y z)) (address_bare e k)
      ∙ sym (ne_eqb (place_of x y z) (place_at t) (λ q. omega (arith, l, k, (place_injective x y z t.x t.y t.z g e q).2))))
      (lt_or_le t.z n)
