-- Laws of the two positions of a column: the other position and the attributes are legal where one is, the three stand in three blocks, and a
-- nibble is put into its own half alone.
-- Assumes nothing.
use Prim.Native.Nat.{ℕ, ◌+◌, ◌-◌, ◌*◌, ◌/◌, ◌%◌, ◌^◌, ◌<◌}
use mathlib.Core.Path.{◌≡◌, refl}
use mathlib.Core.Bool.{Bool, true, false, not}
use native.Mathlib.Omega.{arith}
use borrow.Author.Tests.{eq-eqb, ne_eqb, eqb-true, eqb-false}
use Rattle.basics.proofs.Choice.{pick_known}
use Rattle.address.specs.declared.triple.Triple.{Triple}
use Rattle.address.specs.Triples.{legal_in}
use Rattle.address.specs.Narrow.{is_odd, neighbour_at, attributes_at, nibble_for, nibble_into}
use Rattle.address.proofs.Laws.{legal_block}
use Rattle.address.proofs.Places.{legal_moved}

module _ (t : Triple) where
  -- the block of the other position: the other of two
  neighbour_block : (neighbour_at t).z ≡ 2 * (t.z / 2) + (1 - t.z % 2)
  neighbour_block =
      pick_known (λ (z : ℕ). z ≡ 2 * (t.z / 2) + (1 - t.z % 2)) (is_odd t) (t.z - 1) (t.z + 1)
      (λ e. omega (arith, eqb-true (t.z / 2 ^ 0 % 2) 1 e))
      (λ e. omega (arith, eqb-false (t.z / 2 ^ 0 % 2) 1 e))

  -- neighbours have each other, and their attributes in one byte
  pub neighbour_odd : is_odd (neighbour_at t) ≡ not (is_odd t)
  neighbour_odd = go (is_odd t) refl
    where
      go : (odd : Bool) → is_odd t ≡ odd → is_odd (neighbour_at t) ≡ not odd
      go true e = ne_eqb ((neighbour_at t).z / 2 ^ 0 % 2) 1 (λ q. omega (arith, neighbour_block, eqb-true (t.z / 2 ^ 0 % 2) 1 e))
      go false e = eq-eqb ((neighbour_at t).z / 2 ^ 0 % 2) 1 (omega (arith, neighbour_block, eqb-false (t.z / 2 ^ 0 % 2) 1 e))

  pub neighbour_attributes : attributes_at (neighbour_at t) ≡ attributes_at t
  neighbour_attributes =
      let half : (neighbour_at t).z / 2 ≡ t.z / 2 = omega (arith, neighbour_block) in
      rw half

  -- and blocks of their own
  pub neighbour_apart : (neighbour_at t).z ≡ t.z → ⊥
  neighbour_apart e = omega (arith, neighbour_block)

  -- the attributes are in neither's block
  pub attributes_apart : (attributes_at t).z ≡ t.z → ⊥
  attributes_apart e = omega arith

  pub attributes_beside : (attributes_at t).z ≡ (neighbour_at t).z → ⊥
  attributes_beside e = omega (arith, neighbour_block)

-- on a board of d districts the other position of a legal triple's column and the attributes are legal
module _ (d : ℕ) (t : Triple) (ok : legal_in (4 * d) t ≡ true) where
  pub legal_neighbour : legal_in (4 * d) (neighbour_at t) ≡ true
  legal_neighbour = legal_moved (4 * d) t (neighbour_at t).z ok (omega (arith, neighbour_block t, legal_block (4 * d) t ok))

  pub legal_attributes : legal_in (4 * d) (attributes_at t) ≡ true
  legal_attributes = legal_moved (4 * d) t (attributes_at t).z ok (omega (arith, legal_block (4 * d) t ok))

  pub legal_attributes_at : (u : Triple) → u ≡ attributes_at t → legal_in (4 * d) u ≡ true
  legal_attributes_at u e = rw e legal_attributes

pub nibble_small : (odd : Bool) (byte : ℕ) → nibble_for odd byte < 16
unfolding nibble_for
nibble_small true byte = omega arith
nibble_small false byte = omega arith

-- the half that is put in, the other half, and the byte of both
module _ (byte r3 : ℕ) where
  pub nibble_put : (odd : Bool) → nibble_for odd (nibble_into odd byte r3) ≡ nibble_for odd r3
  unfolding nibble_for nibble_into
  nibble_put true = omega arith
  nibble_put false = omega arith

  pub nibble_stays : (odd : Bool) → nibble_for (not odd) (nibble_into odd byte r3) ≡ nibble_for (not odd) byte
  unfolding nibble_for nibble_into
  nibble_stays true = omega arith
  nibble_stays false = omega arith

  pub nibble_byte : (odd : Bool) → nibble_into odd byte r3 < 256
  unfolding nibble_into
  nibble_byte true = omega arith
  nibble_byte false = omega arith
