-- The address answer: where the byte of a triple is kept on a board of so many blocks.
-- Assumes nothing.
use Rattle.std.specs.Prelude.{ℕ, Bool, true, false, not, ◌&&◌, ◌||◌, List, [], ◌∷◌, eqb, Result, Ok, Err}
use Rattle.basics.specs.Choice.{pick}
use Rattle.address.specs.Triples.{legal, fitted}
use Rattle.address.specs.Places.{place_at, block_at, byte_at}
use Rattle.address.specs.Narrow.{attributes_at}
use Rattle.address.specs.declared.answer.NoPlace.{NoPlace}
use Rattle.address.specs.declared.answer.NoPlace.TheVariants.{Illegal, NotFitted}
use Rattle.address.specs.declared.triple.Triple.{Triple}

-- the place of a byte, or why it has none
abbrev pub Address : Type 0
Address = Result ℕ NoPlace

-- one of three: illegal; legal and not fitted; legal and fitted, with the place
unfoldable pub address_of : ℕ → Triple → Address
address_of blocks t = pick (legal t) (pick (fitted blocks t) (Ok (place_at t)) (Err NotFitted)) (Err Illegal)

-- 4: X above 39 or Y from 1 to 7
abbrev pub is_illegal : Address → Bool
is_illegal (Err Illegal) = true
is_illegal (Err NotFitted) = false
is_illegal (Ok p) = false

-- 11: in a block that is not fitted
abbrev pub is_not_fitted : Address → Bool
is_not_fitted (Err Illegal) = false
is_not_fitted (Err NotFitted) = true
is_not_fitted (Ok p) = false

-- Drawing takes a byte that is not fitted as 0; of a slice whose Y is 1..7 no byte is read, and it is 0
abbrev pub byte_from : List ℕ → Address → ℕ
byte_from m (Err why) = 0
byte_from m (Ok p) = byte_at m p

-- p is the place; a byte that is not fitted, or not legal, is on no list
abbrev pub is_at : ℕ → Address → Bool
is_at p (Err why) = false
is_at p (Ok q) = eqb p q

-- the addresses of a command's bytes at a pointer: OCT has one, KRF three, KRL two
abbrev pub byte_addresses : ℕ → Triple → List Address
byte_addresses blocks t = address_of blocks t ∷ []

abbrev pub code_addresses : ℕ → Triple → List Address
code_addresses blocks t = address_of blocks (block_at t 0) ∷ address_of blocks (block_at t 1) ∷ address_of blocks (block_at t 2) ∷ []

abbrev pub narrow_addresses : ℕ → Triple → List Address
narrow_addresses blocks t = address_of blocks t ∷ address_of blocks (attributes_at t) ∷ []

-- some address passes
abbrev pub some_address : (Address → Bool) → List Address → Bool
some_address f [] = false
some_address f (a ∷ rest) = f a || some_address f rest

-- legal, with all its blocks fitted
abbrev pub all_fitted : List Address → Bool
all_fitted addresses = not (some_address is_illegal addresses) && not (some_address is_not_fitted addresses)
