-- The bytes of a move at a pointer.
-- Assumes nothing.
use Rattle.std.specs.Prelude.{ℕ, Bool, not, List}
use Rattle.basics.specs.Parts.{table}
use Rattle.address.specs.Addresses.{Address, address_of}
use Rattle.address.specs.Places.{block_at}
use Rattle.address.specs.Triples.{fitted}
use Rattle.address.specs.declared.triple.Triple.{Triple}

-- 1, 2 or 3 bytes at X, Y in blocks Z, Z+1, Z+2, each counted modulo 4 inside its district
abbrev pub span_addresses : ℕ → ℕ → Triple → List Address
span_addresses bytes blocks t = table (λ k. address_of blocks (block_at t k)) bytes

-- the block k after the pointer's own is not fitted
abbrev pub is_bare_in : ℕ → Triple → ℕ → Bool
is_bare_in blocks t k = not (fitted blocks (block_at t k))
