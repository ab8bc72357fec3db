-- How the code reads the bytes of a cell: by their places, where memory has them. Nothing here has to be believed: `code_kept` of proofs/Codes.antt shows that
-- these are the bytes of Codes.antt, past the end of memory too, where both are 0.
-- Assumes nothing.
use Rattle.std.specs.Prelude.{ℕ, ◌+◌, ◌*◌, ◌≤◌, Bool, List, [], ◌∷◌, ltb, length}
use Rattle.address.specs.Places.{place_of, block_of, byte_at}
use Rattle.shown.specs.declared.Shown.{Shown}
use Rattle.shown.specs.Origins.{first_block}

-- C, B and A at X and Y, of a page whose first block is z
unfoldable pub code_of : List ℕ → ℕ → ℕ → ℕ → List ℕ
code_of m z y x =
    byte_at m (place_of x y (block_of z 0)) ∷ byte_at m (place_of x y (block_of z 1)) ∷ byte_at m (place_of x y (block_of z 2)) ∷ []

-- the page's block k is fitted
abbrev pub is_fitted : Shown → ℕ → Bool
is_fitted shown k = ltb (block_of (first_block shown) k) shown.blocks

-- memory has block k of a page whose first block is z
abbrev pub Has : List ℕ → ℕ → ℕ → Type 0
Has m z k = 1024 * block_of z k + 1024 ≤ length m
