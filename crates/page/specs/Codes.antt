-- The code bytes of a screen row.
-- Assumes nothing.
use Rattle.std.specs.Prelude.{ℕ, List, [], ◌∷◌}
use Rattle.basics.specs.Parts.{table}
use Rattle.address.specs.Addresses.{Address, address_of, byte_from}
use Rattle.address.specs.Places.{block_of}
use Rattle.address.specs.Rows.{row_y}
use Rattle.shown.specs.declared.Shown.{Shown}
use Rattle.shown.specs.Origins.{yor_of, first_block}

-- byte k (0 C, 1 B, 2 A) of the cell in screen row r and column x, from blocks as for KRF: its address on the board
unfoldable pub code_address : Shown → ℕ → ℕ → ℕ → Address
code_address shown r x k = address_of shown.blocks (record { x = x; y = row_y (yor_of shown) r; z = block_of (first_block shown) k })

-- three bytes each: the code of the cell. (A byte that is not fitted is 0.)
unfoldable pub code_at : Shown → List ℕ → ℕ → ℕ → List ℕ
code_at shown m r x =
    byte_from m (code_address shown r x 0) ∷ byte_from m (code_address shown r x 1) ∷ byte_from m (code_address shown r x 2) ∷ []

-- A row buffer is forty cells of three bytes each
abbrev pub row_buffer : Shown → List ℕ → ℕ → List (List ℕ)
row_buffer shown m r = table (code_at shown m r) 40
