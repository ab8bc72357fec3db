-- How the code keeps the bytes of forty cells, as many lines for each: those of a line side by side. Nothing here has to be believed:
-- `side_at` and `side_column` of proofs/Columns.antt show that each byte is found again.
-- Assumes nothing.
use Rattle.std.specs.Prelude.{ℕ, ◌+◌, ◌*◌, ◌/◌, ◌%◌, List, eqb, get_or}
use Rattle.basics.specs.Choice.{pick}
use Rattle.basics.specs.Parts.{table}

-- byte i is that of cell i % 40 on line i / 40
abbrev pub besides : (ℕ → List ℕ) → ℕ → ℕ
besides column i = get_or (column (i % 40)) (i / 40) 0

unfoldable pub side_by_side : (ℕ → List ℕ) → ℕ → List ℕ
side_by_side column lines = table (besides column) (40 * lines)

-- the byte of cell x on line n
abbrev pub byte_in : List ℕ → ℕ → ℕ → ℕ
byte_in columns n x = get_or columns (40 * n + x) 0

-- byte i after the bytes of cell x are put among the others
abbrev pub put_at : List ℕ → ℕ → List ℕ → ℕ → ℕ
put_at columns x column i = pick (eqb (i % 40) x) (get_or column (i / 40) 0) (get_or columns i 0)
