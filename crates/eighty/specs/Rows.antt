-- A row in 80 columns: ten packed lines of forty columns, each of two cells, from its row buffer, the ROM, DOR, MAT, PAT and the phase.
-- Assumes nothing.
use Rattle.std.specs.Prelude.{ℕ, List, [], get_or}
use Rattle.basics.specs.Parts.{joined}
use Rattle.shown.specs.declared.Shown.{Shown}
use Rattle.page.specs.Codes.{row_buffer}
use Rattle.narrow.specs.Pixels.{pair_line}

-- One packed line is 240 bytes: forty columns of six bytes
unfoldable pub eighty_line : List ℕ → Shown → List (List ℕ) → ℕ → List ℕ
eighty_line rom shown cells n = joined (λ x. pair_line rom shown (get_or cells x []) n) 40

-- A row is 2,400 bytes: ten lines
unfoldable pub eighty_lines : List ℕ → Shown → List (List ℕ) → List ℕ
eighty_lines rom shown cells = joined (eighty_line rom shown cells) 10

-- screen row r in 80 columns
abbrev pub eighty_row : List ℕ → List ℕ → Shown → ℕ → List ℕ
eighty_row m rom shown r = eighty_lines rom shown (row_buffer shown m r)
