-- How the code works out a line of a row, from its row buffer, its lower halves and the ten bytes and four pairs of its cells. Nothing here
-- has to be believed: `drawn_line` of proofs/Drawn.antt shows that the line has the pixels of its forty cells.
-- Assumes nothing.
use Rattle.std.specs.Prelude.{ℕ, ◌+◌, Bool, false, List, [], ◌∷◌, get_or}
use Rattle.basics.specs.Choice.{pick}
use Rattle.basics.specs.Parts.{table, joined}
use Rattle.board.specs.declared.Part.{Part}
use Rattle.pixels.specs.HowPairs.{underlined_on, four_by}
use Rattle.page.specs.Inputs.{decoded}
use Rattle.columns.specs.HowColumns.{byte_in}
use Rattle.columns.specs.HowTens.{from_steps}

-- a byte of line n underlined where the cell is
unfoldable pub lined_byte : Part → List ℕ → Bool → ℕ → ℕ → ℕ
lined_byte part code lower n byte = pick (underlined_on (decoded part code) lower n) 255 byte

-- the byte of cell x underlined where it is
abbrev pub lined_on : Part → List (List ℕ) → List Bool → List ℕ → ℕ → ℕ → ℕ
lined_on part cells lowers bytes n x = lined_byte part (get_or cells x []) (get_or lowers x false) n (get_or bytes x 0)

-- the effective byte of cell x on line n, and those of the line
abbrev pub byte_on : Part → List (List ℕ) → List Bool → List ℕ → ℕ → ℕ → ℕ
byte_on part cells lowers tens n x = lined_byte part (get_or cells x []) (get_or lowers x false) n (byte_in tens n x)

unfoldable pub bytes_on : Part → List (List ℕ) → List Bool → List ℕ → ℕ → List ℕ
bytes_on part cells lowers tens n = table (byte_on part cells lowers tens n) 40

-- the four packed bytes of cell x
abbrev pub four_of : List ℕ → List ℕ → ℕ → List ℕ
four_of bytes pairs x =
    four_by (get_or bytes x 0) (from_steps (get_or pairs x 0 ∷ get_or pairs (40 + x) 0 ∷ get_or pairs (80 + x) 0 ∷ get_or pairs (120 + x) 0 ∷ []))

-- line n of a row
unfoldable pub line_on : Part → List (List ℕ) → List Bool → List ℕ → List ℕ → ℕ → List ℕ
line_on part cells lowers tens pairs n = joined (four_of (bytes_on part cells lowers tens n) pairs) 40
