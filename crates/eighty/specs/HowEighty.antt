-- How the code works out a row in 80 columns: ten bytes for each position, one for each of its lines, and three packed bytes that each chooses.
-- Nothing here has to be believed: `drawn_line` of proofs/Drawn.antt shows that the lines have the pixels of the row's columns.
-- Assumes nothing.
use Rattle.std.specs.Prelude.{ℕ, ◌+◌, ◌*◌, ◌<◌, List, [], ◌++◌, get_or}
use Rattle.basics.specs.Parts.{joined}
use Rattle.shown.specs.declared.Shown.{Shown}
use Rattle.narrow.specs.Codes.{even_of, odd_of}
use Rattle.narrow.specs.HowTens.{narrow_ten}
use Rattle.narrow.specs.HowInks.{three_in}

-- the ten bytes of each of a column's two positions, and those of every column
unfoldable pub pair_tens : List ℕ → Shown → List ℕ → List ℕ
pair_tens rom shown code = narrow_ten rom shown (even_of code) ++ narrow_ten rom shown (odd_of code)

unfoldable pub eighty_tens : List ℕ → Shown → List (List ℕ) → List ℕ
eighty_tens rom shown cells = joined (λ x. pair_tens rom shown (get_or cells x [])) 40

-- each of them chooses
abbrev pub SevenBits : List ℕ → Type 0
SevenBits tens = (i : ℕ) → i < 800 → get_or tens i 0 < 128

-- the packed bytes of position p on line n, and those of the line
abbrev pub three_on : List ℕ → List ℕ → ℕ → ℕ → List ℕ
three_on tens inks n p = three_in inks (get_or tens (10 * p + n) 0)

unfoldable pub eighty_line_on : List ℕ → List ℕ → ℕ → List ℕ
eighty_line_on tens inks n = joined (three_on tens inks n) 80
