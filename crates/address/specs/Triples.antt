-- Legal: X 0..39, Y 0 or 8..31, Z 0..15, of a TS9347 0..31; and fitted: its block is one of the board's.
-- Assumes nothing.
use Rattle.std.specs.Prelude.{ℕ, Bool, ◌&&◌, ◌||◌, ltb, leb, eqb}
use Rattle.address.specs.declared.triple.Triple.{Triple}

-- X 0..39
abbrev pub legal_x : ℕ → Bool
legal_x x = ltb x 40

-- Y 0 or 8..31
unfoldable pub legal_y : ℕ → Bool
legal_y y = eqb y 0 || (leb 8 y && ltb y 32)

-- X and Y are legal: what every law of places asks, whatever Z is
unfoldable pub on_page : ℕ → ℕ → Bool
on_page x y = legal_x x && legal_y y

-- X 0..39, Y 0 or 8..31. (Z 0..15, or 0..31, is all that a pointer's four or five bits can say: `main_block` and `auxiliary_block` of proofs/Pointers.)
abbrev pub legal : Triple → Bool
legal t = on_page t.x t.y

-- Fitted: Z below the number of blocks
abbrev pub fitted : ℕ → Triple → Bool
fitted blocks t = ltb t.z blocks

-- legal, and fitted on a board of so many blocks
unfoldable pub legal_in : ℕ → Triple → Bool
legal_in blocks t = legal t && fitted blocks t
