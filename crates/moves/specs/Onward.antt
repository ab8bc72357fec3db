-- How the registers of the pointers go on.
-- Assumes nothing.
use Rattle.std.specs.Prelude.{ℕ, ◌+◌, ◌-◌, ◌<◌, Bool, ◌&&◌, ◌||◌, List, eqb, get_or, set}
use Rattle.basics.specs.Bits.{bits}
use Rattle.basics.specs.Choice.{pick}

-- X, bits 5..0 of a register, is 39
abbrev pub is_last : ℕ → Bool
is_last register = eqb (bits 0 6 register) 39

-- X, bits 5..0 of a register: one more; from 39 X goes to 0. Y and the block stay
unfoldable pub next_x : ℕ → ℕ
next_x register = pick (is_last register) (register - 39) (register + 1)

-- Y, bits 4..0 of a register: one more; from 31 Y goes to 8, and 0 stays 0. The block stays
unfoldable pub next_y : ℕ → ℕ
next_y register = pick (eqb (bits 0 5 register) 31) (register - 23) (pick (eqb (bits 0 5 register) 0) register (register + 1))

-- of the registers R0 to R7, R5 has the auxiliary pointer's X; R6 and R7 have the main pointer's Y and X
abbrev pub auxiliary_x : List ℕ → ℕ
auxiliary_x registers = get_or registers 5 0

abbrev pub main_y : List ℕ → ℕ
main_y registers = get_or registers 6 0

abbrev pub main_x : List ℕ → ℕ
main_x registers = get_or registers 7 0

-- both are below 40
abbrev pub BothOnPage : List ℕ → Type 0
BothOnPage registers = (bits 0 6 (auxiliary_x registers) < 40) × (bits 0 6 (main_x registers) < 40)

-- Both pointers' X goes on
unfoldable pub across : List ℕ → List ℕ
across registers = set (set registers 5 (next_x (auxiliary_x registers))) 7 (next_x (main_x registers))

-- When the main pointer's X passes 39 its Y goes on; the auxiliary pointer's Y always stays
unfoldable pub down : List ℕ → List ℕ
down registers = pick (is_last (main_x registers)) (set registers 6 (next_y (main_y registers))) registers

-- the registers after a step of a move: with a stop Y stays
unfoldable pub onward : Bool → List ℕ → List ℕ
onward stops registers = across (pick stops registers (down registers))

-- With a stop the move ends with the step in which the source's or the destination's X was 39
unfoldable pub is_end : Bool → List ℕ → Bool
is_end stops registers = stops && (is_last (auxiliary_x registers) || is_last (main_x registers))
