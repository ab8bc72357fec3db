-- The page's number and value for each answer.
-- Assumes nothing.
use Rattle.std.specs.Prelude.{ℕ, Result, Ok, Err}
use Rattle.command.specs.declared.answer.Refusal as access
use Rattle.command.specs.declared.answer.BoardRefusal as power
use Rattle.command.specs.declared.answer.DrawRefusal as drawing

-- of an access, a phase change or a step
abbrev pub number_of : Result ℕ access.Refusal → ℕ
number_of (Ok v) = 0
number_of (Err access.TheVariants.WrongMemory) = 1
number_of (Err access.TheVariants.WrongAddress) = 2
number_of (Err (access.TheVariants.NotListed v)) = 3
number_of (Err (access.TheVariants.BadPointer v)) = 4
number_of (Err access.TheVariants.WrongPhase) = 9
number_of (Err access.TheVariants.Busy) = 10
number_of (Err (access.TheVariants.NotFitted v)) = 11

-- value read, or 0
abbrev pub value_of : Result ℕ access.Refusal → ℕ
value_of (Ok v) = v
value_of (Err access.TheVariants.WrongMemory) = 0
value_of (Err access.TheVariants.WrongAddress) = 0
value_of (Err (access.TheVariants.NotListed v)) = v
value_of (Err (access.TheVariants.BadPointer v)) = v
value_of (Err access.TheVariants.WrongPhase) = 0
value_of (Err access.TheVariants.Busy) = 0
value_of (Err (access.TheVariants.NotFitted v)) = v

-- of a power-up
abbrev pub power_number_of : Result (Unit {0}) power.BoardRefusal → ℕ
power_number_of (Ok done) = 0
power_number_of (Err power.TheVariants.WrongBoard) = 12
power_number_of (Err power.TheVariants.UnknownPart) = 14

-- of a draw
abbrev pub draw_number_of : Result ℕ drawing.DrawRefusal → ℕ
draw_number_of (Ok n) = 0
draw_number_of (Err drawing.TheVariants.WrongMemory) = 1
draw_number_of (Err drawing.TheVariants.WrongRom) = 5
draw_number_of (Err drawing.TheVariants.WrongPicture) = 6
draw_number_of (Err drawing.TheVariants.NotBuilt) = 7
draw_number_of (Err drawing.TheVariants.LowOrigin) = 8

-- their number, or 0 rows
abbrev pub rows_of : Result ℕ drawing.DrawRefusal → ℕ
rows_of (Ok n) = n
rows_of (Err refusal) = 0
