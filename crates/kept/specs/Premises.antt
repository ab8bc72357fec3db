-- The premises of demand 3: the ROM stays the same, and nobody else writes the memory or the kept picture. What a caller lends is then what is
-- kept, or is refused for its length; and another picture may be lent while every row is marked, as after a mode change, since all of it is drawn.
-- Assumes nothing.
use Rattle.std.specs.Prelude.{ℕ, ◌<◌, ◌≡◌, true, List, [], ◌∷◌, ◌≢◌, ◌⊎◌, length}
use Rattle.board.specs.Boards.{bytes_of}
use Rattle.shown.specs.Lengths.{rom_bytes, picture_bytes}
use Rattle.shown.specs.Modes.{column_bytes}
use Rattle.page.specs.Marks.{is_marked}
use Rattle.processor.specs.States.{shown_of}
use Rattle.kept.specs.Runs.{Lent, own, other, Operation, write, read, turn, move, draw, World, step}

-- the kept buffer, or a list that is not n bytes long
abbrev pub OwnOrWrong : ℕ → Lent → Type 0
OwnOrWrong n own = Unit {0}
OwnOrWrong n (other b) = length b ≢ n

abbrev pub EveryRowMarked : World → Type 0
EveryRowMarked w = (r : ℕ) → r < 25 → is_marked w.processor.marks r ≡ true

abbrev pub FairPicture : Lent → World → Type 0
FairPicture z w = OwnOrWrong (picture_bytes (column_bytes (shown_of w.processor))) z ⊎ EveryRowMarked w

abbrev pub FairMemory : Lent → World → Type 0
FairMemory x w = OwnOrWrong (bytes_of w.processor.blocks) x

abbrev pub Fair : Operation → World → Type 0
Fair (write x address v) w = FairMemory x w
Fair (read x address) w = FairMemory x w
Fair (turn x n) w = FairMemory x w
Fair (move x) w = FairMemory x w
Fair (draw x y z) w = FairMemory x w × OwnOrWrong (rom_bytes w.processor.part) y × FairPicture z w

-- each operation of a run
abbrev pub FairRun : List Operation → World → Type 0
FairRun [] w = Unit {0}
FairRun (o ∷ os) w = Fair o w × FairRun os (step o w)
