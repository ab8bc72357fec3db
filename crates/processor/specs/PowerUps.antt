-- Power-up of a board that the caller names, by the number of its part and by its blocks.
-- Assumes nothing.
use Rattle.std.specs.Prelude.{ℕ, Ok, Err}
use Rattle.basics.specs.Choice.{pick}
use Rattle.board.specs.Boards.{is_part, part_named, is_board}
use Rattle.command.specs.declared.answer.BoardRefusal.TheVariants.{WrongBoard, UnknownPart}
use Rattle.processor.specs.declared.power.PoweredUp.{PoweredUp}
use Rattle.processor.specs.States.{powered_up, power_up}

-- power-up is checked 14, 12. 14: an unknown part; 12: a size that is none of the part's. Both hand back the power-up state of the 16 block board
unfoldable pub powered_up_board : ℕ → ℕ → PoweredUp
powered_up_board part blocks =
    pick (is_part part)
    (pick (is_board (part_named part) blocks)
    (record { processor = powered_up (part_named part) blocks; answer = Ok tt })
    (record { processor = power_up; answer = Err WrongBoard }))
    (record { processor = power_up; answer = Err UnknownPart })
