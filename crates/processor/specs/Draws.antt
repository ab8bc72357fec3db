-- The draw.
-- Assumes nothing.
use Rattle.std.specs.Prelude.{ℕ, List, eqb, length, Result, Ok, Err}
use Rattle.basics.specs.Choice.{pick}
use Rattle.board.specs.Boards.{bytes_of}
use Rattle.shown.specs.Lengths.{rom_bytes, picture_bytes}
use Rattle.shown.specs.Modes.{column_bytes}
use Rattle.shown.specs.Refusals.{refused7, refused8}
use Rattle.command.specs.declared.answer.DrawRefusal.{DrawRefusal}
use Rattle.command.specs.declared.answer.DrawRefusal.TheVariants.{WrongMemory, WrongRom, WrongPicture, NotBuilt, LowOrigin}
use Rattle.page.specs.Marks.{marked_rows, none_marked}
use Rattle.picture.specs.Redraws.{redrawn}
use Rattle.processor.specs.declared.state.Processor.{Processor}
use Rattle.processor.specs.declared.draw.Drawn.{Drawn}
use Rattle.processor.specs.States.{shown_of, with_marks}

-- what a draw leaves, and its answer
pub record DrawOutcome : Type 0 where
  pub processor : Processor
  pub picture : List ℕ
  pub answer : Result ℕ DrawRefusal

abbrev pub draw_outcome : Processor → List ℕ → Result ℕ DrawRefusal → DrawOutcome
draw_outcome p picture a = record { processor = p; picture = picture; answer = a }

abbrev pub draw_outcome_of : Drawn → List ℕ → DrawOutcome
draw_outcome_of r picture = draw_outcome r.processor picture r.answer

-- An accepted draw redraws the marked rows and no other byte, returns their number and clears the marks
unfoldable pub drawn_page : Processor → List ℕ → List ℕ → List ℕ → DrawOutcome
drawn_page p m rom picture =
    draw_outcome (with_marks p none_marked) (redrawn p.marks picture m rom (shown_of p)) (Ok (marked_rows p.marks 25))

-- draw is checked 1, 5, 7, 6, 8; 6 asks for the length that goes with the mode
unfoldable pub drawn : Processor → List ℕ → List ℕ → List ℕ → DrawOutcome
drawn p m rom picture =
    pick (eqb (length m) (bytes_of p.blocks))
    (pick (eqb (length rom) (rom_bytes p.part))
    (pick (refused7 (shown_of p)) (draw_outcome p picture (Err NotBuilt))
    (pick (eqb (length picture) (picture_bytes (column_bytes (shown_of p))))
    (pick (refused8 (shown_of p)) (draw_outcome p picture (Err LowOrigin))
    (drawn_page p m rom picture))
    (draw_outcome p picture (Err WrongPicture))))
    (draw_outcome p picture (Err WrongRom)))
    (draw_outcome p picture (Err WrongMemory))
