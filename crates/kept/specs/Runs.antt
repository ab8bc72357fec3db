-- Operations, and runs of them: each operation takes the state that the one before it left, and says what it is lent.
-- Assumes nothing.
use Rattle.std.specs.Prelude.{ℕ, List, [], ◌∷◌, eqb}
use Rattle.basics.specs.Bits.{bits}
use Rattle.basics.specs.Choice.{pick}
use Rattle.board.specs.declared.Part.{Part}
use Rattle.command.specs.Answers.{number_of, value_of, draw_number_of, rows_of}
use Rattle.processor.specs.declared.state.Processor.{Processor}
use Rattle.processor.specs.States.{Chip, chip, powered_up, with_register}
use Rattle.processor.specs.Access.{Outcome, written, read_out, turned}
use Rattle.processor.specs.Moves.{stepped}
use Rattle.processor.specs.Draws.{DrawOutcome, drawn}

-- what is lent where a buffer is asked for: the one that is kept, or another list of bytes
pub data Lent : Type 0 where
  own : Lent
  other : List ℕ → Lent

-- a write of a value at an address, a read at an address, a change to a phase, a step of the move that runs, each with the memory that it is lent; a
-- draw, with the memory, the ROM and the picture
pub data Operation : Type 0 where
  write : Lent → ℕ → ℕ → Operation
  read : Lent → ℕ → Operation
  turn : Lent → ℕ → Operation
  move : Lent → Operation
  draw : Lent → Lent → Lent → Operation

-- what is kept from one operation to the next
pub record World : Type 0 where
  pub processor : Processor
  pub memory : List ℕ
  pub rom : List ℕ
  pub picture : List ℕ

-- power-up of a part with any number of blocks, and any memory, ROM and picture
abbrev pub first : Part → ℕ → List ℕ → List ℕ → List ℕ → World
first part blocks m rom picture = record { processor = powered_up part blocks; memory = m; rom = rom; picture = picture }

-- the bytes that are lent, where l are those that are kept
abbrev pub lent_of : Lent → List ℕ → List ℕ
lent_of own l = l
lent_of (other b) l = b

abbrev pub memory_lent : Operation → Lent
memory_lent (write x address v) = x
memory_lent (read x address) = x
memory_lent (turn x n) = x
memory_lent (move x) = x
memory_lent (draw x y z) = x

-- (an access, a phase change or a step leaves the picture where it is)
abbrev pub picture_lent : Operation → Lent
picture_lent (write x address v) = own
picture_lent (read x address) = own
picture_lent (turn x n) = own
picture_lent (move x) = own
picture_lent (draw x y z) = z

-- what an operation leaves: the state, the memory and the picture that it was lent; and what it answers: a number, and the value or the rows
pub record Done : Type 0 where
  pub processor : Processor
  pub memory : List ℕ
  pub picture : List ℕ
  pub number : ℕ
  pub value : ℕ

abbrev pub access_done : Outcome → World → Done
access_done o w =
    record { processor = o.left.processor; memory = o.left.memory; picture = w.picture; number = number_of o.answer; value = value_of o.answer }

abbrev pub draw_done : DrawOutcome → List ℕ → Done
draw_done o m = record { processor = o.processor; memory = m; picture = o.picture; number = draw_number_of o.answer; value = rows_of o.answer }

abbrev pub chip_lent : Lent → World → Chip
chip_lent x w = chip w.processor (lent_of x w.memory)

abbrev pub done : Operation → World → Done
done (write x address v) w = access_done (written address v (chip_lent x w)) w
done (read x address) w = access_done (read_out address (chip_lent x w)) w
done (turn x n) w = access_done (turned n (chip_lent x w)) w
done (move x) w = access_done (stepped (chip_lent x w)) w
done (draw x y z) w = draw_done (drawn w.processor (lent_of x w.memory) (lent_of y w.rom) (lent_of z w.picture)) (lent_of x w.memory)

-- the register access itself, which comes before the command
abbrev pub registered : Operation → World → Processor
registered (write x address v) w = with_register w.processor (bits 0 3 address) v
registered (read x address) w = w.processor
registered (turn x n) w = w.processor
registered (move x) w = w.processor
registered (draw x y z) w = w.processor

-- the kept memory is what was left in it; another list that was lent is not kept
abbrev pub memory_kept : Lent → List ℕ → List ℕ → List ℕ
memory_kept own before left = left
memory_kept (other b) before left = before

-- the kept picture likewise; but another picture, once drawn, is the kept one from then on (n is the draw's number)
abbrev pub picture_kept : Lent → ℕ → List ℕ → List ℕ → List ℕ
picture_kept own n before left = left
picture_kept (other b) n before left = pick (eqb n 0) left before

abbrev pub step : Operation → World → World
step o w =
    let d = done o w in
    record {
      processor = d.processor;
      memory = memory_kept (memory_lent o) w.memory d.memory;
      rom = w.rom;
      picture = picture_kept (picture_lent o) d.number w.picture d.picture;
    }

abbrev pub run : List Operation → World → World
run [] w = w
run (o ∷ os) w = run os (step o w)

-- what the operations of a run answer, one after the other
pub record Reply : Type 0 where
  pub number : ℕ
  pub value : ℕ

abbrev pub reply : ℕ → ℕ → Reply
reply n v = record { number = n; value = v }

abbrev pub reply_to : Operation → World → Reply
reply_to o w = reply (done o w).number (done o w).value

abbrev pub replies : List Operation → World → List Reply
replies [] w = []
replies (o ∷ os) w = reply_to o w ∷ replies os (step o w)
