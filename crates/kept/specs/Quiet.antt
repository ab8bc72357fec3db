-- The command that an operation executes, and operations that store nothing.
-- Assumes nothing.
use Rattle.std.specs.Prelude.{◌≡◌, Bool, true, false, ◌&&◌, ◌||◌, List, [], ◌∷◌, eqb, Option, Some, None}
use Rattle.basics.specs.Bits.{is_set}
use Rattle.basics.specs.Choice.{pick}
use Rattle.command.specs.declared.Command.{Command}
use Rattle.command.specs.declared.Command.TheVariants.{Nop, Ind, Krf, Oct, Krl, Move}
use Rattle.command.specs.Commands.{command_for}
use Rattle.processor.specs.States.{register_of}
use Rattle.processor.specs.Access.{is_whole}
use Rattle.kept.specs.Runs.{Operation, write, read, turn, move, draw, World, chip_lent, done, registered, step}

-- of the commands, KRF, OCT and KRL store, unless they read. (A move stores by its steps.)
abbrev pub is_store : Option Command → Bool
is_store (Some Nop) = false
is_store (Some (Ind r reads)) = false
is_store (Some (Krf true increments)) = false
is_store (Some (Krf false increments)) = true
is_store (Some (Oct true auxiliary increments)) = false
is_store (Some (Oct false auxiliary increments)) = true
is_store (Some (Krl true increments)) = false
is_store (Some (Krl false increments)) = true
is_store (Some (Move bytes auxiliary stops)) = false
is_store None = false

-- and of those that mark, IND too, unless it reads
abbrev pub is_marker : Option Command → Bool
is_marker (Some Nop) = false
is_marker (Some (Ind r true)) = false
is_marker (Some (Ind r false)) = true
is_marker (Some (Krf reads increments)) = is_store (Some (Krf reads increments))
is_marker (Some (Oct reads auxiliary increments)) = is_store (Some (Oct reads auxiliary increments))
is_marker (Some (Krl reads increments)) = is_store (Some (Krl reads increments))
is_marker (Some (Move bytes auxiliary stops)) = false
is_marker None = false

-- bit 3 of the address asks for execution
abbrev pub asks : Operation → Bool
asks (write x address v) = is_set 3 address
asks (read x address) = is_set 3 address
asks (turn x n) = false
asks (move x) = false
asks (draw x y z) = false

-- the command that an operation executes: none, NOP, where it is refused or asks for none
abbrev pub command_run : Operation → World → Option Command
command_run o w = pick (asks o && eqb (done o w).number 0) (command_for w.processor.part (register_of (registered o w) 0)) (Some Nop)

-- a step moves bytes while a move runs, unless it is refused
abbrev pub moves : Operation → World → Bool
moves (write x address v) w = false
moves (read x address) w = false
moves (turn x n) w = false
moves (move x) w = is_whole (chip_lent x w) && w.processor.busy
moves (draw x y z) w = false

abbrev pub stores : Operation → World → Bool
stores o w = is_store (command_run o w) || moves o w

-- no operation of a run stores
abbrev pub Quiet : List Operation → World → Type 0
Quiet [] w = Unit {0}
Quiet (o ∷ os) w = (stores o w ≡ false) × Quiet os (step o w)
