-- Each byte names a command that asks for a register that there is, or moves one, two or three bytes; or it names none.
-- Assumes nothing.
use Prim.Native.Nat.{ℕ, ◌-◌}
use mathlib.Core.Path.{◌≡◌, refl}
use mathlib.Core.Bool.{Bool, true, false}
use native.Mathlib.Omega.{arith}
use lib.Dec.{leb, eqb}
use borrow.Author.Tests.{leb-true}
use Rattle.std.specs.Prelude.{Option, Some, None, IfSome, option_and_then}
use Rattle.basics.specs.Choice.{pick}
use Rattle.basics.proofs.Choice.{and_right}
use Rattle.board.specs.declared.Part.{Part}
use Rattle.board.specs.declared.Part.TheVariants.{Ef9345, Ts9347}
use Rattle.command.specs.declared.Command.{Command}
use Rattle.command.specs.declared.Command.TheVariants.{Nop, Ind, Krf, Oct, Krl, Move}
use Rattle.command.specs.Commands.{between, command_of, listed_for, command_for, Asked}

abbrev AskedOf : Option Command → Type 0
AskedOf c = IfSome c Asked

asked_pick : (t : Bool) (x y : Option Command) → (t ≡ true → AskedOf x) → AskedOf y → AskedOf (pick t x y)
asked_pick true x y f g = f refl
asked_pick false x y f g = g

asked : (b : ℕ) → AskedOf (command_of b)
unfolding command_of
asked b =
    asked_pick (between 0x90 0x91 b) (Some Nop) _ (λ t. tt)
    (asked_pick (between 0x81 0x84 b) (Some (Ind (b - 0x80) false)) _ (λ t. omega (arith, leb-true b 0x84 (and_right (leb 0x81 b) _ t)))
    (asked_pick (eqb b 0x87) (Some (Ind 7 false)) _ (λ t. omega arith)
    (asked_pick (between 0x89 0x8C b) (Some (Ind (b - 0x88) true)) _ (λ t. omega (arith, leb-true b 0x8C (and_right (leb 0x89 b) _ t)))
    (asked_pick (eqb b 0x8F) (Some (Ind 7 true)) _ (λ t. omega arith)
    (asked_pick (between 0x00 0x01 b) (Some (Krf false (eqb b 0x01))) _ (λ t. tt)
    (asked_pick (between 0x08 0x09 b) (Some (Krf true (eqb b 0x09))) _ (λ t. tt)
    (asked_pick (between 0x30 0x31 b) (Some (Oct false false (eqb b 0x31))) _ (λ t. tt)
    (asked_pick (between 0x34 0x35 b) (Some (Oct false true (eqb b 0x35))) _ (λ t. tt)
    (asked_pick (between 0x38 0x39 b) (Some (Oct true false (eqb b 0x39))) _ (λ t. tt)
    (asked_pick (between 0x3C 0x3D b) (Some (Oct true true (eqb b 0x3D))) _ (λ t. tt)
    (asked_pick (between 0x50 0x51 b) (Some (Krl false (eqb b 0x51))) _ (λ t. tt)
    (asked_pick (between 0x58 0x59 b) (Some (Krl true (eqb b 0x59))) _ (λ t. tt)
    (asked_pick (between 0xD5 0xD6 b) (Some (Move 1 false (eqb b 0xD5))) _ (λ t. (omega arith, omega arith))
    (asked_pick (between 0xD9 0xDA b) (Some (Move 1 true (eqb b 0xD9))) _ (λ t. (omega arith, omega arith))
    (asked_pick (between 0xE5 0xE6 b) (Some (Move 2 false (eqb b 0xE5))) _ (λ t. (omega arith, omega arith))
    (asked_pick (between 0xE9 0xEA b) (Some (Move 2 true (eqb b 0xE9))) _ (λ t. (omega arith, omega arith))
    (asked_pick (between 0xF5 0xF6 b) (Some (Move 3 false (eqb b 0xF5))) _ (λ t. (omega arith, omega arith))
    (asked_pick (between 0xF9 0xFA b) (Some (Move 3 true (eqb b 0xF9))) None (λ t. (omega arith, omega arith)) tt))))))))))))))))))

asked_listed : (part : Part) (c : Command) → Asked c → AskedOf (listed_for part c)
asked_listed Ef9345 c a = a
asked_listed Ts9347 Nop a = tt
asked_listed Ts9347 (Ind r reads) a = a
asked_listed Ts9347 (Krf reads increments) a = tt
asked_listed Ts9347 (Oct reads auxiliary increments) a = tt
asked_listed Ts9347 (Krl reads increments) a = tt
asked_listed Ts9347 (Move bytes auxiliary stops) a = tt

asked_then : (part : Part) (c : Option Command) → AskedOf c → AskedOf (option_and_then (listed_for part) c)
asked_then part None a = tt
asked_then part (Some c) a = asked_listed part c a

pub asked_for : (part : Part) (b : ℕ) → IfSome (command_for part b) Asked
unfolding command_for
asked_for part b = asked_then part (command_of b) (asked b)
