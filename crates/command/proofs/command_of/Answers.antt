use Prim.Native.Nat.{ℕ, ◌-◌, ◌≤◌}
use mathlib.Core.Path.{◌≡◌}
use mathlib.Core.Bool.{true, false}
use native.Mathlib.Omega.{arith}
use lib.Dec.{eqb}
use Rattle.std.specs.Prelude.{Some}
use Rattle.std.proofs.Common.{rules}
use Rattle.command.specs.Commands.{command_of}
use Rattle.command.specs.declared.Command.TheVariants.{Nop, Ind, Oct, Krl, Move}
use Rattle.command.proofs.command_of.Goals as goal

oct_auxiliary : (b : ℕ) → 0x34 ≤ b → b ≤ 0x35 → Some (Oct false true (eqb b 0x35)) ≡ command_of b
unfolding command_of
oct_auxiliary b l h = search rules

krl_read : (b : ℕ) → 0x58 ≤ b → b ≤ 0x59 → Some (Krl true (eqb b 0x59)) ≡ command_of b
unfolding command_of
krl_read b l h = search rules

ind_written : (b : ℕ) → 0x81 ≤ b → b ≤ 0x84 → Some (Ind (b - 0x80) false) ≡ command_of b
unfolding command_of
ind_written b l h = search rules

nop : (b : ℕ) → 0x90 ≤ b → b ≤ 0x91 → Some Nop ≡ command_of b
unfolding command_of
nop b l h = search rules

mvt_main : (b : ℕ) → 0xF5 ≤ b → b ≤ 0xF6 → Some (Move 3 false (eqb b 0xF5)) ≡ command_of b
unfolding command_of
mvt_main b l h = search rules

pub returns-in-52-to-53-clause-named : goal.returns-in-52-to-53-clause-named
returns-in-52-to-53-clause-named c = oct_auxiliary c.args.byte (omega arith) (omega arith)

pub returns-in-88-to-89-clause-named : goal.returns-in-88-to-89-clause-named
returns-in-88-to-89-clause-named c = krl_read c.args.byte (omega arith) (omega arith)

pub returns-in-129-to-132-clause-named : goal.returns-in-129-to-132-clause-named
returns-in-129-to-132-clause-named c = ind_written c.args.byte (omega arith) (omega arith)

pub returns-in-144-to-145-clause-named : goal.returns-in-144-to-145-clause-named
returns-in-144-to-145-clause-named c = nop c.args.byte (omega arith) (omega arith)

pub returns-in-245-to-246-clause-named : goal.returns-in-245-to-246-clause-named
returns-in-245-to-246-clause-named c = mvt_main c.args.byte (omega arith) (omega arith)
