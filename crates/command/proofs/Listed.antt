-- What is listed for either part: all but KRL and the moves; and what is not for a TS9347.
-- Assumes nothing.
use Prim.Native.Nat.{ℕ}
use mathlib.Core.Path.{◌≡◌, refl}
use mathlib.Core.Bool.{Bool}
use Rattle.std.specs.Prelude.{Option, Some, None, option_and_then}
use Rattle.board.specs.declared.Part.{Part}
use Rattle.board.specs.declared.Part.TheVariants.{Ef9345, Ts9347}
use Rattle.command.specs.declared.Command.{Command}
use Rattle.command.specs.declared.Command.TheVariants.{Nop, Ind, Krf, Oct, Krl, Move}
use Rattle.command.specs.Commands.{command_of, listed_for, command_for}

-- what a byte names, where it is listed for the part
pub named : (part : Part) (b : ℕ) (c : Option Command) → command_of b ≡ c → option_and_then (listed_for part) c ≡ c → command_for part b ≡ c
unfolding command_for
named part b c e l = rw e l

pub lists_nop : (part : Part) → listed_for part Nop ≡ Some Nop
lists_nop Ef9345 = refl
lists_nop Ts9347 = refl

pub lists_ind : (part : Part) (r : ℕ) (reads : Bool) → listed_for part (Ind r reads) ≡ Some (Ind r reads)
lists_ind Ef9345 r reads = refl
lists_ind Ts9347 r reads = refl

pub lists_krf : (part : Part) (reads increments : Bool) → listed_for part (Krf reads increments) ≡ Some (Krf reads increments)
lists_krf Ef9345 reads increments = refl
lists_krf Ts9347 reads increments = refl

pub lists_oct : (part : Part) (reads auxiliary increments : Bool) → listed_for part (Oct reads auxiliary increments) ≡ Some (Oct reads auxiliary increments)
lists_oct Ef9345 reads auxiliary increments = refl
lists_oct Ts9347 reads auxiliary increments = refl

-- KRL and the moves are not for a TS9347
pub unlisted_krl : (reads increments : Bool) → listed_for Ts9347 (Krl reads increments) ≡ None
unlisted_krl reads increments = refl

pub unlisted_moves : (bytes : ℕ) (auxiliary stops : Bool) → listed_for Ts9347 (Move bytes auxiliary stops) ≡ None
unlisted_moves bytes auxiliary stops = refl

-- and a byte that names one names no command of it
pub unlisted : (b : ℕ) (reads increments : Bool) → command_of b ≡ Some (Krl reads increments) → command_for Ts9347 b ≡ None
unfolding command_for
unlisted b reads increments e = rw e (unlisted_krl reads increments)

pub unlisted_move : (b bytes : ℕ) (auxiliary stops : Bool) → command_of b ≡ Some (Move bytes auxiliary stops) → command_for Ts9347 b ≡ None
unfolding command_for
unlisted_move b bytes auxiliary stops e = rw e (unlisted_moves bytes auxiliary stops)
