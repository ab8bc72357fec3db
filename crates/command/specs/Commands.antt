-- The listed commands, by their bytes in hex.
-- Assumes nothing.
use Rattle.std.specs.Prelude.{ℕ, ◌-◌, ◌<◌, ◌≤◌, Bool, true, false, ◌&&◌, leb, eqb, Option, Some, None, option_and_then}
use Rattle.basics.specs.Choice.{pick}
use Rattle.board.specs.declared.Part.{Part}
use Rattle.board.specs.declared.Part.TheVariants.{Ef9345, Ts9347}
use Rattle.command.specs.declared.Command.{Command}
use Rattle.command.specs.declared.Command.TheVariants.{Nop, Ind, Krf, Oct, Krl, Move}

abbrev pub between : ℕ → ℕ → ℕ → Bool
between low high b = leb low b && leb b high

-- NOP 90, 91. IND 80 plus r, read form plus 8: r 1 to 4 and 7. KRF 00, with increment 01; read 08, 09. OCT 30, plus 1 increment, plus 4
-- auxiliary pointer, plus 8 read. KRL 50, increment 51, read 58, 59. (Ind r reads; Krf reads increments; Oct reads auxiliary increments;
-- Krl reads increments.) MVB D, MVD E, MVT F in the high four bits, which move 1, 2 and 3 bytes; bits 3..2 01 the main pointer is the source, 10 the
-- auxiliary one; bits 1..0 01 with a stop, 10 without. (Move bytes auxiliary stops.) Any other byte is not listed
unfoldable pub command_of : ℕ → Option Command
command_of b =
    pick (between 0x90 0x91 b) (Some Nop)
    (pick (between 0x81 0x84 b) (Some (Ind (b - 0x80) false))
    (pick (eqb b 0x87) (Some (Ind 7 false))
    (pick (between 0x89 0x8C b) (Some (Ind (b - 0x88) true))
    (pick (eqb b 0x8F) (Some (Ind 7 true))
    (pick (between 0x00 0x01 b) (Some (Krf false (eqb b 0x01)))
    (pick (between 0x08 0x09 b) (Some (Krf true (eqb b 0x09)))
    (pick (between 0x30 0x31 b) (Some (Oct false false (eqb b 0x31)))
    (pick (between 0x34 0x35 b) (Some (Oct false true (eqb b 0x35)))
    (pick (between 0x38 0x39 b) (Some (Oct true false (eqb b 0x39)))
    (pick (between 0x3C 0x3D b) (Some (Oct true true (eqb b 0x3D)))
    (pick (between 0x50 0x51 b) (Some (Krl false (eqb b 0x51)))
    (pick (between 0x58 0x59 b) (Some (Krl true (eqb b 0x59)))
    (pick (between 0xD5 0xD6 b) (Some (Move 1 false (eqb b 0xD5)))
    (pick (between 0xD9 0xDA b) (Some (Move 1 true (eqb b 0xD9)))
    (pick (between 0xE5 0xE6 b) (Some (Move 2 false (eqb b 0xE5)))
    (pick (between 0xE9 0xEA b) (Some (Move 2 true (eqb b 0xE9)))
    (pick (between 0xF5 0xF6 b) (Some (Move 3 false (eqb b 0xF5)))
    (pick (between 0xF9 0xFA b) (Some (Move 3 true (eqb b 0xF9))) None))))))))))))))))))

-- NOP, IND, KRF and OCT run for a TS9347, by the same bytes; everything else is not listed
abbrev pub listed_for : Part → Command → Option Command
listed_for Ef9345 c = Some c
listed_for Ts9347 Nop = Some Nop
listed_for Ts9347 (Ind r reads) = Some (Ind r reads)
listed_for Ts9347 (Krf reads increments) = Some (Krf reads increments)
listed_for Ts9347 (Oct reads auxiliary increments) = Some (Oct reads auxiliary increments)
listed_for Ts9347 (Krl reads increments) = None
listed_for Ts9347 (Move bytes auxiliary stops) = None

-- the command that a byte names, of a part
unfoldable pub command_for : Part → ℕ → Option Command
command_for part b = option_and_then (listed_for part) (command_of b)

-- of the commands that a byte names, an IND names one of the eight registers, and a move has one, two or three bytes
abbrev pub Asked : Command → Type 0
Asked Nop = Unit {0}
Asked (Ind r reads) = r < 8
Asked (Krf reads increments) = Unit {0}
Asked (Oct reads auxiliary increments) = Unit {0}
Asked (Krl reads increments) = Unit {0}
Asked (Move bytes auxiliary stops) = (1 ≤ bytes) × (bytes ≤ 3)
