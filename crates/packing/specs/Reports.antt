-- The 48 bytes that show a processor's state.
-- Assumes nothing.
use Rattle.std.specs.Prelude.{ℕ, List, [], ◌∷◌, ◌++◌, map, replicate}
use Rattle.basics.specs.Choice.{one_if}
use Rattle.board.specs.Boards.{part_number}
use Rattle.shown.specs.declared.Shown.{Shown}
use Rattle.processor.specs.declared.state.Processor.{Processor}
use Rattle.processor.specs.States.{register_of, status_of, shown_of}

-- R1 to R7, the command, the status
abbrev pub registers_shown : Processor → List ℕ
registers_shown p =
    register_of p 1 ∷ register_of p 2 ∷ register_of p 3 ∷ register_of p 4 ∷ register_of p 5 ∷ register_of p 6 ∷ register_of p 7 ∷ register_of p 0 ∷ status_of p ∷ []

-- TGS, MAT, PAT, DOR, ROR, the phase
abbrev pub drawn_by : Shown → List ℕ
drawn_by shown = shown.tgs ∷ shown.mat ∷ shown.pat ∷ shown.dor ∷ shown.ror ∷ shown.phase ∷ []

-- R1 to R7, the command, the status, TGS, MAT, PAT, DOR, ROR, the phase, the 25 marks (1 or 0), the part (0 EF9345, 1 TS9347), the blocks, and 6 bytes of 0
unfoldable pub reported : Processor → List ℕ
reported p =
    registers_shown p ++ drawn_by (shown_of p) ++ map one_if p.marks ++ part_number p.part ∷ p.blocks ∷ replicate 6 0
