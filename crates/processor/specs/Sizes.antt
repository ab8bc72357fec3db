-- How long the lists of a processor are.
-- Assumes nothing.
use Rattle.std.specs.Prelude.{◌≡◌, length}
use Rattle.processor.specs.declared.state.Processor.{Processor}

-- as long as a processor's arrays are: 8 registers, 8 indirect registers and 25 marks. (Every processor of the code is; a definition's lists
-- could be of any length.)
abbrev pub Sized : Processor → Type 0
Sized p = (length p.registers ≡ 8) × (length p.indirect ≡ 8) × (length p.marks ≡ 25)
