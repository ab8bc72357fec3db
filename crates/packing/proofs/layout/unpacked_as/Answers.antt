use Rattle.packing.proofs.Layouts.{unpacked_parts}
use Rattle.packing.proofs.layout.unpacked_as.Goals as goal

pub returns : goal.returns
returns c = unpacked_parts _ _ _ _ _ _ _ c.eight_from-registers.ensures c.eight_from-indirect.ensures c.marks_from-marks.ensures c.requires.0 c.requires.1 c.requires.2
