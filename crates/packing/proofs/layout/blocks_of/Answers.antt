use Rattle.packing.proofs.Boards.{blocks_listed}
use Rattle.packing.proofs.layout.blocks_of.Goals as goal

pub returns : goal.returns
returns c = blocks_listed _ _ c.from.ensures
