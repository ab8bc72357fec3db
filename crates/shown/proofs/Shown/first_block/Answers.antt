use Rattle.std.proofs.Common.{arith}
use Rattle.shown.proofs.Origins.{first_block_lem}
use Rattle.shown.proofs.Shown.first_block.Goals as goal

pub returns : goal.returns
returns c = first_block_lem c.args.self _ c.z4.ensures (omega arith)
