use Rattle.keys.specs.HowKeys.{code_block}
use Rattle.keys.proofs.key.is_code_block.Goals as goal

pub returns : goal.returns
unfolding code_block
returns c = rw (c.block.ensures, c.block-2.ensures, c.block-3.ensures)
