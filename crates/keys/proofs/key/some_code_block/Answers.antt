use Rattle.keys.specs.HowKeys.{some_code_block}
use Rattle.keys.proofs.key.some_code_block.Goals as goal

pub returns : goal.returns
unfolding some_code_block
returns c = rw (c.is_code_block.ensures, c.is_code_block-2.ensures, c.is_code_block-3.ensures)
