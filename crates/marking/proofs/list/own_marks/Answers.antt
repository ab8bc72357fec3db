use Rattle.keys.proofs.Places.{row_at_small}
use Rattle.marking.proofs.Lists.{own_reached, own_left}
use borrow.Author.Rules.{rules}
use Rattle.marking.proofs.list.own_marks.Goals as goal

pub reach-requires : goal.reach-requires
reach-requires c = (search rules, rw c.row_at.ensures (row_at_small c.args.yor c.args.y))

pub returns-then-some_code_block : goal.returns-then-some_code_block
returns-then-some_code_block c = own_reached _ _ c.some_code_block.ensures _ _ _ _ _ c.if-some_code_block.true c.row_at.ensures c.reach.ensures

pub returns-else-some_code_block : goal.returns-else-some_code_block
returns-else-some_code_block c = own_left _ _ c.some_code_block.ensures _ _ _ c.if-some_code_block.false c.told-marks
