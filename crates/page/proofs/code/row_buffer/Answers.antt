use Rattle.address.proofs.Laws.{row_small}
use Rattle.page.proofs.Codes.{buffer}
use mathlib.Core.Path.{◌∙◌}
use Rattle.page.proofs.code.row_buffer.Goals as goal

pub cells_of-requires : goal.cells_of-requires
cells_of-requires c = rw c.row_y-y.ensures (row_small _ _)

pub returns : goal.returns
returns c = c.cells_of.ensures ∙ buffer c.args.page.now.shown c.args.page.now.memory.now c.args.page.now.memory_whole _ _ _ _ c.first_block-z.ensures c.row_y-y.ensures c.yor.ensures
