use Rattle.page.proofs.code.is_fitted.Goals as goal

pub returns : goal.returns
returns c = rw (c.block.ensures, c.first_block.ensures)
