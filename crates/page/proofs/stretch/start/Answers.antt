use Rattle.page.proofs.stretch.start.Goals as goal

pub returns : goal.returns
returns c = rw (c.place_at.ensures, c.block.ensures)
