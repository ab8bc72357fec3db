use Rattle.eighty.proofs.Drawn.{drawn_eighty}
use Rattle.eighty.proofs.row.draw_row.Goals as goal

pub returns : goal.returns
returns c = drawn_eighty c.args.rom.now c.args.shown c.args.cells _ _ _ c.tens_of-tens.ensures c.requires.2 c.draw_lines.ensures
