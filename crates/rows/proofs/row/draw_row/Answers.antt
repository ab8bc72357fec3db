use Rattle.rows.proofs.Drawn.{drawn_row}
use Rattle.rows.proofs.row.draw_row.Goals as goal

pub returns : goal.returns
returns c = let s = c.args.scene.now in
    drawn_row s.page.memory.now s.rom.now s.page.memory_of_bytes s.rom_of_bytes
    s.page.shown c.args.cells c.args.lowers _ c.requires.1 _ _ _ c.tens_of-tens.ensures c.pairs_of-pairs.ensures c.draw_lines.ensures
