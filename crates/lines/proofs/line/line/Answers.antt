use Rattle.lines.specs.HowLines.{line_on}
use Rattle.lines.proofs.line.line.Goals as goal

pub returns : goal.returns
unfolding line_on
returns c = rw (c.packed_line.ensures, c.line_bytes.ensures)
