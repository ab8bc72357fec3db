use Rattle.shown.proofs.Lines.{LinesTo}
use Rattle.shown.specs.Lengths.{forty_bytes}
use Rattle.lines.specs.HowLines.{line_on}
use Rattle.rows.proofs.row.draw_lines.Given as goal

abbrev pub invariant-loop-n : goal.invariant-loop-n
invariant-loop-n l = LinesTo forty_bytes (line_on l.part l.cells l.lowers l.tens l.pairs) l.lent l.n
