use Rattle.eighty.specs.HowEighty.{eighty_line_on}
use Rattle.shown.proofs.Lines.{LinesTo}
use Rattle.shown.specs.Lengths.{eighty_bytes}
use Rattle.eighty.proofs.row.draw_lines.Given as goal

abbrev pub invariant-loop-n : goal.invariant-loop-n
invariant-loop-n l = LinesTo eighty_bytes (eighty_line_on l.tens.bytes l.inks) l.part l.n
