use Rattle.eighty.proofs.Lines.{eighty_on_long}
use Rattle.shown.proofs.Lines.{no_lines, line_drawn}
use Rattle.shown.specs.Lengths.{eighty_bytes}
use native.Mathlib.Omega.{arith}
use borrow.Author.Rules.{rules}
use Rattle.eighty.proofs.row.draw_lines.Goals as goal

pub loop-n-init : goal.loop-n-init
loop-n-init c = no_lines _ _ _ c.requires

pub loop-n-preserved : goal.loop-n-preserved
loop-n-preserved c = let l = c.loop-n in
    line_drawn eighty_bytes _ (eighty_on_long _ _) l.part l.n l.invariant (omega arith) c.draw_line.new.part c.draw_line.ensures (search rules)
