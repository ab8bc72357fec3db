use Rattle.shown.proofs.Lines.{no_lines, line_drawn, all_lines}
use Rattle.shown.specs.Lengths.{forty_bytes}
use Rattle.lines.proofs.Drawn.{line_long}
use native.Mathlib.Omega.{arith}
use mathlib.Core.Path.{◌∙◌}
use Rattle.rows.proofs.row.draw_lines.Goals as goal

pub loop-n-init : goal.loop-n-init
loop-n-init c = no_lines _ _ _ c.requires

pub loop-n-preserved : goal.loop-n-preserved
loop-n-preserved c = let l = c.loop-n in
    let copied = c.copy_from_slice.ensures in
    line_drawn forty_bytes _ (line_long _ _ _ _ _) l.lent l.n l.invariant (omega arith) _ (copied.after ∙ c.line-drawn.ensures) copied.len

pub returns : goal.returns
returns c = let l = c.loop-n in all_lines forty_bytes _ l.lent l.n l.invariant (omega arith)
