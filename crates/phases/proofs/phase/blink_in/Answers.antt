use Rattle.std.proofs.Common.{rules, ◌∙◌}
use Rattle.address.specs.Rows.{row_y}
use Rattle.asking.specs.HowAsked.{blink_at}
use Rattle.phases.proofs.Asked.{all_asked}
use Rattle.phases.proofs.phase.blink_in.Goals as goal

pub returns : goal.returns
returns c = let s = c.args in
    c.mark_where.ensures (λ r. blink_at s.memory.now s.z (row_y s.yor r)) (λ r yes l said. search rules) ∙ all_asked _ s.marks.now
