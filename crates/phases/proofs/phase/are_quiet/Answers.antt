use Rattle.std.proofs.Common.{Bool, sym, ap, ◌∙◌, not, ◌&&◌}
use lib.Dec.{leb}
use Rattle.phases.proofs.Quiet.{quiet_looked, quiet_unasked}
use Rattle.phases.proofs.phase.are_quiet.Goals as goal
use Rattle.phases.proofs.phase.are_quiet.Goals.{then-not-before, else-not-before}

pub returns-then-asked : goal.returns-then-asked
returns-then-asked c =
    quiet_looked c.args.memory.now c.args.z c.args.y c.args.before c.if-not-before.asked
    (elim c.if-not-before.branch [ then-not-before w ↦ w.asked-is ∙ sym (ap (λ (b : Bool). not b && leb c.args.y 28) w.if-not-before.true) | else-not-before w ↦ w.asked-is ∙ ap not w.if-not-before.false ∙ sym (ap (λ (b : Bool). not b && leb c.args.y 28) w.if-not-before.false) ])
    _ c.if-asked.true c.near_blinks.ensures

pub returns-else-asked : goal.returns-else-asked
returns-else-asked c =
    quiet_unasked c.args.memory.now c.args.z c.args.y c.args.before c.if-not-before.asked
    (elim c.if-not-before.branch [ then-not-before w ↦ w.asked-is ∙ sym (ap (λ (b : Bool). not b && leb c.args.y 28) w.if-not-before.true) | else-not-before w ↦ w.asked-is ∙ ap not w.if-not-before.false ∙ sym (ap (λ (b : Bool). not b && leb c.args.y 28) w.if-not-before.false) ])
    c.if-asked.false
