use Rattle.std.proofs.Common.{rules, ◌∙◌}
use Rattle.reading.specs.Marks.{flash_in}
use Rattle.phases.proofs.Asked.{all_asked}
use Rattle.phases.proofs.bare.bare_flash_in.Goals as goal

pub returns : goal.returns
returns c = let s = c.args in
    c.mark_where.ensures (flash_in s.page.now.shown s.page.now.memory.now) (λ r yes l said. search rules) ∙ all_asked _ s.marks.now
