use Rattle.std.proofs.Common.{rules, ◌∙◌}
use Rattle.address.specs.Rows.{row_y}
use Rattle.address.proofs.Laws.{row_small}
use Rattle.asking.specs.HowAsked.{pair_flash_at}
use Rattle.phases.proofs.Asked.{all_asked}
use Rattle.phases.proofs.phase.pair_flash_in.Goals as goal

pub mark_where-requires : goal.mark_where-requires
mark_where-requires c = search (rules, row_small)

pub returns : goal.returns
returns c = let s = c.args in
    c.mark_where.ensures (λ r. pair_flash_at s.memory.now s.z (row_y s.yor r)) (λ r yes l said. search rules) ∙ all_asked _ s.marks.now
