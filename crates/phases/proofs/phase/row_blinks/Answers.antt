use Rattle.std.proofs.Common.{ap, ◌∙◌}
use Rattle.address.proofs.Laws.{row_small}
use Rattle.asking.specs.HowAsked.{blink_at}
use Rattle.phases.proofs.phase.row_blinks.Goals as goal

pub has_blink-requires : goal.has_blink-requires
has_blink-requires c = (c.requires, rw c.row_y.ensures (row_small _ _))

pub returns : goal.returns
returns c = c.has_blink.ensures ∙ ap (blink_at c.args.memory.now c.args.z) c.row_y.ensures
