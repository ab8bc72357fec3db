use mathlib.Core.Path.{sym, ◌∙◌}
use mathlib.Core.Bool.{false≢true}
use Rattle.marking.proofs.span.changed_if.Goals as goal

pub changed_block-requires : goal.changed_block-requires
changed_block-requires c = (c.requires.0, c.requires.1 c.if-asked.true)

pub returns-then-asked : goal.returns-then-asked
returns-then-asked c = (rw c.if-asked.true c.changed_block.ensures.0, λ t. c.changed_block.ensures.1)

pub returns : goal.returns
returns c = (rw c.if-asked.false, λ t. absurd (false≢true (sym c.if-asked.false ∙ t)))
