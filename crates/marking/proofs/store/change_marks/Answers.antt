use Rattle.marking.proofs.Changes.{changes_asked, changes_refused}
use borrow.Author.Rules.{rules}
use Rattle.marking.proofs.store.change_marks.Goals as goal

pub returns-then-can_draw : goal.returns-then-can_draw
returns-then-can_draw c = changes_asked _ _ _ (search rules) _ _ _ _ c.can_draw.ensures c.if-can_draw.true _ c.asked_marks.ensures

pub returns-else-can_draw : goal.returns-else-can_draw
returns-else-can_draw c = changes_refused _ _ _ (search rules) _ _ _ _ c.can_draw.ensures c.if-can_draw.false
