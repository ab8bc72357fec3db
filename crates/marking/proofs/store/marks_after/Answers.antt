use Rattle.std.proofs.Common.{rules}
use Rattle.marking.proofs.Changes.{changes_none}
use Rattle.marking.proofs.store.marks_after.Goals as goal

pub returns-else-some_changed : goal.returns-else-some_changed
returns-else-some_changed c = changes_none _ _ _ (search rules) _ _ _ _ c.some_changed.ensures c.if-some_changed.false
