use mathlib.Core.Path.{sym, ◌∙◌}
use Rattle.marking.proofs.Ends.{marked_before}
use borrow.Author.Rules.{rules}
use Rattle.marking.proofs.store.asked_marks.Goals as goal

pub returns-else-some_unmarked : goal.returns-else-some_unmarked
returns-else-some_unmarked c = marked_before _ _ (search rules) (sym c.some_unmarked.ensures ∙ c.if-some_unmarked.false)
