use Rattle.picture.proofs.Marked.{marked_any}
use mathlib.Core.Path.{◌∙◌}
use borrow.Author.Rules.{rules}
use Rattle.picture.proofs.redraw.some_marked.Goals as goal

pub returns : goal.returns
returns c = c.contains.ensures.value ∙ marked_any c.args.marks 25 (search rules)
