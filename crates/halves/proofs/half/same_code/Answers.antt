use Rattle.halves.proofs.Halves.{same_is}
use mathlib.Core.Path.{◌∙◌}
use borrow.Author.Rules.{rules}
use Rattle.halves.proofs.half.same_code.Goals as goal

pub returns : goal.returns
returns c = c.eq.ensures ∙ same_is c.args.a c.args.b (search rules) (search rules)
