use Rattle.basics.proofs.Made.{table_made}
use borrow.Author.Rules.{rules}
use Rattle.narrow.proofs.text.shaded_ten.Goals as goal

pub returns : goal.returns
returns c = table_made _ _ _ _ _ c.from_fn.ensures.items (λ i x q l k. search rules)
