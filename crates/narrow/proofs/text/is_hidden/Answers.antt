use borrow.Author.Rules.{rules}
use borrow.Author.Tests.{eq-eqb, ne_eqb}
use Rattle.narrow.proofs.Texts.{by_phase}
use Rattle.narrow.specs.HowText.{hidden}
use Rattle.narrow.proofs.text.is_hidden.Goals.{then-cell-eq1, else-cell-eq1}
use Rattle.narrow.proofs.text.is_hidden.Goals as goal

pub returns-then-shown-eq1 : goal.returns-then-shown-eq1
returns-then-shown-eq1 c = elim c.if-cell-eq1.branch [ then-cell-eq1 w ↦ by_phase c.args.cell c.args.shown (search rules) (search rules) | else-cell-eq1 w ↦ search rules ]

pub returns-else-shown-eq1 : goal.returns-else-shown-eq1
unfolding hidden
returns-else-shown-eq1 c = elim c.if-cell-eq1.branch [ then-cell-eq1 w ↦ search (eq-eqb, ne_eqb, rules) | else-cell-eq1 w ↦ search (eq-eqb, ne_eqb, rules) ]
