use native.Mathlib.Omega.{arith}
use Rattle.sources.proofs.CellSources.{user_zero, user_one, user_q}
use borrow.Author.Rules.{rules}
use Rattle.sources.proofs.source.user_block.Goals as goal

pub returns-then-b-lt160 : goal.returns-then-b-lt160
returns-then-b-lt160 c = user_zero c.args.dor c.args.b (search rules)

pub returns-then-b-lt192 : goal.returns-then-b-lt192
returns-then-b-lt192 c = user_one c.args.dor c.args.b (search rules) (search rules)

pub returns : goal.returns
returns c = user_q c.args.dor c.args.b (search rules) (omega arith) (omega arith)
