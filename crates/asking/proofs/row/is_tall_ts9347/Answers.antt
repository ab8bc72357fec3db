use Rattle.asking.proofs.Rows.{bit_1_test}
use Rattle.asking.proofs.row.is_tall_ts9347.Goals as goal

pub returns : goal.returns
returns c = λ code e. bit_1_test code c.args.b e
