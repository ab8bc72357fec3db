use Rattle.asking.proofs.Rows.{blink_test}
use Rattle.asking.proofs.row.blinks.Goals as goal

pub returns : goal.returns
returns c = λ code e. blink_test code c.args.a e
