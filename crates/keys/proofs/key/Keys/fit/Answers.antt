use Rattle.keys.proofs.Characters.{keyed_test}
use Rattle.keys.proofs.key.Keys.fit.Goals as goal

pub returns : goal.returns
returns c = λ code p q. keyed_test code c.args.c c.args.b c.args.self p q
