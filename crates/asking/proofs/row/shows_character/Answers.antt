use Rattle.asking.proofs.Rows.{character_test}
use Rattle.asking.proofs.row.shows_character.Goals as goal

pub returns : goal.returns
returns c = λ code e f. character_test code c.args.c c.args.b c.args.t e f
