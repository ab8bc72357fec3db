use Rattle.std.proofs.Common.{arith}
use Rattle.shown.proofs.Refusals.{asked_refused, asked_forty, asked_eighty, asked_no_eighty, asked_no_mode}
use Rattle.shown.proofs.Shown.picture_asked.Goals as goal

pub returns-then-self-ge128 : goal.returns-then-self-ge128
returns-then-self-ge128 c = asked_refused c.args.self (omega arith) (omega arith) (omega arith)

pub returns-in-0-default : goal.returns-in-0-default
returns-in-0-default c = asked_forty c.args.self (omega arith) (omega arith) (omega arith) (omega (arith, c.in-0-default.is-0))

pub returns-in-6-Ef9345 : goal.returns-in-6-Ef9345
returns-in-6-Ef9345 c = asked_eighty c.args.self (omega arith) (omega arith) (omega arith) (omega (arith, c.in-6-Ef9345.is-0)) c.in-6-Ef9345.is-1

pub returns-in_default : goal.returns-in_default
returns-in_default c = asked_no_eighty c.args.self (omega arith) (omega arith) (omega arith) c.in_default.is-0 c.in_default.is-1

pub returns-in_default-2 : goal.returns-in_default-2
returns-in_default-2 c = asked_no_mode c.args.self (omega arith) (omega arith) (omega arith) c.in_default.is-0.0.1 c.in_default.is-0.1
