use Rattle.slices.proofs.Codes.{ef9345_letters, ts9347_letters}
use Rattle.slices.proofs.slice.is_alphanumeric_at.Goals as goal

pub returns-in-Ef9345 : goal.returns-in-Ef9345
returns-in-Ef9345 c = rw c.in-Ef9345.is (ef9345_letters c.args.b c.requires)

pub returns-in-Ts9347 : goal.returns-in-Ts9347
returns-in-Ts9347 c = rw c.in-Ts9347.is (ts9347_letters c.args.b c.requires)
