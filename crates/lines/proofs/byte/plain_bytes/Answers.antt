use native.Mathlib.Omega.{arith}
use mathlib.Core.Path.{refl}
use Rattle.basics.proofs.Made.{table_copied}
use Rattle.lines.proofs.byte.plain_bytes.Goals as goal

pub returns : goal.returns
returns c = table_copied _ c.args.tens.now _ _ _ 40 0 c.copy_from_slice.ensures.after (omega arith) (omega arith) (λ x l. refl)
