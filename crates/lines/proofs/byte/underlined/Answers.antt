use Rattle.std.proofs.Common.{rules}
use Rattle.basics.proofs.Made.{table_made}
use Rattle.lines.proofs.byte.underlined.Goals as goal

pub returns : goal.returns
returns c = table_made _ _ _ c.from_fn.result 40 c.from_fn.ensures.items (λ x b q l call. search rules)
