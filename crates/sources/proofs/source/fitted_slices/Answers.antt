use Rattle.std.proofs.Common.{rules}
use Rattle.basics.proofs.Made.{table_made}
use Rattle.sources.proofs.source.fitted_slices.Goals as goal

pub returns : goal.returns
returns c = table_made _ _ _ c.from_fn.result 10 c.from_fn.ensures.items (λ n x q l call. search rules)
