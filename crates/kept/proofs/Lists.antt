-- Demand 3: a byte that is not fitted is on no reading list.
-- Assumes nothing.
use Rattle.reading.proofs.Fitted.{off_list}
use Rattle.kept.specs.Demands.{ListsFitted}

pub lists_fitted : ListsFitted
lists_fitted = off_list
