use Rattle.address.proofs.Places.{legal_x_lem}
use Rattle.processor.proofs.Laws.{x_after_code_read, x_after_code_stored}
use Rattle.processor.proofs.byte.krf.Goals as goal

pub increment_if-requires : goal.increment_if-requires
increment_if-requires c = x_after_code_read _ _ _ _ c.cleared-free.ensures (legal_x_lem _ _ c.requires.1) _ _ c.code_read.ensures

pub increment_if-requires-2 : goal.increment_if-requires-2
increment_if-requires-2 c = x_after_code_stored _ _ _ _ c.cleared-free.ensures (legal_x_lem _ _ c.requires.1) _ _ _ c.code_stored.ensures
