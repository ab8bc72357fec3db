use Rattle.address.proofs.Places.{legal_x_lem}
use Rattle.processor.proofs.Laws.{x_after_load, x_after_store}
use Rattle.processor.specs.States.{chip}
use Rattle.processor.proofs.Ways.{oct_stored}
use Rattle.processor.proofs.byte.oct.Goals as goal

pub increment_if-requires : goal.increment_if-requires
increment_if-requires c = x_after_load _ _ _ _ c.cleared-free.ensures (legal_x_lem _ _ c.requires.1) _ c.with_register.ensures

pub increment_if-requires-2 : goal.increment_if-requires-2
increment_if-requires-2 c = x_after_store _ _ _ _ c.cleared-free.ensures (legal_x_lem _ _ c.requires.1) _ _ _ _ c.store-next.ensures

pub returns : goal.returns
returns c = let a = c.args in
    oct_stored _ _ _ (chip a.p a.memory.now) _ _ _ c.pointer-at.ensures c.cleared-free.ensures c.if-reads.false _ _ c.store-next.ensures c.increment_if-2.ensures
