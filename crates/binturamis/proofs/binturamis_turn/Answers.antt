use Rattle.processor.specs.Access.{turned}
use Rattle.binturamis.specs.Calls.{is_refusal}
use Rattle.binturamis.proofs.Calls.{call_made}
use Rattle.binturamis.proofs.binturamis_turn.Goals as goal

pub returns : goal.returns
returns c = let a = c.args in
    call_made is_refusal (turned a.phase) a.p.now a.memory.now _ c.turn-answered.result a.memory.now _ _
    c.unpacked.ensures c.turn-answered.ensures c.leave.ensures.0 c.leave.ensures.1
