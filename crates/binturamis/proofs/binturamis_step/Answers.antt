use Rattle.processor.specs.Moves.{stepped}
use Rattle.binturamis.specs.Calls.{is_refusal}
use Rattle.binturamis.proofs.Calls.{call_made}
use Rattle.binturamis.proofs.binturamis_step.Goals as goal

pub returns : goal.returns
returns c = let a = c.args in
    call_made is_refusal stepped a.p.now a.memory.now _ c.step-answered.result c.step-answered.new.memory _ _
    c.unpacked.ensures c.step-answered.ensures c.leave.ensures.0 c.leave.ensures.1
