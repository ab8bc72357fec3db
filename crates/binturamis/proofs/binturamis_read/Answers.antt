use Rattle.processor.specs.Access.{read_out}
use Rattle.binturamis.specs.Calls.{is_refusal}
use Rattle.binturamis.proofs.Calls.{call_made}
use Rattle.binturamis.proofs.Accesses.{plain_length, plain_idle, plain_address, plain_read_made}
use Rattle.binturamis.proofs.binturamis_read.Goals as goal

pub returns-then-is_plain : goal.returns-then-is_plain
returns-then-is_plain c = let a = c.args in
    let q = c.unpacked-before.result in
    let length = plain_length a.memory.now q.blocks q.busy a.address c.is_plain.result c.is_plain.ensures c.if-is_plain.true in
    let four = plain_address a.memory.now q.blocks q.busy a.address c.is_plain.result c.is_plain.ensures c.if-is_plain.true in
    let idle = plain_idle a.memory.now q.blocks q.busy a.address c.is_plain.result c.is_plain.ensures c.if-is_plain.true in
    plain_read_made a.address a.memory.now a.p.now (rw c.unpacked-before.ensures at length) (rw c.unpacked-before.ensures at idle) four _ _ _
    c.unpacked-before.ensures c.packed.ensures.0 c.register.ensures

pub returns : goal.returns
returns c = let a = c.args in
    call_made is_refusal (read_out a.address) a.p.now a.memory.now _ c.read-answered.result c.read-answered.new.memory _ _
    c.unpacked-before.ensures c.read-answered.ensures c.leave.ensures.0 c.leave.ensures.1
