use Rattle.binturamis.proofs.Accesses.{early_held, early_none}
use mathlib.Core.Path.{◌∙◌}
use native.Mathlib.Omega.{arith}
use borrow.Author.Tests.{eq-eqb, ne_eqb}
use Rattle.basics.specs.Bits.{bits}
use Rattle.binturamis.proofs.access.early.Goals as goal

pub returns-then-memory-bytes_of : goal.returns-then-memory-bytes_of
returns-then-memory-bytes_of c = rw (ne_eqb _ _ (rw c.bytes_of.ensures at c.if-memory-bytes_of.true))

pub returns-then-address-ne2 : goal.returns-then-address-ne2
returns-then-address-ne2 c = let a = c.args.address in
    rw (eq-eqb _ _ (c.if-memory-bytes_of.false ∙ c.bytes_of.ensures), ne_eqb (bits 4 4 a) 2 (λ q. c.if-address-ne2.true (omega arith)))

pub returns-then-is_write_held : goal.returns-then-is_write_held
returns-then-is_write_held c = let a = c.args in
    early_held a.memory a.blocks a.busy a.address a.value (c.if-memory-bytes_of.false ∙ c.bytes_of.ensures) (omega arith) _ c.is_write_held.ensures c.if-is_write_held.true

pub returns : goal.returns
returns c = let a = c.args in
    early_none a.memory a.blocks a.busy a.address a.value (c.if-memory-bytes_of.false ∙ c.bytes_of.ensures) (omega arith) _ c.is_write_held.ensures c.if-is_write_held.false
