use mathlib.Core.Path.{◌∙◌}
use borrow.Author.Tests.{eq-eqb, ne_eqb}
use Rattle.binturamis.proofs.access.is_plain.Goals as goal

pub returns-then-busy : goal.returns-then-busy
returns-then-busy c = rw c.if-busy.true

pub returns-then-memory-bytes_of : goal.returns-then-memory-bytes_of
returns-then-memory-bytes_of c = rw (c.if-busy.false, eq-eqb _ _ (c.if-memory-bytes_of.true ∙ c.bytes_of.ensures))

pub returns : goal.returns
returns c = rw (c.if-busy.false, ne_eqb _ _ (rw c.bytes_of.ensures at c.if-memory-bytes_of.false))
