use native.Mathlib.Omega.{arith}
use mathlib.Core.Path.{sym}
use Rattle.keys.proofs.Places.{row_at_service, row_at_made}
use Rattle.keys.proofs.own.row_at.Goals as goal

pub returns-then-y-lt8 : goal.returns-then-y-lt8
returns-then-y-lt8 c = sym (row_at_service _ _ c.if-y-lt8.true)

pub returns : goal.returns
returns c = let s = c.args in
    row_at_made s.yor s.y _ _ c.if-y-lt8.false c.past_eight.ensures (omega arith)
