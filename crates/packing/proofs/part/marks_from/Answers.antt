use native.Mathlib.Omega.{arith}
use mathlib.Core.Path.{◌≡◌, ◌∙◌}
use lib.ListN.{length}
use borrow.Author.Rules.{rules}
use Rattle.basics.proofs.Made.{table_made}
use Rattle.packing.proofs.Parts.{marks_made}
use Rattle.packing.proofs.part.marks_from.Goals as goal

pub returns : goal.returns
returns c = let a = c.args in
    let n : length a.bytes ≡ 64 = search rules in
    table_made _ _ _ c.from_fn.result 25 c.from_fn.ensures.items (λ r x q l call. search rules) ∙ marks_made a.start 25 a.bytes (omega arith)
