use mathlib.Core.Path.{ap, ◌∙◌}
use Rattle.packing.specs.Layouts.{packed, unpacked}
use Rattle.packing.proofs.RoundTrip.{unpacked_packed}
use Rattle.packing.proofs.Layouts.{packed_parts}
use Rattle.packing.proofs.layout.packed.Goals as goal

pub returns : goal.returns
unfolding packed
returns c = let g = c.well_formed.0.1.1 in
    let p = c.args.p in
    let lr = g.0.1.0.1 in
    let li = g.1.0.1.0.1 in
    let lm = g.1.1.1.1.1.0.1.0.1 in
    let b =
    packed_parts p c.flag.result c.flag-2.result c.board_byte.result _ _ _ c.put_eight.new.bytes c.put_eight-2.new.bytes c.put_marks.new.bytes lr li lm
    c.flag.ensures c.flag-2.ensures c.board_byte.ensures c.put_eight.ensures c.put_eight-2.ensures c.put_marks.ensures in
    (b, λ board. ap unpacked b ∙ unpacked_packed p (lr, li, lm) board)
