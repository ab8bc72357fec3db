use Rattle.std.proofs.Common.{rules, ◌∙◌}
use Rattle.asking.specs.HowAsked.{blinks, code_in}
use Rattle.asking.proofs.Rows.{in_a, rows_asked}
use Rattle.asking.proofs.row.near_blinks.Goals as goal

pub returns : goal.returns
returns c = let s = c.args in
    let m = s.memory.now in
    c.some_in_rows.ensures (λ at. blinks (code_in m s.z at)) (λ at yes l said. let a = in_a m s.z at _ c.block_start-a.ensures in search rules) ∙ rows_asked blinks m s.z s.y 4
