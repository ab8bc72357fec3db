use Rattle.std.proofs.Common.{rules, ◌∙◌}
use Rattle.asking.specs.HowAsked.{shows_character, code_in}
use Rattle.asking.proofs.Rows.{in_c, in_b, row_asked}
use Rattle.asking.proofs.row.has_character.Goals as goal

pub returns : goal.returns
returns c = let s = c.args in
    let m = s.memory.now in
    c.some_in_row.ensures (λ at. shows_character s.t (code_in m s.z at)) (λ at yes l said. let h = in_c m s.z at _ c.block_start-c.ensures in let b = in_b m s.z at _ c.block_start-b.ensures in search rules) ∙ row_asked (shows_character s.t) m s.z s.y
