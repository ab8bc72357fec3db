use Rattle.std.proofs.Common.{rules, ◌∙◌}
use Rattle.narrow.specs.Codes.{pair_flashes}
use Rattle.asking.specs.HowAsked.{code_in}
use Rattle.asking.proofs.Rows.{row_asked}
use Rattle.asking.proofs.row.has_pair_flash.Goals as goal

pub returns : goal.returns
unfolding code_in
returns c = let s = c.args in
    let m = s.memory.now in
    c.some_in_row.ensures (λ at. pair_flashes (code_in m s.z at)) (λ at yes l said. search rules) ∙ row_asked pair_flashes m s.z s.y
