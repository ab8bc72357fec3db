use Rattle.std.proofs.Common.{rules, ◌∙◌}
use Rattle.board.specs.declared.Part.TheVariants.{Ef9345}
use Rattle.page.specs.Inputs.{flashes}
use Rattle.asking.specs.HowAsked.{code_in}
use Rattle.asking.proofs.Rows.{in_b, in_a, row_asked}
use Rattle.asking.proofs.row.has_flash.Goals as goal

pub returns : goal.returns
returns c = let s = c.args in
    let m = s.memory.now in
    c.some_in_row.ensures (λ at. flashes Ef9345 (code_in m s.z at)) (λ at yes l said. let b = in_b m s.z at _ c.block_start-b.ensures in let a = in_a m s.z at _ c.block_start-a.ensures in search rules) ∙ row_asked (flashes Ef9345) m s.z s.y
