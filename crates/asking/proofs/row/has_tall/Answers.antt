use Rattle.std.proofs.Common.{rules, ◌∙◌}
use Rattle.board.specs.declared.Part.TheVariants.{Ef9345, Ts9347}
use Rattle.page.specs.Halves.{is_tall}
use Rattle.asking.specs.HowAsked.{code_in}
use Rattle.asking.proofs.Rows.{in_b, row_asked}
use Rattle.asking.proofs.row.has_tall.Goals as goal

pub returns-in-Ef9345 : goal.returns-in-Ef9345
returns-in-Ef9345 c = let s = c.args in
    let m = s.memory.now in
    rw c.in-Ef9345.is
    (c.some_in_row.ensures (λ at. is_tall Ef9345 (code_in m s.z at)) (λ at yes l said. let b = in_b m s.z at _ c.block_start-b.ensures in search rules) ∙ row_asked (is_tall Ef9345) m s.z s.y)

pub returns-in-Ts9347 : goal.returns-in-Ts9347
returns-in-Ts9347 c = let s = c.args in
    let m = s.memory.now in
    rw c.in-Ts9347.is
    (c.some_in_row-in-Ts9347.ensures (λ at. is_tall Ts9347 (code_in m s.z at)) (λ at yes l said. let b = in_b m s.z at _ c.block_start-b.ensures in search rules) ∙ row_asked (is_tall Ts9347) m s.z s.y)
