use Rattle.std.proofs.Common.{rules, sym, ◌∙◌}
use Rattle.asking.specs.HowAsked.{code_in}
use Rattle.asking.proofs.Rows.{in_c, in_b, row_asked, no_character}
use Rattle.keys.specs.HowKeys.{keyed}
use Rattle.asking.proofs.row.has_keyed.Goals as goal

pub returns-then-has_character : goal.returns-then-has_character
returns-then-has_character c = let s = c.args in
    let m = s.memory.now in
    c.some_in_row.ensures (λ at. keyed s.keys (code_in m s.z at)) (λ at yes l said. let h = in_c m s.z at _ c.block_start-c.ensures in let b = in_b m s.z at _ c.block_start-b.ensures in search rules) ∙ row_asked (keyed s.keys) m s.z s.y

pub returns-else-has_character : goal.returns-else-has_character
returns-else-has_character c = c.if-has_character.false ∙ no_character _ c.requires.3 _ 40 (sym c.has_character.ensures ∙ c.if-has_character.false)
