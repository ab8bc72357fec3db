use Rattle.lines.specs.HowLines.{lined_byte}
use mathlib.Core.Path.{sym, ◌∙◌}
use Rattle.lines.proofs.byte.lined.Goals as goal

pub returns-then-is_underlined_on : goal.returns-then-is_underlined_on
unfolding lined_byte
returns-then-is_underlined_on c = rw (← c.decode.ensures, sym c.is_underlined_on.ensures ∙ c.if-is_underlined_on.true)

pub returns : goal.returns
unfolding lined_byte
returns c = rw (← c.decode.ensures, sym c.is_underlined_on.ensures ∙ c.if-is_underlined_on.false)
