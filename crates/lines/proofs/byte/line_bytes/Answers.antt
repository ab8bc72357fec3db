use Rattle.lines.proofs.Underlines.{bytes_lined, bytes_plain}
use native.Mathlib.Omega.{arith}
use mathlib.Core.Path.{◌∙◌}
use Rattle.lines.proofs.byte.line_bytes.Goals as goal

pub returns-then-n-eq9 : goal.returns-then-n-eq9
returns-then-n-eq9 c = c.underlined.ensures ∙ bytes_lined _ _ _ _ _ _ c.plain_bytes-plain.ensures 9 (omega arith)

pub returns : goal.returns
returns c = bytes_plain _ _ _ _ _ _ c.plain_bytes-plain.ensures (omega arith)
