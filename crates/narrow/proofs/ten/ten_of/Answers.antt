use Rattle.narrow.proofs.Texts.{mosaic_cell}
use native.Mathlib.Omega.{arith}
use mathlib.Core.Path.{◌∙◌}
use Rattle.narrow.proofs.ten.ten_of.Goals as goal

pub returns-then-cell-ge128 : goal.returns-then-cell-ge128
returns-then-cell-ge128 c = let a = c.args in
    c.mosaic_ten.ensures ∙ mosaic_cell a.rom.now a.shown a.cell c.if-cell-ge128.true (omega arith)
