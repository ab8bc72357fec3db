use Rattle.sources.proofs.SliceSources.{slices_none, slices_bare, slices_read}
use Rattle.basics.specs.Parts.{joined}
use mathlib.Core.Path.{◌∙◌}
use native.Mathlib.Omega.{arith}
use Rattle.sources.proofs.source.kept_slices.Goals as goal

pub returns-then-not-is_legal_y : goal.returns-then-not-is_legal_y
unfolding joined
returns-then-not-is_legal_y c = slices_none c.args.page.now.shown.blocks c.args.page.now.memory.now c.args.c c.args.z _ _ (omega arith) c.is_legal_y.ensures c.if-not-is_legal_y.true

pub returns-then-page-z : goal.returns-then-page-z
unfolding joined
returns-then-page-z c = slices_bare c.args.page.now.shown.blocks c.args.page.now.memory.now c.args.c c.args.z _ _ (omega arith) c.is_legal_y.ensures c.if-page-z.true

pub returns : goal.returns
returns c = c.fitted_slices.ensures
    ∙ slices_read c.args.page.now.shown.blocks c.args.page.now.memory.now c.args.c c.args.z _ _ (omega arith) c.is_legal_y.ensures c.if-not-is_legal_y.false c.args.page.now.memory_whole
