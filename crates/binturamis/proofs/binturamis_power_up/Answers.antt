use mathlib.Core.Path.{ap, ◌∙◌}
use Rattle.packing.specs.Layouts.{packed}
use Rattle.binturamis.proofs.binturamis_power_up.Goals as goal

pub returns : goal.returns
returns c = c.packed.ensures.0 ∙ ap packed c.power_up.ensures
