use mathlib.Core.Path.{ap, ◌∙◌}
use Rattle.packing.specs.Reports.{reported}
use Rattle.binturamis.proofs.binturamis_state.Goals as goal

pub returns : goal.returns
returns c = c.reported.ensures ∙ ap reported c.unpacked.ensures
