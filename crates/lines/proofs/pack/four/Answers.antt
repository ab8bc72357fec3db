use Rattle.columns.specs.HowTens.{from_steps}
use Rattle.pixels.proofs.Drawn.{four_made}
use Rattle.lines.proofs.pack.four.Goals as goal

pub returns : goal.returns
returns c = four_made c.args.by (from_steps c.args.steps) _ _ _ _ c.chosen.ensures c.chosen-2.ensures c.chosen-3.ensures c.chosen-4.ensures
