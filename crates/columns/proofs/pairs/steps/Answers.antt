use Rattle.columns.specs.HowTens.{steps_of}
use Rattle.columns.proofs.pairs.steps.Goals as goal

pub returns : goal.returns
unfolding steps_of
returns c = rw (c.step_to.ensures, c.step_to-2.ensures)
