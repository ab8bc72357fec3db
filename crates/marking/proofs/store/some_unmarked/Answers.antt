use Rattle.marking.proofs.Unmarked.{unmarked_listed}
use Rattle.marking.proofs.store.some_unmarked.Goals as goal

pub returns : goal.returns
returns c = unmarked_listed c.args.marks.now _ c.contains.ensures.value c.told-marks
