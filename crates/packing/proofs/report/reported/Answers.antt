use Rattle.packing.proofs.Layouts.{reported_parts}
use Rattle.packing.proofs.report.reported.Goals as goal

pub returns : goal.returns
returns c = let p = c.args.p in
    reported_parts p c.status-status.result c.from.result c.put_marks.new.bytes c.well_formed.0.1.1.1.1.1.1.1.0.1.0.1
    c.status-status.ensures c.from.ensures c.put_marks.ensures
