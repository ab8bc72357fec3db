use Rattle.columns.proofs.Columns.{PutTo}
use lib.ListN.{length}
use Rattle.columns.proofs.column.put_column.Given as goal

abbrev pub invariant-loop-n : goal.invariant-loop-n
invariant-loop-n l = PutTo (length l.column) l.initial.columns l.x l.column l.columns l.n
