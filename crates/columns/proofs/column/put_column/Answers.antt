use Rattle.columns.proofs.Columns.{put_none, put_one, put_end}
use native.Mathlib.Omega.{arith}
use mathlib.Core.Path.{refl}
use Rattle.columns.proofs.column.put_column.Goals as goal

pub loop-n-init : goal.loop-n-init
loop-n-init c = put_none _ c.args.columns.now c.args.x c.args.column.now c.requires.0

pub loop-n-preserved : goal.loop-n-preserved
loop-n-preserved c = let l = c.loop-n in put_one _ _ _ _ l.columns l.n _ refl (omega arith) (omega arith) l.invariant

pub returns : goal.returns
returns c = let l = c.loop-n in put_end _ _ _ _ l.columns l.n l.invariant (omega arith) (omega arith)
