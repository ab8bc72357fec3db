use Rattle.basics.proofs.Filled.{filled_none, filled_next}
use Rattle.halves.proofs.Halves.{still_there}
use mathlib.Core.Bool.{Bool, not, ◌&&◌}
use mathlib.Core.Path.{refl, ap₂}
use borrow.Author.Rules.{rules}
use Rattle.halves.proofs.half.put_next.Goals as goal

pub loop-i-init : goal.loop-i-init
loop-i-init c = filled_none 1 _ _

pub loop-i-preserved : goal.loop-i-preserved
loop-i-preserved c = let l = c.loop-i in
    filled_next _ _ l.halves l.i _ _ refl (search rules) l.invariant
    (ap₂ (λ (on half : Bool). on && not half) c.goes_on_at.ensures (still_there _ _ _ l.i _ l.invariant))
