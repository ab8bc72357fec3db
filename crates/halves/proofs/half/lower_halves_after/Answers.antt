use Rattle.halves.proofs.Halves.{lower_next}
use mathlib.Core.Path.{◌∙◌}
use Rattle.halves.proofs.half.lower_halves_after.Goals as goal

pub returns-in-Some : goal.returns-in-Some
returns-in-Some c = let k = c.requires _ c.in-Some.is in
    c.next_lowers.ensures ∙ lower_next c.args.page.now.shown _ _ k.0 _ k.1
