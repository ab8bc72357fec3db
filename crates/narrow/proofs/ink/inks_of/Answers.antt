use Rattle.narrow.proofs.Inks.{ink_four}
use Rattle.basics.proofs.Filled.{front_none, front_lent, front_end, part_length}
use native.Mathlib.Omega.{arith}
use borrow.Author.Rules.{rules}
use Rattle.narrow.specs.HowInks.{inks_of}
use Rattle.narrow.proofs.ink.inks_of.Goals as goal

pub loop-e-init : goal.loop-e-init
loop-e-init c = (search rules, front_none _)

pub loop-e-preserved : goal.loop-e-preserved
loop-e-preserved c = let l = c.loop-e in
    (search (part_length, rules), front_lent 4 _ l.inks c.copy_from_slice.new.self _ l.e 128 (omega arith) l.invariant.0 l.invariant.1 c.copy_from_slice.ensures.after c.ink.ensures (λ j. ink_four _ j))

pub returns : goal.returns
unfolding inks_of
returns c = let l = c.loop-e in front_end 4 _ _ 128 _ l.invariant.1 (search rules) (search rules) l.invariant.0
