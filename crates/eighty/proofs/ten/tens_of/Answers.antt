use Rattle.eighty.proofs.Tens.{pair_flat, pair_tens_long, tens_small}
use Rattle.eighty.specs.HowEighty.{eighty_tens}
use Rattle.narrow.specs.HowTens.{narrow_ten}
use Rattle.basics.proofs.Filled.{front_none, front_lent, front_end, part_length}
use native.Mathlib.Omega.{arith}
use mathlib.Core.Path.{ap, ◌∙◌}
use borrow.Author.Rules.{rules}
use Rattle.eighty.proofs.ten.tens_of.Goals as goal

pub loop-x-init : goal.loop-x-init
loop-x-init c = (search rules, front_none _)

pub loop-x-preserved : goal.loop-x-preserved
loop-x-preserved c = let l = c.loop-x in
    let a = c.args in
    let of = narrow_ten a.rom.now a.shown in (
      search (part_length, rules),
      front_lent 20 _ l.bytes c.copy_from_slice.new.self _ l.x 40 (omega arith) l.invariant.0 l.invariant.1
          (c.copy_from_slice.ensures.after ∙ c.as_flattened.ensures.value)
          (pair_flat a.rom.now a.shown _ _ _ (c.ten_of-first.ensures ∙ ap of c.even.ensures) (c.ten_of-second.ensures ∙ ap of c.odd.ensures)) (λ i. pair_tens_long _ _ _),
    )

pub invariant_of-result : goal.invariant_of-result
unfolding eighty_tens
invariant_of-result c = let l = c.loop-x in
    record { seven_bits = tens_small c.args.rom.now c.args.shown c.args.cells _ (front_end 20 _ _ 40 _ l.invariant.1 (search rules) (search rules) l.invariant.0) }

pub returns : goal.returns
unfolding eighty_tens
returns c = let l = c.loop-x in front_end 20 _ _ 40 _ l.invariant.1 (search rules) (search rules) l.invariant.0
