use Rattle.std.proofs.Common.{rules}
use native.Mathlib.Omega.{arith}
use Rattle.page.specs.HowHalves.{Within}
use Rattle.page.proofs.Stretches.{compared_fit, compared_on, within_less}
use Rattle.page.proofs.stretch.some_on.Goals as goal

pub some_below-requires : goal.some_below-requires
some_below-requires c = let a = c.args in
    let p = c.requires in
    let here : Within a.memory.now c.compared_by-here.result a.n = compared_fit a.memory.now a.z a.third p.0 _ _ _ _ c.compared_by-here.ensures p.1 p.3 p.4 in
    let over : Within a.memory.now c.compared_by-over.result a.n = compared_fit a.memory.now a.z a.third p.0 _ _ _ _ c.compared_by-over.ensures p.2 p.3 p.4 in
    search (rules, within_less)

pub returns : goal.returns
returns c = let a = c.args in
    c.some_below.ensures _ (λ i yes l said. let same = compared_on a.memory.now a.z a.third c.requires.0 a.part a.first i (omega arith) (omega arith) a.y a.above _ _ c.compared_by-here.ensures c.compared_by-over.ensures in search rules)
