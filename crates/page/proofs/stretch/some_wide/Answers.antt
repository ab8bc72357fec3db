use Rattle.std.proofs.Common.{rules, ◌+◌, ◌≤◌, length}
use native.Mathlib.Omega.{arith}
use Rattle.page.proofs.Stretches.{stretch_fits, stretch_b}
use Rattle.page.proofs.stretch.some_wide.Goals as goal

pub some_below-requires : goal.some_below-requires
some_below-requires c = let s = c.args in
    let p = c.requires in
    let fit : c.start-b.result + s.n ≤ length s.memory.now = stretch_fits s.memory.now _ _ _ _ 1 _ c.start-b.ensures p.0 p.1 p.2 p.3 in
    search rules

pub returns : goal.returns
returns c = let s = c.args in
    c.some_below.ensures _ (λ i yes l said. let b = stretch_b s.first i (omega arith) (omega arith) s.memory.now s.y s.z _ c.start-b.ensures in search rules)
