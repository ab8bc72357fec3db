use Rattle.shown.specs.Lengths.{forty_bytes}
use Rattle.pixels.proofs.Drawn.{four_long}
use Rattle.basics.proofs.Filled.{filled, filled_four}
use lib.ListN.{drop, take-append-drop}
use native.Mathlib.Omega.{arith}
use borrow.Author.Rules.{rules}
use mathlib.Core.Path.{◌≡◌, sym, ap, ◌∙◌}
use mathlib.Core.List.{List, ◌++◌}
use Prim.Native.Nat.{ℕ, ◌*◌}
use Rattle.lines.proofs.pack.pack.Goals as goal

pub loop-x-init : goal.loop-x-init
loop-x-init c = let a = c.args in
    sym (take-append-drop (forty_bytes * a.first) a.line.now) ∙ ap (λ (z : List ℕ). z ++ drop (forty_bytes * a.first) a.line.now) c.requires.2

pub loop-x-preserved : goal.loop-x-preserved
loop-x-preserved c = let l = c.loop-x in
    filled_four _ _ l.line c.four-four.result l.x 40 0 (omega arith) (search rules) l.invariant c.four-four.ensures (λ j. four_long _ _)

pub returns : goal.returns
returns c = let l = c.loop-x in
    let e : l.x ≡ c.args.end = omega arith in
    l.invariant ∙ ap (filled forty_bytes _ _) e
