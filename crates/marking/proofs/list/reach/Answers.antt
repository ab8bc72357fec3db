use mathlib.Core.Path.{ap}
use mathlib.Core.Bool.{not}
use Prim.Native.Nat.{ℕ}
use mathlib.Core.Bool.{Bool}
use native.Mathlib.Omega.{arith}
use Rattle.address.specs.Rows.{row_y}
use Rattle.address.proofs.Laws.{row_small}
use Rattle.asking.specs.HowAsked.{tall_at}
use Rattle.marking.specs.HowMarked.{falls_to}
use Rattle.marking.proofs.Falls.{falls_own, falls_next}
use Rattle.marking.proofs.Loops.{row_asked, reach_on, reach_off, reach_start, reach_begins, reach_ends, reach_turn, reach_left, below_end}
use borrow.Author.Rules.{rules}
use Rattle.marking.proofs.list.reach.Goals as goal

pub loop-r-init : goal.loop-r-init
loop-r-init c = let s = c.args in
    let tall : ℕ → Bool = λ i. tall_at s.part s.memory.now s.z (row_y s.yor i) in
    (omega arith, omega arith, reach_begins tall s.row s.marks.now _ (reach_start tall s.row _ c.told-marks (omega arith)), falls_next tall s.row s.row (omega arith) (falls_own tall s.row))

pub has_tall-requires : goal.has_tall-requires
has_tall-requires c = (search rules, rw c.row_y.ensures (row_small _ _))

pub returns-then-not-has_tall : goal.returns-then-not-has_tall
returns-then-not-has_tall c = let s = c.args in
    let tall : ℕ → Bool = λ i. tall_at s.part s.memory.now s.z (row_y s.yor i) in
    let t = row_asked (tall_at s.part s.memory.now s.z) _ _ _ c.has_tall.ensures c.row_y.ensures in
    let off = reach_off tall s.row s.marks.now c.loop-r.r _ c.loop-r.invariant.3 t (ap not c.if-not-has_tall.true) in
    reach_ends tall s.row s.marks.now _ _ (reach_start tall s.row _ c.told-marks (omega arith)) (reach_left tall s.row _ _ _ c.loop-r.invariant.2 c.loop-r.invariant.0 off)

pub loop-r-preserved : goal.loop-r-preserved
loop-r-preserved c = let s = c.args in
    let tall : ℕ → Bool = λ i. tall_at s.part s.memory.now s.z (row_y s.yor i) in
    let t = row_asked (tall_at s.part s.memory.now s.z) _ _ _ c.has_tall.ensures c.row_y.ensures in
    let on = reach_on tall s.row s.marks.now c.loop-r.r _ c.loop-r.invariant.3 t (ap not c.if-not-has_tall.false) in
    (omega arith, omega arith, reach_turn tall s.row _ _ _ c.loop-r.invariant.2 (omega arith) on, falls_next tall s.row c.loop-r.r (omega arith) on)

pub returns : goal.returns
returns c = let s = c.args in
    let tall : ℕ → Bool = λ i. tall_at s.part s.memory.now s.z (row_y s.yor i) in
    reach_ends tall s.row s.marks.now _ _ (reach_start tall s.row _ c.told-marks (omega arith)) (below_end (falls_to tall s.row) _ _ _ c.loop-r.invariant.2 (λ i l h. absurd (omega arith)))
