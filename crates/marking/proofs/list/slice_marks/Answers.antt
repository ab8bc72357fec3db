use Prim.Native.Nat.{ℕ, ◌+◌, ◌*◌}
use mathlib.Core.Bool.{Bool}
use mathlib.Core.Path.{◌∙◌}
use native.Mathlib.Omega.{arith}
use Rattle.address.specs.Rows.{row_y}
use Rattle.address.proofs.Laws.{row_small}
use Rattle.asking.specs.HowAsked.{keyed_at}
use Rattle.marking.proofs.Loops.{begun_by_y, up_begins, up_ends, up_asked, up_left, up_end}
use borrow.Author.Rules.{rules}
use Rattle.asking.proofs.Rows.{none_keyed}
use Rattle.marking.proofs.list.slice_marks.Goals as goal
use Rattle.marking.proofs.list.slice_marks.Goals.{then-near_has, else-near_has}

pub loop-g-init : goal.loop-g-init
loop-g-init c = let s = c.args in
    let k : ℕ → Bool = keyed_at s.keys s.memory.now s.z in
    (omega arith, up_begins k s.marks.now (row_y s.yor) 8 _ (begun_by_y k s.marks.now _ s.yor c.service_marks.ensures))

pub group_marks-requires : goal.group_marks-requires
group_marks-requires c = (search rules, search rules, omega arith, omega arith, search rules)

pub returns : goal.returns
returns c = let s = c.args in
    let k : ℕ → Bool = keyed_at s.keys s.memory.now s.z in
    up_ends k s.marks.now (row_y s.yor) 8 _ (begun_by_y k s.marks.now _ s.yor c.service_marks.ensures) _ (up_end k _ (row_y s.yor) _ _ c.loop-g.invariant.1 (λ i h. omega (arith, row_small s.yor i)))

pub loop-g-preserved : goal.loop-g-preserved
loop-g-preserved c =
    let l = c.loop-g in
    let s = c.args in
    let k : ℕ → Bool = keyed_at s.keys s.memory.now s.z in (
      omega arith,
      elim c.if-near_has.branch [
        | then-near_has w ↦ w.marks-is ∙ up_asked k _ (row_y s.yor) 2 (8 + 2 * l.g) _ _ _ (omega arith) l.invariant.1 w.group_marks.ensures
        | else-near_has w ↦
            w.marks-is
            ∙ up_left k _ (row_y s.yor) 2 (8 + 2 * l.g) _ _ (omega arith) l.invariant.1
            (none_keyed s.keys c.requires.2 _ _ _ 2 _ c.near_has.ensures w.if-near_has.false)
      ],
    )
