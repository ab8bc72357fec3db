use mathlib.Core.Path.{refl}
use Rattle.processor.proofs.Laws.{auxiliary_x_lem, main_x_lem, auxiliary_last, main_last, not_last}
use Rattle.processor.proofs.pointer.increment.Goals.{then-auxiliary, else-auxiliary}
use Rattle.processor.proofs.pointer.increment.Goals as goal

pub next_x-requires : goal.next_x-requires
next_x-requires c =
    elim c.if-auxiliary.branch [
      | then-auxiliary w ↦ rw w.n-is (auxiliary_x_lem _ _ w.if-auxiliary.true c.requires)
      | else-auxiliary w ↦ rw w.n-is (main_x_lem _ _ w.if-auxiliary.false c.requires)
    ]

pub returns-then-auxiliary-2 : goal.returns-then-auxiliary-2
returns-then-auxiliary-2 c =
    auxiliary_last _ _ c.if-auxiliary.n _
    (elim c.if-auxiliary.branch [ then-auxiliary w ↦ rw (w.if-auxiliary.true, w.n-is) refl | else-auxiliary w ↦ rw (w.if-auxiliary.false, w.n-is) refl ])
    c.next_x.ensures c.if-auxiliary-2.true c.if-old-eq39.true

pub returns-else-auxiliary-2 : goal.returns-else-auxiliary-2
returns-else-auxiliary-2 c =
    main_last _ _ c.if-auxiliary.n _
    (elim c.if-auxiliary.branch [ then-auxiliary w ↦ rw (w.if-auxiliary.true, w.n-is) refl | else-auxiliary w ↦ rw (w.if-auxiliary.false, w.n-is) refl ])
    c.next_x.ensures c.if-auxiliary-2.false c.if-old-eq39.true

pub returns-else-old-eq39 : goal.returns-else-old-eq39
returns-else-old-eq39 c =
    not_last _ _ c.if-auxiliary.n _
    (elim c.if-auxiliary.branch [ then-auxiliary w ↦ rw (w.if-auxiliary.true, w.n-is) refl | else-auxiliary w ↦ rw (w.if-auxiliary.false, w.n-is) refl ])
    c.next_x.ensures c.if-old-eq39.false
