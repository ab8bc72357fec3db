use Rattle.processor.proofs.Carrying.{placed, moved_astray, moved_bare, moved_position}
use mathlib.Core.Path.{sym, ◌∙◌}
use Rattle.processor.proofs.step.move_on.Goals.{then-not-are_legal-via-then-not-are_legal, then-not-are_legal-via-else-not-are_legal+then-are_bare}
use Rattle.processor.proofs.step.move_on.Goals as goal

pub returns-then-not-are_legal : goal.returns-then-not-are_legal
returns-then-not-are_legal c = let a = c.args in
    rw c.with_busy.ensures
    (elim c.then-not-are_legal.branch [
      | then-not-are_legal-via-then-not-are_legal w ↦ moved_astray a.bytes a.auxiliary a.stops _ c.requires.1 (sym c.are_legal.ensures ∙ w.if-not-are_legal.true)
      | then-not-are_legal-via-else-not-are_legal+then-are_bare w ↦
          moved_bare a.bytes a.auxiliary a.stops _ c.requires.1 (sym c.are_legal.ensures ∙ w.if-not-are_legal.false) (sym w.are_bare.ensures ∙ w.if-are_bare.true)
    ])

pub position-requires : goal.position-requires
position-requires c = let a = c.args in
    let f = placed a.bytes a.auxiliary a.stops a.p c.requires.1 (sym c.are_legal.ensures ∙ c.if-not-are_legal.false) (sym c.are_bare.ensures ∙ c.if-are_bare.false) in
    (c.requires.0, c.requires.1, c.requires.2, f.0, f.1)

pub returns : goal.returns
returns c = let a = c.args in
    c.position.ensures
    ∙ moved_position a.bytes a.auxiliary a.stops _ c.requires.1 (sym c.are_legal.ensures ∙ c.if-not-are_legal.false) (sym c.are_bare.ensures ∙ c.if-are_bare.false)
