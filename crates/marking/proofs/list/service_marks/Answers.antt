use mathlib.Core.Path.{sym, ap, ◌∙◌}
use mathlib.Core.Bool.{Bool, ◌&&◌, and-false}
use native.Mathlib.Omega.{arith}
use lib.Dec.{eqb}
use Rattle.page.specs.HowCodes.{code_of}
use Rattle.reading.proofs.Marking.{marked_none}
use Rattle.asking.proofs.Rows.{no_character}
use Rattle.marking.proofs.Loops.{one_marked, or_found, or_asked}
use Rattle.marking.proofs.list.service_marks.Goals as goal
use Rattle.marking.proofs.list.service_marks.Goals.{then-marks-offset0, else-marks-offset0}

pub returns-after-marks-offset0 : goal.returns-after-marks-offset0
returns-after-marks-offset0 c = one_marked _ 0 _ _ c.told-marks (omega arith) (elim c.if-marks-offset0.branch [ then-marks-offset0 w ↦ or_found _ _ _ w.marks-is w.if-marks-offset0.true | else-marks-offset0 w ↦ or_asked _ _ _ _ w.marks-is w.has_keyed.ensures w.if-marks-offset0.false ])

pub returns-else-has_character : goal.returns-else-has_character
returns-else-has_character c = let s = c.args in
    marked_none _ _ c.told-marks (λ i l. ap (λ (t : Bool). eqb i 0 && t) (sym (no_character s.keys c.requires.2 (code_of s.memory.now s.z 0) 40 (sym c.has_character.ensures ∙ c.if-has_character.false))) ∙ and-false (eqb i 0))
