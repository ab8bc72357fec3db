use Rattle.processor.proofs.Carrying.{both_bare}
use borrow.Author.Tests.{not-false}
use mathlib.Core.Path.{sym, ◌∙◌}
use Rattle.moves.proofs.Spans.{le_not_lt}
use Rattle.address.proofs.Fits.{byte_illegal, code_illegal, narrow_illegal, byte_bare, code_bare, narrow_bare}
use Rattle.processor.proofs.execute.is_unfitted.Goals as goal

pub returns-in-Krf : goal.returns-in-Krf
returns-in-Krf c = let legal = not-false _ (sym (code_illegal _ _) ∙ rw c.in-Krf.is at c.requires.1) in
    rw (c.in-Krf.is, c.is_code_fitted.ensures, c.pointer.ensures) (sym (code_bare _ _ legal))

pub returns-in-Oct : goal.returns-in-Oct
returns-in-Oct c = let legal = not-false _ (sym (byte_illegal _ _) ∙ rw c.in-Oct.is at c.requires.1) in
    rw (c.in-Oct.is, c.pointer-in-Oct.ensures) (le_not_lt _ c.args.p.blocks ∙ sym (byte_bare _ _ legal))

pub returns-in-Krl : goal.returns-in-Krl
returns-in-Krl c = let legal = not-false _ (sym (narrow_illegal _ _) ∙ rw c.in-Krl.is at c.requires.1) in
    rw (c.in-Krl.is, c.is_narrow_fitted.ensures, c.pointer-in-Krl.ensures) (sym (narrow_bare _ _ legal))

pub returns-in-Move : goal.returns-in-Move
returns-in-Move c = let bytes = (rw c.in-Move.is at c.requires.0).0 in
    rw (c.in-Move.is, both_bare _ c.in-Move.field-1 c.in-Move.field-2 c.args.p bytes (rw c.in-Move.is at c.requires.1)) c.are_bare.ensures
