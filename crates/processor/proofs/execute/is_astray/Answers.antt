use mathlib.Core.Path.{refl, sym}
use Rattle.address.proofs.Fits.{byte_illegal, code_illegal, narrow_illegal}
use Rattle.processor.proofs.Carrying.{both_astray}
use Rattle.processor.proofs.execute.is_astray.Goals as goal

pub returns-in-Krf : goal.returns-in-Krf
returns-in-Krf c = rw (c.in-Krf.is, c.is_legal.ensures, c.pointer.ensures) (sym (code_illegal _ _))

pub returns-in-Oct : goal.returns-in-Oct
returns-in-Oct c = rw (c.in-Oct.is, c.is_legal-in-Oct.ensures, c.pointer-in-Oct.ensures) (sym (byte_illegal _ _))

pub returns-in-Krl : goal.returns-in-Krl
returns-in-Krl c = rw (c.in-Krl.is, c.is_legal-in-Krl.ensures, c.pointer-in-Krl.ensures) (sym (narrow_illegal _ _))

pub returns-in-Move : goal.returns-in-Move
returns-in-Move c = let bytes = (rw c.in-Move.is at c.requires).0 in
    rw (c.in-Move.is, both_astray _ c.in-Move.field-1 c.in-Move.field-2 c.args.p bytes, c.are_legal.ensures) refl
