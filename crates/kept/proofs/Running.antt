-- What commands do to busy.
-- Assumes nothing.
use Rattle.std.specs.Prelude.{Option, Some, None}
use mathlib.Core.Path.{◌≡◌, refl, sym, ◌∙◌}
use mathlib.Core.Bool.{Bool, false, false≢true}
use Rattle.command.specs.declared.Command.{Command}
use Rattle.command.specs.declared.Command.TheVariants.{Nop, Ind, Krf, Oct, Krl, Move}
use Rattle.processor.specs.States.{Chip, indirect_written}
use Rattle.processor.specs.Bytes.{stored}
use Rattle.kept.proofs.Ran.{is_nop}
use Rattle.kept.proofs.Walk.{KeptBy, turns_busy}

-- a command that neither starts nor ends a move leaves busy as it is, and is no NOP
pub busy_kept : (b : Bool) → KeptBy turns_busy (λ (k : Chip). k.processor.busy ≡ b)
unfolding stored indirect_written
busy_kept b =
    record {
      register = λ k n v e. e;
      lx = λ k m a e. e;
      store = λ c s n t g v k e. e;
      ind = λ r n k e. e;
      busy = λ c t n k d e. absurd (false≢true (sym n ∙ t));
    }

pub no_nop : (c : Option Command) → turns_busy c ≡ false → is_nop c ≡ false
no_nop (Some Nop) e = absurd (false≢true (sym e))
no_nop (Some (Ind r reads)) e = refl
no_nop (Some (Krf reads increments)) e = refl
no_nop (Some (Oct reads auxiliary increments)) e = refl
no_nop (Some (Krl reads increments)) e = refl
no_nop (Some (Move bytes auxiliary stops)) e = refl
no_nop None e = refl
