-- Operations that store nothing leave the memory, and so does a run of them.
-- Assumes nothing.
use Rattle.std.specs.Prelude.{Some}
use Prim.Native.Nat.{ℕ}
use mathlib.Core.Path.{◌≡◌, refl, sym, ◌∙◌}
use mathlib.Core.Bool.{Bool, false, ◌&&◌, false≢true}
use mathlib.Core.List.{List}
use lib.Dec.{eqb}
use Rattle.basics.specs.Bits.{is_set}
use Rattle.basics.specs.Choice.{pick}
use Rattle.basics.proofs.Choice.{and_both, or_neither}
use Rattle.command.specs.declared.Command.TheVariants.{Nop}
use Rattle.command.specs.Answers.{number_of}
use Rattle.processor.specs.declared.state.Processor.{Processor}
use Rattle.processor.specs.States.{Chip, chip}
use Rattle.processor.specs.Access.{Outcome, is_whole}
use Rattle.kept.specs.Quiet.{is_store, stores, Quiet}
use Rattle.kept.specs.Runs.{own, other, Operation, write, read, turn, move, draw, World, chip_lent, step, run}
use Rattle.kept.proofs.Memory.{phased_same}
use Rattle.kept.proofs.Walk.{Ends, KeptBy, command_in, write_known, read_known, turn_keeps, step_known, effect_keeps, run_known}

-- a command that stores nothing keeps the memory
unstored : (m : List ℕ) → KeptBy is_store (λ (k : Chip). k.memory ≡ m)
unstored m =
    record {
      register = λ k n v e. e;
      lx = λ k l a e. e;
      store = λ c s n t g v k e. absurd (false≢true (sym n ∙ s));
      ind = λ r n k e. e;
      busy = λ c t n k b e. e;
    }

-- an access whose command, if it is accepted, stores nothing
abbrev Silent : ℕ → Processor → Outcome → Type 0
Silent address p o = is_store (pick (is_set 3 address && eqb (number_of o.answer) 0) (command_in p) (Some Nop)) ≡ false

access_quiet :
    (address : ℕ) (held : Bool) (v : ℕ) (k : Chip) (p : Processor) → Ends address held v k p (λ (o : Outcome). Silent address p o → o.left.memory ≡ k.memory)
access_quiet address held v k p =
    record {
      wrong_memory = λ m e. refl;
      wrong_address = λ m a e. refl;
      busy = λ m a b e. refl;
      not_executed = λ m a b x e. refl;
      not_listed = λ m a b x u e. refl;
      bad_pointer = λ m a b x u s e. refl;
      not_fitted = λ m a b x u s f e. refl;
      accepted = λ m a b x u s f e. effect_keeps is_store _ (unstored k.memory) (command_in p) (rw x at e) (chip p k.memory) (λ z. s) refl;
    }

-- a step that moves nothing: it is refused, or nothing runs
not_moving : (w : World) → stores (move own) w ≡ false → (is_whole (chip_lent own w) && w.processor.busy) ≡ false
not_moving w e = e

pub quiet_step : (o : Operation) (w : World) → stores o w ≡ false → (step o w).memory ≡ w.memory
quiet_step (write own address v) w e = write_known _ address v (chip_lent own w) (access_quiet address _ 0 (chip_lent own w) _) (or_neither _ _ e)
quiet_step (write (other b) address v) w e = refl
quiet_step (read own address) w e = read_known _ address (chip_lent own w) (access_quiet address _ _ (chip_lent own w) w.processor) (or_neither _ _ e)
quiet_step (read (other b) address) w e = refl
quiet_step (turn own n) w e = turn_keeps (λ (k : Chip). k.memory ≡ w.memory) n (chip_lent own w) refl (phased_same n (chip_lent own w))
quiet_step (turn (other b) n) w e = refl
quiet_step (move own) w e = step_known (λ (o : Outcome). o.left.memory ≡ w.memory) (chip_lent own w) (λ m. refl) (λ m i. refl) (λ m b. absurd (false≢true (sym (not_moving w e) ∙ and_both (is_whole (chip_lent own w)) w.processor.busy m b)))
quiet_step (move (other b)) w e = refl
quiet_step (draw own y z) w e = refl
quiet_step (draw (other b) y z) w e = refl

pub quiet_run : (os : List Operation) (w : World) → Quiet os w → (run os w).memory ≡ w.memory
quiet_run os w q =
    (run_known (λ os u. Quiet os u × (u.memory ≡ w.memory)) (λ o os u h. (h.0.1, quiet_step o u h.0.0 ∙ h.1)) os w (q, refl)).1
