-- The frame of a round trip: what is stored, and read again later.
-- Assumes nothing.
use Prim.Native.Nat.{ℕ}
use mathlib.Core.Path.{◌≡◌, refl, sym, ap, ◌∙◌}
use mathlib.Core.List.{List, [], ◌∷◌, ◌++◌}
use Rattle.processor.specs.declared.state.Processor.{Processor}
use Rattle.processor.specs.States.{with_registers}
use Rattle.processor.specs.Sizes.{Sized}
use Rattle.kept.specs.Demands.{execute, Idle}
use Rattle.kept.specs.Runs.{Operation, World, step, run, reply, Reply, reply_to, replies}
use Rattle.kept.proofs.Boards.{Whole, run_whole}
use Rattle.kept.proofs.Programs.{run_both, replies_both, replies_on, Put, puts, Named, put_into, accepted, puts_set, puts_replies}
use Rattle.kept.proofs.Sizes.{run_sized}

-- a trip: from a world that is ready, a command that stores; operations between; pointers set back; a command that reads
pub record Trip : Type 0 where
  pub ready : World
  pub whole : Whole ready
  pub idle : Idle ready
  pub sized : Sized ready.processor
  pub store : ℕ
  pub between : List Operation
  pub pointers : List Put
  pub named : Named pointers
  pub load : ℕ
  pub rests : Idle (run between (step (execute store) ready))

module _ (t : Trip) where
  abbrev pub storing : Operation
  storing = execute t.store

  abbrev pub reading : Operation
  reading = execute t.load

  -- after the operations between, after the pointers are set back, and at the end
  abbrev pub then : World
  then = run t.between (step storing t.ready)

  then_whole : Whole then
  then_whole = run_whole (storing ∷ t.between) t.ready t.whole

  pub then_sized : Sized then.processor
  then_sized = run_sized (storing ∷ t.between) t.ready t.sized

  abbrev pub back : List Operation
  back = t.between ++ puts t.pointers

  abbrev pub there : World
  there = run back (step storing t.ready)

  pub there_whole : Whole there
  there_whole = run_whole (storing ∷ back) t.ready t.whole

  pub there_sized : Sized there.processor
  there_sized = run_sized (storing ∷ back) t.ready t.sized

  -- the registers then
  pub there_set : there.processor ≡ with_registers then.processor (put_into t.pointers then.processor.registers)
  there_set =
      ap (λ (w : World). w.processor)
      (run_both t.between (puts t.pointers) (step storing t.ready) ∙ puts_set t.pointers t.named then then_whole t.rests)

  pub there_idle : Idle there
  there_idle = ap (λ (p : Processor). p.busy) there_set ∙ t.rests

  abbrev pub end : World
  end = step reading there

  pub end_whole : Whole end
  end_whole = run_whole (reading ∷ []) there there_whole

  pub trip_replies :
      (gets : List Operation) (got : List Reply) → reply_to reading there ≡ reply 0 0 → replies gets end ≡ got →
      replies (puts t.pointers ++ reading ∷ gets) then ≡ accepted t.pointers ++ reply 0 0 ∷ got
  trip_replies gets got er eg =
      replies_both (puts t.pointers) (reading ∷ gets) then
      ∙ ap (λ (l : List Reply). l ++ replies (reading ∷ gets) (run (puts t.pointers) then)) (puts_replies t.pointers t.named then then_whole t.rests)
      ∙ ap (λ (w : World). accepted t.pointers ++ replies (reading ∷ gets) w)
      (sym (run_both t.between (puts t.pointers) (step storing t.ready)))
      ∙ ap (λ (l : List Reply). accepted t.pointers ++ l) (replies_on reading gets there end (reply 0 0) got er refl eg)
