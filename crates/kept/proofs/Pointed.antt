-- A round trip by commands that have a pointer, whichever they are: the pointers and the values are written, and the two commands run.
-- Assumes nothing.
use Rattle.std.specs.Prelude.{Option, is_none}
use Prim.Native.Nat.{ℕ}
use mathlib.Core.Path.{◌≡◌, sym, ap, subst, ◌∙◌}
use mathlib.Core.Bool.{Bool, true, false}
use mathlib.Core.List.{List, ◌∷◌, ◌++◌}
use lib.ListN.{length, get_or, set}
use Rattle.basics.specs.Choice.{pick}
use Rattle.address.specs.Addresses.{Address, is_illegal, is_not_fitted, some_address, all_fitted}
use Rattle.address.proofs.Fits.{all_illegal, all_bare}
use Rattle.board.specs.declared.Part.{Part}
use Rattle.address.specs.Pointers.{main_pointer, auxiliary_pointer}
use Rattle.address.specs.declared.triple.Triple.{Triple}
use Rattle.command.specs.declared.Command.{Command}
use Rattle.command.specs.Commands.{command_for}
use Rattle.processor.specs.declared.state.Processor.{Processor}
use Rattle.processor.specs.Access.{addresses_of, is_astray, is_unfitted}
use Rattle.processor.specs.Pointers.{pointer_of}
use Rattle.processor.specs.States.{with_registers}
use Rattle.processor.specs.Sizes.{Sized}
use Rattle.kept.specs.Demands.{execute, Idle}
use Rattle.kept.specs.Quiet.{command_run, Quiet}
use Rattle.kept.specs.Runs.{Operation, World, step, run, registered, reply, reply_to, replies}
use Rattle.kept.proofs.Boards.{Whole, board_stays, run_whole}
use Rattle.kept.proofs.Programs.{idle_free, execute_reply, execute_runs, quiet_both, Put, puts, Named, put_into, accepted, puts_set, gets, answers, Holds, gets_replies}
use Rattle.kept.proofs.Ran.{command_ran}
use Rattle.kept.proofs.Running.{busy_kept, no_nop}
use Rattle.kept.proofs.Sizes.{run_sized}
use Rattle.kept.proofs.Walk.{turns_busy, effect_keeps}
use Rattle.kept.proofs.Trips.{Trip, storing, reading, then, then_sized, back, there, there_whole, there_sized, there_set, there_idle, end, end_whole, trip_replies}

-- the pointer in a list of registers of a part
abbrev pub point_in : Part → Bool → List ℕ → Triple
point_in part auxiliary l =
    pick auxiliary (auxiliary_pointer part (get_or l 4 0) (get_or l 5 0) (get_or l 6 0)) (main_pointer part (get_or l 6 0) (get_or l 7 0))

-- a command that uses it, with the addresses that it asks for there on a board
pub record Uses (part : Part) (auxiliary : Bool) (asked : ℕ → Triple → List Address) (code : ℕ) (c : Option Command) : Type 0 where
  pub is : command_for part code ≡ c
  pub listed : is_none c ≡ false
  pub calm : turns_busy c ≡ false
  pub at : (p : Processor) → addresses_of c p ≡ asked p.blocks (pointer_of auxiliary p)

-- pointers and values are written from a world w; c stores, and d reads after the operations between
pub record Journey
    (part : Part) (auxiliary : Bool) (asked : ℕ → Triple → List Address) (meaning : Triple) (Means : List ℕ → Type 0) (c d : Option Command)
    : Type 0 where
  pub pointers : List Put
  pub values : List Put
  pub named : Named pointers
  pub all_named : Named (pointers ++ values)
  pub silent : (w : World) → Quiet (puts pointers) w
  pub points : (code : ℕ) (l : List ℕ) → length l ≡ 8 → point_in part auxiliary (set (put_into pointers l) 0 code) ≡ meaning
  pub means :
      (code : ℕ) (l : List ℕ) → length l ≡ 8 →
      (point_in part auxiliary (set (put_into (pointers ++ values) l) 0 code) ≡ meaning) × Means (set (put_into (pointers ++ values) l) 0 code)
  pub store : ℕ
  pub load : ℕ
  pub stores : Uses part auxiliary asked store c
  pub loads : Uses part auxiliary asked load d
  pub from : World
  pub of : from.processor.part ≡ part
  pub ok : all_fitted (asked from.processor.blocks meaning) ≡ true
  pub whole : Whole from
  pub idle : Idle from
  pub sized : Sized from.processor
  pub between : List Operation
  pub rests : Idle (run between (step (execute store) (run (puts (pointers ++ values)) from)))

module _
    (part : Part) (x : Bool) (asked : ℕ → Triple → List Address) (meaning : Triple) (Means : List ℕ → Type 0) (c d : Option Command)
    (j : Journey part x asked meaning Means c d) where
  abbrev writes : List Put
  writes = j.pointers ++ j.values

  pub ready_idle : Idle (run (puts writes) j.from)
  ready_idle = ap (λ (u : World). u.processor.busy) (puts_set writes j.all_named j.from j.whole j.idle) ∙ j.idle

  abbrev pub trip : Trip
  trip =
      record {
        ready = run (puts writes) j.from;
        whole = run_whole (puts writes) j.from j.whole;
        idle = ready_idle;
        sized = run_sized (puts writes) j.from j.sized;
        store = j.store;
        between = j.between;
        pointers = j.pointers;
        named = j.named;
        load = j.load;
        rests = j.rests;
      }

  ready_set : trip.ready.processor ≡ with_registers j.from.processor (put_into writes j.from.processor.registers)
  ready_set = ap (λ (u : World). u.processor) (puts_set writes j.all_named j.from j.whole j.idle)

  abbrev Meant : List ℕ → Type 0
  Meant l = (point_in part x l ≡ meaning) × Means l

  all_meant : Meant (registered (storing trip) trip.ready).registers
  all_meant =
      subst (λ (p : Processor). Meant (set p.registers 0 j.store)) (sym ready_set)
      (j.means j.store j.from.processor.registers j.sized.0)

  -- the values in the registers, and the pointer both times
  pub meant : Means (registered (storing trip) trip.ready).registers
  meant = all_meant.1

  -- on the board of power-up still
  ready_board : let p = registered (storing trip) trip.ready in (p.part ≡ part) × (p.blocks ≡ j.from.processor.blocks)
  ready_board = let b = board_stays (puts writes) j.from in (b.0 ∙ j.of, b.1)

  there_board : let p = registered (reading trip) (there trip) in (p.part ≡ part) × (p.blocks ≡ j.from.processor.blocks)
  there_board = let b = board_stays (storing trip ∷ back trip) trip.ready in (b.0 ∙ ready_board.0, b.1 ∙ ready_board.1)

  pub stored_at : pointer_of x (registered (storing trip) trip.ready) ≡ meaning
  unfolding pointer_of
  stored_at = ap (λ (p : Part). point_in p x (registered (storing trip) trip.ready).registers) ready_board.0 ∙ all_meant.0

  read_at : pointer_of x (registered (reading trip) (there trip)) ≡ meaning
  unfolding pointer_of
  read_at =
      ap (λ (p : Part). point_in p x (registered (reading trip) (there trip)).registers) there_board.0
      ∙ subst (λ (p : Processor). point_in part x (set p.registers 0 j.load) ≡ meaning) (sym (there_set trip))
      (j.points j.load (then trip).processor.registers (then_sized trip).0)

  pub same_pointer : pointer_of x (registered (reading trip) (there trip)) ≡ pointer_of x (registered (storing trip) trip.ready)
  same_pointer = read_at ∙ sym stored_at

  -- it is legal with all its bytes fitted, so both commands run
  straight :
      (e : Option Command) (p : Processor) → ((q : Processor) → addresses_of e q ≡ asked q.blocks (pointer_of x q)) → pointer_of x p ≡ meaning →
      p.blocks ≡ j.from.processor.blocks → (is_astray e p ≡ false) × (is_unfitted e p ≡ false)
  straight e p at ep eb =
      let there = asked j.from.processor.blocks meaning in
      let same : addresses_of e p ≡ there = at p ∙ rw (ep, eb) in
      (ap (some_address is_illegal) same ∙ all_illegal there j.ok, ap (some_address is_not_fitted) same ∙ all_bare there j.ok)

  store_straight : (is_astray c (registered (storing trip) trip.ready) ≡ false) × (is_unfitted c (registered (storing trip) trip.ready) ≡ false)
  store_straight = straight c _ j.stores.at stored_at ready_board.1

  read_straight : (is_astray d (registered (reading trip) (there trip)) ≡ false) × (is_unfitted d (registered (reading trip) (there trip)) ≡ false)
  read_straight = straight d _ j.loads.at read_at there_board.1

  store_is : command_for trip.ready.processor.part j.store ≡ c
  store_is = ap (λ (p : Part). command_for p j.store) ready_board.0 ∙ j.stores.is

  load_is : command_for (there trip).processor.part j.load ≡ d
  load_is = ap (λ (p : Part). command_for p j.load) there_board.0 ∙ j.loads.is

  pub stored_now : command_run (storing trip) trip.ready ≡ c
  stored_now =
      execute_runs trip.ready trip.whole trip.sized j.store (idle_free trip.ready j.store trip.idle) c store_is j.stores.listed store_straight.0 store_straight.1

  pub read_now : command_run (reading trip) (there trip) ≡ d
  read_now =
      execute_runs (there trip) (there_whole trip) (there_sized trip) j.load (idle_free (there trip) j.load (there_idle trip)) d load_is j.loads.listed read_straight.0 read_straight.1

  read_reply : reply_to (reading trip) (there trip) ≡ reply 0 0
  read_reply =
      execute_reply (there trip) (there_whole trip) (there_sized trip) j.load (idle_free (there trip) j.load (there_idle trip)) d load_is j.loads.listed read_straight.0 read_straight.1

  -- a command that neither starts nor ends a move leaves none running
  end_idle : Idle (end trip)
  end_idle =
      let ran = command_ran (reading trip) (there trip) d (no_nop d j.loads.calm) read_now in
      ap (λ (p : Processor). p.busy) ran.0
      ∙ effect_keeps turns_busy _ (busy_kept false) d j.loads.calm _ (λ s. ran.3) (there_idle trip)

  pub quiet_back : Quiet j.between (step (storing trip) trip.ready) → Quiet (back trip) (step (storing trip) trip.ready)
  quiet_back quiet = quiet_both j.between (puts j.pointers) (step (storing trip) trip.ready) quiet (j.silent _)

  -- what the registers hold at the end is what is replied
  pub round_trip :
      (ps : List Put) → Holds ps (end trip).processor →
      replies (puts j.pointers ++ reading trip ∷ gets ps) (then trip) ≡ accepted j.pointers ++ reply 0 0 ∷ answers ps
  round_trip ps holds = trip_replies trip (gets ps) (answers ps) read_reply (gets_replies ps (end trip) (end_whole trip) end_idle holds)
