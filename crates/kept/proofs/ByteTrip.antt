-- Demand 2: one byte written to R1 and stored by OCT is the one that OCT reads back.
-- Assumes nothing.
use Rattle.std.specs.Prelude.{Some}
use Prim.Native.Nat.{ℕ}
use mathlib.Core.Path.{◌≡◌, refl, ap, ◌∙◌}
use mathlib.Core.Bool.{Bool, true, false}
use mathlib.Core.List.{List, [], ◌∷◌, ◌++◌}
use native.Mathlib.Omega.{arith}
use lib.ListN.{get_or, set}
use Rattle.basics.specs.Choice.{pick}
use Rattle.address.specs.Addresses.{byte_addresses, all_fitted}
use Rattle.board.specs.declared.Part.{Part}
use Rattle.address.specs.Pointers.{main_pointer, auxiliary_pointer}
use Rattle.address.specs.declared.triple.Triple.{Triple}
use Rattle.command.specs.declared.Command.TheVariants.{Oct}
use Rattle.command.specs.Commands.{command_of}
use Rattle.command.proofs.Listed.{named, lists_oct}
use Rattle.processor.specs.Sizes.{Sized}
use Rattle.kept.specs.Demands.{oct_code, execute, Idle, ByteRoundTrip}
use Rattle.kept.specs.Quiet.{Quiet}
use Rattle.kept.specs.Runs.{Operation, World, first, step, run}
use Rattle.kept.proofs.Boards.{Whole, run_whole, power_up_whole, run_power_up}
use Rattle.kept.proofs.Pointed.{point_in, Uses, Journey, trip, meant, same_pointer, stored_now, read_now, quiet_back, round_trip}
use Rattle.kept.proofs.Programs.{eight, Put, to, puts, put_into, Holds}
use Rattle.kept.proofs.RoundTrip.{byte_kept_in}
use Rattle.kept.proofs.Sizes.{run_sized, power_up_sized}
use Rattle.kept.proofs.Trips.{Trip, storing, reading, back, end}

oct_code_lem : (reads auxiliary increments : Bool) → command_of (oct_code reads auxiliary increments) ≡ Some (Oct reads auxiliary increments)
unfolding command_of
oct_code_lem true true true = refl
oct_code_lem true true false = refl
oct_code_lem true false true = refl
oct_code_lem true false false = refl
oct_code_lem false true true = refl
oct_code_lem false true false = refl
oct_code_lem false false true = refl
oct_code_lem false false false = refl

oct_uses : (part : Part) (reads auxiliary increments : Bool) → Uses part auxiliary byte_addresses (oct_code reads auxiliary increments) (Some (Oct reads auxiliary increments))
oct_uses part reads auxiliary increments =
    record { is = named part _ _ (oct_code_lem reads auxiliary increments) (lists_oct part reads auxiliary increments); listed = refl; calm = refl; at = λ p. refl }

module _ (part : Part) (r4 r5 r6 r7 v : ℕ) (x : Bool) where
  abbrev pointers : List Put
  pointers = to 4 r4 ∷ to 5 r5 ∷ to 6 r6 ∷ to 7 r7 ∷ []

  abbrev loaded : List Put
  loaded = pointers ++ to 1 v ∷ []

  abbrev meaning : Triple
  meaning = pick x (auxiliary_pointer part r4 r5 r6) (main_pointer part r6 r7)

  -- what R1 holds
  abbrev Loads : List ℕ → Type 0
  Loads l = get_or l 1 0 ≡ v

  -- the trip from a world w
  module _
      (i j : Bool) (w : World) (o : w.processor.part ≡ part) (g : all_fitted (byte_addresses w.processor.blocks meaning) ≡ true) (long : Whole w)
      (calm : Idle w) (s : Sized w.processor) (between : List Operation)
      (rests : Idle (run between (step (execute (oct_code false x i)) (run (puts loaded) w))))
    where
      abbrev journey : Journey part x byte_addresses meaning Loads (Some (Oct false x i)) (Some (Oct true x j))
      journey =
          record {
            pointers = pointers;
            values = to 1 v ∷ [];
            named = (omega arith, (omega arith, (omega arith, (omega arith, tt))));
            all_named = (omega arith, (omega arith, (omega arith, (omega arith, (omega arith, tt)))));
            silent = λ w. (refl, (refl, (refl, (refl, tt))));
            points = λ code. eight (λ l. point_in part x (set (put_into pointers l) 0 code) ≡ meaning) (λ a b c d e f g h. refl);
            means =
                λ code.
                eight (λ l. (point_in part x (set (put_into loaded l) 0 code) ≡ meaning) × Loads (set (put_into loaded l) 0 code))
                (λ a b c d e f g h. (refl, refl));
            store = oct_code false x i;
            load = oct_code true x j;
            stores = oct_uses part false x i;
            loads = oct_uses part true x j;
            from = w;
            of = o;
            ok = g;
            whole = long;
            idle = calm;
            sized = s;
            between = between;
            rests = rests;
          }

      abbrev t : Trip
      t = trip _ _ _ _ _ _ _ journey

      holds : Quiet between (step (storing t) t.ready) → Holds (to 1 v ∷ []) (end t).processor
      holds quiet =
          let kept =
          byte_kept_in t.ready t.sized (storing t) (back t) (reading t) x x i j refl (stored_now _ _ _ _ _ _ _ journey)
          (quiet_back _ _ _ _ _ _ _ journey quiet) refl (read_now _ _ _ _ _ _ _ journey) (same_pointer _ _ _ _ _ _ _ journey) in
          ((omega arith, omega arith, kept ∙ meant _ _ _ _ _ _ _ journey), tt)

pub byte_round_trip : ByteRoundTrip
byte_round_trip part blocks m rom picture before between r4 r5 r6 r7 v x i j e g calm quiet rests =
    let w = first part blocks m rom picture in
    let u = run before w in
    let whole = run_whole before w (power_up_whole part blocks m e) in
    let sized = run_sized before w (power_up_sized part blocks) in
    let board = run_power_up part blocks before m rom picture in
    let fits = ap (λ (n : ℕ). all_fitted (byte_addresses n (pick x (auxiliary_pointer part r4 r5 r6) (main_pointer part r6 r7)))) board.1 ∙ g in
    round_trip _ _ _ _ _ _ _ (journey part r4 r5 r6 r7 v x i j u board.0 fits whole calm sized between rests) (to 1 v ∷ [])
    (holds part r4 r5 r6 r7 v x i j u board.0 fits whole calm sized between rests quiet)
