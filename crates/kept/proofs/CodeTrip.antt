-- Demand 2: three code bytes written to R1, R2 and R3 and stored by KRF are the three that KRF reads back.
-- Assumes nothing.
use Rattle.std.specs.Prelude.{Some}
use Prim.Native.Nat.{ℕ, ◌≤◌}
use mathlib.Core.Path.{◌≡◌, refl, ap, ◌∙◌}
use mathlib.Core.Bool.{Bool, true, false}
use mathlib.Core.List.{List, [], ◌∷◌, ◌++◌}
use native.Mathlib.Omega.{arith}
use lib.ListN.{get_or, set}
use Rattle.address.specs.Addresses.{code_addresses, all_fitted}
use Rattle.board.specs.declared.Part.{Part}
use Rattle.address.specs.Pointers.{main_pointer}
use Rattle.command.specs.declared.Command.TheVariants.{Krf}
use Rattle.command.specs.Commands.{command_of}
use Rattle.command.proofs.Listed.{named, lists_krf}
use Rattle.processor.specs.States.{register_of}
use Rattle.processor.specs.Sizes.{Sized}
use Rattle.kept.specs.Demands.{krf_code, execute, code_replies, Idle, CodeRoundTrip}
use Rattle.kept.specs.Quiet.{Quiet}
use Rattle.kept.specs.Runs.{Operation, World, first, step, run, Reply, reply}
use Rattle.kept.proofs.Boards.{Whole, run_whole, power_up_whole, run_power_up}
use Rattle.kept.proofs.Pointed.{point_in, Uses, Journey, trip, meant, same_pointer, stored_now, read_now, quiet_back, round_trip}
use Rattle.kept.proofs.Programs.{eight, Put, to, puts, put_into, answers, Holds}
use Rattle.kept.proofs.RoundTrip.{code_kept_in}
use Rattle.kept.proofs.Sizes.{run_sized, power_up_sized}
use Rattle.kept.proofs.Trips.{Trip, storing, reading, back, end}

krf_code_lem : (reads increments : Bool) → command_of (krf_code reads increments) ≡ Some (Krf reads increments)
unfolding command_of
krf_code_lem true true = refl
krf_code_lem true false = refl
krf_code_lem false true = refl
krf_code_lem false false = refl

krf_uses : (part : Part) (reads increments : Bool) → Uses part false code_addresses (krf_code reads increments) (Some (Krf reads increments))
krf_uses part reads increments =
    record { is = named part _ _ (krf_code_lem reads increments) (lists_krf part reads increments); listed = refl; calm = refl; at = λ p. refl }

abbrev values : ℕ → ℕ → ℕ → List Put
values c b a = to 1 c ∷ to 2 b ∷ to 3 a ∷ []

answered : (c b a : ℕ) → answers (values c b a) ≡ code_replies c b a
answered c b a = refl

module _ (part : Part) (r6 r7 c b a : ℕ) where
  abbrev pointer : List Put
  pointer = to 6 r6 ∷ to 7 r7 ∷ []

  abbrev coded : List Put
  coded = pointer ++ values c b a

  -- what R1, R2 and R3 hold
  abbrev Codes : List ℕ → Type 0
  Codes l = (get_or l 1 0 ≡ c) × (get_or l 2 0 ≡ b) × (get_or l 3 0 ≡ a)

  -- the trip from a world w
  module _
      (i j : Bool) (w : World) (o : w.processor.part ≡ part) (g : all_fitted (code_addresses w.processor.blocks (main_pointer part r6 r7)) ≡ true)
      (long : Whole w) (calm : Idle w) (s : Sized w.processor) (between : List Operation)
      (rests : Idle (run between (step (execute (krf_code false i)) (run (puts coded) w)))) where
    abbrev journey : Journey part false code_addresses (main_pointer part r6 r7) Codes (Some (Krf false i)) (Some (Krf true j))
    journey =
        record {
          pointers = pointer;
          values = values c b a;
          named = (omega arith, (omega arith, tt));
          all_named = (omega arith, (omega arith, (omega arith, (omega arith, (omega arith, tt)))));
          silent = λ w. (refl, (refl, tt));
          points = λ code. eight (λ l. point_in part false (set (put_into pointer l) 0 code) ≡ main_pointer part r6 r7) (λ a b c d e f g h. refl);
          means =
              λ code.
              eight (λ l. (point_in part false (set (put_into coded l) 0 code) ≡ main_pointer part r6 r7) × Codes (set (put_into coded l) 0 code))
              (λ a b c d e f g h. (refl, (refl, refl, refl)));
          store = krf_code false i;
          load = krf_code true j;
          stores = krf_uses part false i;
          loads = krf_uses part true j;
          from = w;
          of = o;
          ok = g;
          whole = long;
          idle = calm;
          sized = s;
          between = between;
          rests = rests;
        }

    abbrev t : Trip
    t = trip _ _ _ _ _ _ _ journey

    kept :
        Quiet between (step (storing t) t.ready) → (n : ℕ) → 1 ≤ n → n ≤ 3 →
        register_of (end t).processor n ≡ get_or (set t.ready.processor.registers 0 (krf_code false i)) n 0
    kept quiet n l h =
        code_kept_in t.ready t.sized (storing t) (back t) (reading t) i j refl (stored_now _ _ _ _ _ _ _ journey) (quiet_back _ _ _ _ _ _ _ journey quiet) refl
        (read_now _ _ _ _ _ _ _ journey) (same_pointer _ _ _ _ _ _ _ journey) n l h

    holds : Quiet between (step (storing t) t.ready) → Holds (values c b a) (end t).processor
    holds quiet =
        let m = meant _ _ _ _ _ _ _ journey in (
          (omega arith, omega arith, kept quiet 1 (omega arith) (omega arith) ∙ m.0),
          (
            (omega arith, omega arith, kept quiet 2 (omega arith) (omega arith) ∙ m.1),
            ((omega arith, omega arith, kept quiet 3 (omega arith) (omega arith) ∙ m.2), tt),
          ),
        )

pub code_round_trip : CodeRoundTrip
code_round_trip part blocks m rom picture before between r6 r7 c b a i j e g calm quiet rests =
    let w = first part blocks m rom picture in
    let u = run before w in
    let whole = run_whole before w (power_up_whole part blocks m e) in
    let sized = run_sized before w (power_up_sized part blocks) in
    let board = run_power_up part blocks before m rom picture in
    let fits = ap (λ (n : ℕ). all_fitted (code_addresses n (main_pointer part r6 r7))) board.1 ∙ g in
    round_trip _ _ _ _ _ _ _ (journey part r6 r7 c b a i j u board.0 fits whole calm sized between rests) (values c b a)
    (holds part r6 r7 c b a i j u board.0 fits whole calm sized between rests quiet)
    ∙ ap (λ (l : List Reply). reply 0 0 ∷ reply 0 0 ∷ reply 0 0 ∷ l) (answered c b a)
