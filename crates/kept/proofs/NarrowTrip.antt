-- Demand 2: a 12-bit code written to R1 and R3 and stored by KRL is the one that KRL reads back.
-- Assumes nothing.
use Rattle.std.specs.Prelude.{Some}
use Prim.Native.Nat.{ℕ}
use mathlib.Core.Path.{◌≡◌, refl, ap, ◌∙◌}
use mathlib.Core.Bool.{Bool, true, false}
use mathlib.Core.List.{List, [], ◌∷◌, ◌++◌}
use native.Mathlib.Omega.{arith}
use lib.ListN.{get_or, set}
use Rattle.address.specs.Addresses.{narrow_addresses, all_fitted}
use Rattle.address.specs.Narrow.{is_odd, nibble_for, both_halves}
use Rattle.board.specs.declared.Part.TheVariants.{Ef9345}
use Rattle.address.specs.Pointers.{main_pointer}
use Rattle.address.specs.declared.triple.Triple.{Triple}
use Rattle.command.specs.declared.Command.TheVariants.{Krl}
use Rattle.command.specs.Commands.{command_of}
use Rattle.command.proofs.Listed.{named}
use Rattle.processor.specs.States.{register_of}
use Rattle.processor.specs.Sizes.{Sized}
use Rattle.kept.specs.Demands.{krl_code, execute, narrow_replies, Idle, NarrowRoundTrip}
use Rattle.kept.specs.Quiet.{Quiet}
use Rattle.kept.specs.Runs.{Operation, World, first, step, run, registered, Reply, reply}
use Rattle.kept.proofs.Boards.{Whole, run_whole, power_up_whole, run_power_up}
use Rattle.kept.proofs.Pointed.{point_in, Uses, Journey, trip, meant, stored_at, same_pointer, stored_now, read_now, quiet_back, round_trip}
use Rattle.kept.proofs.Programs.{eight, Put, to, puts, put_into, answers, Holds}
use Rattle.kept.proofs.RoundTrip.{narrow_kept_in}
use Rattle.kept.proofs.Sizes.{run_sized, power_up_sized}
use Rattle.kept.proofs.Trips.{Trip, storing, reading, back, end}

krl_code_lem : (reads increments : Bool) → command_of (krl_code reads increments) ≡ Some (Krl reads increments)
unfolding command_of
krl_code_lem true true = refl
krl_code_lem true false = refl
krl_code_lem false true = refl
krl_code_lem false false = refl

krl_uses : (reads increments : Bool) → Uses Ef9345 false narrow_addresses (krl_code reads increments) (Some (Krl reads increments))
krl_uses reads increments = record { is = named Ef9345 _ _ (krl_code_lem reads increments) refl; listed = refl; calm = refl; at = λ p. refl }

-- what they hold at the end
abbrev read : Triple → ℕ → ℕ → List Put
read t c a = to 1 c ∷ to 3 (both_halves (nibble_for (is_odd t) a)) ∷ []

answered : (t : Triple) (c a : ℕ) → answers (read t c a) ≡ narrow_replies t c a
answered t c a = refl

module _ (r6 r7 c a : ℕ) where
  abbrev pointer : List Put
  pointer = to 6 r6 ∷ to 7 r7 ∷ []

  abbrev coded : List Put
  coded = pointer ++ to 1 c ∷ to 3 a ∷ []

  -- what R1 and R3 hold
  abbrev Codes : List ℕ → Type 0
  Codes l = (get_or l 1 0 ≡ c) × (get_or l 3 0 ≡ a)

  -- the trip from a world w
  module _
      (i j : Bool) (w : World) (o : w.processor.part ≡ Ef9345) (g : all_fitted (narrow_addresses w.processor.blocks (main_pointer Ef9345 r6 r7)) ≡ true)
      (long : Whole w) (calm : Idle w) (s : Sized w.processor) (between : List Operation)
      (rests : Idle (run between (step (execute (krl_code false i)) (run (puts coded) w)))) where
    abbrev journey : Journey Ef9345 false narrow_addresses (main_pointer Ef9345 r6 r7) Codes (Some (Krl false i)) (Some (Krl true j))
    journey =
        record {
          pointers = pointer;
          values = to 1 c ∷ to 3 a ∷ [];
          named = (omega arith, (omega arith, tt));
          all_named = (omega arith, (omega arith, (omega arith, (omega arith, tt))));
          silent = λ w. (refl, (refl, tt));
          points = λ code. eight (λ l. point_in Ef9345 false (set (put_into pointer l) 0 code) ≡ main_pointer Ef9345 r6 r7) (λ a b c d e f g h. refl);
          means =
              λ code.
              eight (λ l. (point_in Ef9345 false (set (put_into coded l) 0 code) ≡ main_pointer Ef9345 r6 r7) × Codes (set (put_into coded l) 0 code))
              (λ a b c d e f g h. (refl, (refl, refl)));
          store = krl_code false i;
          load = krl_code true j;
          stores = krl_uses false i;
          loads = krl_uses true j;
          from = w;
          of = o;
          ok = g;
          whole = long;
          idle = calm;
          sized = s;
          between = between;
          rests = rests;
        }

    abbrev t : Trip
    t = trip _ _ _ _ _ _ _ journey

    holds : Quiet between (step (storing t) t.ready) → Holds (read (main_pointer Ef9345 r6 r7) c a) (end t).processor
    holds quiet =
        let kept =
        narrow_kept_in t.ready t.sized (storing t) (back t) (reading t) i j refl (stored_now _ _ _ _ _ _ _ journey) (quiet_back _ _ _ _ _ _ _ journey quiet)
        refl (read_now _ _ _ _ _ _ _ journey) (same_pointer _ _ _ _ _ _ _ journey) in
        let m = meant _ _ _ _ _ _ _ journey in
        let r3 = register_of (registered (storing t) t.ready) 3 in
        let nibble =
        ap (λ (u : Triple). both_halves (nibble_for (is_odd u) r3)) (stored_at _ _ _ _ _ _ _ journey)
        ∙ ap (λ (v : ℕ). both_halves (nibble_for (is_odd (main_pointer Ef9345 r6 r7)) v)) m.1 in
        ((omega arith, omega arith, kept.0 ∙ m.0), ((omega arith, omega arith, kept.1 ∙ nibble), tt))

pub narrow_round_trip : NarrowRoundTrip
narrow_round_trip blocks m rom picture before between r6 r7 c a i j e g calm quiet rests =
    let w = first Ef9345 blocks m rom picture in
    let u = run before w in
    let whole = run_whole before w (power_up_whole Ef9345 blocks m e) in
    let sized = run_sized before w (power_up_sized Ef9345 blocks) in
    let board = run_power_up Ef9345 blocks before m rom picture in
    let fits = ap (λ (n : ℕ). all_fitted (narrow_addresses n (main_pointer Ef9345 r6 r7))) board.1 ∙ g in
    round_trip _ _ _ _ _ _ _ (journey r6 r7 c a i j u board.0 fits whole calm sized between rests) (read (main_pointer Ef9345 r6 r7) c a)
    (holds r6 r7 c a i j u board.0 fits whole calm sized between rests quiet)
    ∙ ap (λ (l : List Reply). reply 0 0 ∷ reply 0 0 ∷ reply 0 0 ∷ l) (answered (main_pointer Ef9345 r6 r7) c a)
