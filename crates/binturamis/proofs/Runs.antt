-- Calls in a row from the power-up of a board leave the memory and the picture of the same run of operations, and 64 bytes that hold its processor; and
-- they answer what it answers: so what is proved of every run holds of the calls.
-- Assumes nothing.
use Prim.Native.Nat.{ℕ}
use mathlib.Core.Path.{◌≡◌, refl, sym, ap, ◌∙◌}
use mathlib.Core.Bool.{Bool, true, false}
use mathlib.Core.List.{List, [], ◌∷◌}
use mathlib.Core.Logic.{⊎_elim}
use lib.Dec.{eqb}
use borrow.Author.Tests.{eqb-true}
use Rattle.basics.specs.Choice.{pick}
use Rattle.basics.proofs.Choice.{or_cases, pick_same}
use Rattle.board.specs.Boards.{is_board}
use Rattle.board.specs.declared.Part.{Part}
use Rattle.processor.specs.declared.state.Processor.{Processor}
use Rattle.processor.specs.Sizes.{Sized}
use Rattle.kept.specs.Orders.{is_early, is_late}
use Rattle.kept.specs.Runs.{Operation, write, read, turn, move, draw, World, first, step, run, done, registered}
use Rattle.kept.proofs.Boards.{board_stays, power_up_board}
use Rattle.kept.proofs.Refusals.{refusal_leaves}
use Rattle.kept.proofs.Sizes.{step_sized, run_sized, power_up_sized}
use Rattle.packing.specs.Layouts.{packed, unpacked}
use Rattle.packing.proofs.RoundTrip.{unpacked_packed}
use Rattle.binturamis.specs.Calls.{word, is_refusal, bytes_after}
use Rattle.binturamis.specs.Promises.{CallsRun, CallsHold, CallsAnswer, leaves_alone}
use Rattle.binturamis.specs.Runs.{Caller, CallDone, caller_of, called_by, call, calls}
use Rattle.binturamis.proofs.Refusals.{early_refuses, refusal_refuses}

-- bytes that are left alone hold the processor that the operation left
alone : (unchanged : Bool) (p q : Processor) → (unchanged ≡ true → q ≡ p) → bytes_after unchanged (packed p) q ≡ packed q
alone true p q e = ap packed (sym (e refl))
alone false p q e = refl

-- 1, 2 and 10 are not 3, 4 or 11
early_not_late : (n : ℕ) (p q : Processor) → is_early n ≡ true → pick (is_late n) p q ≡ q
early_not_late n p q e =
    ⊎_elim (λ o. rw (eqb-true n 1 o))
    (λ r. ⊎_elim (λ t. rw (eqb-true n 2 t)) (λ t. rw (eqb-true n 10 t)) (or_cases (eqb n 2) (eqb n 10) r)) (or_cases (eqb n 1) _ e)

-- where a call leaves them alone, the operation left the processor as it was
stays : (o : Operation) (w : World) → leaves_alone o (done o w).number ≡ true → (done o w).processor ≡ w.processor
stays (write x address v) w e =
    let n = (done (write x address v) w).number in
    (refusal_leaves (write x address v) w (early_refuses n e)).0 ∙ early_not_late n (registered (write x address v) w) w.processor e
stays (read x address) w e = (refusal_leaves (read x address) w (refusal_refuses _ e)).0 ∙ pick_same (is_late (done (read x address) w).number) w.processor
stays (turn x n) w e = (refusal_leaves (turn x n) w (refusal_refuses _ e)).0 ∙ pick_same (is_late (done (turn x n) w).number) w.processor
stays (move x) w e = (refusal_leaves (move x) w (refusal_refuses _ e)).0 ∙ pick_same (is_late (done (move x) w).number) w.processor
stays (draw x y z) w e = (refusal_leaves (draw x y z) w (refusal_refuses _ e)).0 ∙ pick_same (is_late (done (draw x y z) w).number) w.processor

-- the processor is one of a board, and stays one
abbrev Board : World → Type 0
Board w = is_board w.processor.part w.processor.blocks ≡ true

board_after : (os : List Operation) (w : World) → Board w → Board (run os w)
board_after os w b = rw ((board_stays os w).0, (board_stays os w).1) b

-- one call on a processor that is packed is the operation on it
abbrev done_by : Operation → World → CallDone
done_by o w =
    let d = done o w in
    record { bytes = packed d.processor; memory = d.memory; picture = d.picture; number = d.number; answer = word d.number d.value }

call_done_lem : (o : Operation) (w : World) → Sized w.processor → Board w → called_by o (caller_of w) ≡ done_by o w
call_done_lem (write x address v) w s b = rw (unpacked_packed w.processor s b, alone (is_early (done (write x address v) w).number) w.processor _ (stays (write x address v) w))
call_done_lem (read x address) w s b = rw (unpacked_packed w.processor s b, alone (is_refusal (done (read x address) w).number) w.processor _ (stays (read x address) w))
call_done_lem (turn x n) w s b = rw (unpacked_packed w.processor s b, alone (is_refusal (done (turn x n) w).number) w.processor _ (stays (turn x n) w))
call_done_lem (move x) w s b = rw (unpacked_packed w.processor s b, alone (is_refusal (done (move x) w).number) w.processor _ (stays (move x) w))
call_done_lem (draw x y z) w s b = rw (unpacked_packed w.processor s b, alone (is_refusal (done (draw x y z) w).number) w.processor _ (stays (draw x y z) w))

call_step : (o : Operation) (w : World) → Sized w.processor → Board w → call o (caller_of w) ≡ caller_of (step o w)
call_step o w s b = rw (call_done_lem o w s b)

calls_from : (os : List Operation) (w : World) → Sized w.processor → Board w → calls os (caller_of w) ≡ caller_of (run os w)
calls_from [] w s b = refl
calls_from (o ∷ os) w s b = ap (calls os) (call_step o w s b) ∙ calls_from os (step o w) (step_sized o w s) (board_after (o ∷ []) w b)

-- from power-up
board_first : (part : Part) (blocks : ℕ) (m rom picture : List ℕ) → is_board part blocks ≡ true → Board (first part blocks m rom picture)
board_first part blocks m rom picture b = rw ((power_up_board part blocks).0, (power_up_board part blocks).1) b

pub calls_run : CallsRun
calls_run os part blocks m rom picture b =
    calls_from os (first part blocks m rom picture) (power_up_sized part blocks) (board_first part blocks m rom picture b)

pub calls_hold : CallsHold
calls_hold os part blocks m rom picture b =
    let w = first part blocks m rom picture in
    ap (λ (b : Caller). unpacked b.bytes) (calls_run os part blocks m rom picture b)
    ∙ unpacked_packed (run os w).processor (run_sized os w (power_up_sized part blocks)) (board_after os w (board_first part blocks m rom picture b))

pub calls_answer : CallsAnswer
calls_answer os o part blocks m rom picture b =
    let w = first part blocks m rom picture in
    ap (λ (b : Caller). (called_by o b).answer) (calls_run os part blocks m rom picture b)
    ∙ ap (λ (d : CallDone). d.answer)
    (call_done_lem o (run os w) (run_sized os w (power_up_sized part blocks)) (board_after os w (board_first part blocks m rom picture b)))
