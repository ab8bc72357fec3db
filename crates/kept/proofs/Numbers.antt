-- Demand 1: the number answered is that of the first condition, in the order of the rules, that holds, and the rules say what comes with it.
-- Assumes nothing.
use Rattle.std.specs.Prelude.{Result, Ok, Err}
use Prim.Native.Nat.{ℕ}
use mathlib.Core.Path.{◌≡◌, refl, ap, ◌∙◌}
use mathlib.Core.Bool.{Bool}
use mathlib.Core.List.{List}
use mathlib.Core.Logic.{◌≢◌}
use lib.Dec.{eqb}
use Rattle.basics.proofs.Choice.{pick_same}
use Rattle.basics.specs.Choice.{pick}
use Rattle.page.specs.Marks.{marked_rows}
use Rattle.processor.specs.declared.state.Processor.{Processor}
use Rattle.command.specs.declared.answer.DrawRefusal.{DrawRefusal}
use Rattle.command.specs.declared.answer.DrawRefusal.TheVariants as drawing
use Rattle.command.specs.Answers.{number_of, value_of, draw_number_of, rows_of}
use Rattle.processor.specs.States.{Chip}
use Rattle.processor.specs.Access.{Outcome}
use Rattle.processor.specs.Draws.{DrawOutcome, drawn_page, drawn}
use Rattle.kept.specs.Demands.{AnsweredInOrder}
use Rattle.kept.specs.Orders.{first_of, access_order, draw_order, phase_order, step_order, is_early, order}
use Rattle.kept.specs.Runs.{Operation, write, read, turn, move, draw, World, chip_lent, lent_of, Reply, reply, done}
use Rattle.kept.proofs.Walk.{Ends, write_known, read_known, turn_known, step_known, draw_known}

-- the answer of an access, a phase change or a step, and of a draw
abbrev said : Outcome → Reply
said o = reply (number_of o.answer) (value_of o.answer)

abbrev draw_said : DrawOutcome → Reply
draw_said o = reply (draw_number_of o.answer) (rows_of o.answer)

-- an access answers with v, or 0 before the register access
access_answer :
    (address : ℕ) (held : Bool) (v : ℕ) (k : Chip) (p : Processor) →
    let n = first_of (access_order address held p k.memory) in Ends address held v k p (λ (o : Outcome). said o ≡ reply n (pick (is_early n) 0 v))
access_answer address held v k p =
    record {
      wrong_memory = λ m. rw m;
      wrong_address = λ m a. rw (m, a);
      busy = λ m a b. rw (m, a, b);
      not_executed = λ m a b x. rw (m, a, b, x);
      not_listed = λ m a b x u. rw (m, a, b, x, u);
      bad_pointer = λ m a b x u s. rw (m, a, b, x, u, s);
      not_fitted = λ m a b x u s f. rw (m, a, b, x, u, s, f);
      accepted = λ m a b x u s f. rw (m, a, b, x, u, s, f);
    }

-- a write answers 0 in any case
either_zero : (n : ℕ) → ◌≡◌ {A = ℕ} (pick (is_early n) 0 0) 0
either_zero n = pick_same {A = ℕ} (is_early n) 0

-- a refused draw has no rows
refused_rows : (a : Result ℕ DrawRefusal) (n : ℕ) → draw_number_of a ≢ 0 → rows_of a ≡ pick (eqb (draw_number_of a) 0) n 0
refused_rows (Ok rows) n refused = absurd (refused refl)
refused_rows (Err drawing.WrongMemory) n refused = refl
refused_rows (Err drawing.WrongRom) n refused = refl
refused_rows (Err drawing.WrongPicture) n refused = refl
refused_rows (Err drawing.NotBuilt) n refused = refl
refused_rows (Err drawing.LowOrigin) n refused = refl

draw_answer :
    (p : Processor) (m rom picture : List ℕ) →
    let n = first_of (draw_order p m rom picture) in draw_said (drawn p m rom picture) ≡ reply n (pick (eqb n 0) (marked_rows p.marks 25) 0)
unfolding drawn_page
draw_answer p m rom picture =
    let n = first_of (draw_order p m rom picture) in
    let rows = marked_rows p.marks 25 in
    draw_known (λ (o : DrawOutcome). draw_said o ≡ reply n (pick (eqb n 0) rows 0)) p m rom picture
    (λ a e refused. rw e (ap (reply (draw_number_of a)) (refused_rows a rows refused)))
    (λ e can. rw e)

pub answered_in_order : AnsweredInOrder
answered_in_order (write x address v) w =
    write_known _ address v (chip_lent x w) (access_answer address _ 0 (chip_lent x w) _)
    ∙ ap (reply _) (either_zero (first_of (order (write x address v) w)))
answered_in_order (read x address) w = read_known _ address (chip_lent x w) (access_answer address _ _ (chip_lent x w) w.processor)
answered_in_order (turn x n) w =
    turn_known (λ (o : Outcome). said o ≡ reply (first_of (phase_order n w.processor (lent_of x w.memory))) 0) n (chip_lent x w)
    (λ m. rw m) (λ m e. rw (m, e)) (λ m e. rw (m, e))
answered_in_order (move x) w =
    step_known (λ (o : Outcome). said o ≡ reply (first_of (step_order w.processor (lent_of x w.memory))) 0) (chip_lent x w)
    (λ m. rw m) (λ m i. rw m) (λ m b. rw m)
answered_in_order (draw x y z) w = draw_answer w.processor (lent_of x w.memory) (lent_of y w.rom) (lent_of z w.picture)

-- the number alone
pub number_first : (o : Operation) (w : World) → (done o w).number ≡ first_of (order o w)
number_first o w = ap (λ (a : Reply). a.number) (answered_in_order o w)
