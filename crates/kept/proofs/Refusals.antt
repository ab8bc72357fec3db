-- Demand 1: what a refused operation leaves. After 3, 4 or 11 the register access has happened, and nothing else; after the others nothing has
-- changed.
-- Assumes nothing.
use Prim.Native.Nat.{ℕ}
use mathlib.Core.Path.{◌≡◌, refl, sym, ◌∙◌}
use mathlib.Core.Bool.{Bool}
use mathlib.Core.List.{List}
use mathlib.Core.Logic.{◌≢◌}
use borrow.Author.Tests.{ne_eqb}
use Rattle.basics.proofs.Choice.{pick_same}
use Rattle.basics.specs.Choice.{pick}
use Rattle.processor.specs.declared.state.Processor.{Processor}
use Rattle.command.specs.Answers.{number_of, draw_number_of}
use Rattle.processor.specs.States.{Chip}
use Rattle.processor.specs.Access.{Outcome, turned}
use Rattle.processor.specs.Moves.{stepped}
use Rattle.processor.specs.Draws.{DrawOutcome, drawn_page, drawn}
use Rattle.kept.specs.Demands.{RefusalLeaves}
use Rattle.kept.specs.Orders.{is_late}
use Rattle.kept.specs.Runs.{Lent, own, other, Operation, write, read, turn, move, draw, World, done, lent_of, memory_lent, picture_lent, memory_kept, picture_kept, registered, chip_lent, step}
use Rattle.kept.proofs.Walk.{Ends, write_known, read_known, turn_known, step_known, draw_known}

-- k is what there was, and p the state after the register access itself
abbrev Leaves : Chip → Processor → Outcome → Type 0
Leaves k p o =
    number_of o.answer ≢ 0 → (o.left.processor ≡ pick (is_late (number_of o.answer)) p k.processor) × (o.left.memory ≡ k.memory)

access_leaves : (address : ℕ) (held : Bool) (v : ℕ) (k : Chip) (p : Processor) → Ends address held v k p (Leaves k p)
access_leaves address held v k p =
    record {
      wrong_memory = λ m n. (refl, refl);
      wrong_address = λ m a n. (refl, refl);
      busy = λ m a b n. (refl, refl);
      not_executed = λ m a b x n. absurd (n refl);
      not_listed = λ m a b x u n. (refl, refl);
      bad_pointer = λ m a b x u s n. (refl, refl);
      not_fitted = λ m a b x u s f n. (refl, refl);
      accepted = λ m a b x u s f n. absurd (n refl);
    }

turn_leaves : (n : ℕ) (k : Chip) → Leaves k k.processor (turned n k)
turn_leaves n k = turn_known (Leaves k k.processor) n k (λ m r. (refl, refl)) (λ m e r. (refl, refl)) (λ m e r. absurd (r refl))

step_leaves : (k : Chip) → Leaves k k.processor (stepped k)
step_leaves k = step_known (Leaves k k.processor) k (λ m r. (refl, refl)) (λ m i r. absurd (r refl)) (λ m b r. absurd (r refl))

abbrev DrawLeaves : Processor → List ℕ → DrawOutcome → Type 0
DrawLeaves p picture o = draw_number_of o.answer ≢ 0 → (o.processor ≡ p) × (o.picture ≡ picture)

draw_leaves : (p : Processor) (m rom picture : List ℕ) → DrawLeaves p picture (drawn p m rom picture)
unfolding drawn_page
draw_leaves p m rom picture = draw_known (DrawLeaves p picture) p m rom picture (λ a e n u. (refl, refl)) (λ e can n. absurd (n refl))

pub refusal_leaves : RefusalLeaves
refusal_leaves (write x address v) w n =
    let l = write_known (Leaves (chip_lent x w) (registered (write x address v) w)) address v (chip_lent x w) (access_leaves address _ 0 (chip_lent x w) _) n in
    (l.0, l.1, refl)
refusal_leaves (read x address) w n =
    let l = read_known (Leaves (chip_lent x w) w.processor) address (chip_lent x w) (access_leaves address _ _ (chip_lent x w) w.processor) n in
    (l.0, l.1, refl)
refusal_leaves (turn x phase) w n = let l = turn_leaves phase (chip_lent x w) n in (l.0, l.1, refl)
refusal_leaves (move x) w n = let l = step_leaves (chip_lent x w) n in (l.0, l.1, refl)
refusal_leaves (draw x y z) w n =
    let l = draw_leaves w.processor (lent_of x w.memory) (lent_of y w.rom) (lent_of z w.picture) n in
    (l.0 ∙ sym (pick_same (is_late (done (draw x y z) w).number) w.processor), refl, l.1)

-- a world with another state, memory and picture
abbrev pub world_with : World → Processor → List ℕ → List ℕ → World
world_with w p m picture = record { processor = p; memory = m; rom = w.rom; picture = picture }

pub worlds_same :
    (w : World) (p q : Processor) (m n a b : List ℕ) → p ≡ q → m ≡ n → a ≡ b → world_with w p m a ≡ world_with w q n b
worlds_same w p q m n a b ep em ea = rw (ep, em, ea)

-- nothing is changed where the number is not 3, 4 or 11, or no register was written
memory_stays : (x : Lent) (before left : List ℕ) → left ≡ lent_of x before → memory_kept x before left ≡ before
memory_stays own before left e = e
memory_stays (other b) before left e = refl

picture_stays : (z : Lent) (n : ℕ) (before left : List ℕ) → n ≢ 0 → left ≡ lent_of z before → picture_kept z n before left ≡ before
picture_stays own n before left r e = e
picture_stays (other b) n before left r e = rw (ne_eqb n 0 r)

pub refusal_stays :
    (o : Operation) (w : World) → (done o w).number ≢ 0 → pick (is_late (done o w).number) (registered o w) w.processor ≡ w.processor → step o w ≡ w
refusal_stays o w n same =
    let l = refusal_leaves o w n in
    worlds_same w _ _ _ _ _ _ (l.0 ∙ same) (memory_stays (memory_lent o) w.memory _ l.1)
    (picture_stays (picture_lent o) (done o w).number w.picture _ n l.2)
