-- Each operation leaves a processor as long as it was.
-- Assumes nothing.
use Prim.Native.Nat.{ℕ}
use mathlib.Core.Path.{◌≡◌, refl, ◌∙◌}
use mathlib.Core.Bool.{Bool, true, false, not, ◌&&◌, ◌||◌}
use mathlib.Core.List.{List}
use lib.Dec.{eqb}
use lib.ListN.{length, get_or, length-set}
use Rattle.basics.proofs.Choice.{pick_either}
use Rattle.basics.proofs.Parts.{length_table}
use Rattle.board.specs.declared.Part.{Part}
use Rattle.address.specs.declared.triple.Triple.{Triple}
use Rattle.shown.specs.Modes.{is_eighty}
use Rattle.shown.specs.Refusals.{can_draw}
use Rattle.page.specs.Marks.{all_marked, marked_too}
use Rattle.reading.specs.Marks.{store_marks, phase_marks}
use Rattle.processor.specs.declared.state.Processor.{Processor}
use Rattle.processor.specs.States.{Chip, powered_up, register_of, shown_of, indirect_written}
use Rattle.processor.specs.Bytes.{stored}
use Rattle.processor.specs.Access.{Outcome, written, read_out, phased, turned}
use Rattle.processor.specs.Draws.{DrawOutcome, drawn_page, drawn}
use Rattle.processor.specs.Sizes.{Sized}
use Rattle.kept.specs.Runs.{Operation, write, read, turn, move, draw, World, lent_of, chip_lent, step, run}
use Rattle.kept.proofs.Walk as walk
use Rattle.kept.proofs.Walk.{draw_known, KeptBy, write_keeps, read_keeps, turn_keeps, none_barred, run_known}

abbrev Long : List Bool → Type 0
Long marks = length marks ≡ 25

abbrev SizedChip : Chip → Type 0
SizedChip k = Sized k.processor

-- marks, with others set or not
stored_sized : (t : Triple) (v : ℕ) (k : Chip) → SizedChip k → SizedChip (stored t v k)
unfolding stored store_marks marked_too
stored_sized t v k s = (s.0, s.1, pick_either Long (can_draw _ && not (eqb _ v)) _ _ (length_table _ 25) s.2)

phased_sized : (n : ℕ) (k : Chip) → SizedChip k → SizedChip (phased n k)
unfolding phased phase_marks marked_too
phased_sized n k s =
    pick_either SizedChip (eqb k.processor.phase n) k _ s (s.0, s.1, pick_either Long (can_draw _) _ _ (length_table _ 25) s.2)

indirect_sized : (r : ℕ) (p : Processor) → Sized p → Sized (indirect_written p r)
unfolding indirect_written
indirect_sized r p s = (
  s.0,
  length-set p.indirect r _ ∙ s.1,
  pick_either Long (not (eqb (get_or p.indirect r 0) (register_of p 1)) && (not (eqb r 2) || is_eighty (shown_of p))) all_marked p.marks (length_table (λ r. true) 25) s.2,
)

sized : KeptBy none_barred SizedChip
sized =
    record {
      register = λ k n v s. (length-set k.processor.registers n v ∙ s.0, s.1, s.2);
      lx = λ k m a s. s;
      store = λ c b n t g v k s. stored_sized t v k s;
      ind = λ r n k s. indirect_sized r k.processor s;
      busy = λ c t n k b s. s;
    }

-- accesses and the phase change
abbrev LeftSized : Outcome → Type 0
LeftSized o = SizedChip o.left

written_sized : (address v : ℕ) (k : Chip) → SizedChip k → LeftSized (written address v k)
written_sized address v k s = write_keeps none_barred SizedChip sized address v k (λ x. refl) s

read_sized : (address : ℕ) (k : Chip) → SizedChip k → LeftSized (read_out address k)
read_sized address k s = read_keeps none_barred SizedChip sized address k (λ x. refl) s

turned_sized : (n : ℕ) (k : Chip) → SizedChip k → LeftSized (turned n k)
turned_sized n k s = turn_keeps SizedChip n k s (phased_sized n k s)

-- the draw
abbrev DrawnSized : DrawOutcome → Type 0
DrawnSized o = Sized o.processor

drawn_sized : (p : Processor) (m rom picture : List ℕ) → Sized p → DrawnSized (drawn p m rom picture)
unfolding drawn_page
drawn_sized p m rom picture s = draw_known DrawnSized p m rom picture (λ a e n. s) (λ e can. (s.0, s.1, length_table (λ r. false) 25))

-- each operation, whatever it is lent, and so each run from power-up
pub step_sized : (o : Operation) (w : World) → Sized w.processor → Sized (step o w).processor
step_sized (write x address v) w s = written_sized address v (chip_lent x w) s
step_sized (read x address) w s = read_sized address (chip_lent x w) s
step_sized (turn x n) w s = turned_sized n (chip_lent x w) s
step_sized (move x) w s =
    walk.step_keeps SizedChip (λ k n v h. (length-set k.processor.registers n v ∙ h.0, h.1, h.2)) (λ k b h. h) (λ t l v k h. stored_sized t v k h)
    (chip_lent x w) s
step_sized (draw x y z) w s = drawn_sized w.processor (lent_of x w.memory) (lent_of y w.rom) (lent_of z w.picture) s

pub run_sized : (os : List Operation) (w : World) → Sized w.processor → Sized (run os w).processor
run_sized os w s = run_known (λ os u. Sized u.processor) (λ o os u h. step_sized o u h) os w s

pub power_up_sized : (part : Part) (blocks : ℕ) → Sized (powered_up part blocks)
unfolding powered_up
power_up_sized part blocks = (refl, refl, length_table (λ r. true) 25)
