-- The part and the size that are given at power-up stay, and the memory is as long as the board is.
-- Assumes nothing.
use Prim.Native.Nat.{ℕ}
use mathlib.Core.Path.{◌≡◌, refl, sym, ap, ◌∙◌}
use mathlib.Core.Bool.{true, false}
use mathlib.Core.List.{List}
use mathlib.Core.Logic.{⊎_elim}
use lib.Dec.{eqb}
use lib.ListN.{length}
use Rattle.basics.proofs.Choice.{bool_cases, pick_either}
use Rattle.board.specs.Boards.{is_part, part_named, is_board, bytes_of}
use Rattle.board.specs.declared.Part.{Part}
use Rattle.address.specs.declared.triple.Triple.{Triple}
use Rattle.processor.specs.declared.state.Processor.{Processor}
use Rattle.processor.specs.PowerUps.{powered_up_board}
use Rattle.processor.specs.States.{Chip, powered_up, indirect_written}
use Rattle.processor.specs.Bytes.{stored}
use Rattle.processor.specs.Access.{phased}
use Rattle.processor.specs.Draws.{DrawOutcome, drawn_page, drawn}
use Rattle.kept.specs.Demands.{BoardStays, BoardChosen}
use Rattle.kept.specs.Runs.{Operation, write, read, turn, move, draw, World, first, lent_of, chip_lent, step, run}
use Rattle.kept.proofs.Memory.{run_long}
use Rattle.kept.proofs.Walk as walk
use Rattle.kept.proofs.Walk.{draw_known, KeptBy, write_keeps, read_keeps, turn_keeps, none_barred, run_known}

module _ (a : Part) (n : ℕ) where
  abbrev On : Processor → Type 0
  On p = (p.part ≡ a) × (p.blocks ≡ n)

  abbrev Has : Chip → Type 0
  Has k = On k.processor

  board_kept : KeptBy none_barred Has
  unfolding stored indirect_written
  board_kept =
      record {
        register = λ k i v e. e;
        lx = λ k m a e. e;
        store = λ c s b t g v k e. e;
        ind = λ r b k e. e;
        busy = λ c t n k b e. e;
      }

  phased_board : (i : ℕ) (k : Chip) → Has k → Has (phased i k)
  unfolding phased
  phased_board i k e = pick_either Has (eqb k.processor.phase i) k _ e e

  drawn_board : (p : Processor) (m rom picture : List ℕ) → On p → On (drawn p m rom picture).processor
  unfolding drawn_page
  drawn_board p m rom picture e = draw_known (λ (o : DrawOutcome). On o.processor) p m rom picture (λ a f r. e) (λ f can. e)

  stored_board : (t : Triple) (v : ℕ) (k : Chip) → Has k → Has (stored t v k)
  unfolding stored
  stored_board t v k e = e

  step_board : (o : Operation) (w : World) → On w.processor → On (step o w).processor
  step_board (write x address v) w e = write_keeps none_barred Has board_kept address v (chip_lent x w) (λ a. refl) e
  step_board (read x address) w e = read_keeps none_barred Has board_kept address (chip_lent x w) (λ a. refl) e
  step_board (turn x i) w e = turn_keeps Has i (chip_lent x w) e (phased_board i (chip_lent x w) e)
  step_board (move x) w e = walk.step_keeps Has (λ k n v h. h) (λ k b h. h) (λ t l v k h. stored_board t v k h) (chip_lent x w) e
  step_board (draw x y z) w e = drawn_board w.processor (lent_of x w.memory) (lent_of y w.rom) (lent_of z w.picture) e

  pub run_board : (os : List Operation) (w : World) → On w.processor → On (run os w).processor
  run_board os w e = run_known (λ os u. On u.processor) (λ o os u h. step_board o u h) os w e

pub board_stays : BoardStays
board_stays os w = run_board w.processor.part w.processor.blocks os w (refl, refl)

-- the kept memory has the board's length
abbrev pub Whole : World → Type 0
Whole w = length w.memory ≡ bytes_of w.processor.blocks

pub run_whole : (os : List Operation) (w : World) → Whole w → Whole (run os w)
run_whole os w e = run_long os w (bytes_of w.processor.blocks) e ∙ ap bytes_of (sym (board_stays os w).1)

module _ (part : Part) (blocks : ℕ) where
  pub power_up_whole : (m : List ℕ) → length m ≡ bytes_of blocks → length m ≡ bytes_of (powered_up part blocks).blocks
  unfolding powered_up
  power_up_whole m e = e

  pub power_up_board : ((powered_up part blocks).part ≡ part) × ((powered_up part blocks).blocks ≡ blocks)
  unfolding powered_up
  power_up_board = (refl, refl)

  -- after any run from there
  pub run_power_up :
      (os : List Operation) (m rom picture : List ℕ) →
      let w = run os (first part blocks m rom picture) in (w.processor.part ≡ part) × (w.processor.blocks ≡ blocks)
  run_power_up os m rom picture = run_board part blocks os (first part blocks m rom picture) power_up_board

pub board_chosen : BoardChosen
unfolding powered_up_board
board_chosen part blocks =
    ⊎_elim
    (λ (p : is_part part ≡ true).
    ⊎_elim
    (λ (e : is_board (part_named part) blocks ≡ true). rw (p, e) (refl, refl))
    (λ (e : is_board (part_named part) blocks ≡ false). rw (p, e) (refl, refl))
    (bool_cases (is_board (part_named part) blocks)))
    (λ p. rw p (refl, refl))
    (bool_cases (is_part part))
