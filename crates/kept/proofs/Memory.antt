-- What every store at a legal place keeps of the memory, every run keeps: its length, and bytes 40 to 63 of each block.
-- Assumes nothing.
use Prim.Native.Nat.{ℕ, ◌+◌, ◌*◌, ◌≤◌, ◌<◌}
use mathlib.Core.Path.{◌≡◌, refl, ◌∙◌}
use mathlib.Core.Bool.{true}
use mathlib.Core.List.{List}
use mathlib.Core.Logic.{◌≢◌}
use native.Mathlib.Omega.{arith}
use lib.Dec.{eqb}
use lib.ListN.{length, length-set, set}
use lib.Seq.{get_or-set_other}
use Rattle.basics.proofs.Choice.{pick_either}
use Rattle.address.specs.Places.{place_at, byte_at}
use Rattle.address.specs.Triples.{legal}
use Rattle.address.specs.declared.triple.Triple.{Triple}
use Rattle.address.proofs.Places.{place_gap}
use Rattle.processor.specs.States.{Chip}
use Rattle.processor.specs.Bytes.{stored}
use Rattle.processor.specs.Access.{phased}
use Rattle.kept.specs.Demands.{UnusedStay}
use Rattle.kept.specs.Runs.{own, other, Operation, write, read, turn, move, draw, World, chip_lent, step, run}
use Rattle.kept.proofs.Walk as walk
use Rattle.kept.proofs.Walk.{KeptBy, none_barred, write_keeps, read_keeps, turn_keeps, run_known}

pub phased_same : (n : ℕ) (k : Chip) → (phased n k).memory ≡ k.memory
unfolding phased
phased_same n k = pick_either (λ (j : Chip). j.memory ≡ k.memory) (eqb k.processor.phase n) k _ refl refl

module _ (M : List ℕ → Type 0) (keeps : (m : List ℕ) (t : Triple) (v : ℕ) → legal t ≡ true → M m → M (set m (place_at t) v)) where
  abbrev MemoryOf : Chip → Type 0
  MemoryOf k = M k.memory

  memory_stored : (t : Triple) → legal t ≡ true → (v : ℕ) (k : Chip) → MemoryOf k → MemoryOf (stored t v k)
  unfolding stored
  memory_stored t g v k h = keeps k.memory t v g h

  by_stores : KeptBy none_barred MemoryOf
  by_stores =
      record {
        register = λ k n v h. h;
        lx = λ k m a h. h;
        store = λ c s n t g v k h. memory_stored t g v k h;
        ind = λ r n k h. h;
        busy = λ c t n k b h. h;
      }

  step_keeps : (o : Operation) (w : World) → M w.memory → M (step o w).memory
  step_keeps (write own address v) w h = write_keeps none_barred MemoryOf by_stores address v (chip_lent own w) (λ x. refl) h
  step_keeps (write (other b) address v) w h = h
  step_keeps (read own address) w h = read_keeps none_barred MemoryOf by_stores address (chip_lent own w) (λ x. refl) h
  step_keeps (read (other b) address) w h = h
  step_keeps (turn own n) w h = let k = chip_lent own w in turn_keeps MemoryOf n k h (rw (phased_same n k) h)
  step_keeps (turn (other b) n) w h = h
  step_keeps (move own) w h = walk.step_keeps MemoryOf (λ k n v i. i) (λ k b i. i) memory_stored (chip_lent own w) h
  step_keeps (move (other b)) w h = h
  step_keeps (draw own y z) w h = h
  step_keeps (draw (other b) y z) w h = h

  pub run_keeps : (os : List Operation) (w : World) → M w.memory → M (run os w).memory
  run_keeps os w h = run_known (λ os u. M u.memory) (λ o os u g. step_keeps o u g) os w h

pub run_long : (os : List Operation) (w : World) (n : ℕ) → length w.memory ≡ n → length (run os w).memory ≡ n
run_long os w n e = run_keeps (λ m. length m ≡ n) (λ m t v g h. length-set m (place_at t) v ∙ h) os w e

-- no legal triple has such a place
unused : (z i : ℕ) → 40 ≤ i → i < 64 → (t : Triple) → legal t ≡ true → 1024 * z + i ≢ place_at t
unused z i a b t g e = place_gap t.x t.y t.z g (rw (← e) (omega arith)) (rw (← e) (omega arith))

pub unused_stay : UnusedStay
unused_stay os w z i a b =
    let p = 1024 * z + i in
    run_keeps (λ m. byte_at m p ≡ byte_at w.memory p) (λ m t v g h. get_or-set_other m (place_at t) p v 0 (unused z i (omega arith) (omega arith) t g) ∙ h)
    os w refl
