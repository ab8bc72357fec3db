-- Demand 2's round trip: what an accepted KRF, OCT or KRL stores, a later one reads at a pointer with the same X, Y and Z, whatever the state has
-- become, where nothing is stored between them.
-- Assumes nothing.
use Rattle.std.specs.Prelude.{Option, Some}
use Prim.Native.Nat.{ℕ, zero, suc, ◌<◌, ◌≤◌}
use mathlib.Core.Path.{◌≡◌, refl, sym, ap, ◌∙◌}
use mathlib.Core.Bool.{Bool, true, false, ◌&&◌}
use mathlib.Core.List.{List}
use native.Mathlib.Omega.{arith}
use lib.Dec.{eqb}
use lib.ListN.{length, get_or, set, length-set}
use lib.Seq.{get_or-set_same, get_or-set_other}
use Rattle.basics.proofs.Choice.{pick_either}
use Rattle.basics.specs.Bits.{bits, is_set}
use Rattle.address.specs.Triples.{legal_in}
use Rattle.address.proofs.Fits.{Code, Narrow, byte_legal, code_legal, narrow_legal}
use Rattle.address.proofs.Laws.{legal_page}
use Rattle.address.specs.declared.triple.Triple.{Triple}
use Rattle.processor.specs.declared.state.Processor.{Processor}
use Rattle.processor.specs.States.{chip, register_of, cleared}
use Rattle.moves.specs.Onward.{next_x}
use Rattle.processor.specs.Pointers.{pointer_of, incremented, incremented_if, next_position, advanced, advanced_if}
use Rattle.address.specs.Narrow.{is_odd, neighbour_at, attributes_at, nibble_for, both_halves}
use Rattle.address.specs.Places.{block_at, loaded}
use Rattle.processor.specs.Bytes.{stored, oct, code_read, code_stored, krf, narrow_read, narrow_stored, krl}
use Rattle.board.specs.Boards.{bytes_of}
use Rattle.command.specs.declared.Command.{Command}
use Rattle.command.specs.declared.Command.TheVariants.{Krf, Oct, Krl}
use Rattle.processor.specs.Access.{effect}
use Rattle.processor.specs.Sizes.{Sized}
use Rattle.kept.specs.Demands.{CodeKept, ByteKept, NarrowKept, NeighbourKept}
use Rattle.kept.specs.Quiet.{command_run, Quiet}
use Rattle.kept.specs.Runs as runs
use Rattle.kept.specs.Runs.{Lent, own, Operation, write, read, turn, move, draw, World, step, run, done, lent_of, memory_lent, memory_kept, registered}
use Rattle.kept.proofs.Quiet.{quiet_run}
use Rattle.kept.proofs.Ran.{is_nop, command_ran}
use Rattle.kept.proofs.Sizes.{step_sized, run_sized, power_up_sized}
use Rattle.kept.proofs.Stores.{stored_here, code_c, code_b, code_a, narrow_c, narrow_a, narrow_beside, narrow_nibble}

-- an increment leaves R0 to R3
increment_keeps : (auxiliary : Bool) (p : Processor) (i : ℕ) → i < 4 → register_of (incremented auxiliary p) i ≡ register_of p i
unfolding incremented
increment_keeps true p i l =
    let e = get_or-set_other p.registers 5 i (next_x (register_of p 5)) 0 (λ q. omega arith) in
    pick_either (λ (q : Processor). register_of q i ≡ register_of p i) (eqb (bits 0 6 (register_of p 5)) 39) _ _ e e
increment_keeps false p i l =
    let e = get_or-set_other p.registers 7 i (next_x (register_of p 7)) 0 (λ q. omega arith) in
    pick_either (λ (q : Processor). register_of q i ≡ register_of p i) (eqb (bits 0 6 (register_of p 7)) 39) _ _ e e

asked_keeps : (asked auxiliary : Bool) (p : Processor) (i : ℕ) → i < 4 → register_of (incremented_if asked auxiliary p) i ≡ register_of p i
unfolding incremented_if
asked_keeps true auxiliary p i l = increment_keeps auxiliary p i l
asked_keeps false auxiliary p i l = refl

advance_keeps : (asked : Bool) (p : Processor) (i : ℕ) → i < 4 → register_of (advanced_if asked p) i ≡ register_of p i
unfolding advanced_if advanced
advance_keeps true p i l =
    let e = get_or-set_other p.registers 7 i (next_position (register_of p 7)) 0 (λ q. omega arith) in
    pick_either (λ (q : Processor). register_of q i ≡ register_of p i) (is_set 7 (register_of p 7) && eqb (bits 0 6 (register_of p 7)) 39) _ _ e e
advance_keeps false p i l = refl

-- three registers written one after the other
module _ (l : List ℕ) (c b a : ℕ) (eight : length l ≡ 8) where
  abbrev l1 : List ℕ
  l1 = set l 1 c

  abbrev l2 : List ℕ
  l2 = set l1 2 b

  first : get_or (set l2 3 a) 1 0 ≡ c
  first =
      get_or-set_other l2 3 1 a 0 (λ q. omega arith)
      ∙ get_or-set_other l1 2 1 b 0 (λ q. omega arith)
      ∙ get_or-set_same l 1 c 0 (rw eight (omega arith))

  second : get_or (set l2 3 a) 2 0 ≡ b
  second = get_or-set_other l2 3 2 a 0 (λ q. omega arith) ∙ get_or-set_same l1 2 b 0 (rw (length-set l 1 c, eight) (omega arith))

  third : get_or (set l2 3 a) 3 0 ≡ a
  third = get_or-set_same l2 3 a 0 (rw (length-set l1 2 b, length-set l 1 c, eight) (omega arith))

-- three code bytes: p stores them with KRF, and later, the memory being the one that was left, q reads them with KRF
module _
    (p q : Processor) (m : List ℕ) (w r : Bool) (g : Code p.blocks (pointer_of false p)) (l : length m ≡ bytes_of p.blocks)
    (same : pointer_of false q ≡ pointer_of false p) (eight : length q.registers ≡ 8) where
  abbrev left : List ℕ
  left = (code_stored (pointer_of false p) (chip (cleared p) m)).memory

  abbrev got : ℕ → ℕ
  got k = loaded (block_at (pointer_of false q) k) left

  abbrev code_round : Processor
  code_round = (krf true r (chip q (krf false w (chip p m)).memory)).processor

  round_c : register_of code_round 1 ≡ register_of p 1
  unfolding krf code_read
  round_c =
      asked_keeps r false _ 1 (omega arith)
      ∙ first q.registers (got 0) (got 1) (got 2) eight
      ∙ ap (λ (t : Triple). loaded (block_at t 0) left) same
      ∙ code_c p.blocks (pointer_of false p) (chip (cleared p) m) g l

  round_b : register_of code_round 2 ≡ register_of p 2
  unfolding krf code_read
  round_b =
      asked_keeps r false _ 2 (omega arith)
      ∙ second q.registers (got 0) (got 1) (got 2) eight
      ∙ ap (λ (t : Triple). loaded (block_at t 1) left) same
      ∙ code_b p.blocks (pointer_of false p) (chip (cleared p) m) g l

  round_a : register_of code_round 3 ≡ register_of p 3
  unfolding krf code_read
  round_a =
      asked_keeps r false _ 3 (omega arith)
      ∙ third q.registers (got 0) (got 1) (got 2) eight
      ∙ ap (λ (t : Triple). loaded (block_at t 2) left) same
      ∙ code_a p.blocks (pointer_of false p) (chip (cleared p) m) g l

  round_code : (n : ℕ) → 1 ≤ n → n ≤ 3 → register_of code_round n ≡ register_of p n
  round_code zero a b = absurd (omega arith)
  round_code (suc zero) a b = round_c
  round_code (suc (suc zero)) a b = round_b
  round_code (suc (suc (suc zero))) a b = round_a
  round_code (suc (suc (suc (suc n)))) a b = absurd (omega arith)

-- one byte by OCT, through either pointer each time
module _
    (x y : Bool) (p q : Processor) (m : List ℕ) (w r : Bool) (g : legal_in p.blocks (pointer_of x p) ≡ true) (l : length m ≡ bytes_of p.blocks)
    (same : pointer_of y q ≡ pointer_of x p) (eight : length q.registers ≡ 8) where
  abbrev byte_round : Processor
  byte_round = (oct true y r (chip q (oct false x w (chip p m)).memory)).processor

  round_byte : register_of byte_round 1 ≡ register_of p 1
  unfolding oct
  round_byte =
      asked_keeps r y _ 1 (omega arith)
      ∙ get_or-set_same q.registers 1 _ 0 (rw eight (omega arith))
      ∙ ap (λ (t : Triple). loaded t (stored (pointer_of x p) (register_of p 1) (chip (cleared p) m)).memory) same
      ∙ stored_here p.blocks (pointer_of x p) (register_of p 1) (chip (cleared p) m) g l

-- a 12-bit code by KRL
module _
    (p q : Processor) (m : List ℕ) (w r : Bool) (g : Narrow p.blocks (pointer_of false p)) (l : length m ≡ bytes_of p.blocks)
    (same : pointer_of false q ≡ pointer_of false p) (eight : length q.registers ≡ 8) where
  abbrev narrow_left : List ℕ
  narrow_left = (narrow_stored (pointer_of false p) (chip (cleared p) m)).memory

  abbrev narrow_round : Processor
  narrow_round = (krl true r (chip q (krl false w (chip p m)).memory)).processor

  round_character : register_of narrow_round 1 ≡ register_of p 1
  unfolding krl narrow_read
  round_character =
      advance_keeps r _ 1 (omega arith)
      ∙ get_or-set_other (set q.registers 1 _) 3 1 _ 0 (λ e. omega arith)
      ∙ get_or-set_same q.registers 1 _ 0 (rw eight (omega arith))
      ∙ ap (λ (t : Triple). loaded t narrow_left) same
      ∙ narrow_c (pointer_of false p) (chip (cleared p) m) (legal_page p.blocks (pointer_of false p) g.0) p.blocks g l

  round_nibble : register_of narrow_round 3 ≡ both_halves (nibble_for (is_odd (pointer_of false p)) (register_of p 3))
  unfolding krl narrow_read
  round_nibble =
      advance_keeps r _ 3 (omega arith)
      ∙ get_or-set_same (set q.registers 1 _) 3 _ 0 (rw (length-set q.registers 1 _, eight) (omega arith))
      ∙ ap (λ (t : Triple). both_halves (nibble_for (is_odd t) (loaded (attributes_at t) narrow_left))) same
      ∙ ap both_halves (narrow_a (pointer_of false p) (chip (cleared p) m) (legal_page p.blocks (pointer_of false p) g.0) p.blocks g l)

-- the register access keeps the number of registers
registered_eight : (o : Operation) (w : World) → Sized w.processor → length (registered o w).registers ≡ 8
registered_eight (write x address v) w s = length-set w.processor.registers (bits 0 3 address) v ∙ s.0
registered_eight (read x address) w s = s.0
registered_eight (turn x n) w s = s.0
registered_eight (move x) w s = s.0
registered_eight (draw x y z) w s = s.0

-- an operation on the kept memory: what its command ran on, and what is kept
lent_own : (x : Lent) (m : List ℕ) → x ≡ own → lent_of x m ≡ m
lent_own x m e = ap (λ (y : Lent). lent_of y m) e

kept_own : (o : Operation) (w : World) → memory_lent o ≡ own → (step o w).memory ≡ (done o w).memory
kept_own o w e = ap (λ (x : Lent). memory_kept x w.memory (done o w).memory) e

-- o stores, and q reads after a run in which nothing is stored
module _ (w : World) (s : Sized w.processor) (o : Operation) (between : List Operation) (q : Operation) where
  abbrev u : World
  u = run between (step o w)

  eight_then : length (registered q u).registers ≡ 8
  eight_then = registered_eight q u (run_sized between (step o w) (step_sized o w s))

  -- c stores at a legal pointer and leaves m; d reads
  module _ (c d : Option Command) (nc : is_nop c ≡ false) (nd : is_nop d ≡ false) (oo : memory_lent o ≡ own) (oq : memory_lent q ≡ own)
      (ec : command_run o w ≡ c) (ed : command_run q u ≡ d) (quiet : Quiet between (step o w)) where
    then_stored : u.memory ≡ (effect c (chip (registered o w) w.memory)).memory
    then_stored =
        quiet_run between (step o w) quiet
        ∙ kept_own o w oo
        ∙ (command_ran o w c nc ec).1
        ∙ ap (λ (m : List ℕ). (effect c (chip (registered o w) m)).memory) (lent_own (memory_lent o) w.memory oo)

    then_read : (step q u).processor ≡ (effect d (chip (registered q u) (effect c (chip (registered o w) w.memory)).memory)).processor
    then_read =
        (command_ran q u d nd ed).0
        ∙ ap (λ (m : List ℕ). (effect d (chip (registered q u) m)).processor) (lent_own (memory_lent q) u.memory oq ∙ then_stored)

    whole_then : length w.memory ≡ bytes_of (registered o w).blocks
    whole_then = ap length (sym (lent_own (memory_lent o) w.memory oo)) ∙ (command_ran o w c nc ec).2

  pub code_kept_in :
      (i j : Bool) → memory_lent o ≡ own → command_run o w ≡ Some (Krf false i) → Quiet between (step o w) →
      memory_lent q ≡ own → command_run q u ≡ Some (Krf true j) → pointer_of false (registered q u) ≡ pointer_of false (registered o w) →
      (n : ℕ) → 1 ≤ n → n ≤ 3 → register_of (step q u).processor n ≡ register_of (registered o w) n
  code_kept_in i j oo ec quiet oq ed same n a b =
      ap (λ (p : Processor). register_of p n) (then_read (Some (Krf false i)) (Some (Krf true j)) refl refl oo oq ec ed quiet)
      ∙ round_code (registered o w) (registered q u) w.memory i j (let ran = command_ran o w (Some (Krf false i)) refl ec in code_legal _ _ ran.3 ran.4)
      (whole_then (Some (Krf false i)) (Some (Krf true j)) refl refl oo oq ec ed quiet) same eight_then n a b

  pub byte_kept_in :
      (x y i j : Bool) → memory_lent o ≡ own → command_run o w ≡ Some (Oct false x i) → Quiet between (step o w) →
      memory_lent q ≡ own → command_run q u ≡ Some (Oct true y j) → pointer_of y (registered q u) ≡ pointer_of x (registered o w) →
      register_of (step q u).processor 1 ≡ register_of (registered o w) 1
  byte_kept_in x y i j oo ec quiet oq ed same =
      ap (λ (p : Processor). register_of p 1) (then_read (Some (Oct false x i)) (Some (Oct true y j)) refl refl oo oq ec ed quiet)
      ∙ round_byte x y (registered o w) (registered q u) w.memory i j (let ran = command_ran o w (Some (Oct false x i)) refl ec in byte_legal _ _ ran.3 ran.4)
      (whole_then (Some (Oct false x i)) (Some (Oct true y j)) refl refl oo oq ec ed quiet) same eight_then

  pub narrow_kept_in :
      (i j : Bool) → memory_lent o ≡ own → command_run o w ≡ Some (Krl false i) → Quiet between (step o w) →
      memory_lent q ≡ own → command_run q u ≡ Some (Krl true j) → pointer_of false (registered q u) ≡ pointer_of false (registered o w) →
      (register_of (step q u).processor 1 ≡ register_of (registered o w) 1)
      × (register_of (step q u).processor 3 ≡ both_halves (nibble_for (is_odd (pointer_of false (registered o w))) (register_of (registered o w) 3)))
  narrow_kept_in i j oo ec quiet oq ed same =
      let then = then_read (Some (Krl false i)) (Some (Krl true j)) refl refl oo oq ec ed quiet in
      let ran = command_ran o w (Some (Krl false i)) refl ec in
      let ok = narrow_legal _ _ ran.3 ran.4 in
      let whole = whole_then (Some (Krl false i)) (Some (Krl true j)) refl refl oo oq ec ed quiet in (
        ap (λ (p : Processor). register_of p 1) then
            ∙ round_character (registered o w) (registered q u) w.memory i j ok whole same eight_then,
        ap (λ (p : Processor). register_of p 3) then
            ∙ round_nibble (registered o w) (registered q u) w.memory i j ok whole same eight_then,
      )

pub code_kept : CodeKept
code_kept part blocks m rom picture before between o q i j =
    let w = runs.first part blocks m rom picture in code_kept_in (run before w) (run_sized before w (power_up_sized part blocks)) o between q i j

pub byte_kept : ByteKept
byte_kept part blocks m rom picture before between o q x y i j =
    let w = runs.first part blocks m rom picture in byte_kept_in (run before w) (run_sized before w (power_up_sized part blocks)) o between q x y i j

pub narrow_kept : NarrowKept
narrow_kept part blocks m rom picture before between o q i j =
    let w = runs.first part blocks m rom picture in narrow_kept_in (run before w) (run_sized before w (power_up_sized part blocks)) o between q i j

-- what KRL leaves of the neighbour
pub neighbour_kept : NeighbourKept
unfolding krl
neighbour_kept o w i oo ec =
    let ran = command_ran o w (Some (Krl false i)) refl ec in
    let p = registered o w in
    let t = pointer_of false p in
    let m = lent_of (memory_lent o) w.memory in
    let k = chip (cleared p) m in
    let ok = narrow_legal p.blocks t ran.3 ran.4 in
    let page = legal_page p.blocks t ok.0 in
    let left = kept_own o w oo ∙ ran.1 in
    let before = lent_own (memory_lent o) w.memory oo in (
      ap (loaded (neighbour_at t)) left ∙ narrow_beside t k page ∙ ap (loaded (neighbour_at t)) before,
      ap (λ (n : List ℕ). nibble_for (is_odd (neighbour_at t)) (loaded (attributes_at t) n)) left
          ∙ narrow_nibble t k page p.blocks ok ran.2
          ∙ ap (λ (n : List ℕ). nibble_for (is_odd (neighbour_at t)) (loaded (attributes_at t) n)) before,
    )
