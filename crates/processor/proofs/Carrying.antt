-- Laws of a step: what it reads and stores, and the pointers of the move.
-- Assumes nothing.
use Prim.Native.Nat.{ℕ, zero, suc, ◌<◌, ◌≤◌}
use mathlib.Core.Path.{◌≡◌, refl, sym, ap, subst, ◌∙◌}
use mathlib.Core.Bool.{Bool, true, false, not, ◌&&◌, ◌||◌, false≢true}
use mathlib.Core.List.{List}
use mathlib.Core.Logic.{◌≢◌, ⊎_elim}
use native.Mathlib.Omega.{arith}
use lib.Dec.{ltb}
use lib.ListN.{length, set, length-set, take}
use lib.Seq.{get_or-set_same, get_or-set_other, set-set}
use borrow.Author.Tests.{not-false, lt-ltb, le-ltb, ltb-true}
use Rattle.basics.specs.Below.{any_below}
use Rattle.basics.proofs.Choice.{or_none, or_neither, eq_or_ne, lt_or_le}
use Rattle.address.specs.Addresses.{is_illegal, is_not_fitted, some_address}
use Rattle.address.specs.Places.{place_at, block_at, loaded}
use Rattle.address.specs.Triples.{legal, legal_in}
use Rattle.address.specs.declared.triple.Triple.{Triple}
use Rattle.address.proofs.Laws.{page_column}
use Rattle.std.specs.Prelude.{Option, Some, None, IsSome, is_some, unwrap_or}
use Rattle.std.specs.Option.{option_or}
use Rattle.basics.specs.Choice.{pick}
use Rattle.command.specs.Commands.{command_for}
use Rattle.command.specs.declared.Command.TheVariants.{Move}
use Rattle.moves.specs.Onward.{BothOnPage}
use Rattle.moves.specs.Spans.{span_addresses, is_bare_in}
use Rattle.moves.proofs.Spans.{some_both, span_illegal, span_bare, span_legal}
use Rattle.processor.specs.declared.state.Processor.{Processor}
use Rattle.shown.specs.declared.Shown.{Shown}
use Rattle.reading.specs.Marks.{stores_marks, code_stores}
use Rattle.processor.specs.States.{Chip, chip, register_of, with_register, with_marks, shown_of}
use Rattle.processor.specs.Pointers.{pointer_of}
use Rattle.processor.specs.Bytes.{stored}
use Rattle.processor.specs.Access.{is_astray, is_unfitted, idle}
use Rattle.processor.specs.HowCarried.{stored_if, stored_all, last_of}
use Rattle.processor.specs.Moves.{carried, carried_all, position, passed_on, position_of, moved, step_of}
use Rattle.processor.proofs.Laws.{auxiliary_x_lem, main_x_lem}

-- what a read gives once a value is stored there
pub load_stored :
    (m : List ℕ) (at : Triple) (here p v : ℕ) → here ≡ place_at at → here ≡ p → p < length m → v ≡ loaded at (set m p v)
load_stored m at here p v e s l = sym (rw (← e, s) (get_or-set_same m p v 0 l))

-- what is left after one, two and three bytes: k is the chip before, and v is what R1 holds at the end
module _ (from to : Triple) (k : Chip) (shown : Shown) (after : List Bool) (i0 i1 i2 c b a : ℕ) where
  abbrev Left : ℕ → ℕ → List ℕ → Type 0
  Left bytes v m = chip (with_marks (with_register k.processor 1 v) after) m ≡ carried_all bytes from to k

  module _
      (es : shown ≡ shown_of k.processor) (e0 : i0 ≡ place_at (block_at to 0)) (ec : c ≡ loaded (block_at from 0) k.memory) (n : ℕ)
      (ea : after ≡ stores_marks shown k.memory (take n (code_stores to c b a)) k.processor.marks) where
    one_left : n ≡ 1 → Left 1 c (set k.memory i0 c)
    unfolding carried_all carried stored stores_marks code_stores
    one_left en = rw (ea, en, es, e0, ec)

    module _ (e1 : i1 ≡ place_at (block_at to 1)) (eb : b ≡ loaded (block_at from 1) (set k.memory i0 c)) where
      two_left : n ≡ 2 → Left 2 b (set (set k.memory i0 c) i1 b)
      unfolding carried_all carried stored stores_marks code_stores
      two_left en = rw (ea, en, es, eb, e0, e1, ec, set-set)

      three_left :
          i2 ≡ place_at (block_at to 2) → a ≡ loaded (block_at from 2) (set (set k.memory i0 c) i1 b) → n ≡ 3 →
          Left 3 a (set (set (set k.memory i0 c) i1 b) i2 a)
      unfolding carried_all carried stored stores_marks code_stores
      three_left e2 e3 en = rw (ea, en, es, e3, eb, e0, e1, e2, ec, set-set, set-set)

-- all at the end, by the number of bytes
pub all_left :
    (from to : Triple) (k : Chip) (shown : Shown) (after : List Bool) (i0 i1 i2 c b a n : ℕ) → 1 ≤ n → n ≤ 3 → shown ≡ shown_of k.processor →
    i0 ≡ place_at (block_at to 0) → i1 ≡ place_at (block_at to 1) → i2 ≡ place_at (block_at to 2) → c ≡ loaded (block_at from 0) k.memory →
    (ltb 1 n ≡ true → b ≡ loaded (block_at from 1) (set k.memory i0 c)) →
    (ltb 2 n ≡ true → a ≡ loaded (block_at from 2) (set (set k.memory i0 c) i1 b)) →
    after ≡ stores_marks shown k.memory (take n (code_stores to c b a)) k.processor.marks → (v : ℕ) (m : List ℕ) → v ≡ last_of n c b a →
    m ≡ stored_all n i0 c i1 b i2 a k.memory → chip (with_marks (with_register k.processor 1 v) after) m ≡ carried_all n from to k
unfolding last_of stored_all
all_left from to k shown after i0 i1 i2 c b a n l h es e0 e1 e2 ec eb ea em v m ev f =
    ⊎_elim
    (λ (e : n ≡ 1).
    rw (f, ev, e) (one_left from to k shown after i0 i1 i2 c b a es e0 ec n em e))
    (λ (x : n ≡ 1 → ⊥).
    ⊎_elim
    (λ (e : n ≡ 2).
    rw (f, ev, e) (two_left from to k shown after i0 i1 i2 c b a es e0 ec n em e1 (eb (lt-ltb 1 n (omega arith))) e))
    (λ (y : n ≡ 2 → ⊥).
    let e : n ≡ 3 = omega arith in
    rw (f, ev, e)
    (three_left from to k shown after i0 i1 i2 c b a es e0 ec n em e1 (eb (lt-ltb 1 n (omega arith))) e2 (ea (lt-ltb 2 n (omega arith))) e))
    (eq_or_ne n 2))
    (eq_or_ne n 1)

-- the code has the second and the third as Options: what it stores, and what R1 holds at the end
module _ (n c u w : ℕ) (b a : Option ℕ) (l : 1 ≤ n) (h : n ≤ 3) (eb : b ≡ pick (ltb n 2) None (Some u)) (ea : a ≡ pick (ltb n 3) None (Some w)) where
  last_taken : unwrap_or (option_or a b) c ≡ last_of n c (unwrap_or b 0) (unwrap_or a 0)
  unfolding last_of
  last_taken =
      ⊎_elim (λ (e : n ≡ 1). rw (eb, ea, e) refl)
      (λ (x : n ≡ 1 → ⊥). ⊎_elim (λ (e : n ≡ 2). rw (eb, ea, e) refl) (λ (y : n ≡ 2 → ⊥). let e : n ≡ 3 = omega arith in rw (eb, ea, e) refl) (eq_or_ne n 2))
      (eq_or_ne n 1)

  all_stored :
      (i0 i1 i2 : ℕ) (m : List ℕ) → stored_if i2 a (stored_if i1 b (set m i0 c)) ≡ stored_all n i0 c i1 (unwrap_or b 0) i2 (unwrap_or a 0) m
  unfolding stored_all
  all_stored i0 i1 i2 m =
      ⊎_elim (λ (e : n ≡ 1). rw (eb, ea, e) refl)
      (λ (x : n ≡ 1 → ⊥). ⊎_elim (λ (e : n ≡ 2). rw (eb, ea, e) refl) (λ (y : n ≡ 2 → ⊥). let e : n ≡ 3 = omega arith in rw (eb, ea, e) refl) (eq_or_ne n 2))
      (eq_or_ne n 1)

  second_taken : ltb 1 n ≡ true → unwrap_or b 0 ≡ u
  second_taken t = rw (eb, le-ltb n 2 (omega (arith, ltb-true 1 n t))) refl

  third_taken : ltb 2 n ≡ true → unwrap_or a 0 ≡ w
  third_taken t = rw (ea, le-ltb n 3 (omega (arith, ltb-true 2 n t))) refl

pub options_left :
    (from to : Triple) (k : Chip) (shown : Shown) (after : List Bool) (i0 i1 i2 c : ℕ) (b a : Option ℕ) (n : ℕ) → 1 ≤ n → n ≤ 3 → shown ≡ shown_of k.processor →
    i0 ≡ place_at (block_at to 0) → i1 ≡ place_at (block_at to 1) → i2 ≡ place_at (block_at to 2) → c ≡ loaded (block_at from 0) k.memory →
    b ≡ pick (ltb n 2) None (Some (loaded (block_at from 1) (set k.memory i0 c))) →
    a ≡ pick (ltb n 3) None (Some (loaded (block_at from 2) (set (set k.memory i0 c) i1 (unwrap_or b 0)))) →
    after ≡ stores_marks shown k.memory (take n (code_stores to c (unwrap_or b 0) (unwrap_or a 0))) k.processor.marks →
    chip (with_marks (with_register k.processor 1 (unwrap_or (option_or a b) c)) after) (stored_if i2 a (stored_if i1 b (set k.memory i0 c))) ≡ carried_all n from to k
options_left from to k shown after i0 i1 i2 c b a n l h es e0 e1 e2 ec eb ea em =
    all_left from to k shown after i0 i1 i2 c _ _ n l h es e0 e1 e2 ec (second_taken n c _ _ b a l h eb ea) (third_taken n c _ _ b a l h eb ea) em _ _
    (last_taken n c _ _ b a l h eb ea) (all_stored n c _ _ b a l h eb ea i0 i1 i2 k.memory)

-- a store leaves the length
pub length_stored : (place : ℕ) (o : Option ℕ) (m : List ℕ) → length (stored_if place o m) ≡ length m
length_stored place None m = refl
length_stored place (Some v) m = length-set m place v

-- an Option that is asked for by a number, and what it has
pub asked_some : (n k : ℕ) (o : Option ℕ) (v : ℕ) → o ≡ pick (ltb n k) None (Some v) → IsSome o → k ≤ n
asked_some n k o v e s = ⊎_elim (λ (l : n < k). absurd (none (e ∙ rw (lt-ltb n k l) refl))) (λ (l : k ≤ n). l) (lt_or_le n k)
  where
    none : o ≡ None → ⊥
    none q = absurd (false≢true (subst (λ (x : Option ℕ). is_some x ≡ true) q s))

pub some_value : (o : Option ℕ) → IsSome o → Some (unwrap_or o 0) ≡ o
some_value None s = absurd (false≢true s)
some_value (Some v) s = refl

-- bytes leave every register but R1
pub carried_register :
    (bytes : ℕ) (from to : Triple) (k : Chip) (j : ℕ) → j ≢ 1 → register_of (carried_all bytes from to k).processor j ≡ register_of k.processor j
unfolding carried_all carried stored
carried_register zero from to k j n = refl
carried_register (suc bytes) from to k j n =
    get_or-set_other (carried_all bytes from to k).processor.registers 1 j _ 0 n ∙ carried_register bytes from to k j n

-- the pointers of a move that is refused with neither 4 nor 11
module _ (bytes : ℕ) (auxiliary stops : Bool) (p : Processor) where
  module _ (s : is_astray (Some (Move bytes auxiliary stops)) p ≡ false) where
    both_legal : 1 ≤ bytes → (legal (pointer_of false p) ≡ true) × (legal (pointer_of true p) ≡ true)
    both_legal l =
        let m = span_addresses bytes p.blocks (pointer_of false p) in
        let a = span_addresses bytes p.blocks (pointer_of true p) in
        let e = sym (some_both is_illegal m a) ∙ s in (
          not-false _ (sym (span_illegal p.blocks (pointer_of false p) bytes l) ∙ or_neither (some_address is_illegal m) _ e),
          not-false _ (sym (span_illegal p.blocks (pointer_of true p) bytes l) ∙ or_none (some_address is_illegal m) _ e),
        )

    pub move_pointer : 1 ≤ bytes → (which : Bool) → legal (pointer_of which p) ≡ true
    move_pointer l false = (both_legal l).0
    move_pointer l true = (both_legal l).1

    pub both_on_page : 1 ≤ bytes → BothOnPage p.registers
    both_on_page l =
        let b = both_legal l in
        (auxiliary_x_lem true p refl (page_column _ _ b.1), main_x_lem false p refl (page_column _ _ b.0))

    module _ (f : is_unfitted (Some (Move bytes auxiliary stops)) p ≡ false) where
      pub move_legal : (which : Bool) (k : ℕ) → k < bytes → legal_in p.blocks (block_at (pointer_of which p) k) ≡ true
      move_legal which k l = go which
        where
          go : (w : Bool) → legal_in p.blocks (block_at (pointer_of w p) k) ≡ true
          go false =
              let m = span_addresses bytes p.blocks (pointer_of false p) in
              let a = span_addresses bytes p.blocks (pointer_of true p) in
              span_legal p.blocks (pointer_of false p) bytes (or_neither (some_address is_illegal m) _ (sym (some_both is_illegal m a) ∙ s))
              (or_neither (some_address is_not_fitted m) _ (sym (some_both is_not_fitted m a) ∙ f)) k l
          go true =
              let m = span_addresses bytes p.blocks (pointer_of false p) in
              let a = span_addresses bytes p.blocks (pointer_of true p) in
              span_legal p.blocks (pointer_of true p) bytes (or_none (some_address is_illegal m) _ (sym (some_both is_illegal m a) ∙ s))
              (or_none (some_address is_not_fitted m) _ (sym (some_both is_not_fitted m a) ∙ f)) k l

-- the registers of both X are where they were once the bytes are carried
pub carried_on_page : (bytes : ℕ) (from to : Triple) (k : Chip) → BothOnPage k.processor.registers → BothOnPage (carried_all bytes from to k).processor.registers
carried_on_page bytes from to k h =
    rw (carried_register bytes from to k 5 (λ e. absurd (omega arith)), carried_register bytes from to k 7 (λ e. absurd (omega arith))) h

pub registers_of :
    (bytes : ℕ) (from to : Triple) (p q : Processor) (m n : List ℕ) → chip q n ≡ carried_all bytes from to (chip p m) →
    BothOnPage (carried_all bytes from to (chip p m)).processor.registers → BothOnPage q.registers
registers_of bytes from to p q m n e h = rw (← ap (λ (k : Chip). k.processor.registers) e) at h

-- a position: its bytes, and then the pointers
pub position_done :
    (bytes : ℕ) (auxiliary stops : Bool) (k : Chip) (from to : Triple) (next r : Processor) (after : List ℕ) → from ≡ pointer_of auxiliary k.processor →
    to ≡ pointer_of (not auxiliary) k.processor → chip next after ≡ carried_all bytes from to k → r ≡ passed_on stops next →
    chip r after ≡ position bytes auxiliary stops k
unfolding position
position_done bytes auxiliary stops k from to next r after ef et en er =
    ap (λ (q : Processor). chip q after) er
    ∙ ap (λ (j : Chip). chip (passed_on stops j.processor) j.memory) (en ∙ rw (ef, et))

-- a step while something runs is one position of it, and what is not listed ends
pub step_once : (k : Chip) → k.processor.busy ≡ true → moved (command_for k.processor.part (register_of k.processor 0)) k ≡ step_of k
unfolding step_of
step_once k busy = rw busy refl

pub unlisted_ends : (k : Chip) → position_of None k ≡ idle k
unfolding position_of
unlisted_ends k = refl

-- 4 of a move: either pointer is illegal
pub either_astray :
    (bytes : ℕ) (auxiliary stops : Bool) (p : Processor) → 1 ≤ bytes →
    is_astray (Some (Move bytes auxiliary stops)) p ≡ (not (legal (pointer_of false p)) || not (legal (pointer_of true p)))
either_astray bytes auxiliary stops p l =
    some_both is_illegal (span_addresses bytes p.blocks (pointer_of false p)) (span_addresses bytes p.blocks (pointer_of true p))
    ∙ rw (span_illegal p.blocks (pointer_of false p) bytes l, span_illegal p.blocks (pointer_of true p) bytes l)

pub both_astray :
    (bytes : ℕ) (auxiliary stops : Bool) (p : Processor) → 1 ≤ bytes →
    is_astray (Some (Move bytes auxiliary stops)) p ≡ not (legal (pointer_of false p) && legal (pointer_of true p))
both_astray bytes auxiliary stops p l = either_astray bytes auxiliary stops p l ∙ go (legal (pointer_of false p)) (legal (pointer_of true p))
  where
    go : (a b : Bool) → (not a || not b) ≡ not (a && b)
    go true b = refl
    go false b = refl

-- and 11, where neither is: a byte of either is not fitted
pub both_bare :
    (bytes : ℕ) (auxiliary stops : Bool) (p : Processor) → 1 ≤ bytes → is_astray (Some (Move bytes auxiliary stops)) p ≡ false →
    is_unfitted (Some (Move bytes auxiliary stops)) p ≡ (any_below (is_bare_in p.blocks (pointer_of false p)) bytes || any_below (is_bare_in p.blocks (pointer_of true p)) bytes)
both_bare bytes auxiliary stops p l s =
    let b = both_legal bytes auxiliary stops p s l in
    some_both is_not_fitted (span_addresses bytes p.blocks (pointer_of false p)) (span_addresses bytes p.blocks (pointer_of true p))
    ∙ rw (span_bare p.blocks (pointer_of false p) bytes b.0, span_bare p.blocks (pointer_of true p) bytes b.1)

-- the ends of a move on its way: a pointer that is illegal, one that is not fitted, and neither
module _ (bytes : ℕ) (auxiliary stops : Bool) (k : Chip) (l : 1 ≤ bytes) where
  abbrev at : Processor
  at = k.processor

  abbrev Legal : Bool
  Legal = legal (pointer_of false at) && legal (pointer_of true at)

  abbrev Bare : Bool
  Bare = any_below (is_bare_in at.blocks (pointer_of false at)) bytes || any_below (is_bare_in at.blocks (pointer_of true at)) bytes

  pub moved_astray : Legal ≡ false → idle k ≡ moved (Some (Move bytes auxiliary stops)) k
  unfolding moved
  moved_astray e = rw (both_astray bytes auxiliary stops at l ∙ ap not e)

  straight : Legal ≡ true → is_astray (Some (Move bytes auxiliary stops)) at ≡ false
  straight e = both_astray bytes auxiliary stops at l ∙ ap not e

  pub moved_bare : Legal ≡ true → Bare ≡ true → idle k ≡ moved (Some (Move bytes auxiliary stops)) k
  unfolding moved
  moved_bare e f = rw (straight e, both_bare bytes auxiliary stops at l (straight e) ∙ f)

  pub moved_position : Legal ≡ true → Bare ≡ false → position bytes auxiliary stops k ≡ moved (Some (Move bytes auxiliary stops)) k
  unfolding moved position_of
  moved_position e f = rw (straight e, both_bare bytes auxiliary stops at l (straight e) ∙ f)

pub placed :
    (bytes : ℕ) (auxiliary stops : Bool) (p : Processor) → 1 ≤ bytes → (legal (pointer_of false p) && legal (pointer_of true p)) ≡ true →
    (any_below (is_bare_in p.blocks (pointer_of false p)) bytes || any_below (is_bare_in p.blocks (pointer_of true p)) bytes) ≡ false →
    (is_astray (Some (Move bytes auxiliary stops)) p ≡ false) × (is_unfitted (Some (Move bytes auxiliary stops)) p ≡ false)
placed bytes auxiliary stops p l e f =
    let s = both_astray bytes auxiliary stops p l ∙ ap not e in (s, both_bare bytes auxiliary stops p l s ∙ f)
