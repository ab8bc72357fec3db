-- Laws of pointers and registers.
-- Assumes nothing.
use Prim.Native.Nat.{ℕ, ◌+◌, ◌-◌, ◌%◌, ◌<◌, ◌≤◌}
use mathlib.Core.Path.{◌≡◌, refl, ap, ◌∙◌}
use mathlib.Core.Bool.{Bool, true, false}
use mathlib.Core.List.{List}
use native.Mathlib.Omega.{arith}
use lib.Seq.{get_or-set_other}
use borrow.Author.Tests.{eq-eqb, ne_eqb}
use Rattle.basics.specs.Bits.{bits}
use Rattle.address.specs.declared.triple.Triple.{Triple}
use Rattle.moves.specs.Onward.{next_x}
use Rattle.moves.proofs.Going.{next_more}
use Rattle.moves.proofs.Pointers.{main_at, auxiliary_at}
use Rattle.processor.specs.declared.state.Processor.{Processor}
use Rattle.processor.specs.States.{Chip, chip, register_of, with_register, with_lx, cleared, register_read, status_of, power_up}
use Rattle.board.specs.Boards.{is_part, part_named, is_board}
use Rattle.command.specs.declared.answer.BoardRefusal.TheVariants.{WrongBoard}
use Rattle.std.specs.Prelude.{Err}
use Rattle.basics.specs.Choice.{pick}
use Rattle.processor.specs.PowerUps.{powered_up_board}
use Rattle.processor.specs.Pointers.{pointer_of, incremented, advanced, next_position}
use Rattle.processor.specs.Bytes.{stored, code_read, code_stored}

-- registers 1 to 3 and the LX bits and marks are no part of a pointer
pub pointer_registers : (auxiliary : Bool) (p : Processor) (n v : ℕ) → n < 4 → pointer_of auxiliary (with_register p n v) ≡ pointer_of auxiliary p
unfolding pointer_of
pointer_registers auxiliary p n v l =
    rw (
      get_or-set_other p.registers n 4 v 0 (λ e. omega arith),
      get_or-set_other p.registers n 5 v 0 (λ e. omega arith),
      get_or-set_other p.registers n 6 v 0 (λ e. omega arith),
      get_or-set_other p.registers n 7 v 0 (λ e. omega arith),
    )

pub pointer_cleared : (auxiliary : Bool) (p : Processor) → pointer_of auxiliary (cleared p) ≡ pointer_of auxiliary p
unfolding pointer_of
pointer_cleared auxiliary p = refl

pub pointer_stored : (auxiliary : Bool) (t : Triple) (v : ℕ) (k : Chip) → pointer_of auxiliary (stored t v k).processor ≡ pointer_of auxiliary k.processor
unfolding pointer_of stored
pointer_stored auxiliary t v k = refl

pub pointer_code_read :
    (auxiliary : Bool) (t : Triple) (p : Processor) (m : List ℕ) → pointer_of auxiliary (code_read t p m) ≡ pointer_of auxiliary p
unfolding code_read
pointer_code_read auxiliary t p m =
    pointer_registers auxiliary _ 3 _ (omega arith) ∙ pointer_registers auxiliary _ 2 _ (omega arith) ∙ pointer_registers auxiliary p 1 _ (omega arith)

pub pointer_code_stored : (auxiliary : Bool) (t : Triple) (k : Chip) → pointer_of auxiliary (code_stored t k).processor ≡ pointer_of auxiliary k.processor
unfolding code_stored
pointer_code_stored auxiliary t k = pointer_stored auxiliary _ _ _ ∙ pointer_stored auxiliary _ _ _ ∙ pointer_stored auxiliary _ _ k

-- X of a pointer is in R5, or in R7
module _ (auxiliary : Bool) (p : Processor) where
  pub auxiliary_x_lem : auxiliary ≡ true → (pointer_of auxiliary p).x < 40 → bits 0 6 (register_of p 5) < 40
  unfolding pointer_of
  auxiliary_x_lem a h = rw (a, (auxiliary_at p.part (register_of p 4) (register_of p 5) (register_of p 6)).0) at h

  pub main_x_lem : auxiliary ≡ false → (pointer_of auxiliary p).x < 40 → bits 0 6 (register_of p 7) < 40
  unfolding pointer_of
  main_x_lem a h = rw (a, (main_at p.part (register_of p 6) (register_of p 7)).0) at h

-- the ends of an increment: n is the register that has X, and x what the code leaves in it
module _ (auxiliary : Bool) (p : Processor) (n x : ℕ) (at : n ≡ pick auxiliary 5 7) (next : x ≡ next_x (register_of p n)) where
  pub auxiliary_last : auxiliary ≡ true → register_of p n % 64 ≡ 39 → with_lx (with_register p n x) p.lxm true ≡ incremented auxiliary p
  unfolding incremented
  auxiliary_last a h =
      let e : n ≡ 5 = at ∙ rw a refl in
      let k : register_of p 5 % 64 ≡ 39 = rw e at h in
      let b : bits 0 6 (register_of p 5) ≡ 39 = omega (arith, k) in
      rw (next, a, e, eq-eqb _ _ b)

  pub main_last : auxiliary ≡ false → register_of p n % 64 ≡ 39 → with_lx (with_register p n x) true p.lxa ≡ incremented auxiliary p
  unfolding incremented
  main_last a h =
      let e : n ≡ 7 = at ∙ rw a refl in
      let k : register_of p 7 % 64 ≡ 39 = rw e at h in
      let b : bits 0 6 (register_of p 7) ≡ 39 = omega (arith, k) in
      rw (next, a, e, eq-eqb _ _ b)

  pub not_last : (register_of p n % 64 ≡ 39 → ⊥) → with_register p n x ≡ incremented auxiliary p
  unfolding incremented
  not_last h = go auxiliary refl
    where
      go : (a : Bool) → auxiliary ≡ a → with_register p n x ≡ incremented auxiliary p
      go true a =
          let e : n ≡ 5 = at ∙ rw a refl in
          let k : register_of p 5 % 64 ≡ 39 → ⊥ = rw e at h in
          let b : bits 0 6 (register_of p 5) ≡ 39 → ⊥ = λ q. k (omega (arith, q)) in
          rw (next, a, e, ne_eqb _ _ b)
      go false a =
          let e : n ≡ 7 = at ∙ rw a refl in
          let k : register_of p 7 % 64 ≡ 39 → ⊥ = rw e at h in
          let b : bits 0 6 (register_of p 7) ≡ 39 → ⊥ = λ q. k (omega (arith, q)) in
          rw (next, a, e, ne_eqb _ _ b)

-- KRL's increment from an odd position that is not the last
pub position_next : (p : Processor) → 128 ≤ register_of p 7 → register_of p 7 < 256 → ((register_of p 7 - 128) % 64 ≡ 39 → ⊥) → with_register p 7 (register_of p 7 - 128 + 1) ≡ advanced p
unfolding advanced next_position
position_next p l h x =
    let o : bits 7 1 (register_of p 7) ≡ 1 = omega (arith, l, h) in
    let b : bits 0 6 (register_of p 7) ≡ 39 → ⊥ = λ q. x (omega (arith, q, l)) in
    rw (eq-eqb _ _ o, ne_eqb _ _ b, next_more (register_of p 7 - 128) x)

-- R0 read is the status
pub status_read : (p : Processor) → register_read p 0 ≡ status_of p
unfolding register_read
status_read p = refl

-- a size that is none of the part's hands back the 16 block board
pub size_refused :
    (part blocks : ℕ) → is_part part ≡ true → is_board (part_named part) blocks ≡ false →
    powered_up_board part blocks ≡ record { processor = power_up; answer = Err WrongBoard }
unfolding powered_up_board
size_refused part blocks p b = rw (p, b) refl

-- after the access to memory the pointer is where it was, so its X may be incremented
module _ (auxiliary : Bool) (p free q : Processor) (f : free ≡ cleared p) (ok : (pointer_of auxiliary p).x < 40) where
  same_x : pointer_of auxiliary q ≡ pointer_of auxiliary free → (pointer_of auxiliary q).x < 40
  same_x e = rw (e ∙ ap (pointer_of auxiliary) f ∙ pointer_cleared auxiliary p) ok

  pub x_after_load : (v : ℕ) → q ≡ with_register free 1 v → (pointer_of auxiliary q).x < 40
  x_after_load v e = same_x (ap (pointer_of auxiliary) e ∙ pointer_registers auxiliary free 1 v (omega arith))

  pub x_after_store : (t : Triple) (v : ℕ) (m n : List ℕ) → chip q n ≡ stored t v (chip free m) → (pointer_of auxiliary q).x < 40
  x_after_store t v m n e = same_x (ap (λ (k : Chip). pointer_of auxiliary k.processor) e ∙ pointer_stored auxiliary t v (chip free m))

  pub x_after_code_read : (t : Triple) (m : List ℕ) → q ≡ code_read t free m → (pointer_of auxiliary q).x < 40
  x_after_code_read t m e = same_x (ap (pointer_of auxiliary) e ∙ pointer_code_read auxiliary t free m)

  pub x_after_code_stored : (t : Triple) (m n : List ℕ) → chip q n ≡ code_stored t (chip free m) → (pointer_of auxiliary q).x < 40
  x_after_code_stored t m n e = same_x (ap (λ (k : Chip). pointer_of auxiliary k.processor) e ∙ pointer_code_stored auxiliary t (chip free m))
