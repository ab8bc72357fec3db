-- What a read, an OCT and the stores of a code leave, and where the bytes of a code are.
-- Assumes nothing.
use Prim.Native.Nat.{ℕ, ◌+◌, ◌*◌, ◌%◌, ◌<◌}
use mathlib.Core.Path.{◌≡◌, refl, ap, ◌∙◌}
use mathlib.Core.Bool.{Bool, true, false, ◌&&◌, false≢true}
use mathlib.Core.List.{List}
use native.Mathlib.Omega.{arith}
use lib.Dec.{eqb}
use lib.ListN.{length, set}
use Rattle.std.specs.Prelude.{Result, Ok, Err, is_ok}
use Rattle.basics.specs.Bits.{bits}
use Rattle.basics.specs.Choice.{pick}
use Rattle.command.specs.declared.answer.Refusal.{Refusal}
use Rattle.command.specs.declared.answer.Refusal.TheVariants.{WrongMemory, WrongAddress, Busy}
use Rattle.command.specs.Held.{is_read_held}
use Rattle.board.specs.Boards.{bytes_of}
use Rattle.address.specs.Narrow.{is_odd, attributes_at, nibble_into}
use Rattle.address.specs.Places.{place_of, block_of, place_at, block_at, loaded}
use Rattle.address.specs.declared.triple.Triple.{Triple}
use Rattle.address.specs.Triples.{legal_in}
use Rattle.address.proofs.Laws.{legal_page, legal_block}
use Rattle.address.proofs.Places.{place_within, place_block}
use Rattle.shown.specs.declared.Shown.{Shown}
use Rattle.reading.specs.Marks.{stores_marks, code_stores, narrow_stores}
use Rattle.processor.specs.declared.state.Processor.{Processor}
use Rattle.processor.specs.States.{Chip, chip, register_of, register_read, shown_of, with_marks, cleared}
use Rattle.processor.specs.Pointers.{pointer_of, incremented_if}
use Rattle.processor.specs.Access.{outcome, checked, executed, read_out}
use Rattle.processor.specs.Bytes.{stored, oct, code_stored, narrow_stored}

-- OCT stored; r is what the increment leaves
pub oct_stored :
    (reads auxiliary increments : Bool) (k : Chip) (at : Triple) (free r : Processor) → at ≡ pointer_of auxiliary k.processor → free ≡ cleared k.processor →
    reads ≡ false → (next : Processor) (after : List ℕ) → chip next after ≡ stored at (register_of k.processor 1) (chip free k.memory) →
    r ≡ incremented_if increments auxiliary next → chip r after ≡ oct reads auxiliary increments k
unfolding oct
oct_stored reads auxiliary increments k at free r ea ef f next after en er =
    let s : chip next after ≡ stored (pointer_of auxiliary k.processor) (register_of k.processor 1) (chip (cleared k.processor) k.memory) =
    rw (← ea, ← ef) en in
    ap (λ (q : Processor). chip q after) er ∙ ap (λ (j : Chip). chip (incremented_if increments auxiliary j.processor) j.memory) s ∙ rw f

-- a read that is let through
abbrev admitted : Bool → Bool → Bool → Result (Unit {0}) Refusal
admitted whole chosen held = pick whole (pick chosen (pick held (Err Busy) (Ok tt)) (Err WrongAddress)) (Err WrongMemory)

pub read_done :
    (address : ℕ) (k : Chip) (v : ℕ) (held : Bool) → held ≡ (k.processor.busy && is_read_held address) →
    admitted (eqb (length k.memory) (bytes_of k.processor.blocks)) (eqb (bits 4 4 address) 2) held ≡ Ok tt →
    v ≡ register_read k.processor (address % 8) → executed address v k ≡ read_out address k
unfolding read_out checked
read_done address k v held eh ok ev =
    let low : bits 0 3 address ≡ address % 8 = omega arith in
    rw (low, ← ev, ← eh) (go (eqb (length k.memory) (bytes_of k.processor.blocks)) (eqb (bits 4 4 address) 2) held ok)
  where
    go :
        (whole chosen h : Bool) → admitted whole chosen h ≡ Ok tt →
        executed address v k
        ≡ pick whole (pick chosen (pick h (outcome k (Err Busy)) (executed address v k)) (outcome k (Err WrongAddress))) (outcome k (Err WrongMemory))
    go true true true r = absurd (false≢true (ap is_ok r))
    go true true false r = refl
    go true false h r = absurd (false≢true (ap is_ok r))
    go false chosen h r = absurd (false≢true (ap is_ok r))

-- the three stores of a code: the marks of all three, and the three bytes at the places that the code has
pub code_stored_lem :
    (t : Triple) (k : Chip) (shown : Shown) (after : List Bool) (i0 i1 i2 : ℕ) → shown ≡ shown_of k.processor →
    after ≡ stores_marks shown k.memory (code_stores t (register_of k.processor 1) (register_of k.processor 2) (register_of k.processor 3)) k.processor.marks →
    i0 ≡ place_at (block_at t 0) → i1 ≡ place_at (block_at t 1) → i2 ≡ place_at (block_at t 2) →
    chip (with_marks k.processor after)
    (set (set (set k.memory i0 (register_of k.processor 1)) i1 (register_of k.processor 2)) i2 (register_of k.processor 3))
    ≡ code_stored t k
unfolding code_stored stored stores_marks code_stores
code_stored_lem t k shown after i0 i1 i2 es ea e0 e1 e2 = rw (ea, es, e0, e1, e2)

-- the two stores of a 12-bit code: the marks of both, and the byte of attributes as the code works it out from the one that it read
pub narrow_stored_lem :
    (t : Triple) (k : Chip) (odd : Bool) (beside : Triple) (byte a : ℕ) (shown : Shown) (after : List Bool) (i0 i1 : ℕ) → odd ≡ is_odd t → beside ≡ attributes_at t →
    byte ≡ loaded beside k.memory → a ≡ nibble_into odd byte (register_of k.processor 3) → shown ≡ shown_of k.processor →
    after ≡ stores_marks shown k.memory (narrow_stores t (register_of k.processor 1) a) k.processor.marks → i0 ≡ place_at t → i1 ≡ place_at beside →
    chip (with_marks k.processor after) (set (set k.memory i0 (register_of k.processor 1)) i1 a) ≡ narrow_stored t k
unfolding narrow_stored stored stores_marks narrow_stores
narrow_stored_lem t k odd beside byte a shown after i0 i1 eo eb ey ev es ea e0 e1 = rw (ea, es, e0, e1, ev, ey, eb, eo)

-- where byte k of a code is stored
pub code_place :
    (t : Triple) (k here block i : ℕ) → here ≡ place_of t.x t.y 0 → block ≡ block_of t.z k → i ≡ here + 1024 * block → i ≡ place_at (block_at t k)
code_place t k here block i eh eb ei = omega (arith, place_within t.x t.y (block_of t.z k))

pub code_within :
    (blocks : ℕ) (t : Triple) (k here block n : ℕ) → here ≡ place_of t.x t.y 0 → block ≡ block_of t.z k →
    legal_in blocks (block_at t k) ≡ true → n ≡ bytes_of blocks → here + 1024 * block < n
code_within blocks t k here block n eh eb g en =
    omega (arith, (place_block t.x t.y 0 (legal_page blocks (block_at t k) g)).1, legal_block blocks (block_at t k) g)
