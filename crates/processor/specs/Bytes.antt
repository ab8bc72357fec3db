-- Bytes of private memory through the pointers.
-- Assumes nothing.
use Rattle.std.specs.Prelude.{ℕ, Bool, true, false, List, set}
use Rattle.address.specs.Narrow.{is_odd, attributes_at, nibble_for, nibble_into, both_halves}
use Rattle.address.specs.Places.{place_at, block_at, loaded}
use Rattle.address.specs.declared.triple.Triple.{Triple}
use Rattle.reading.specs.Marks.{store_marks}
use Rattle.processor.specs.declared.state.Processor.{Processor}
use Rattle.processor.specs.States.{Chip, chip, register_of, shown_of, with_register, with_marks, cleared}
use Rattle.processor.specs.Pointers.{pointer_of, incremented_if, advanced_if}

-- a store: the byte, and the marks by the lists just before it
unfoldable pub stored : Triple → ℕ → Chip → Chip
stored t v k =
    let p = k.processor in
    chip (with_marks p (store_marks (shown_of p) k.memory (place_at t) v p.marks)) (set k.memory (place_at t) v)

-- OCT at a legal pointer: R1 with one byte
unfoldable pub oct : Bool → Bool → Bool → Chip → Chip
oct true auxiliary increments k =
    let p = k.processor in
    chip (incremented_if increments auxiliary (with_register (cleared p) 1 (loaded (pointer_of auxiliary p) k.memory))) k.memory
oct false auxiliary increments k =
    let p = k.processor in
    let s = stored (pointer_of auxiliary p) (register_of p 1) (chip (cleared p) k.memory) in
    chip (incremented_if increments auxiliary s.processor) s.memory

-- R1, R2, R3 are the C, B, A bytes
unfoldable pub code_read : Triple → Processor → List ℕ → Processor
code_read t p m =
    with_register (with_register (with_register p 1 (loaded (block_at t 0) m)) 2 (loaded (block_at t 1) m)) 3 (loaded (block_at t 2) m)

-- stored in that order
unfoldable pub code_stored : Triple → Chip → Chip
code_stored t k =
    stored (block_at t 2) (register_of k.processor 3)
    (stored (block_at t 1) (register_of k.processor 2)
    (stored (block_at t 0) (register_of k.processor 1) k))

-- KRF at a legal main pointer
unfoldable pub krf : Bool → Bool → Chip → Chip
krf true increments k =
    let p = k.processor in
    chip (incremented_if increments false (code_read (pointer_of false p) (cleared p) k.memory)) k.memory
krf false increments k =
    let p = k.processor in
    let s = code_stored (pointer_of false p) (chip (cleared p) k.memory) in
    chip (incremented_if increments false s.processor) s.memory

-- Read, R1 is C and R3 has the nibble in both halves. R2 stays
unfoldable pub narrow_read : Triple → Processor → List ℕ → Processor
narrow_read t p m =
    with_register (with_register p 1 (loaded t m)) 3 (both_halves (nibble_for (is_odd t) (loaded (attributes_at t) m)))

-- Two stores, C first
unfoldable pub narrow_stored : Triple → Chip → Chip
narrow_stored t k =
    stored (attributes_at t) (nibble_into (is_odd t) (loaded (attributes_at t) k.memory) (register_of k.processor 3))
    (stored t (register_of k.processor 1) k)

-- KRL at a legal main pointer
unfoldable pub krl : Bool → Bool → Chip → Chip
krl true increments k =
    let p = k.processor in
    chip (advanced_if increments (narrow_read (pointer_of false p) (cleared p) k.memory)) k.memory
krl false increments k =
    let p = k.processor in
    let s = narrow_stored (pointer_of false p) (chip (cleared p) k.memory) in
    chip (advanced_if increments s.processor) s.memory
