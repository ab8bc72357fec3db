-- What is stored at a legal place is loaded there; a store leaves the byte at every other legal place; and three code bytes that are
-- stored are the three that are read. KRL's two bytes, and what they leave of the neighbour.
-- Assumes nothing.
use Prim.Native.Nat.{ℕ, ◌<◌}
use mathlib.Core.Path.{◌≡◌, sym, ap, ◌∙◌}
use mathlib.Core.Bool.{true}
use mathlib.Core.Logic.{◌≢◌}
use native.Mathlib.Omega.{arith}
use lib.ListN.{length, length-set}
use lib.Seq.{get_or-set_same, get_or-set_other}
use Rattle.address.specs.Triples.{legal, legal_in}
use Rattle.address.specs.declared.triple.Triple.{Triple}
use Rattle.address.proofs.Fits.{Code, Narrow}
use Rattle.address.proofs.Laws.{triple, legal_page}
use Rattle.address.proofs.Places.{legal_place, place_injective, blocks_differ}
use Rattle.address.proofs.Positions.{neighbour_odd, neighbour_apart, attributes_apart, attributes_beside, nibble_put, nibble_stays}
use Rattle.processor.specs.States.{Chip, register_of}
use Rattle.address.specs.Narrow.{is_odd, neighbour_at, attributes_at, nibble_for, nibble_into}
use Rattle.address.specs.Places.{place_at, block_at, loaded}
use Rattle.processor.specs.Bytes.{stored, code_stored, narrow_stored}
use Rattle.board.specs.Boards.{bytes_of}

-- a store keeps the memory's length
pub stored_long : (t : Triple) (v : ℕ) (k : Chip) → length (stored t v k).memory ≡ length k.memory
unfolding stored
stored_long t v k = length-set k.memory (place_at t) v

-- on a board of n blocks the byte stored is there
pub stored_here : (n : ℕ) (t : Triple) (v : ℕ) (k : Chip) → legal_in n t ≡ true → length k.memory ≡ bytes_of n → loaded t (stored t v k).memory ≡ v
unfolding stored
stored_here n t v k g e = get_or-set_same k.memory (place_at t) v 0 (rw e (legal_place n t g))

-- the byte at every other legal place is as it was
pub stored_elsewhere :
    (t u : Triple) (v : ℕ) (k : Chip) → legal t ≡ true → legal u ≡ true → u ≢ t → loaded u (stored t v k).memory ≡ loaded u k.memory
unfolding stored
stored_elsewhere t u v k g h d =
    get_or-set_other k.memory (place_at t) (place_at u) v 0
    (λ e.
    let s = place_injective u.x u.y u.z t.x t.y t.z h g e in d (triple s.0 s.1 s.2))

-- two of the three blocks of a triple are different triples
blocks_apart : (t : Triple) (i j : ℕ) → i < 3 → j < 3 → i ≢ j → block_at t i ≢ block_at t j
blocks_apart t i j a b d e = d (blocks_differ t.z i j (omega arith) (omega arith) (ap (λ (u : Triple). u.z) e))

-- KRF's three bytes are each at their place
module _ (n : ℕ) (t : Triple) (k : Chip) (g : Code n t) (l : length k.memory ≡ bytes_of n) where
  abbrev r1 : ℕ
  r1 = register_of k.processor 1

  abbrev one : Chip
  one = stored (block_at t 0) r1 k

  abbrev two : Chip
  two = stored (block_at t 1) (register_of k.processor 2) one

  page : legal t ≡ true
  page = legal_page n (block_at t 0) g.0

  long_one : length one.memory ≡ bytes_of n
  long_one = stored_long (block_at t 0) r1 k ∙ l

  long_two : length two.memory ≡ bytes_of n
  long_two = stored_long (block_at t 1) (register_of k.processor 2) one ∙ long_one

  other : (i j v : ℕ) (h : Chip) → i < 3 → j < 3 → j ≢ i → loaded (block_at t j) (stored (block_at t i) v h).memory ≡ loaded (block_at t j) h.memory
  other i j v h a b d = stored_elsewhere (block_at t i) (block_at t j) v h page page (blocks_apart t j i b a d)

  pub code_c : loaded (block_at t 0) (code_stored t k).memory ≡ register_of k.processor 1
  unfolding code_stored
  code_c =
      other 2 0 (register_of k.processor 3) two (omega arith) (omega arith) (λ e. omega arith)
      ∙ other 1 0 (register_of k.processor 2) one (omega arith) (omega arith) (λ e. omega arith)
      ∙ stored_here n (block_at t 0) r1 k g.0 l

  pub code_b : loaded (block_at t 1) (code_stored t k).memory ≡ register_of k.processor 2
  unfolding code_stored
  code_b =
      other 2 1 (register_of k.processor 3) two (omega arith) (omega arith) (λ e. omega arith)
      ∙ stored_here n (block_at t 1) (register_of k.processor 2) one g.1 long_one

  pub code_a : loaded (block_at t 2) (code_stored t k).memory ≡ register_of k.processor 3
  unfolding code_stored
  code_a = stored_here n (block_at t 2) (register_of k.processor 3) two g.2 long_two

-- KRL's two bytes, and the neighbour's
module _ (t : Triple) (k : Chip) (g : legal t ≡ true) where
  abbrev c : ℕ
  c = register_of k.processor 1

  abbrev a : ℕ
  a = nibble_into (is_odd t) (loaded (attributes_at t) k.memory) (register_of k.processor 3)

  block : {u v : Triple} → u ≡ v → u.z ≡ v.z
  block e = ap (λ (w : Triple). w.z) e

  -- the neighbour's C
  pub narrow_beside : loaded (neighbour_at t) (narrow_stored t k).memory ≡ loaded (neighbour_at t) k.memory
  unfolding narrow_stored
  narrow_beside =
      stored_elsewhere (attributes_at t) (neighbour_at t) a (stored t c k) g g (λ e. attributes_beside t (sym (block e)))
      ∙ stored_elsewhere t (neighbour_at t) c k g g (λ e. neighbour_apart t (block e))

  -- where both are fitted
  module _ (n : ℕ) (f : Narrow n t) (l : length k.memory ≡ bytes_of n) where
    pub narrow_c : loaded t (narrow_stored t k).memory ≡ c
    unfolding narrow_stored
    narrow_c = stored_elsewhere (attributes_at t) t a (stored t c k) g g (λ e. attributes_apart t (sym (block e))) ∙ stored_here n t c k f.0 l

    there : loaded (attributes_at t) (narrow_stored t k).memory ≡ a
    unfolding narrow_stored
    there = stored_here n (attributes_at t) a (stored t c k) f.1 (stored_long t c k ∙ l)

    pub narrow_a : nibble_for (is_odd t) (loaded (attributes_at t) (narrow_stored t k).memory) ≡ nibble_for (is_odd t) (register_of k.processor 3)
    narrow_a = ap (nibble_for (is_odd t)) there ∙ nibble_put _ _ (is_odd t)

    -- the neighbour's nibble
    pub narrow_nibble :
        nibble_for (is_odd (neighbour_at t)) (loaded (attributes_at t) (narrow_stored t k).memory)
        ≡ nibble_for (is_odd (neighbour_at t)) (loaded (attributes_at t) k.memory)
    narrow_nibble =
        ap (nibble_for (is_odd (neighbour_at t))) there ∙ rw (neighbour_odd t) (nibble_stays (loaded (attributes_at t) k.memory) (register_of k.processor 3) (is_odd t))
