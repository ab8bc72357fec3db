-- What the page claims of places, for every Z: different legal triples have different places, bytes 40..63 of a block are the place
-- of none, and a legal triple's place lies in its own block. On a board of n blocks a legal place is one of its bytes.
-- Assumes nothing.
use Prim.Native.Nat.{ℕ, ◌+◌, ◌*◌, ◌/◌, ◌%◌, ◌≤◌, ◌<◌}
use mathlib.Core.Path.{◌≡◌}
use mathlib.Core.Bool.{true}
use mathlib.Core.Logic.{⊎_elim}
use native.Mathlib.Omega.{arith}
use Rattle.basics.proofs.Choice.{lt_or_le, eq_or_ne}
use Rattle.address.specs.declared.triple.Triple.{Triple}
use Rattle.address.specs.Triples.{on_page, legal_in}
use Rattle.board.specs.Boards.{bytes_of}
use Rattle.address.specs.Places.{place_of, block_of, place_at, block_at}
use Rattle.address.proofs.Laws.{triple, page_column, page_row, legal_page, legal_fitted, legal_block, place_left, place_service, place_right}

-- the three ranges of a block, each with the rule of its places
pub data Shape (x y z p : ℕ) : Type 0 where
  service : (x < 40) × (y ≡ 0) × (p ≡ 1024 * z + x) → Shape x y z p
  left : (x < 32) × (8 ≤ y) × (y < 32) × (p ≡ 1024 * z + 32 * y + x) → Shape x y z p
  right : (32 ≤ x) × (x < 40) × (8 ≤ y) × (y < 32) × (p + 32 ≡ 1024 * z + 8 * y + x) → Shape x y z p

pub shape : (x y z : ℕ) → on_page x y ≡ true → Shape x y z (place_of x y z)
shape x y z g =
    let column = page_column x y g in
    ⊎_elim
    (λ l.
    let e = place_left x y z l in
    ⊎_elim (λ r. service (omega arith)) (λ r. left (omega arith)) (page_row x y g))
    (λ l.
    ⊎_elim
    (λ r. service (omega (arith, place_service x y z l r)))
    (λ r. right (omega (arith, place_right x y z l (λ e. omega arith))))
    (page_row x y g))
    (lt_or_le x 32)

module _ {x y z a b c p : ℕ} where
  apart : Shape x y z p → Shape a b c p → (x ≡ a) × (y ≡ b) × (z ≡ c)
  apart (service f) (service g) = omega arith
  apart (service f) (left g) = omega arith
  apart (service f) (right g) = omega arith
  apart (left f) (service g) = omega arith
  apart (left f) (left g) = omega arith
  apart (left f) (right g) = omega arith
  apart (right f) (service g) = omega arith
  apart (right f) (left g) = omega arith
  apart (right f) (right g) = omega arith

-- different triples have different places
pub place_injective :
    (x y z a b c : ℕ) → on_page x y ≡ true → on_page a b ≡ true → place_of x y z ≡ place_of a b c → (x ≡ a) × (y ≡ b) × (z ≡ c)
place_injective x y z a b c g h e = apart (shape x y z g) (rw e (shape a b c h))

block : {x y z p : ℕ} → Shape x y z p → (1024 * z ≤ p) × (p < 1024 * (z + 1))
block (service f) = omega arith
block (left f) = omega arith
block (right f) = omega arith

-- a place lies in its own block
pub place_block : (x y z : ℕ) → on_page x y ≡ true → (1024 * z ≤ place_of x y z) × (place_of x y z < 1024 * (z + 1))
place_block x y z g = block (shape x y z g)

gap : {x y z p : ℕ} → Shape x y z p → 40 ≤ p % 1024 → p % 1024 < 64 → ⊥
gap (service f) l h = omega arith
gap (left f) l h = omega arith
gap (right f) l h = omega arith

-- bytes 40..63 of a block are no triple's place
pub place_gap : (x y z : ℕ) → on_page x y ≡ true → 40 ≤ place_of x y z % 1024 → place_of x y z % 1024 < 64 → ⊥
place_gap x y z g = gap (shape x y z g)

-- the three blocks of a code stay in their district of four, and differ
pub blocks : (z i : ℕ) → block_of z i / 4 ≡ z / 4
blocks z i = omega arith

pub blocks_differ : (z i j : ℕ) → i < 4 → j < 4 → block_of z i ≡ block_of z j → i ≡ j
blocks_differ z i j p q e = omega arith

-- two legal triples with one place are one
pub legal_injective : (n : ℕ) (t u : Triple) → legal_in n t ≡ true → legal_in n u ≡ true → place_of t.x t.y t.z ≡ place_of u.x u.y u.z → t ≡ u
legal_injective n t u p q e =
    let s = place_injective _ _ _ _ _ _ (legal_page n t p) (legal_page n u q) e in
    triple s.0 s.1 s.2

-- a legal triple's place is one of the board's bytes
pub legal_place : (n : ℕ) (t : Triple) → legal_in n t ≡ true → place_of t.x t.y t.z < bytes_of n
legal_place n t e = omega (arith, legal_block n t e, (place_block t.x t.y t.z (legal_page n t e)).1)

-- so is the place of any X below 40, Y below 32 and block of the board
pub place_fits : (n x y z : ℕ) → x < 40 → y < 32 → z < n → place_of x y z < bytes_of n
place_fits n x y z p q r =
    ⊎_elim (λ l. omega (arith, place_left x y z l))
    (λ l.
    ⊎_elim (λ e. omega (arith, place_service x y z l e)) (λ n. omega (arith, place_right x y z l n)) (eq_or_ne y 0))
    (lt_or_le x 32)

-- a place is the start of its block and the place in block 0
pub place_within : (x y z : ℕ) → place_of x y z ≡ 1024 * z + place_of x y 0
place_within x y z =
    ⊎_elim (λ l. omega (arith, place_left x y z l, place_left x y 0 l))
    (λ l.
    ⊎_elim (λ e. omega (arith, place_service x y z l e, place_service x y 0 l e)) (λ n. omega (arith, place_right x y z l n, place_right x y 0 l n))
    (eq_or_ne y 0))
    (lt_or_le x 32)

pub place_fits_in : (n : ℕ) (t : Triple) (p : ℕ) → p ≡ place_at t → legal_in n t ≡ true → p < bytes_of n
place_fits_in n t p e h = rw e (legal_place n t h)

pub legal_x_lem : (n : ℕ) (t : Triple) → legal_in n t ≡ true → t.x < 40
legal_x_lem n t e = page_column t.x t.y (legal_page n t e)

-- the X and Y of a triple that is legal and fitted, in any block of the board
pub legal_moved : (n : ℕ) (t : Triple) (z : ℕ) → legal_in n t ≡ true → z < n → legal_in n (record { x = t.x; y = t.y; z = z }) ≡ true
legal_moved n t z e l = legal_fitted n (record { x = t.x; y = t.y; z = z }) (legal_page n t e) l

-- on a board of d districts the blocks of a legal triple are legal
pub legal_blocks : (d : ℕ) (t : Triple) (k : ℕ) → legal_in (4 * d) t ≡ true → legal_in (4 * d) (block_at t k) ≡ true
legal_blocks d t k e = legal_moved (4 * d) t (block_of t.z k) e (omega (arith, legal_block (4 * d) t e))

pub legal_block_at : (d : ℕ) (t u : Triple) (k : ℕ) → u ≡ block_at t k → legal_in (4 * d) t ≡ true → legal_in (4 * d) u ≡ true
legal_block_at d t u k e h = rw e (legal_blocks d t k h)
