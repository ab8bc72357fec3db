-- Laws of a row's code bytes: where they are in memory, and that those which are not fitted are 0 as memory has them.
-- Assumes nothing.
use Prim.Native.Nat.{ℕ, ◌+◌, ◌*◌, ◌-◌, ◌<◌, ◌≤◌}
use mathlib.Core.Path.{◌≡◌, sym, ap, ◌∙◌}
use mathlib.Core.Bool.{true, false}
use mathlib.Core.List.{List, [], ◌∷◌, ◌++◌}
use mathlib.Core.Logic.{⊎_elim}
use native.Mathlib.Omega.{arith}
use lib.ListN.{length, get_or, get_or-eq_default, take, drop}
use borrow.Author.Tests.{lt-ltb, ltb-true, ltb-false}
use Rattle.basics.proofs.Choice.{eq_or_ne}
use Rattle.basics.specs.Parts.{table}
use Rattle.basics.proofs.Parts.{table_at, table_same}
use Rattle.basics.proofs.Made.{table_copied, table_two}
use borrow.Rule.Slice.PartMut.{put_mid}
use Rattle.address.specs.Addresses.{byte_from}
use Rattle.board.specs.Boards.{bytes_of}
use Rattle.address.specs.Places.{place_of, block_of, byte_at}
use Rattle.address.specs.Triples.{on_page}
use Rattle.address.proofs.Addresses.{byte_kept}
use Rattle.address.proofs.Laws.{place_left, place_service, place_right, facts_page, row_facts}
use Rattle.address.proofs.Places.{place_block, place_within}
use Rattle.address.specs.Rows.{row_y}
use Rattle.shown.specs.declared.Shown.{Shown}
use Rattle.shown.specs.Origins.{yor_of, first_block}
use Rattle.page.specs.Codes.{code_address, code_at, row_buffer}
use Rattle.page.specs.HowCodes.{code_of, is_fitted, Has}

-- the forty bytes at Y of a block stand in two stretches
module _ (m : List ℕ) (blocks z y : ℕ) (whole : length m ≡ bytes_of blocks) (low : y < 32) where
  abbrev row_byte : ℕ → ℕ
  row_byte x = byte_at m (place_of x y z)

  -- of a block that is fitted both are in memory
  module _ (fitted : z < blocks) where
    pub left_fits : (left : ℕ) → left ≡ place_of 0 y z → left + 32 ≤ length m
    left_fits left e = omega (arith, place_left 0 y z (omega arith))

    pub right_fits : (right : ℕ) → right ≡ place_of 32 y z → right + 8 ≤ length m
    right_fits right e =
        ⊎_elim (λ q. omega (arith, place_service 32 y z (omega arith) q)) (λ q. omega (arith, place_right 32 y z (omega arith) q)) (eq_or_ne y 0)

    left_place : (left x : ℕ) → left ≡ place_of 0 y z → x < 32 → left + x ≡ place_of x y z
    left_place left x e l = omega (arith, place_left 0 y z (omega arith), place_left x y z l)

    right_place : (right x : ℕ) → right ≡ place_of 32 y z → right + x ≡ place_of (32 + x) y z
    right_place right x e =
        ⊎_elim
        (λ q. omega (arith, place_service 32 y z (omega arith) q, place_service (32 + x) y z (omega arith) q))
        (λ q. omega (arith, place_right 32 y z (omega arith) q, place_right (32 + x) y z (omega arith) q))
        (eq_or_ne y 0)

    -- copied one after the other, they are the row's bytes
    pub row_bytes :
        (left right : ℕ) → left ≡ place_of 0 y z → right ≡ place_of 32 y z → (front rest last : List ℕ) → front ≡ take (left + 32 - left) (drop left m)
        → last ≡ take (right + 8 - right) (drop right m) → length rest ≡ 8 → put_mid 32 8 (front ++ rest) last ≡ table row_byte 40
    row_bytes left right el er front rest last p q h =
        table_two row_byte front rest last 32 8
        (table_copied row_byte m front left _ 32 0 p (omega arith) (left_fits left el) (λ x l. ap (byte_at m) (left_place left x el l)))
        (table_copied (λ i. row_byte (32 + i)) m last right _ 8 0 q (omega arith) (right_fits right er) (λ x l. ap (byte_at m) (right_place right x er)))
        h

  -- of another they are past the end of memory
  pub row_bare : blocks ≤ z → table (λ x. 0) 40 ≡ table row_byte 40
  row_bare past = table_same _ _ 40 (λ x l. sym (get_or-eq_default m 0 (omega (arith, place_within x y z))))

-- a cell's code, from the forty bytes of each block
pub code_listed :
    (m : List ℕ) (z y x zc zb za : ℕ) (c b a : List ℕ)
    → zc ≡ block_of z 0 → zb ≡ block_of z 1 → za ≡ block_of z 2
    → c ≡ table (λ i. byte_at m (place_of i y zc)) 40 → b ≡ table (λ i. byte_at m (place_of i y zb)) 40 → a ≡ table (λ i. byte_at m (place_of i y za)) 40
    → x < 40 → ◌≡◌ {A = List ℕ} (get_or c x 0 ∷ get_or b x 0 ∷ get_or a x 0 ∷ []) (code_of m z y x)
unfolding code_of
code_listed m z y x zc zb za c b a ec eb ea pc pb pa l = rw (at zc c pc ∙ byte zc 0 ec, at zb b pb ∙ byte zb 1 eb, at za a pa ∙ byte za 2 ea)
  where
    at : (k : ℕ) (bytes : List ℕ) → bytes ≡ table (λ i. byte_at m (place_of i y k)) 40 → get_or bytes x 0 ≡ byte_at m (place_of x y k)
    at k bytes e = ap (λ (s : List ℕ). get_or s x 0) e ∙ table_at (λ i. byte_at m (place_of i y k)) 40 x 0 l

    byte : (k i : ℕ) → k ≡ block_of z i → byte_at m (place_of x y k) ≡ byte_at m (place_of x y (block_of z i))
    byte k i e = ap (λ (j : ℕ). byte_at m (place_of x y j)) e

-- a byte past the end of memory
pub bare_byte : (m : List ℕ) (z y x k : ℕ) → on_page x y ≡ true → length m ≤ 1024 * block_of z k → byte_at m (place_of x y (block_of z k)) ≡ 0
bare_byte m z y x k g l = get_or-eq_default m 0 (omega (arith, l, (place_block x y (block_of z k) g).0))

module _ (shown : Shown) (m : List ℕ) (whole : length m ≡ bytes_of shown.blocks) where
  byte_there : (r x k : ℕ) → x < 40 → byte_from m (code_address shown r x k) ≡ byte_at m (place_of x (row_y (yor_of shown) r) (block_of (first_block shown) k))
  unfolding code_address
  byte_there r x k l =
      let y = row_y (yor_of shown) r in
      byte_kept shown.blocks (record { x = x; y = y; z = block_of (first_block shown) k }) m whole (facts_page x y l (row_facts (yor_of shown) r))

  -- a cell's code, whether or not its bytes are fitted, is what memory has at their places, and 0 past its end
  pub code_kept : (r x : ℕ) → x < 40 → code_at shown m r x ≡ code_of m (first_block shown) (row_y (yor_of shown) r) x
  unfolding code_at code_of
  code_kept r x l = rw (byte_there r x 0 l, byte_there r x 1 l, byte_there r x 2 l)

  -- the row buffer, from the block and the Y that the code has
  pub buffer : (r z y yor : ℕ) → z ≡ first_block shown → y ≡ row_y yor r → yor ≡ yor_of shown → table (code_of m z y) 40 ≡ row_buffer shown m r
  buffer r z y yor ez ey eo = rw (ez, ey, eo) (sym (table_same (code_at shown m r) (code_of m (first_block shown) (row_y (yor_of shown) r)) 40 (code_kept r)))

  -- memory has the page's blocks that are fitted, and ends before the others
  pub has_block : (k : ℕ) → is_fitted shown k ≡ true → Has m (first_block shown) k
  has_block k e = omega (arith, whole, ltb-true (block_of (first_block shown) k) shown.blocks e)

  pub bare_block : (k : ℕ) → is_fitted shown k ≡ false → length m ≤ 1024 * block_of (first_block shown) k
  bare_block k e = omega (arith, whole, ltb-false (block_of (first_block shown) k) shown.blocks e)

-- where the second block of a page is fitted, the first is: its number is even
pub first_fitted : (shown : Shown) → is_fitted shown 1 ≡ true → is_fitted shown 0 ≡ true
first_fitted shown e =
    let z = first_block shown in lt-ltb (block_of z 0) shown.blocks (omega (arith, ltb-true (block_of z 1) shown.blocks e))

-- memory has all three blocks where the second and the third are fitted
pub has_code :
    (shown : Shown) (m : List ℕ) → length m ≡ bytes_of shown.blocks → (z : ℕ) → z ≡ first_block shown → is_fitted shown 1 ≡ true → is_fitted shown 2 ≡ true
    → Has m z 0 × Has m z 1 × Has m z 2
has_code shown m whole z e p q = rw e (has_block shown m whole 0 (first_fitted shown p), has_block shown m whole 1 p, has_block shown m whole 2 q)

-- a cell's code, by where the page stands and the blocks alone
pub code_ignores :
    (a b : Shown) → a.ror ≡ b.ror → a.dor ≡ b.dor → a.part ≡ b.part → a.blocks ≡ b.blocks → (m : List ℕ) (r x : ℕ) → code_at a m r x ≡ code_at b m r x
unfolding code_at code_address
code_ignores a b ror dor part blocks m r x = rw (ror, dor, part, blocks)
