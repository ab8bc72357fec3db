-- Laws of a stretch of cells: its bytes stand side by side, the tests of its bytes are those of its cells, and a row is two stretches.
-- Assumes nothing.
use Prim.Native.Nat.{ℕ, ◌+◌, ◌*◌, ◌/◌, ◌%◌, ◌≤◌, ◌<◌}
use mathlib.Core.Path.{◌≡◌, refl, sym, ap, ap₂, ◌∙◌}
use mathlib.Core.Bool.{Bool, true, false, not, ◌&&◌, ◌||◌}
use mathlib.Core.List.{List, [], ◌∷◌}
use mathlib.Core.Logic.{⊎_elim}
use native.Mathlib.Omega.{arith}
use lib.Dec.{ltb, leb, eqb}
use lib.ListN.{length, get_or, get_or-eq_default}
use Rattle.basics.specs.Below.{any_below}
use Rattle.basics.proofs.Below.{any_same, any_split}
use Rattle.basics.proofs.Choice.{lt_or_le, eq_or_ne}
use Rattle.address.specs.Places.{place_of, block_of}
use Rattle.address.proofs.Laws.{place_left, place_service, place_right}
use Rattle.address.proofs.Places.{place_within}
use Rattle.board.specs.declared.Part.{Part}
use Rattle.cell.specs.Cells.{is_quadrichrome}
use Rattle.cell.specs.HowCells.{last_bichrome}
use Rattle.cell.proofs.Codes.{bichrome_last, wide_bits}
use Rattle.page.specs.HowCodes.{code_of, Has}
use Rattle.page.specs.Halves.{is_tall, is_wide, same_code, goes_on}
use Rattle.page.specs.HowHalves.{Within, Compared, stretch_code, goes_on_in}
use Rattle.page.specs.declared.stretch.Starts.{Starts}

-- a stretch that crosses from column 31 to column 32 has two starts; another has one
module _ (first i : ℕ) (column : first + i < 40) (side : first % 32 + i < 32) where
  pub stretch_place : (y z : ℕ) → place_of first y z + i ≡ place_of (first + i) y z
  stretch_place y z =
      ⊎_elim
      (λ l. omega (arith, place_left first y z l, place_left (first + i) y z (omega arith)))
      (λ l.
      ⊎_elim
      (λ e. omega (arith, place_service first y z l e, place_service (first + i) y z (omega arith) e))
      (λ n. omega (arith, place_right first y z l n, place_right (first + i) y z (omega arith) n))
      (eq_or_ne y 0))
      (lt_or_le first 32)

  module _ (m : List ℕ) (y z start : ℕ) where
    byte : (k : ℕ) → start ≡ place_of first y (block_of z k) → get_or m (start + i) 0 ≡ get_or m (place_of (first + i) y (block_of z k)) 0
    byte k e = ap (λ (p : ℕ). get_or m p 0) (ap (λ (s : ℕ). s + i) e ∙ stretch_place y (block_of z k))

    pub stretch_c : start ≡ place_of first y (block_of z 0) → get_or m (start + i) 0 ≡ get_or (code_of m z y (first + i)) 0 0
    unfolding code_of
    stretch_c e = byte 0 e

    pub stretch_b : start ≡ place_of first y (block_of z 1) → get_or m (start + i) 0 ≡ get_or (code_of m z y (first + i)) 1 0
    unfolding code_of
    stretch_b e = byte 1 e

    pub stretch_a : start ≡ place_of first y (block_of z 2) → get_or m (start + i) 0 ≡ get_or (code_of m z y (first + i)) 2 0
    unfolding code_of
    stretch_a e = byte 2 e

  -- the code of cell i, from where its three bytes start
  pub code_from_lem :
      (m : List ℕ) (y z : ℕ) (s : Starts)
      → s.c ≡ place_of first y (block_of z 0) → s.b ≡ place_of first y (block_of z 1) → s.a ≡ place_of first y (block_of z 2)
      → stretch_code m s i ≡ code_of m z y (first + i)
  unfolding code_of
  code_from_lem m y z s ec eb ea = rw (byte m y z s.c 0 ec, byte m y z s.b 1 eb, byte m y z s.a 2 ea)

  -- the same where memory ends before the third block
  bare_from :
      (m : List ℕ) (y z c b : ℕ) → c ≡ place_of first y (block_of z 0) → b ≡ place_of first y (block_of z 1) → length m ≤ 1024 * block_of z 2
      → ◌≡◌ {A = List ℕ} (get_or m (c + i) 0 ∷ get_or m (b + i) 0 ∷ 0 ∷ []) (code_of m z y (first + i))
  unfolding code_of
  bare_from m y z c b ec eb short =
      let none : get_or m (place_of (first + i) y (block_of z 2)) 0 ≡ 0 =
      get_or-eq_default m 0 (omega (arith, place_within (first + i) y (block_of z 2))) in
      rw (byte m y z c 0 ec, byte m y z b 1 eb, none)

-- a stretch is in memory, where memory has its block
pub stretch_fits :
    (m : List ℕ) (first n y z k start : ℕ) → start ≡ place_of first y (block_of z k) → Has m z k → y < 32 → first + n ≤ 40 → first % 32 + n ≤ 32
    → start + n ≤ length m
stretch_fits m first n y z k start e hz hy column side =
    ⊎_elim
    (λ l. omega (arith, place_left first y (block_of z k) l))
    (λ l.
    ⊎_elim
    (λ q. omega (arith, place_service first y (block_of z k) l q))
    (λ q. omega (arith, place_right first y (block_of z k) l q))
    (eq_or_ne y 0))
    (lt_or_le first 32)

-- and so are all three of its bytes
pub starts_fit :
    (m : List ℕ) (first n y z : ℕ) (s : Starts)
    → (s.c ≡ place_of first y (block_of z 0)) × (s.b ≡ place_of first y (block_of z 1)) × (s.a ≡ place_of first y (block_of z 2))
    → Has m z 0 → Has m z 1 → Has m z 2 → y < 32 → first + n ≤ 40 → first % 32 + n ≤ 32 → Within m s n
starts_fit m first n y z s e h0 h1 h2 hy column side = (
  stretch_fits m first n y z 0 s.c e.0 h0 hy column side,
  stretch_fits m first n y z 1 s.b e.1 h1 hy column side,
  stretch_fits m first n y z 2 s.a e.2 h2 hy column side,
)

-- fewer cells of it
pub within_less : (m : List ℕ) (s : Starts) (n i : ℕ) → Within m s n → i < n → Within m s (i + 1)
within_less m s n i w l = (omega (arith, w.0), omega (arith, w.1), omega (arith, w.2))

-- a bichrome cell's B, by the last that one can have
pub bichrome_test : (part : Part) (last b : ℕ) → last ≡ last_bichrome part → b < 256 → leb b last ≡ not (is_quadrichrome part b)
bichrome_test part last b e h = ap (leb b) e ∙ sym (bichrome_last part b h)

-- the tests of a cell, by the bytes that the code reads
module _ (code : List ℕ) where
  pub tall_test :
      (part : Part) (last b : ℕ) → last ≡ last_bichrome part → b < 256 → b ≡ get_or code 1 0 → (leb b last && eqb (b / 2 % 2) 1) ≡ is_tall part code
  unfolding is_tall
  tall_test part last b k h e = ap (λ (t : Bool). t && eqb (b / 2 % 2) 1) (bichrome_test part last b k h) ∙ rw e

  pub wide_test : (b : ℕ) → b < 256 → b ≡ get_or code 1 0 → (ltb b 192 && eqb (b / 8 % 2) 1) ≡ is_wide code
  unfolding is_wide
  wide_test b h e = wide_bits b h ∙ rw e

-- cell i of a stretch goes on from the one above it, by the six bytes that the code reads
pub goes_on_test :
    (part : Part) (last : ℕ) → last ≡ last_bichrome part → (m : List ℕ) (here above : Starts) (i : ℕ) → get_or m (here.b + i) 0 < 256
    → ((leb (get_or m (here.b + i) 0) last && eqb (get_or m (here.b + i) 0 / 2 % 2) 1)
    && (eqb (get_or m (here.c + i) 0) (get_or m (above.c + i) 0)
    && (eqb (get_or m (here.b + i) 0) (get_or m (above.b + i) 0) && eqb (get_or m (here.a + i) 0) (get_or m (above.a + i) 0))))
    ≡ goes_on (is_tall part (stretch_code m here i)) (stretch_code m here i) (stretch_code m above i)
unfolding same_code
goes_on_test part last k m here above i h =
    ap
    (λ (t : Bool).
    t
    && (eqb (get_or m (here.c + i) 0) (get_or m (above.c + i) 0)
    && (eqb (get_or m (here.b + i) 0) (get_or m (above.b + i) 0) && eqb (get_or m (here.a + i) 0) (get_or m (above.a + i) 0))))
    (tall_test (stretch_code m here i) part last _ k h refl)

-- and so does the cell in its column
pub goes_on_from :
    (part : Part) (first i : ℕ) → first + i < 40 → first % 32 + i < 32 → (m : List ℕ) (y u z : ℕ) (here above : Starts)
    → (here.c ≡ place_of first y (block_of z 0)) × (here.b ≡ place_of first y (block_of z 1)) × (here.a ≡ place_of first y (block_of z 2))
    → (above.c ≡ place_of first u (block_of z 0)) × (above.b ≡ place_of first u (block_of z 1)) × (above.a ≡ place_of first u (block_of z 2))
    → goes_on (is_tall part (stretch_code m here i)) (stretch_code m here i) (stretch_code m above i) ≡ goes_on_in part m z y u (first + i)
goes_on_from part first i column side m y u z here above h a =
    rw (code_from_lem first i column side m y z here h.0 h.1 h.2, code_from_lem first i column side m u z above a.0 a.1 a.2)

-- where every third byte is 0, the first bytes compared twice tell the same
on_twice :
    (part : Part) (c b d e : ℕ)
    → goes_on (is_tall part (c ∷ b ∷ c ∷ [])) (c ∷ b ∷ c ∷ []) (d ∷ e ∷ d ∷ []) ≡ goes_on (is_tall part (c ∷ b ∷ 0 ∷ [])) (c ∷ b ∷ 0 ∷ []) (d ∷ e ∷ 0 ∷ [])
unfolding is_tall same_code
on_twice part c b d e = ap (λ (s : Bool). is_tall part (c ∷ b ∷ 0 ∷ []) && s) (go (eqb c d) (eqb b e))
  where
    go : (p q : Bool) → (p && (q && p)) ≡ (p && (q && true))
    go true q = refl
    go false q = refl

-- what the code compares: the starts of C and B, and of the page's block t
module _ (m : List ℕ) (z t : ℕ) (fit : Compared m z t) where
  pub compared_fit :
      (first n y : ℕ) (s : Starts)
      → (s.c ≡ place_of first y (block_of z 0)) × (s.b ≡ place_of first y (block_of z 1)) × (s.a ≡ place_of first y (block_of z t))
      → y < 32 → first + n ≤ 40 → first % 32 + n ≤ 32 → Within m s n
  compared_fit first n y s e hy column side = (
    stretch_fits m first n y z 0 s.c e.0 fit.0 hy column side,
    stretch_fits m first n y z 1 s.b e.1 fit.1 hy column side,
    stretch_fits m first n y z t s.a e.2 has_third hy column side,
  )
    where
      has_third : Has m z t
      has_third = ⊎_elim (λ f. rw f.0 f.1) (λ f. rw f.0 fit.0) fit.2

  pub compared_on :
      (part : Part) (first i : ℕ) → first + i < 40 → first % 32 + i < 32 → (y u : ℕ) (here above : Starts)
      → (here.c ≡ place_of first y (block_of z 0)) × (here.b ≡ place_of first y (block_of z 1)) × (here.a ≡ place_of first y (block_of z t))
      → (above.c ≡ place_of first u (block_of z 0)) × (above.b ≡ place_of first u (block_of z 1)) × (above.a ≡ place_of first u (block_of z t))
      → goes_on (is_tall part (stretch_code m here i)) (stretch_code m here i) (stretch_code m above i) ≡ goes_on_in part m z y u (first + i)
  compared_on part first i column side y u here above h a = ⊎_elim whole bare fit.2
    where
      On : Type 0
      On = goes_on (is_tall part (stretch_code m here i)) (stretch_code m here i) (stretch_code m above i) ≡ goes_on_in part m z y u (first + i)

      whole : (t ≡ 2) × Has m z 2 → On
      whole f =
          goes_on_from part first i column side m y u z here above (h.0, h.1, h.2 ∙ ap (λ (k : ℕ). place_of first y (block_of z k)) f.0)
          (a.0, a.1, a.2 ∙ ap (λ (k : ℕ). place_of first u (block_of z k)) f.0)

      bare : (t ≡ 0) × (length m ≤ 1024 * block_of z 2) → On
      bare f =
          let here_a : here.a ≡ here.c = h.2 ∙ ap (λ (k : ℕ). place_of first y (block_of z k)) f.0 ∙ sym h.0 in
          let above_a : above.a ≡ above.c = a.2 ∙ ap (λ (k : ℕ). place_of first u (block_of z k)) f.0 ∙ sym a.0 in
          rw (here_a, above_a)
          (on_twice part (get_or m (here.c + i) 0) (get_or m (here.b + i) 0) (get_or m (above.c + i) 0) (get_or m (above.b + i) 0)
          ∙ rw (bare_from first i column side m y z here.c here.b h.0 h.1 f.1, bare_from first i column side m u z above.c above.b a.0 a.1 f.1))

-- the two stretches of a row
pub row_stretches :
    (f : ℕ → Bool) (left right : Bool) → left ≡ any_below (λ i. f (0 + i)) 32 → right ≡ any_below (λ i. f (32 + i)) 8 → (left || right) ≡ any_below f 40
row_stretches f left right p q =
    ap₂ ◌||◌ (p ∙ any_same (λ i. f (0 + i)) f 32 (λ i l. ap f (omega arith))) q ∙ sym (any_split f 32 8)
