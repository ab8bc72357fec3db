-- The keys tell the cells that read a byte of one of the blocks as a slice: the place of a legal triple is that of one slice of one
-- character in one block, and a cell's source is one of the blocks where a part of its B is as DOR says.
-- Assumes nothing.
use Prim.Native.Nat.{ℕ, ◌+◌, ◌*◌, ◌/◌, ◌%◌, ◌≤◌, ◌<◌}
use mathlib.Core.Path.{◌≡◌, refl, sym, ap, ap₂, ◌∙◌}
use mathlib.Core.Bool.{Bool, true, false, ◌&&◌, ◌||◌, false≢true, and-true, and-false}
use mathlib.Core.List.{List}
use mathlib.Core.Logic.{⊎_elim}
use native.Mathlib.Omega.{arith}
use lib.Dec.{eqb, leb}
use lib.ListN.{get_or}
use borrow.Author.Tests.{eq-eqb, ne_eqb, eqb-true, le-leb}
use Rattle.basics.specs.Bits.{bits}
use Rattle.basics.specs.Below.{any_below}
use Rattle.basics.proofs.Choice.{bool_cases, lt_or_le, and_left, and_right, and_both}
use Rattle.basics.proofs.Computed.{agree_test}
use Rattle.basics.proofs.Below.{any_hit, any_at}
use Rattle.address.specs.Addresses.{is_at}
use Rattle.address.specs.Triples.{on_page, legal}
use Rattle.address.specs.Places.{place_of, place_at}
use Rattle.address.specs.Slices.{slice_x, slice_y, slice_at, slice_address}
use Rattle.address.proofs.Addresses.{address_illegal, listed}
use Rattle.address.proofs.Laws.{page_column, page_row}
use Rattle.address.proofs.Places.{place_injective}
use Rattle.shown.specs.declared.Shown.{Shown}
use Rattle.board.specs.declared.Part.{Part}
use Rattle.board.specs.declared.Part.TheVariants.{Ef9345, Ts9347}
use Rattle.cell.specs.Cells.{ef9345_set, ts9347_set, cell_of}
use Rattle.sources.specs.Sources.{set_source, cell_source}
use Rattle.sources.specs.declared.source.Source.{Source}
use Rattle.sources.specs.declared.source.Source.TheVariants.{Rom, Block}
use Rattle.reading.specs.Lists.{source_holds, cell_holds}
use Rattle.sources.proofs.SliceSources.{Fitting, source_fitting}
use Rattle.sources.proofs.CellSources.{of_set, source_user0, source_user1, source_quad, character}
use Rattle.keys.specs.declared.key.Keys.{Keys}
use Rattle.keys.specs.HowKeys.{key_if, is_one, some_block, AllFitted, quad_key, keys_of, keys_high, from_block, keyed}
use Rattle.keys.proofs.Tests.{together}
use Rattle.keys.proofs.Blocks.{some_none, some_fitted, some_and, some_one}

-- one character has the place among its slices, on a board of so many blocks that has the place's
module _ (board x y z : ℕ) (page : on_page x y ≡ true) (fits : z < board) where
  -- where the slice is legal
  held : (c n b : ℕ) → legal (slice_at c n b) ≡ true → is_at (place_of x y z) (slice_address board c n b) ≡ eqb (place_of x y z) (place_at (slice_at c n b))
  unfolding slice_address
  held c n b e = listed board (slice_at c n b) x y z page fits e

  unheld : (c n b : ℕ) → legal (slice_at c n b) ≡ false → is_at (place_of x y z) (slice_address board c n b) ≡ false
  unfolding slice_address
  unheld c n b e = ap (is_at (place_of x y z)) (address_illegal board (slice_at c n b) e)

  only : (c n b : ℕ) → is_at (place_of x y z) (slice_address board c n b) ≡ true → (eqb (c % 128) (y * 4 + x % 4) && eqb b z) ≡ true
  only c n b e =
      ⊎_elim
      (λ there.
      let same = place_injective x y z (slice_x c n) (slice_y c) b page there (eqb-true _ _ (sym (held c n b there) ∙ e)) in
      and_both _ _ (eq-eqb (c % 128) (y * 4 + x % 4) (omega arith)) (eq-eqb b z (omega arith)))
      (λ none. absurd (false≢true (sym (unheld c n b none) ∙ e)))
      (bool_cases (legal (slice_at c n b)))

  -- slice x / 4
  there : (c b : ℕ) → c % 128 ≡ y * 4 + x % 4 → b ≡ z → is_at (place_of x y z) (slice_address board c (x / 4) b) ≡ true
  there c b e f =
      let ey : slice_y c ≡ y = ⊎_elim (λ r. omega arith) (λ r. omega arith) (page_row x y page) in
      let ex : slice_x c (x / 4) ≡ x = omega arith in
      held c (x / 4) b (ap₂ on_page ex ey ∙ page)
      ∙ eq-eqb _ _ (sym (ap (λ (a : ℕ). place_of a (slice_y c) b) ex ∙ ap (λ (a : ℕ). place_of x a b) ey ∙ ap (place_of x y) f))

  pub slices_hold_lem : (c b : ℕ) → any_below (λ n. is_at (place_of x y z) (slice_address board c n b)) 10 ≡ (eqb (c % 128) (y * 4 + x % 4) && eqb b z)
  slices_hold_lem c b =
      together _ _
      (λ e. let w = any_at _ 10 e in only c w.at b w.passes)
      (λ e.
      let column = page_column x y page in
      any_hit _ 10 (x / 4) (omega arith) (there c b (eqb-true _ _ (and_left _ _ e)) (eqb-true _ _ (and_right (eqb (c % 128) (y * 4 + x % 4)) _ e))))

-- the source is block z; is one of the blocks
abbrev source_is : ℕ → Source → Bool
source_is z (Rom set) = false
source_is z (Block b) = eqb b z

abbrev one_is : List ℕ → Source → Bool
one_is blocks (Rom set) = false
one_is blocks (Block b) = is_one blocks b

-- a set of the ROM is none of the blocks
source_rom : (shown : Shown) (c b a : ℕ) → b < 256 → (blocks : List ℕ) (part : Part) → b < 128 → one_is blocks (cell_source shown (cell_of part c b a)) ≡ false
unfolding ef9345_set ts9347_set
source_rom shown c b a small blocks Ef9345 h =
    ap (one_is blocks) (of_set shown c b a small Ef9345 (omega arith))
    ∙ agree_test (λ high. one_is blocks (set_source shown (ef9345_set high))) (λ high. false) 8 tt (bits 4 4 b) (omega arith)
source_rom shown c b a small blocks Ts9347 h =
    ap (one_is blocks) (of_set shown c b a small Ts9347 (omega arith))
    ∙ agree_test (λ low. one_is blocks (set_source shown (ts9347_set low))) (λ low. false) 128 tt b h

-- a key of 255 is met by no part of a byte
key_met : (fits : Bool) (v key : ℕ) → v < 255 → eqb v (key_if fits key) ≡ (fits && eqb v key)
key_met true v key h = refl
key_met false v key h = ne_eqb v 255 (λ e. omega arith)

met_fit : (fits : Bool) (v key : ℕ) → v < 255 → v ≡ key → eqb v (key_if fits key) ≡ fits
met_fit fits v key h e = key_met fits v key h ∙ ap (λ (t : Bool). fits && t) (eq-eqb v key e) ∙ and-true fits

unmet : (fits : Bool) (v key : ℕ) → v < 255 → (v ≡ key → ⊥) → eqb v (key_if fits key) ≡ false
unmet fits v key h n = key_met fits v key h ∙ ap (λ (t : Bool). fits && t) (ne_eqb v key n) ∙ and-false fits

-- one of the six keys is met
six :
    {p q r s t u p' q' r' s' t' u' : Bool} → p ≡ p' → q ≡ q' → r ≡ r' → s ≡ s' → t ≡ t' → u ≡ u'
    → ((p || (q || r)) || (s || (t || u))) ≡ ((p' || (q' || r')) || (s' || (t' || u')))
six a b c d e f = ap₂ ◌||◌ (ap₂ ◌||◌ a (ap₂ ◌||◌ b c)) (ap₂ ◌||◌ d (ap₂ ◌||◌ e f))

first_met : (p : Bool) → ((p || (false || false)) || (false || (false || false))) ≡ p
first_met true = refl
first_met false = refl

second_met : (p : Bool) → ((false || (p || false)) || (false || (false || false))) ≡ p
second_met true = refl
second_met false = refl

third_met : (p : Bool) → ((false || (false || p)) || (false || (false || false))) ≡ p
third_met true = refl
third_met false = refl

-- two comparisons that are one
both : (a b c d e f : ℕ) → (a ≡ b → c ≡ d → e ≡ f) → (e ≡ f → a ≡ b) → (e ≡ f → c ≡ d) → (eqb a b && eqb c d) ≡ eqb e f
both a b c d e f l m n =
    together _ _
    (λ t. eq-eqb e f (l (eqb-true a b (and_left _ _ t)) (eqb-true c d (and_right (eqb a b) _ t))))
    (λ t. let g = eqb-true e f t in and_both _ _ (eq-eqb a b (m g)) (eq-eqb c d (n g)))

module _ (shown : Shown) (blocks : List ℕ) (b : ℕ) (small : b < 256) where
  abbrev g0 : ℕ
  g0 = shown.dor % 16

  abbrev g1 : ℕ
  g1 = shown.dor / 16 % 8 * 2

  abbrev met : Bool
  met =
      (eqb (b / 32) (key_if (is_one blocks g0) 4) || (eqb (b / 16) (key_if (is_one blocks g1) 10) || eqb (b / 16) (key_if (is_one blocks (g1 + 1)) 11)))
      || (eqb (b / 8) (quad_key shown (get_or blocks 0 0)) || (eqb (b / 8) (quad_key shown (get_or blocks 1 0)) || eqb (b / 8) (quad_key shown (get_or blocks 2 0))))

  -- below 192 no key of a block is met; from there on that of its block
  no_quad : b < 192 → (z : ℕ) → eqb (b / 8) (quad_key shown z) ≡ false
  no_quad h z = unmet (eqb (shown.dor / 128 % 2) (z / 8)) (b / 8) (24 + z % 8) (omega arith) (λ e. omega arith)

  its_quad : 192 ≤ b → (z : ℕ) → eqb (b / 8) (quad_key shown z) ≡ eqb z (8 * (shown.dor / 128 % 2) + b / 8 % 8)
  its_quad h z =
      key_met (eqb (shown.dor / 128 % 2) (z / 8)) (b / 8) (24 + z % 8) (omega arith)
      ∙ both (shown.dor / 128 % 2) (z / 8) (b / 8) (24 + z % 8) z (8 * (shown.dor / 128 % 2) + b / 8 % 8) (λ p q. omega arith) (λ e. omega arith) (λ e. omega arith)

  -- the keys are met exactly where the source is one of the blocks
  module _ (c a : ℕ) where
    met_rom : b < 128 → met ≡ one_is blocks (cell_source shown (cell_of shown.part c b a))
    met_rom l =
        six (unmet (is_one blocks g0) (b / 32) 4 (omega arith) (λ e. omega arith)) (unmet (is_one blocks g1) (b / 16) 10 (omega arith) (λ e. omega arith))
        (unmet (is_one blocks (g1 + 1)) (b / 16) 11 (omega arith) (λ e. omega arith)) (no_quad (omega arith) (get_or blocks 0 0)) (no_quad (omega arith) (get_or blocks 1 0)) (no_quad (omega arith) (get_or blocks 2 0))
        ∙ sym (source_rom shown c b a small blocks shown.part l)

    met_user0 : 128 ≤ b → b < 160 → met ≡ one_is blocks (cell_source shown (cell_of shown.part c b a))
    met_user0 h l =
        six (met_fit (is_one blocks g0) (b / 32) 4 (omega arith) (omega arith)) (unmet (is_one blocks g1) (b / 16) 10 (omega arith) (λ e. omega arith))
        (unmet (is_one blocks (g1 + 1)) (b / 16) 11 (omega arith) (λ e. omega arith)) (no_quad (omega arith) (get_or blocks 0 0)) (no_quad (omega arith) (get_or blocks 1 0)) (no_quad (omega arith) (get_or blocks 2 0))
        ∙ first_met (is_one blocks g0)
        ∙ sym (ap (one_is blocks) (source_user0 shown c b a small shown.part h l))

    met_user10 : 160 ≤ b → b < 176 → met ≡ one_is blocks (cell_source shown (cell_of shown.part c b a))
    met_user10 h l =
        let e : g1 ≡ 2 * (shown.dor / 16 % 8) + b / 16 % 2 = omega arith in
        six (unmet (is_one blocks g0) (b / 32) 4 (omega arith) (λ e. omega arith)) (met_fit (is_one blocks g1) (b / 16) 10 (omega arith) (omega arith))
        (unmet (is_one blocks (g1 + 1)) (b / 16) 11 (omega arith) (λ e. omega arith)) (no_quad (omega arith) (get_or blocks 0 0)) (no_quad (omega arith) (get_or blocks 1 0)) (no_quad (omega arith) (get_or blocks 2 0))
        ∙ second_met (is_one blocks g1)
        ∙ ap (is_one blocks) e
        ∙ sym (ap (one_is blocks) (source_user1 shown c b a small shown.part h (omega arith)))

    met_user11 : 176 ≤ b → b < 192 → met ≡ one_is blocks (cell_source shown (cell_of shown.part c b a))
    met_user11 h l =
        let e : g1 + 1 ≡ 2 * (shown.dor / 16 % 8) + b / 16 % 2 = omega arith in
        six (unmet (is_one blocks g0) (b / 32) 4 (omega arith) (λ e. omega arith)) (unmet (is_one blocks g1) (b / 16) 10 (omega arith) (λ e. omega arith))
        (met_fit (is_one blocks (g1 + 1)) (b / 16) 11 (omega arith) (omega arith)) (no_quad (omega arith) (get_or blocks 0 0)) (no_quad (omega arith) (get_or blocks 1 0)) (no_quad (omega arith) (get_or blocks 2 0))
        ∙ third_met (is_one blocks (g1 + 1))
        ∙ ap (is_one blocks) e
        ∙ sym (ap (one_is blocks) (source_user1 shown c b a small shown.part (omega arith) l))

    met_quad : 192 ≤ b → met ≡ one_is blocks (cell_source shown (cell_of shown.part c b a))
    unfolding is_one
    met_quad h =
        six (unmet (is_one blocks g0) (b / 32) 4 (omega arith) (λ e. omega arith)) (unmet (is_one blocks g1) (b / 16) 10 (omega arith) (λ e. omega arith))
        (unmet (is_one blocks (g1 + 1)) (b / 16) 11 (omega arith) (λ e. omega arith)) (its_quad h (get_or blocks 0 0)) (its_quad h (get_or blocks 1 0)) (its_quad h (get_or blocks 2 0))
        ∙ sym (ap (one_is blocks) (source_quad shown c b a small shown.part h))

    pub block_met : met ≡ one_is blocks (cell_source shown (cell_of shown.part c b a))
    block_met =
        ⊎_elim met_rom
        (λ h1. ⊎_elim (met_user0 h1) (λ h2. ⊎_elim (met_user10 h2) (λ h3. ⊎_elim (met_user11 h3) met_quad (lt_or_le b 192)) (lt_or_le b 176)) (lt_or_le b 160))
        (lt_or_le b 128)

-- a source is one of the blocks where it is some block
some_source : (part : Part) (blocks : List ℕ) (s : Source) → Fitting part s → some_block (λ z. source_is z s) blocks ≡ one_is blocks s
some_source part blocks (Rom set) l = some_none blocks
some_source part blocks (Block b) l = some_one blocks b (omega arith)

module _ (shown : Shown) (x y : ℕ) (page : on_page x y ≡ true) where
  source_holds_lem : (z c : ℕ) (s : Source) → z < shown.blocks → source_holds shown.blocks (place_of x y z) c s ≡ (eqb (c % 128) (y * 4 + x % 4) && source_is z s)
  source_holds_lem z c (Rom set) l = sym (and-false (eqb (c % 128) (y * 4 + x % 4)))
  source_holds_lem z c (Block b) l = slices_hold_lem shown.blocks x y z page l c b

  pub keyed_cell :
      (blocks code : List ℕ) → AllFitted shown.blocks blocks → get_or code 1 0 < 256
      → keyed (keys_of shown x y blocks) code ≡ some_block (λ z. cell_holds shown (place_of x y z) code) blocks
  unfolding keyed keys_of from_block cell_holds
  keyed_cell blocks code fitted small =
      let c = get_or code 0 0 in
      let b = get_or code 1 0 in
      let a = get_or code 2 0 in
      let s = cell_source shown (cell_of shown.part c b a) in
      ap (λ (t : Bool). eqb (c % 128) (y * 4 + x % 4) && t) (block_met shown blocks b small c a ∙ sym (some_source shown.part blocks s (source_fitting shown (cell_of shown.part c b a))))
      ∙ sym (some_and blocks (eqb (c % 128) (y * 4 + x % 4)) (λ z. source_is z s))
      ∙ some_fitted blocks shown.blocks fitted _ _
      (λ z l. sym (source_holds_lem z c s l) ∙ ap (λ (n : ℕ). source_holds shown.blocks (place_of x y z) n s) (sym (character shown.part c b a)))

-- the keys that the code has
pub keys_made :
    (shown : Shown) (x y : ℕ) (blocks : List ℕ) (f g h : Bool) (u v w p q r : ℕ)
    → f ≡ is_one blocks (shown.dor % 16) → u ≡ key_if f 4
    → g ≡ is_one blocks (shown.dor / 16 % 8 * 2) → v ≡ key_if g 10
    → h ≡ is_one blocks (shown.dor / 16 % 8 * 2 + 1) → w ≡ key_if h 11
    → p ≡ quad_key shown (get_or blocks 0 0) → q ≡ quad_key shown (get_or blocks 1 0) → r ≡ quad_key shown (get_or blocks 2 0)
    → ◌≡◌ {A = Keys} (record { character = y * 4 + x % 4; user0 = u; user10 = v; user11 = w; quad0 = p; quad1 = q; quad2 = r }) (keys_of shown x y blocks)
unfolding keys_of
keys_made shown x y blocks f g h u v w p q r ef eu eg ev eh ew ep eq er = rw (eu, ef, ev, eg, ew, eh, ep, eq, er)

-- each key is one of a user or quadrichrome cell
pub keys_high_lem : (shown : Shown) (x y : ℕ) (blocks : List ℕ) (keys : Keys) → keys ≡ keys_of shown x y blocks → keys_high keys ≡ true
unfolding keys_high keys_of
keys_high_lem shown x y blocks keys e =
    rw e
    (and_both _ _
    (and_both _ _ (high 4 (is_one blocks (shown.dor % 16)) 4 (omega arith) (omega arith))
    (and_both _ _ (high 8 (is_one blocks (shown.dor / 16 % 8 * 2)) 10 (omega arith) (omega arith))
    (high 8 (is_one blocks (shown.dor / 16 % 8 * 2 + 1)) 11 (omega arith) (omega arith))))
    (and_both _ _ (quad (get_or blocks 0 0)) (and_both _ _ (quad (get_or blocks 1 0)) (quad (get_or blocks 2 0)))))
  where
    high : (n : ℕ) (fits : Bool) (key : ℕ) → n ≤ key → n ≤ 255 → leb n (key_if fits key) ≡ true
    high n true key h l = le-leb n key h
    high n false key h l = le-leb n 255 l

    quad : (z : ℕ) → leb 16 (quad_key shown z) ≡ true
    quad z = high 16 (eqb (shown.dor / 128 % 2) (z / 8)) (24 + z % 8) (omega arith) (omega arith)

-- the keys' test of a cell, by the bytes that the code reads
pub keyed_test :
    (code : List ℕ) (c b : ℕ) (keys : Keys) → c ≡ get_or code 0 0 → b ≡ get_or code 1 0
    → (eqb (c % 128) keys.character
    && ((eqb (b / 32) keys.user0 || (eqb (b / 16) keys.user10 || eqb (b / 16) keys.user11))
    || (eqb (b / 8) keys.quad0 || (eqb (b / 8) keys.quad1 || eqb (b / 8) keys.quad2))))
    ≡ keyed keys code
unfolding from_block keyed
keyed_test code c b keys e f = rw (e, f)
