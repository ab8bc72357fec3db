-- The ten bytes of a cell as the code works them out: of a mosaic, or of a character of G0, which is hidden, or its slices, the last underlined.
-- Assumes nothing.
use Prim.Native.Nat.{ℕ, ◌+◌, ◌-◌, ◌*◌, ◌%◌, ◌<◌, ◌≤◌}
use mathlib.Core.Path.{◌≡◌, refl, sym, ap, ◌∙◌}
use mathlib.Core.Bool.{Bool, true, false, not, ◌&&◌, and-false}
use mathlib.Core.List.{List, [], ◌∷◌}
use native.Mathlib.Omega.{arith}
use lib.Dec.{eqb}
use lib.ListN.{get_or, set, take, drop, replicate, length, length-set}
use lib.Seq.{get_or-take, get_or-drop}
use borrow.Author.Tests.{eq-eqb, ne_eqb}
use Rattle.basics.specs.Choice.{pick}
use Rattle.basics.specs.Bits.{bit, is_set}
use Rattle.basics.specs.Parts.{joined, table}
use Rattle.basics.proofs.Computed.{agree_test}
use Rattle.basics.proofs.Parts.{joined_front, table_same, length_table}
use Rattle.basics.proofs.Filled.{table_set, table_end}
use Rattle.shown.specs.declared.Shown.{Shown}
use Rattle.sources.specs.Sources.{rom_slice}
use Rattle.narrow.specs.declared.pair.Narrow.{Narrow}
use Rattle.narrow.specs.Pixels.{character_bit, text_underlined, text_flashed, text_inverted, text_bit, mosaic_bit, narrow_bit}
use Rattle.narrow.specs.HowTens.{byte_of, narrow_ten, shaded_of, mosaic_ten}
use Rattle.narrow.specs.HowText.{hidden}
use Rattle.narrow.proofs.Bytes.{lowest, byte_same}

-- C7 as a comparison
pub text_c7 : (c : ℕ) → c < 128 → is_set 7 c ≡ false
text_c7 = agree_test (λ c. is_set 7 c) (λ c. false) 128 tt

mosaic_c7 : (c : ℕ) → 128 ≤ c → c < 256 → is_set 7 c ≡ true
mosaic_c7 c l h = eq-eqb (bit 7 c) 1 (omega arith)

full : (x : ℕ) → x < 6 → is_set x 255 ≡ true
full = agree_test (λ x. is_set x 255) (λ x. true) 6 tt

empty : (x : ℕ) → x < 6 → is_set x 0 ≡ false
empty = agree_test (λ x. is_set x 0) (λ x. false) 6 tt

-- the ten bytes of a mosaic are those of its cell
pub mosaic_cell : (rom : List ℕ) (shown : Shown) (cell : Narrow) → 128 ≤ cell.character → cell.character < 256 → mosaic_ten cell ≡ narrow_ten rom shown cell
unfolding mosaic_ten narrow_ten byte_of narrow_bit
mosaic_cell rom shown cell l h =
    table_same _ _ 10
    (λ n k.
    byte_same (is_set 0 cell.attributes) _ _
    (λ x q. sym (ap (λ (t : Bool). pick t (mosaic_bit cell n x) (text_bit rom shown cell n x)) (mosaic_c7 cell.character l h))))

-- where flash may hide a cell, its phase decides
pub by_phase : (cell : Narrow) (shown : Shown) → bit 2 cell.attributes ≡ 1 → bit 6 shown.pat ≡ 1 → not (eqb shown.phase (bit 3 cell.attributes)) ≡ hidden cell shown
unfolding hidden
by_phase cell shown e h = rw (eq-eqb (bit 2 cell.attributes) 1 e, eq-eqb (bit 6 shown.pat) 1 h)

module _ (rom : List ℕ) (shown : Shown) (cell : Narrow) (text : cell.character < 128) where
  abbrev n3 : Bool
  n3 = is_set 3 cell.attributes

  abbrev d0 : Bool
  d0 = is_set 0 cell.attributes

  -- the byte of a slice, with D as the code asks for it
  abbrev shaded_by : ℕ → ℕ
  shaded_by s = shaded_of s n3 (eqb (cell.attributes % 2) 1)

  by_d : (s : ℕ) → shaded_by s ≡ shaded_of s n3 d0
  by_d s = ap (shaded_of s n3) (lowest cell.attributes)

  -- a pixel of text
  is_text :
      (n x : ℕ) → text_inverted cell (text_flashed cell shown (text_underlined cell n (character_bit rom cell n x))) ≡ narrow_bit rom shown cell n x
  unfolding narrow_bit
  is_text n x = rw (text_c7 cell.character text)

  -- a line of text, from the slice after underline and flash
  line_by :
      (n s : ℕ) → ((x : ℕ) → x < 6 → is_set x s ≡ text_flashed cell shown (text_underlined cell n (character_bit rom cell n x)))
      → shaded_of s n3 d0 ≡ byte_of rom shown cell n
  unfolding shaded_of byte_of
  line_by n s e = byte_same d0 _ _ (λ x l. ap (text_inverted cell) (e x l) ∙ is_text n x)

  pub text_hidden : hidden cell shown ≡ true → (n : ℕ) → shaded_of 0 n3 d0 ≡ byte_of rom shown cell n
  unfolding hidden text_flashed
  text_hidden h n = line_by n 0 (λ x l. empty x l ∙ sym (ap (λ (t : Bool). pick t false (text_underlined cell n (character_bit rom cell n x))) h))

  module _ (seen : hidden cell shown ≡ false) where
    shown_bit : (b : Bool) → b ≡ text_flashed cell shown b
    unfolding hidden text_flashed
    shown_bit b = sym (ap (λ (t : Bool). pick t false b) seen)

    -- not underlined
    pub text_plain :
        (n : ℕ) → (is_set 1 cell.attributes && eqb n 9) ≡ false → shaded_of (rom_slice rom cell.character 0 n) n3 d0 ≡ byte_of rom shown cell n
    unfolding text_underlined
    text_plain n e =
        line_by n (rom_slice rom cell.character 0 n)
        (λ x l. sym (ap (λ (t : Bool). pick t true (character_bit rom cell n x)) e) ∙ shown_bit (text_underlined cell n (character_bit rom cell n x)))

    pub text_lined : (n : ℕ) → (is_set 1 cell.attributes && eqb n 9) ≡ true → shaded_of 255 n3 d0 ≡ byte_of rom shown cell n
    unfolding text_underlined
    text_lined n e =
        line_by n 255
        (λ x l. full x l ∙ sym (ap (λ (t : Bool). pick t true (character_bit rom cell n x)) e) ∙ shown_bit (text_underlined cell n (character_bit rom cell n x)))

  -- the ten as the code makes them: all hidden
  pub hidden_ten : (v : ℕ) → v ≡ shaded_by 0 → hidden cell shown ≡ true → replicate 10 v ≡ narrow_ten rom shown cell
  unfolding narrow_ten joined
  hidden_ten v e h = table_same (λ n. v) (byte_of rom shown cell) 10 (λ n l. e ∙ by_d 0 ∙ text_hidden h n)

  module _ (seen : hidden cell shown ≡ false) (ten : List ℕ) (e : ten ≡ table (λ n. shaded_by (rom_slice rom cell.character 0 n)) 10) where
    -- the slices as they are
    pub plain_ten : (bit 1 cell.attributes ≡ 1 → ⊥) → ten ≡ narrow_ten rom shown cell
    unfolding narrow_ten
    plain_ten n =
        e ∙ table_same _ _ 10 (λ i l. by_d _ ∙ text_plain seen i (ap (λ (t : Bool). t && eqb i 9) (ne_eqb (bit 1 cell.attributes) 1 n)))

    long : length ten ≡ 10
    long = ap length e ∙ length_table _ 10

    early : take 9 ten ≡ table (byte_of rom shown cell) 9
    early =
        ap (take 9) e
        ∙ joined_front 1 (λ n. shaded_by (rom_slice rom cell.character 0 n) ∷ []) 10 (λ i l. refl) 9 (omega arith)
        ∙ table_same _ _ 9
        (λ i l. by_d _ ∙ text_plain seen i (ap (λ (t : Bool). is_set 1 cell.attributes && t) (ne_eqb i 9 (λ q. omega arith)) ∙ and-false (is_set 1 cell.attributes)))

    -- the last underlined
    pub lined_ten : (v : ℕ) → v ≡ shaded_by 255 → bit 1 cell.attributes ≡ 1 → set ten 9 v ≡ narrow_ten rom shown cell
    unfolding narrow_ten
    lined_ten v ev u =
        table_end (byte_of rom shown cell) (set ten 9 v) 10 10
        (table_set (byte_of rom shown cell) ten 9 v early (ev ∙ by_d 255 ∙ text_lined seen 9 (ap (λ (t : Bool). t && true) (eq-eqb (bit 1 cell.attributes) 1 u))) (omega (arith, long)))
        (omega arith) (omega arith) (length-set ten 9 v ∙ long)

-- ten slices side by side in the ROM
pub rom_ten :
    (rom slices : List ℕ) (c first : ℕ) (negative d : Bool) → c < 128 → first ≡ c * 10 → slices ≡ take (first + 10 - first) (drop first rom)
    → table (λ n. shaded_of (get_or slices n 0) negative d) 10 ≡ table (λ n. shaded_of (rom_slice rom c 0 n) negative d) 10
unfolding rom_slice
rom_ten rom slices c first negative d h e q =
    table_same _ _ 10
    (λ n l.
    ap (λ (s : ℕ). shaded_of s negative d)
    (ap (λ (z : List ℕ). get_or z n 0) q
    ∙ get_or-take (first + 10 - first) (drop first rom) n 0 (omega arith)
    ∙ get_or-drop first rom n 0
    ∙ ap (λ (i : ℕ). get_or rom i 0) (omega arith)))
