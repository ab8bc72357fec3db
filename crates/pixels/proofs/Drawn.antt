-- The line that the code makes of a cell's pairs has the page's pixels.
-- Assumes nothing.
use Prim.Native.Nat.{ℕ, ◌*◌, ◌/◌, ◌%◌, ◌+◌, ◌<◌}
use mathlib.Core.Path.{◌≡◌, sym, ◌∙◌, ap}
use mathlib.Core.Bool.{Bool}
use mathlib.Core.List.{List, [], ◌∷◌}
use native.Mathlib.Omega.{arith}
use lib.ListN.{length, get_or}
use Rattle.basics.specs.Bits.{bits, is_set, from_bits}
use Rattle.basics.specs.Parts.{joined}
use Rattle.basics.proofs.Bits.{number_bit, number_small, field_low, field_high, byte_number}
use Rattle.basics.proofs.Parts.{table_at, table_same, length_table}
use Rattle.shown.specs.declared.Shown.{Shown}
use Rattle.colour.specs.Colours.{packed_of}
use Rattle.cell.specs.declared.kind.BichromeCell.{BichromeCell}
use Rattle.cell.specs.declared.kind.QuadrichromeCell.{QuadrichromeCell}
use Rattle.cell.specs.declared.kind.Cell.{Cell}
use Rattle.cell.specs.declared.kind.Cell.TheVariants.{Bichrome, Quadrichrome}
use Rattle.pixels.specs.Pixels.{taken_bit, underlined, dyed, bichrome_pixel, quadrichrome_pixel, cell_line}
use Rattle.pixels.specs.HowPairs.{bichrome_pairs, rank_pair, quadrichrome_pairs, cell_pairs, effective_of, four_by}

-- four bytes, as the code chooses them
pub four_made :
    (byte : ℕ) (pairs : List ℕ) (a b c d : ℕ)
    → a ≡ get_or pairs (byte % 4) 0 → b ≡ get_or pairs (byte / 4 % 4) 0 → c ≡ get_or pairs (byte / 16 % 4) 0 → d ≡ get_or pairs (byte / 64 % 4) 0
    → ◌≡◌ {A = List ℕ} (a ∷ b ∷ c ∷ d ∷ []) (four_by byte pairs)
unfolding four_by joined
four_made byte pairs a b c d p q r s =
    let e : byte % 4 ≡ bits 0 2 byte = omega arith in
    let f : byte / 4 % 4 ≡ bits 2 2 byte = omega arith in
    let g : byte / 16 % 4 ≡ bits 4 2 byte = omega arith in
    let h : byte / 64 % 4 ≡ bits 6 2 byte = omega arith in
    rw (p, q, r, s, e, f, g, h)

pub four_long : (byte : ℕ) (pairs : List ℕ) → length (four_by byte pairs) ≡ 4
unfolding four_by
four_long byte pairs = length_table (λ i. get_or pairs (bits (2 * i) 2 byte) 0) 4

module _ (shown : Shown) (right : Bool) (n s : ℕ) where
  -- bichrome: a pair's two bits are the two bits of the effective byte
  module _ (cell : BichromeCell) where
    abbrev lit : ℕ → Bool
    lit x = underlined cell.underline n (taken_bit cell.wide right s x)

    bichrome_pair :
        (i : ℕ) → i < 4
        → get_or (bichrome_pairs cell shown) (bits (2 * i) 2 (from_bits lit 8)) 0
        ≡ packed_of (bichrome_pixel cell shown right n s (2 * i)) (bichrome_pixel cell shown right n s (2 * i + 1))
    unfolding bichrome_pairs
    bichrome_pair i h =
        let e : ℕ = from_bits lit 8 in
        let small : e < 256 = number_small lit 8 in
        table_at (λ f. packed_of (dyed cell shown (is_set 0 f)) (dyed cell shown (is_set 1 f))) 4 (bits (2 * i) 2 e) 0 (omega arith)
        ∙ ap (λ (b : Bool). packed_of (dyed cell shown b) (dyed cell shown (is_set 1 (bits (2 * i) 2 e))))
        (field_low e i small h ∙ number_bit lit 8 (2 * i) (omega arith))
        ∙ ap (λ (b : Bool). packed_of (dyed cell shown (lit (2 * i))) (dyed cell shown b))
        (field_high e i small h ∙ number_bit lit 8 (2 * i + 1) (omega arith))

  -- quadrichrome: the two bits are the rank
  module _ (cell : QuadrichromeCell) where
    quadrichrome_pair :
        (i : ℕ) → i < 4
        → get_or (quadrichrome_pairs cell.palette) (bits (2 * i) 2 s) 0
        ≡ packed_of (quadrichrome_pixel cell s (2 * i)) (quadrichrome_pixel cell s (2 * i + 1))
    unfolding quadrichrome_pairs
    quadrichrome_pair i h =
        let p : 2 * i / 2 ≡ i = omega arith in
        let q : (2 * i + 1) / 2 ≡ i = omega arith in
        table_at (rank_pair cell.palette) 4 (bits (2 * i) 2 s) 0 (omega arith) ∙ rw (p, q)

  pub pairs_line : (cell : Cell) → s < 256 → four_by (effective_of cell right n s) (cell_pairs cell shown) ≡ cell_line cell shown right n s
  unfolding four_by effective_of cell_line
  pairs_line (Bichrome cell) h = table_same _ _ 4 (λ i l. bichrome_pair cell i l)
  pairs_line (Quadrichrome cell) h =
      table_same _ _ 4
      (λ i l.
      ap (λ (e : ℕ). get_or (quadrichrome_pairs cell.palette) (bits (2 * i) 2 e) 0) (sym (byte_number s h))
      ∙ quadrichrome_pair cell i l)
