-- The ten bytes of a cell of a ROM set, of single height and width, are ten bytes of the ROM, side by side.
-- Assumes nothing.
use Prim.Native.Nat.{ℕ, ◌+◌, ◌*◌, ◌/◌, ◌%◌, ◌<◌, ◌≤◌}
use mathlib.Core.Path.{◌≡◌, refl, sym, ap, ◌∙◌}
use mathlib.Core.Bool.{Bool, true, false, not, ◌&&◌}
use mathlib.Core.List.{List}
use native.Mathlib.Omega.{arith}
use lib.Dec.{ltb, eqb}
use lib.ListN.{length, get_or, take, drop}
use borrow.Author.Tests.{lt-ltb, ne_eqb, ltb-true, eqb-true}
use Rattle.basics.specs.Bits.{is_set}
use Rattle.basics.specs.Parts.{table}
use Rattle.basics.proofs.Choice.{and_left, and_right}
use Rattle.basics.proofs.Made.{table_copied}
use Rattle.basics.proofs.Parts.{length_table, table_same}
use Rattle.shown.specs.declared.Shown.{Shown}
use Rattle.shown.specs.Lengths.{rom_bytes}
use Rattle.cell.specs.declared.kind.Cell.{Cell}
use Rattle.cell.specs.declared.kind.Cell.TheVariants.{Bichrome}
use Rattle.cell.specs.Cells.{are_both_set, bichrome_of}
use Rattle.cell.proofs.Codes.{wide_bits, below_last, cell_bichrome}
use Rattle.sources.specs.Sources.{rom_slice, slice_from, slices_of}
use Rattle.sources.specs.HowSources.{set_number}
use Rattle.sources.proofs.CellSources.{set_plain, set_fits}
use Rattle.page.specs.Inputs.{decoded}
use Rattle.sources.specs.declared.source.Source.{Source}
use Rattle.columns.specs.HowTens.{is_plain, ten_of}
use Rattle.slices.proofs.Slices.{shown_single}
use Rattle.columns.proofs.Tens.{ten_whole}

module _ (m rom : List ℕ) (shown : Shown) (code : List ℕ) (plain : is_plain (get_or code 1 0) ≡ true) where
  abbrev b : ℕ
  b = get_or code 1 0

  below : b < 128
  unfolding is_plain
  below = ltb-true b 128 (and_left _ _ plain)

  single : b / 2 % 2 ≡ 0
  unfolding is_plain
  single = eqb-true (b / 2 % 2) 0 (and_left _ _ (and_right (ltb b 128) _ plain))

  narrow : b / 8 % 2 ≡ 0
  unfolding is_plain
  narrow = eqb-true (b / 8 % 2) 0 (and_right (eqb (b / 2 % 2) 0) _ (and_right (ltb b 128) _ plain))

  single_wide : (not (are_both_set b) && is_set 3 b) ≡ false
  single_wide =
      sym (wide_bits b (omega (arith, below))) ∙ rw (lt-ltb b 192 (omega (arith, below)), ne_eqb (b / 8 % 2) 1 (λ q. omega (arith, narrow)))

  abbrev cell : Cell
  cell = Bichrome (bichrome_of shown.part (get_or code 0 0) b (get_or code 2 0))

  abbrev set : ℕ
  set = set_number shown.part (b / 16 % 8)

  -- its set is in the ROM
  pub set_whole : length rom ≡ rom_bytes shown.part → 1280 * set + 1280 ≤ length rom
  set_whole h = omega (arith, h, set_fits shown.part (b / 16 % 8) (omega arith))

  slices_are : table (rom_slice rom (get_or code 0 0) set) 10 ≡ table (slices_of m rom shown cell) 10
  unfolding slices_of bichrome_of
  slices_are =
      table_same _ _ 10
      (λ n l. ap (λ (s : Source). slice_from shown.blocks m rom (get_or code 0 0) s n) (sym (set_plain shown.part shown refl b below)))

  -- the ten slices of it are its ten bytes
  pub plain_slices :
      (lower right : Bool) (ten : List ℕ) → ten ≡ table (rom_slice rom (get_or code 0 0) set) 10
      → ((i : ℕ) → get_or m i 0 < 256) → ((i : ℕ) → get_or rom i 0 < 256) → ten ≡ ten_of m rom shown (decoded shown.part code) lower right
  unfolding bichrome_of
  plain_slices lower right ten e m-small rom-small =
      let slices : ten ≡ table (slices_of m rom shown cell) 10 = e ∙ slices_are in
      let long : length ten ≡ 10 = ap length slices ∙ length_table (slices_of m rom shown cell) 10 in
      ten_whole m rom shown cell lower right _ _
      (shown_single (bichrome_of shown.part (get_or code 0 0) b (get_or code 2 0)) lower _ (ne_eqb (b / 2 % 2) 1 (λ q. omega (arith, single))) long)
      slices m-small rom-small long single_wide
      ∙ ap (λ (z : Cell). ten_of m rom shown z lower right) (cell_bichrome shown.part (get_or code 0 0) b (get_or code 2 0) (omega (arith, below)) (below_last shown.part b (omega (arith, below))))

  abbrev Starts : ℕ → Type 0
  Starts first = first ≡ set_number shown.part (b / 16 % 8) * 1280 + get_or code 0 0 % 128 * 10

  -- and they stand side by side
  pub side_by_side : (first : ℕ) → Starts first → length rom ≡ rom_bytes shown.part → take 10 (drop first rom) ≡ table (rom_slice rom (get_or code 0 0) set) 10
  unfolding rom_slice
  side_by_side first e h =
      table_copied (rom_slice rom (get_or code 0 0) set) rom _ first 10 10 0 refl refl (omega (arith, e, set_whole h))
      (λ n l. let same : first + n ≡ 1280 * set + 10 * (get_or code 0 0 % 128) + n = omega (arith, e) in ap (λ (i : ℕ). get_or rom i 0) same)

  pub plain_ten :
      (lower right : Bool) (first : ℕ) → first ≡ set_number shown.part (b / 16 % 8) * 1280 + get_or code 0 0 % 128 * 10 → length rom ≡ rom_bytes shown.part
      → ((i : ℕ) → get_or m i 0 < 256) → ((i : ℕ) → get_or rom i 0 < 256) → take 10 (drop first rom) ≡ ten_of m rom shown (decoded shown.part code) lower right
  plain_ten lower right first e h m-small rom-small = plain_slices lower right _ (side_by_side first e h) m-small rom-small

pub ten_long : (m rom : List ℕ) (shown : Shown) (cell : Cell) (lower right : Bool) → length (ten_of m rom shown cell lower right) ≡ 10
unfolding ten_of
ten_long _ _ _ _ _ _ = length_table _ 10
