-- Laws of a cell's ten bytes: which slice each line shows, and of it the half that is shown.
-- Assumes nothing.
use Prim.Native.Nat.{ℕ, ◌+◌, ◌*◌, ◌%◌, ◌<◌}
use mathlib.Core.Path.{◌≡◌, refl, ap, ◌∙◌}
use mathlib.Core.Bool.{Bool, true, false}
use mathlib.Core.List.{List}
use native.Mathlib.Omega.{arith}
use lib.ListN.{length, get_or}
use Rattle.basics.specs.Bits.{from_bits}
use Rattle.basics.specs.Parts.{table}
use Rattle.basics.proofs.Bits.{byte_number}
use Rattle.basics.proofs.Parts.{table_at, table_same, table_of}
use Rattle.std.specs.Prelude.{Ok, Err}
use Rattle.address.specs.Addresses.{Address, byte_from}
use Rattle.address.specs.Slices.{slice_address}
use Rattle.board.specs.declared.Part.{Part}
use Rattle.board.specs.declared.Part.TheVariants.{Ef9345, Ts9347}
use Rattle.shown.specs.declared.Shown.{Shown}
use Rattle.cell.specs.declared.kind.Cell.{Cell}
use Rattle.cell.specs.Cells.{are_both_set, bichrome_of, cell_of}
use Rattle.pixels.specs.Slices.{slice_shown}
use Rattle.pixels.specs.Pixels.{taken_bit}
use Rattle.pixels.specs.HowPairs.{wide_of}
use Rattle.sources.specs.Sources.{character_of, cell_source, kept_slice, rom_slice, slice_from, slices_of}
use Rattle.sources.specs.declared.source.Source.{Source}
use Rattle.sources.specs.declared.source.Source.TheVariants.{Rom, Block}
use Rattle.page.specs.Halves.{is_wide}
use Rattle.page.specs.Inputs.{decoded}
use Rattle.slices.specs.HowSlices.{by_number}
use Rattle.slices.proofs.Slices.{shown_small}
use Rattle.columns.specs.HowTens.{doubled_of, ten_of}

-- a slice from memory or ROM whose elements are bytes is a byte
module _ (m rom : List ℕ) (m-small : (i : ℕ) → get_or m i 0 < 256) (rom-small : (i : ℕ) → get_or rom i 0 < 256) where
  kept_small : (blocks c z n : ℕ) → kept_slice blocks m c z n < 256
  unfolding kept_slice
  kept_small blocks c z n = go (slice_address blocks c n z)
    where
      go : (at : Address) → byte_from m at < 256
      go (Err why) = omega arith
      go (Ok p) = m-small p

  from_small : (blocks c : ℕ) (source : Source) (n : ℕ) → slice_from blocks m rom c source n < 256
  unfolding rom_slice
  from_small blocks c (Rom set) n = rom-small (1280 * set + 10 * (c % 128) + n)
  from_small blocks c (Block z) n = kept_small blocks c z n

  pub slice_small : (shown : Shown) (cell : Cell) (n : ℕ) → slices_of m rom shown cell n < 256
  unfolding slices_of
  slice_small shown cell n = from_small shown.blocks (character_of cell) (cell_source shown cell) n

-- the ten bytes of a cell, from its slices and those that its lines show
module _ (m rom : List ℕ) (shown : Shown) (cell : Cell) (lower right : Bool) (ten slices : List ℕ)
    (is-ten : ten ≡ by_number slices (slice_shown cell lower)) (is-slices : slices ≡ table (slices_of m rom shown cell) 10) where
  shown_at : (n : ℕ) → n < 10 → get_or ten n 0 ≡ slices_of m rom shown cell (slice_shown cell lower n)
  shown_at n l =
      ap (λ (s : List ℕ). get_or s n 0) is-ten
      ∙ table_at (λ k. get_or slices (slice_shown cell lower k) 0) 10 n 0 l
      ∙ ap (λ (s : List ℕ). get_or s (slice_shown cell lower n) 0) is-slices
      ∙ table_at (slices_of m rom shown cell) 10 (slice_shown cell lower n) 0 (shown_small cell lower n l)

  pub ten_wide : wide_of cell ≡ true → table (doubled_of ten right) 10 ≡ ten_of m rom shown cell lower right
  unfolding ten_of
  ten_wide w =
      table_same _ _ 10 (λ n l. rw w (ap (λ (s : ℕ). from_bits (taken_bit true right s) 8) (shown_at n l)))

  pub ten_whole :
      ((i : ℕ) → get_or m i 0 < 256) → ((i : ℕ) → get_or rom i 0 < 256) → length ten ≡ 10 → wide_of cell ≡ false → ten ≡ ten_of m rom shown cell lower right
  unfolding ten_of
  ten_whole m-small rom-small h w =
      table_of ten 10 0 h
      ∙ table_same _ _ 10 (λ n l. rw w (shown_at n l ∙ byte_number _ (slice_small m rom m-small rom-small shown cell (slice_shown cell lower n))))

-- a cell of either part is of double width where its code is
pub wide_code : (part : Part) (code : List ℕ) → is_wide code ≡ wide_of (decoded part code)
unfolding is_wide cell_of bichrome_of
wide_code Ef9345 code = go (are_both_set (get_or code 1 0)) refl
  where
    go : (q : Bool) → are_both_set (get_or code 1 0) ≡ q → is_wide code ≡ wide_of (decoded Ef9345 code)
    go true e = rw e refl
    go false e = rw e refl
wide_code Ts9347 code = refl
