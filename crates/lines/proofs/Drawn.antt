-- What the code draws of a line has the pixels of its forty cells.
-- Assumes nothing.
use Prim.Native.Nat.{ℕ, ◌*◌, ◌≤◌, ◌<◌}
use mathlib.Core.Path.{◌≡◌, ap, ap₂, ◌∙◌}
use mathlib.Core.Bool.{Bool, false, ◌&&◌}
use mathlib.Core.List.{List, []}
use native.Mathlib.Omega.{arith}
use lib.Dec.{eqb}
use lib.ListN.{length, get_or, take, drop, replicate}
use lib.Seq.{take-append-le}
use Rattle.basics.specs.Bits.{from_bits}
use Rattle.basics.specs.Parts.{joined}
use Rattle.basics.proofs.Choice.{pick_known}
use Rattle.basics.proofs.Filled.{filled, length_filled}
use Rattle.basics.proofs.Parts.{length_joined, joined_front, table_at, joined_same}
use Rattle.board.specs.declared.Part.{Part}
use Rattle.shown.specs.declared.Shown.{Shown}
use Rattle.shown.specs.Lengths.{forty_bytes, line_bytes}
use Rattle.cell.specs.declared.kind.Cell.{Cell}
use Rattle.pixels.specs.Slices.{slice_shown}
use Rattle.pixels.specs.Pixels.{taken_bit, cell_line}
use Rattle.pixels.specs.HowPairs.{cell_pairs, wide_of, underline_of, underlined_on, effective_of, four_by}
use Rattle.pixels.proofs.Bytes.{effective_lined, effective_taken}
use Rattle.pixels.proofs.Drawn.{pairs_line, four_long}
use Rattle.sources.specs.Sources.{slices_of}
use Rattle.page.specs.Inputs.{decoded}
use Rattle.columns.specs.HowColumns.{byte_in}
use Rattle.columns.specs.HowTens.{taken_at, ten_of, ten_at, tens_of, from_steps, pairs_at, pairs_of}
use Rattle.lines.specs.HowLines.{lined_byte, byte_on, bytes_on, four_of, line_on}
use Rattle.shown.proofs.Lengths.{columns_long}
use Rattle.columns.proofs.Columns.{side_at, side_column}
use Rattle.columns.proofs.Steps.{steps_four, pairs_back}
use Rattle.columns.proofs.Tens.{slice_small}

-- a packed line of forty columns
pub line_long :
    (part : Part) (cells : List (List ℕ)) (lowers : List Bool) (tens pairs : List ℕ) (n : ℕ) → length (line_on part cells lowers tens pairs n) ≡ line_bytes forty_bytes
unfolding line_on
line_long part cells lowers tens pairs n = columns_long forty_bytes _ (λ x l. four_long _ _)

-- a line of which 32 cells are packed
module _ (bytes pairs line : List ℕ) (begun : line ≡ filled forty_bytes (four_of bytes pairs) (replicate (line_bytes forty_bytes) 0) 32) where
  pub begun_long : length line ≡ line_bytes forty_bytes
  begun_long =
      let h : forty_bytes * 32 ≤ line_bytes forty_bytes = omega arith in
      ap length begun ∙ length_filled forty_bytes (four_of bytes pairs) (replicate (line_bytes forty_bytes) 0) 32 (λ x l. four_long _ _) h

  -- the third vector begins at any cell of these
  pub begun_front : (i : ℕ) → i ≤ 32 → take (forty_bytes * i) line ≡ joined (four_of bytes pairs) i
  begun_front i h =
      let packed = joined (four_of bytes pairs) 32 in
      let long : length packed ≡ forty_bytes * 32 = length_joined forty_bytes (four_of bytes pairs) 32 (λ j l. four_long _ _) in
      ap (take (forty_bytes * i)) begun
      ∙ take-append-le (forty_bytes * i) packed (drop (forty_bytes * 32) (replicate (line_bytes forty_bytes) 0)) (omega arith)
      ∙ joined_front forty_bytes (four_of bytes pairs) 32 (λ j l. four_long _ _) i h

module _ (shown : Shown) (code : List ℕ) (lower right : Bool) (n s : ℕ) where
  -- the byte that the code chooses pairs by is the effective byte
  effective_byte :
      lined_byte shown.part code lower n (from_bits (taken_bit (wide_of (decoded shown.part code)) right s) 8) ≡ effective_of (decoded shown.part code) right (slice_shown (decoded shown.part code) lower n) s
  unfolding lined_byte underlined_on
  effective_byte =
      let cell = decoded shown.part code in
      let number = slice_shown cell lower n in
      pick_known (λ (b : ℕ). b ≡ effective_of cell right number s) (underline_of cell && eqb number 9) 255 _ (effective_lined cell right number s)
      (effective_taken cell right number s)

  -- a cell's four bytes on line n
  drawn_cell :
      s < 256
      → four_by (lined_byte shown.part code lower n (from_bits (taken_bit (wide_of (decoded shown.part code)) right s) 8)) (cell_pairs (decoded shown.part code) shown)
      ≡ cell_line (decoded shown.part code) shown right (slice_shown (decoded shown.part code) lower n) s
  drawn_cell h =
      ap (λ (b : ℕ). four_by b (cell_pairs (decoded shown.part code) shown)) effective_byte
      ∙ pairs_line shown right (slice_shown (decoded shown.part code) lower n) s (decoded shown.part code) h

module _ (m rom : List ℕ) (shown : Shown) (cells : List (List ℕ)) (lowers rights : List Bool) where
  -- cell x, and the number of the slice that it shows on line n
  abbrev cell_at : ℕ → Cell
  cell_at x = decoded shown.part (get_or cells x [])

  abbrev number_at : ℕ → ℕ → ℕ
  number_at n x = slice_shown (cell_at x) (get_or lowers x false) n

  -- the pixels of cell x on line n
  abbrev pub pixels_on : ℕ → ℕ → List ℕ
  pixels_on n x = cell_line (cell_at x) shown (get_or rights x false) (number_at n x) (slices_of m rom shown (cell_at x) (number_at n x))

  module _
      (m-small : (i : ℕ) → get_or m i 0 < 256) (rom-small : (i : ℕ) → get_or rom i 0 < 256) (tens pairs : List ℕ)
      (is-tens : tens ≡ tens_of m rom shown cells lowers rights) (is-pairs : pairs ≡ pairs_of cells shown) (n : ℕ) (h : n < 10)
    where
      -- the effective byte of cell x
      byte_is :
          (x : ℕ) → x < 40
          → get_or (bytes_on shown.part cells lowers tens n) x 0
          ≡ lined_byte shown.part (get_or cells x []) (get_or lowers x false) n (taken_at m rom shown (cell_at x) (get_or lowers x false) (get_or rights x false) n)
      unfolding bytes_on ten_of
      byte_is x l =
          table_at (byte_on shown.part cells lowers tens n) 40 x 0 l
          ∙ ap (lined_byte shown.part (get_or cells x []) (get_or lowers x false) n)
          (ap (λ (z : List ℕ). byte_in z n x) is-tens
          ∙ side_at 10 (ten_at m rom shown cells lowers rights) n x h l
          ∙ table_at (taken_at m rom shown (cell_at x) (get_or lowers x false) (get_or rights x false)) 10 n 0 h)

      drawn_at : (x : ℕ) → x < 40 → four_of (bytes_on shown.part cells lowers tens n) pairs x ≡ pixels_on n x
      drawn_at x l =
          ap₂ four_by (byte_is x l)
          (ap from_steps (side_column (pairs_at cells shown) pairs x is-pairs (steps_four (cell_pairs (cell_at x) shown)) l) ∙ pairs_back (cell_at x) shown)
          ∙ drawn_cell shown (get_or cells x []) (get_or lowers x false) (get_or rights x false) n _
          (slice_small m rom m-small rom-small shown (cell_at x) (number_at n x))

      pub drawn_line : line_on shown.part cells lowers tens pairs n ≡ joined (pixels_on n) 40
      unfolding line_on
      drawn_line = joined_same _ _ 40 drawn_at
