-- The ten lines of a row of k bytes a column, drawn one after the other whatever draws them: what holds after n lines, as one record, its turn
-- and its end.
-- Assumes nothing.
use Prim.Native.Nat.{ℕ, ◌+◌, ◌-◌, ◌*◌, ◌≤◌, ◌<◌}
use mathlib.Core.Path.{◌≡◌, refl}
use mathlib.Core.List.{List}
use native.Mathlib.Nat.{mul-zero}
use native.Mathlib.Omega.{arith}
use lib.ListN.{length, take}
use borrow.Rule.Slice.PartMut.{put_mid, mid_of}
use Rattle.basics.specs.Parts.{joined}
use Rattle.basics.proofs.Parts.{joined_zero}
use Rattle.basics.proofs.Filled.{front_lent, front_end, part_length}
use Rattle.shown.specs.Lengths.{line_bytes, row_bytes}

-- the first n lines stand in the row's part
pub record LinesTo (k : ℕ) (line : ℕ → List ℕ) (part : List ℕ) (n : ℕ) : Type 0 where
  pub within : n ≤ 10
  pub long : length part ≡ row_bytes k
  pub front : take (line_bytes k * n) part ≡ joined line n

module _ (k : ℕ) (line : ℕ → List ℕ) where
  pub no_lines : (part : List ℕ) → length part ≡ row_bytes k → LinesTo k line part 0
  no_lines part h = record { within = omega arith; long = h; front = rw (mul-zero, joined_zero) }

  -- line n is drawn in its part of the row
  pub line_drawn :
      ((i : ℕ) → length (line i) ≡ line_bytes k) → (part : List ℕ) (n : ℕ) → LinesTo k line part n → n < 10 → (drawn : List ℕ) → drawn ≡ line n
      → length drawn ≡ length (mid_of (line_bytes k * n) (line_bytes k * n + line_bytes k - line_bytes k * n) part)
      → LinesTo k line (put_mid (line_bytes k * n) (line_bytes k * n + line_bytes k - line_bytes k * n) part drawn) (n + 1)
  line_drawn each part n d l drawn e same =
      let at = line_bytes k * n in
      let whole : length part ≡ line_bytes k * 10 = omega (arith, d.long) in
      record {
        within = omega arith;
        long = part_length at (at + line_bytes k - at) part drawn (row_bytes k) same d.long;
        front = front_lent (line_bytes k) line part drawn (line n) n 10 l whole d.front e refl each;
      }

  pub all_lines : (part : List ℕ) (n : ℕ) → LinesTo k line part n → 10 ≤ n → part ≡ joined line 10
  all_lines part n d l =
      let whole : length part ≡ line_bytes k * 10 = omega (arith, d.long) in
      front_end (line_bytes k) line part 10 n d.front d.within l whole
