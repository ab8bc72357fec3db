-- A cell is either bichrome or quadrichrome, and carries its own attributes. Each part has its own table of types.
-- Assumes nothing.
use Rattle.std.specs.Prelude.{ℕ, ◌%◌, Bool, true, false, not, ◌&&◌, ltb}
use Rattle.basics.specs.Choice.{pick}
use Rattle.basics.specs.Bits.{bit, bits, is_set}
use Rattle.board.specs.declared.Part.{Part}
use Rattle.board.specs.declared.Part.TheVariants.{Ef9345, Ts9347}
use Rattle.colour.specs.Colours.{colour_of}
use Rattle.cell.specs.declared.kind.Set.{Set}
use Rattle.cell.specs.declared.kind.Set.TheVariants.{G0, G10, G11, G20, G21, Goe, UserG0, UserG1, Q}
use Rattle.cell.specs.declared.kind.Resolution.{Resolution}
use Rattle.cell.specs.declared.kind.Resolution.TheVariants.{High, Low}
use Rattle.cell.specs.declared.kind.BichromeCell.{BichromeCell}
use Rattle.cell.specs.declared.kind.QuadrichromeCell.{QuadrichromeCell}
use Rattle.cell.specs.declared.kind.Cell.{Cell}
use Rattle.cell.specs.declared.kind.Cell.TheVariants.{Bichrome, Quadrichrome}

-- EF9345. B7..B4: 000U G0; 0010 G10; 0011 G11; 010U G20; 011U G21; 100U user G'0; 101s user G'1s
unfoldable pub ef9345_set : ℕ → Set
ef9345_set high =
    pick (ltb high 2) G0
    (pick (ltb high 3) G10
    (pick (ltb high 4) G11
    (pick (ltb high 6) G20
    (pick (ltb high 8) G21
    (pick (ltb high 10) UserG0
    (UserG1 (high % 2)))))))

-- TS9347. B7 = 0, B5 = 0: G0; B7 = 0, B5 = 1: B4 0 G10, 1 GOE (B6 is not looked at). 100U: user G'0. 101s: user G'1s. 11: user set Q by B5..3
unfoldable pub ts9347_set : ℕ → Set
ts9347_set b =
    pick (is_set 7 b)
    (pick (is_set 6 b) (Q (bits 3 3 b)) (pick (is_set 5 b) (UserG1 (bit 4 b)) UserG0))
    (pick (is_set 5 b) (pick (is_set 4 b) Goe G10) G0)

abbrev pub set_of : Part → ℕ → Set
set_of Ef9345 b = ef9345_set (bits 4 4 b)
set_of Ts9347 b = ts9347_set b

-- Only U sets are alphanumeric: of a TS9347 G0 and user G'0
abbrev pub alphanumeric_of : Set → Bool
alphanumeric_of G0 = true
alphanumeric_of G10 = false
alphanumeric_of G11 = false
alphanumeric_of G20 = true
alphanumeric_of G21 = true
alphanumeric_of Goe = false
alphanumeric_of UserG0 = true
alphanumeric_of (UserG1 s) = false
alphanumeric_of (Q n) = false

-- B bits 7 and 6 both set: quadrichrome, or of a TS9347 of a set Q
abbrev pub are_both_set : ℕ → Bool
are_both_set b = is_set 7 b && is_set 6 b

-- B3 double width, never with Q; B2 conceal, B1 double height, B0 insert (unused). A7 negative, A6..4 foreground, A3 flash, A2..0 background
unfoldable pub bichrome_of : Part → ℕ → ℕ → ℕ → BichromeCell
bichrome_of part c b a =
    record {
      character = c;
      set = set_of part b;
      underline = alphanumeric_of (set_of part b) && is_set 4 b;
      wide = not (are_both_set b) && is_set 3 b;
      conceal = is_set 2 b;
      tall = is_set 1 b;
      negative = is_set 7 a;
      foreground = colour_of (bits 4 3 a);
      flash = is_set 3 a;
      background = colour_of (bits 0 3 a);
    }

-- B1 low resolution, B2 is K
unfoldable pub resolution_of : ℕ → Resolution
resolution_of b = pick (is_set 1 b) (Low (bit 2 b)) High

-- Block 8·DOR7 + B5..3; A's set bits are the palette
unfoldable pub quadrichrome_of : ℕ → ℕ → ℕ → QuadrichromeCell
quadrichrome_of c b a =
    record {
      character = c;
      block = bits 3 3 b;
      resolution = resolution_of b;
      palette = a;
    }

-- Bichrome (B bits 7 and 6 not both set). Quadrichrome (both set). All cells of a TS9347 are bichrome
abbrev pub is_quadrichrome : Part → ℕ → Bool
is_quadrichrome Ef9345 b = are_both_set b
is_quadrichrome Ts9347 b = false

unfoldable pub cell_of : Part → ℕ → ℕ → ℕ → Cell
cell_of part c b a = pick (is_quadrichrome part b) (Quadrichrome (quadrichrome_of c b a)) (Bichrome (bichrome_of part c b a))
