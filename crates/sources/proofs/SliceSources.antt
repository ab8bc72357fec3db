-- Laws of sources and slices: a source is one of the five ROM sets or of the sixteen blocks that registers can name, and the slices of a character are in one block.
-- Assumes nothing.
use Prim.Native.Nat.{ℕ, ◌+◌, ◌*◌, ◌/◌, ◌%◌, ◌<◌, ◌≤◌}
use mathlib.Core.Path.{◌≡◌, refl, sym, ap, ◌∙◌}
use mathlib.Core.Bool.{Bool, true, false}
use mathlib.Core.List.{List}
use native.Mathlib.Omega.{arith}
use lib.ListN.{length, get_or}
use Rattle.basics.specs.Parts.{table}
use Rattle.basics.proofs.Parts.{table_same}
use borrow.Author.Tests.{le-ltb}
use Rattle.std.specs.Prelude.{Ok, Err}
use Rattle.basics.specs.Choice.{pick}
use Rattle.address.specs.Addresses.{address_of, byte_from}
use Rattle.address.specs.declared.answer.NoPlace.TheVariants.{Illegal, NotFitted}
use Rattle.address.specs.declared.triple.Triple.{Triple}
use Rattle.address.proofs.Places.{place_fits}
use Rattle.board.specs.Boards.{bytes_of}
use Rattle.address.specs.Places.{place_of, place_at, byte_at}
use Rattle.address.specs.Slices.{slice_x, slice_y, slice_at, slice_address}
use Rattle.address.specs.Triples.{legal_y, legal, fitted}
use Rattle.address.proofs.Addresses.{address_illegal, byte_kept}
use Rattle.address.proofs.Laws.{good_column}
use Rattle.shown.specs.declared.Shown.{Shown}
use Rattle.board.specs.declared.Part.{Part}
use Rattle.board.specs.declared.Part.TheVariants.{Ef9345, Ts9347}
use Rattle.shown.specs.Lengths.{rom_bytes}
use Rattle.cell.specs.declared.kind.Set.{Set}
use Rattle.cell.specs.declared.kind.Set.TheVariants.{G0, G10, G11, G20, G21, Goe, UserG0, UserG1, Q}
use Rattle.cell.specs.declared.kind.Cell.{Cell}
use Rattle.cell.specs.declared.kind.Cell.TheVariants.{Bichrome, Quadrichrome}
use Rattle.sources.specs.Sources.{for_part, set_source, cell_source, character_of, kept_slice, rom_slice, slices_of}
use Rattle.sources.specs.declared.source.Source.{Source}
use Rattle.sources.specs.declared.source.Source.TheVariants.{Rom, Block}

-- a ROM set is one of the part's, a block one of sixteen, whatever the board has
abbrev pub Fitting : Part → Source → Type 0
Fitting part (Rom set) = 1280 * set + 1280 ≤ rom_bytes part
Fitting part (Block z) = z < 16

rom_holds : (part : Part) (a b : ℕ) → a < 5 → b < 3 → 1280 * for_part part a b + 1280 ≤ rom_bytes part
rom_holds Ef9345 a b h k = omega arith
rom_holds Ts9347 a b h k = omega arith

set_fitting : (shown : Shown) (set : Set) → Fitting shown.part (set_source shown set)
set_fitting shown G0 = rom_holds shown.part 0 2 (omega arith) (omega arith)
set_fitting shown G10 = rom_holds shown.part 1 0 (omega arith) (omega arith)
set_fitting shown G11 = rom_holds shown.part 2 0 (omega arith) (omega arith)
set_fitting shown G20 = rom_holds shown.part 3 0 (omega arith) (omega arith)
set_fitting shown G21 = rom_holds shown.part 4 0 (omega arith) (omega arith)
set_fitting shown Goe = rom_holds shown.part 0 1 (omega arith) (omega arith)
set_fitting shown UserG0 = omega arith
set_fitting shown (UserG1 s) = omega arith
set_fitting shown (Q n) = omega arith

pub source_fitting : (shown : Shown) (cell : Cell) → Fitting shown.part (cell_source shown cell)
source_fitting shown (Bichrome cell) = set_fitting shown cell.set
source_fitting shown (Quadrichrome cell) = omega arith

pub rom_fitting :
    (shown : Shown) (cell : Cell) (s : Source) (set : ℕ) → s ≡ cell_source shown cell → s ≡ Rom set → 1280 * set + 1280 ≤ rom_bytes shown.part
rom_fitting shown cell s set e f = rw (sym e ∙ f) at (source_fitting shown cell)

-- a slice's place, at the numbers that the code has
pub slice_place : (c n z p : ℕ) → p ≡ place_of (n * 4 + c % 4) (c / 4 % 32) z → p ≡ place_at (slice_at c n z)
slice_place c n z p e =
    let x : n * 4 + c % 4 ≡ slice_x c n = omega arith in
    let y : c / 4 % 32 ≡ slice_y c = omega arith in
    e ∙ rw (x, y)

pub slice_fits : (m : List ℕ) (c n z p : ℕ) → p ≡ place_at (slice_at c n z) → n < 10 → 1024 * z + 1024 ≤ length m → p < length m
slice_fits m c n z p e l h = omega (arith, place_fits (z + 1) (slice_x c n) (slice_y c) z (omega arith) (omega arith) (omega arith))

-- a byte in a block that is not fitted is 0
bare_byte : (m : List ℕ) (blocks : ℕ) (t : Triple) → fitted blocks t ≡ false → byte_from m (address_of blocks t) ≡ 0
unfolding address_of
bare_byte m blocks t e = rw e (go (legal t))
  where
    go : (b : Bool) → byte_from m (pick b (pick false (Ok (place_at t)) (Err NotFitted)) (Err Illegal)) ≡ 0
    go true = refl
    go false = refl

-- the ten slices of a character have one Y and one block
module _ (blocks : ℕ) (m : List ℕ) (c z : ℕ) where
  lawful : (n : ℕ) → n < 10 → legal (slice_at c n z) ≡ legal_y (slice_y c)
  lawful n l = good_column (slice_x c n) (slice_y c) (omega arith)

  -- all are legal, or none; `ok` is the code's test of the Y
  module _ (y : ℕ) (ok : Bool) (ey : y ≡ slice_y c) (learnt : ok ≡ legal_y y) where
    lawful_y : ok ≡ legal_y (slice_y c)
    lawful_y = learnt ∙ ap legal_y ey

    -- in a block that is not fitted each is past the end of memory, and 0 there
    pub slices_read :
        ok ≡ true → length m ≡ bytes_of blocks → table (λ n. byte_at m (place_at (slice_at c n z))) 10 ≡ table (kept_slice blocks m c z) 10
    unfolding kept_slice slice_address
    slices_read e whole = table_same _ _ 10 (λ n l. sym (byte_kept blocks (slice_at c n z) m whole (lawful n l ∙ sym lawful_y ∙ e)))

    pub slices_bare : blocks ≤ z → table (λ n. 0) 10 ≡ table (kept_slice blocks m c z) 10
    unfolding kept_slice slice_address
    slices_bare l = table_same _ _ 10 (λ n k. sym (bare_byte m blocks (slice_at c n z) (le-ltb z blocks l)))

    pub slices_none : ok ≡ false → table (λ n. 0) 10 ≡ table (kept_slice blocks m c z) 10
    unfolding kept_slice slice_address
    slices_none e = table_same _ _ 10 (λ n l. sym (ap (byte_from m) (address_illegal blocks (slice_at c n z) (lawful n l ∙ sym lawful_y ∙ e))))

-- a slice of the ROM, at the sum that the code has
pub rom_read : (rom : List ℕ) (c set n : ℕ) → get_or rom (set * 1280 + c % 128 * 10 + n) 0 ≡ rom_slice rom c set n
unfolding rom_slice
rom_read rom c set n =
    let e : set * 1280 + c % 128 * 10 + n ≡ 1280 * set + 10 * (c % 128) + n = omega arith in rw e

-- the ten slices of a cell, by its source
module _ (m rom : List ℕ) (shown : Shown) (cell : Cell) (c : ℕ) (s : Source) (ec : c ≡ character_of cell) (es : s ≡ cell_source shown cell) where
  pub slices_rom : (set : ℕ) → s ≡ Rom set → table (rom_slice rom c set) 10 ≡ table (slices_of m rom shown cell) 10
  unfolding slices_of
  slices_rom set e = table_same _ _ 10 (λ n l. rw (← es, e, ec))

  pub slices_kept : (z : ℕ) → s ≡ Block z → table (kept_slice shown.blocks m c z) 10 ≡ table (slices_of m rom shown cell) 10
  unfolding slices_of
  slices_kept z e = table_same _ _ 10 (λ n l. rw (← es, e, ec))
