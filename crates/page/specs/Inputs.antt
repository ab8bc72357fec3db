-- All that a row takes from private memory.
-- Assumes nothing.
use Rattle.std.specs.Prelude.{ℕ, Bool, false, not, ◌&&◌, List, [], get_or}
use Rattle.basics.specs.Bits.{is_set}
use Rattle.basics.specs.Parts.{table}
use Rattle.board.specs.declared.Part.{Part}
use Rattle.shown.specs.declared.Shown.{Shown}
use Rattle.cell.specs.declared.kind.Cell.{Cell}
use Rattle.cell.specs.Cells.{is_quadrichrome, cell_of}
use Rattle.page.specs.Codes.{code_at}
use Rattle.page.specs.Halves.{lower_half, right_half}
use Rattle.sources.specs.Sources.{cell_source, character_of, kept_slice, rom_slice}
use Rattle.sources.specs.declared.source.Source.{Source}
use Rattle.sources.specs.declared.source.Source.TheVariants.{Rom, Block}

-- the cell of three code bytes
abbrev pub decoded : Part → List ℕ → Cell
decoded part code = cell_of part (get_or code 0 0) (get_or code 1 0) (get_or code 2 0)

-- a bichrome cell whose A3 is set
unfoldable pub flashes : Part → List ℕ → Bool
flashes part code = not (is_quadrichrome part (get_or code 1 0)) && is_set 3 (get_or code 2 0)

-- a cell's slices: the number of a ROM set, or the ten that private memory has
pub data Slices : Type 0 where
  from_rom : ℕ → Slices
  from_memory : List ℕ → Slices

abbrev pub taken_from : ℕ → List ℕ → ℕ → Source → Slices
taken_from blocks m c (Rom set) = from_rom set
taken_from blocks m c (Block z) = from_memory (table (kept_slice blocks m c z) 10)

-- slice n, once the ROM is there
abbrev pub slice_byte : List ℕ → ℕ → Slices → ℕ → ℕ
slice_byte rom c (from_rom set) n = rom_slice rom c set n
slice_byte rom c (from_memory slices) n = get_or slices n 0

-- what a cell takes: its code, its slices and its halves
pub record CellInput : Type 0 where
  pub code : List ℕ
  pub slices : Slices
  pub lower : Bool
  pub right : Bool

unfoldable pub cell_input : Shown → List ℕ → ℕ → ℕ → CellInput
cell_input shown m r x =
    record {
      code = code_at shown m r x;
      slices =
          taken_from shown.blocks m (character_of (decoded shown.part (code_at shown m r x))) (cell_source shown (decoded shown.part (code_at shown m r x)));
      lower = lower_half shown m r x;
      right = right_half shown m r x;
    }

-- past the last column
abbrev pub no_input : CellInput
no_input = record { code = []; slices = from_rom 0; lower = false; right = false }

unfoldable pub row_input : Shown → List ℕ → ℕ → List CellInput
row_input shown m r = table (cell_input shown m r) 40
