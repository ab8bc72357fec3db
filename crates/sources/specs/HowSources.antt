-- How the code finds the source of a cell by B. Nothing here has to be believed: the contract of `source::source_of` is an equation with `cell_source`.
-- Assumes nothing.
use Rattle.std.specs.Prelude.{ℕ, ◌+◌, ◌*◌, ◌/◌, ◌%◌, [], ◌∷◌, ltb, get_or}
use Rattle.basics.specs.Choice.{pick}
use Rattle.board.specs.declared.Part.{Part}
use Rattle.board.specs.declared.Part.TheVariants.{Ef9345, Ts9347}

-- the ROM sets by B6..B4, where B is below 128
abbrev pub set_number : Part → ℕ → ℕ
set_number Ef9345 high = get_or (0 ∷ 0 ∷ 1 ∷ 2 ∷ 3 ∷ 3 ∷ 4 ∷ 4 ∷ []) high 0
set_number Ts9347 high = get_or (2 ∷ 2 ∷ 0 ∷ 1 ∷ 2 ∷ 2 ∷ 0 ∷ 1 ∷ []) high 0

-- where the code's table of them has those of a part
abbrev pub sets_from : Part → ℕ
sets_from Ef9345 = 0
sets_from Ts9347 = 8

-- the block by DOR and B, where B is from 128 on
abbrev pub user_block : ℕ → ℕ → ℕ
user_block dor b =
    pick (ltb b 160) (dor % 16) (pick (ltb b 192) (2 * (dor / 16 % 8) + b / 16 % 2) (8 * (dor / 128 % 2) + b / 8 % 8))
