-- The Y of a screen row.
-- Assumes nothing.
use Rattle.std.specs.Prelude.{ℕ, ◌+◌, ◌-◌, ◌%◌, eqb}
use Rattle.basics.specs.Choice.{pick}

-- Screen row 0 is Y = 0; row r from 1 is Y = 8 + (YOR − 8 + r − 1) modulo 24
unfoldable pub row_y : ℕ → ℕ → ℕ
row_y yor r = pick (eqb r 0) 0 (8 + (yor - 8 + r - 1) % 24)
