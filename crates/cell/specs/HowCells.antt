-- How the code tells a quadrichrome cell: by the last value of B that a bichrome cell can have. Nothing here has to be believed: `bichrome_last` of
-- proofs/Codes.antt shows that it tells them as Cells.antt does.
-- Assumes nothing.
use Rattle.std.specs.Prelude.{ℕ}
use Rattle.board.specs.declared.Part.{Part}
use Rattle.board.specs.declared.Part.TheVariants.{Ef9345, Ts9347}

unfoldable pub last_bichrome : Part → ℕ
last_bichrome Ef9345 = 191
last_bichrome Ts9347 = 255
