-- How the code leaves rows that do not flash, and asks a column by its mode. Nothing here has to be believed: `quiet_still` of proofs/Quiet.antt shows that
-- rows which it leaves do not, and `row_flashed` of proofs/Ends.antt that columns so asked are those that flash.
-- Assumes nothing.
use Rattle.std.specs.Prelude.{ℕ, ◌+◌, Bool, not, ◌&&◌, List, leb}
use Rattle.basics.specs.Below.{any_below}
use Rattle.basics.specs.Choice.{pick}
use Rattle.board.specs.declared.Part.{Part}
use Rattle.page.specs.Inputs.{flashes}
use Rattle.narrow.specs.Codes.{pair_flashes}
use Rattle.asking.specs.HowAsked.{blink_at}

-- the row before is not marked, the Ys go on for four rows, and no cell of these has its A3 set
unfoldable pub are_quiet : List ℕ → ℕ → ℕ → Bool → Bool
are_quiet m z y before = not before && (leb y 28 && not (any_below (λ k. blink_at m z (y + k)) 4))

-- the column of three bytes flashes, in 80 columns or in 40
abbrev pub flashes_in : Part → Bool → List ℕ → Bool
flashes_in part eighty code = pick eighty (pair_flashes code) (flashes part code)
