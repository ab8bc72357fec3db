-- How the code asks for the lower halves of a row, from those of the row above. Nothing here has to be believed: `lower_next` of
-- proofs/Halves.antt shows that it gives the halves of page/specs/Halves.antt.
-- Assumes nothing.
use Rattle.std.specs.Prelude.{ℕ, ◌-◌, ◌<◌, ◌≡◌, Bool, false, not, ◌&&◌, List, Option, Some, get_or}
use Rattle.board.specs.declared.Part.{Part}
use Rattle.address.specs.Places.{place_of, block_of}
use Rattle.shown.specs.declared.Shown.{Shown}
use Rattle.page.specs.Halves.{is_tall, goes_on, lower_halves}
use Rattle.page.specs.HowHalves.{stretch_code}
use Rattle.page.specs.declared.stretch.Starts.{Starts}

-- where the bytes start by which the cells of a stretch of the row at y are compared, from column `first` on: their C, their B and the page's block t
abbrev pub ComparedFrom : ℕ → ℕ → ℕ → ℕ → Starts → Type 0
ComparedFrom z y first t s = (s.c ≡ place_of first y (block_of z 0)) × (s.b ≡ place_of first y (block_of z 1)) × (s.a ≡ place_of first y (block_of z t))

-- the lower half of cell i of a stretch
abbrev pub next_lower_on : Part → List ℕ → Starts → Starts → List Bool → ℕ → Bool
next_lower_on part m here above halves i =
    goes_on (is_tall part (stretch_code m here i)) (stretch_code m here i) (stretch_code m above i) && not (get_or halves i false)

-- where they are known, these are the lower halves of the row above row r
abbrev pub KnownAbove : Shown → List ℕ → ℕ → Option (List Bool) → Type 0
KnownAbove shown m r above = (lowers : List Bool) → above ≡ Some lowers → (0 < r) × (lowers ≡ lower_halves shown m (r - 1))
