-- The page's twelve cases as one table: what the definitions give, and what the page says that they give.
-- Assumes nothing.
use Rattle.std.specs.Prelude.{ℕ, ◌≡◌, refl, true, false, List, [], ◌∷◌, ◌++◌, map, Ok, Err}
use Rattle.basics.specs.Below.{count_below, last_below}
use Rattle.basics.specs.Parts.{joined}
use Rattle.address.specs.Addresses.{Address, address_of}
use Rattle.board.specs.Boards.{full_board}
use Rattle.board.specs.declared.Part.TheVariants.{Ef9345}
use Rattle.address.specs.Triples.{legal_y, on_page}
use Rattle.address.specs.Pointers.{main_pointer}
use Rattle.address.specs.Places.{place_of}
use Rattle.address.specs.Rows.{row_y}
use Rattle.address.specs.Slices.{slice_address}
use Rattle.shown.specs.declared.Shown.{Shown}
use Rattle.colour.specs.Colours.{nibble_of}
use Rattle.colour.specs.Ranks.{colour_of_rank, has_rank, rank_of}
use Rattle.cell.specs.Cells.{cell_of, bichrome_of, quadrichrome_of, ef9345_set, resolution_of}
use Rattle.pixels.specs.Slices.{slice_of_twenty}
use Rattle.pixels.specs.Pixels.{concealed, flashed, inverted, inked, cell_line}

pub record Case : Type 0 where
  pub given : List ℕ
  pub wanted : List ℕ

case : List ℕ → List ℕ → Case
case g w = record { given = g; wanted = w }

-- the place of a triple
place : ℕ → ℕ → ℕ → List ℕ
place x y z = place_of x y z ∷ []

-- the triple that the main pointer's registers name, and its place
pointer : ℕ → ℕ → List ℕ
pointer r6 r7 =
    let t = main_pointer Ef9345 r6 r7 in
    t.x ∷ t.y ∷ t.z ∷ place_of t.x t.y t.z ∷ []

-- the place of an address, which has one where it is legal and fitted
placed : Address → List ℕ
placed (Err why) = []
placed (Ok p) = p ∷ []

-- the place of slice nt of the character c in block z, on 16 blocks
slice : ℕ → ℕ → ℕ → List ℕ
slice c z nt = placed (slice_address full_board c nt z)

-- every register and the phase 0, of an EF9345 with 16 blocks
all_zero : Shown
all_zero = record { tgs = 0; mat = 0; pat = 0; dor = 0; ror = 0; phase = 0; blocks = full_board; part = Ef9345 }

-- the bytes of slice 0, whose byte is s, of the cell of three code bytes
line : ℕ → ℕ → ℕ → ℕ → List ℕ
line c b a s = cell_line (cell_of Ef9345 c b a) all_zero false 0 s

-- the colours of some ranks
ranks : ℕ → List ℕ → List ℕ
ranks palette = map (λ r. nibble_of (colour_of_rank palette r))

pub twelve : List Case
twelve =
    case (place 39 0 0) (39 ∷ [])
    ∷ case (place 0 8 0) (256 ∷ [])
    ∷ case (place 32 8 0) (64 ∷ [])
    ∷ case (place 39 31 0) (255 ∷ [])
    ∷ case (place 31 31 15) (16383 ∷ [])
    ∷ case (pointer 0xA8 0xA6) (38 ∷ 8 ∷ 13 ∷ 13382 ∷ [])
    ∷ case (slice 0x4B 3 0 ++ slice 0x4B 3 9) (3651 ∷ 3223 ∷ [])
    ∷ case (line 0x00 0x00 0x70 0x52) (0x70 ∷ 0x00 ∷ 0x07 ∷ 0x07 ∷ [])
    ∷ case (line 0x00 0xC0 0x5A 0xE4) (0x11 ∷ 0x33 ∷ 0x44 ∷ 0x66 ∷ [])
    ∷ case (map (slice_of_twenty true) (2 ∷ 3 ∷ 18 ∷ 19 ∷ [])) (0 ∷ 1 ∷ 8 ∷ 9 ∷ [])
    ∷ case (map (row_y 31) (1 ∷ 2 ∷ 24 ∷ [])) (31 ∷ 8 ∷ 30 ∷ [])
    ∷ case (ranks 0x03 (0 ∷ 1 ∷ 2 ∷ 3 ∷ [])) (0 ∷ 1 ∷ 7 ∷ 7 ∷ [])
    ∷ []

-- every case holds of the definitions that the contracts cite
pub cases : map (λ c. c.given) twelve ≡ map (λ c. c.wanted) twelve
unfolding twelve case place pointer placed slice all_zero line ranks place_of legal_y on_page address_of slice_address row_y colour_of_rank last_below has_rank rank_of count_below joined cell_line cell_of bichrome_of quadrichrome_of ef9345_set resolution_of concealed flashed inverted inked slice_of_twenty
cases = refl
