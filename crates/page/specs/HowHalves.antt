-- How the code asks for halves: of the row buffer along a row, of the bytes in memory down a column. Nothing here has to be believed:
-- `right_row` and `lower_next` of crate halves show that it gives the halves of Halves.antt.
-- Assumes nothing.
use Rattle.std.specs.Prelude.{ℕ, ◌+◌, ◌-◌, ◌*◌, ◌<◌, ◌≤◌, ◌≡◌, Bool, false, not, ◌&&◌, List, [], ◌∷◌, ◌⊎◌, length, get_or}
use Rattle.board.specs.declared.Part.{Part}
use Rattle.address.specs.Places.{block_of}
use Rattle.shown.specs.declared.Shown.{Shown}
use Rattle.page.specs.Codes.{code_at}
use Rattle.page.specs.HowCodes.{code_of, Has}
use Rattle.page.specs.Halves.{is_tall, is_wide, goes_on, second_half}
use Rattle.page.specs.declared.stretch.Starts.{Starts}

-- the right half of a cell of a buffer
abbrev pub right_in : List (List ℕ) → ℕ → Bool
right_in cells x = second_half is_wide (λ i. get_or cells i []) x

-- n cells of a stretch are in memory
abbrev pub Within : List ℕ → Starts → ℕ → Type 0
Within m s n = (s.c + n ≤ length m) × (s.b + n ≤ length m) × (s.a + n ≤ length m)

-- what is compared as a cell's third byte: the page's block t is its third block, which memory has; or its first, where memory ends before the third
abbrev pub Compared : List ℕ → ℕ → ℕ → Type 0
Compared m z t = Has m z 0 × Has m z 1 × (((t ≡ 2) × Has m z 2) ⊎ ((t ≡ 0) × (length m ≤ 1024 * block_of z 2)))

-- the three bytes of cell i of a stretch
abbrev pub stretch_code : List ℕ → Starts → ℕ → List ℕ
stretch_code m s i = get_or m (s.c + i) 0 ∷ get_or m (s.b + i) 0 ∷ get_or m (s.a + i) 0 ∷ []

-- a cell of the row at y goes on from the one above it, in the row at u
abbrev pub goes_on_in : Part → List ℕ → ℕ → ℕ → ℕ → ℕ → Bool
goes_on_in part m z y u x = goes_on (is_tall part (code_of m z y x)) (code_of m z y x) (code_of m z u x)

-- its lower half, from those of the row above
abbrev pub next_lower_in : Part → List ℕ → ℕ → ℕ → ℕ → List Bool → ℕ → Bool
next_lower_in part m z y u lowers x = goes_on_in part m z y u x && not (get_or lowers x false)

-- the same of screen row r, which is not the first
abbrev pub goes_on_at : Shown → List ℕ → ℕ → ℕ → Bool
goes_on_at shown m r x = goes_on (is_tall shown.part (code_at shown m r x)) (code_at shown m r x) (code_at shown m (r - 1) x)

abbrev pub next_lower_at : Shown → List ℕ → ℕ → List Bool → ℕ → Bool
next_lower_at shown m r lowers x = goes_on_at shown m r x && not (get_or lowers x false)
