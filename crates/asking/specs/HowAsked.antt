-- How the code asks a row whether it has a cell of some kind. Nothing here has to be believed: proofs/Rows.antt shows that the tests of the bytes are
-- those of the cells, in a row and in rows that follow on.
-- Assumes nothing.
use Rattle.std.specs.Prelude.{ℕ, ◌+◌, ◌*◌, ◌/◌, ◌%◌, Bool, ◌&&◌, List, [], ◌∷◌, eqb, leb, get_or}
use Rattle.basics.specs.Below.{any_below}
use Rattle.board.specs.declared.Part.{Part}
use Rattle.address.specs.Places.{block_of, byte_at}
use Rattle.page.specs.HowCodes.{code_of}
use Rattle.page.specs.Halves.{is_tall}
use Rattle.page.specs.Inputs.{flashes}
use Rattle.narrow.specs.Codes.{pair_flashes}
use Rattle.keys.specs.declared.key.Keys.{Keys}
use Rattle.keys.specs.HowKeys.{keyed}

-- the cell's C is the character, whatever C7 is, and its B is not that of a cell from the ROM
unfoldable pub shows_character : ℕ → List ℕ → Bool
shows_character t code = eqb (get_or code 0 0 % 128) t && leb 128 (get_or code 1 0)

-- the cell's A3 is set, whatever its B is
unfoldable pub blinks : List ℕ → Bool
blinks code = eqb (get_or code 2 0 / 8 % 2) 1

-- the three bytes at one place of their blocks
unfoldable pub code_in : List ℕ → ℕ → ℕ → List ℕ
code_in m z at =
    byte_at m (1024 * block_of z 0 + at) ∷ byte_at m (1024 * block_of z 1 + at) ∷ byte_at m (1024 * block_of z 2 + at) ∷ []

-- some cell of the row at Y, of the page whose first block is z
abbrev pub tall_at : Part → List ℕ → ℕ → ℕ → Bool
tall_at part m z y = any_below (λ x. is_tall part (code_of m z y x)) 40

abbrev pub flash_at : Part → List ℕ → ℕ → ℕ → Bool
flash_at part m z y = any_below (λ x. flashes part (code_of m z y x)) 40

-- in 80 columns: some column of it
abbrev pub pair_flash_at : List ℕ → ℕ → ℕ → Bool
pair_flash_at m z y = any_below (λ x. pair_flashes (code_of m z y x)) 40

abbrev pub blink_at : List ℕ → ℕ → ℕ → Bool
blink_at m z y = any_below (λ x. blinks (code_of m z y x)) 40

abbrev pub character_at : List ℕ → ℕ → ℕ → ℕ → Bool
character_at m z y t = any_below (λ x. shows_character t (code_of m z y x)) 40

abbrev pub keyed_at : Keys → List ℕ → ℕ → ℕ → Bool
keyed_at keys m z y = any_below (λ x. keyed keys (code_of m z y x)) 40
