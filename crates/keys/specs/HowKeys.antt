-- How the code tells, by X and Y and a few blocks, which cells read a byte there as a slice, and which row has it among its own. Nothing here has to be
-- believed: `keyed_cell` of proofs/Characters.antt shows that the keys tell exactly the cells that read such a byte, and `own_bytes` and `row_at_lem` of
-- proofs/Places.antt which row has it, and that it is found by its Y.
-- Assumes nothing.
use Rattle.std.specs.Prelude.{ℕ, ◌+◌, ◌-◌, ◌*◌, ◌/◌, ◌%◌, ◌<◌, ◌≡◌, Bool, not, ◌&&◌, ◌||◌, List, ◌⊎◌, eqb, leb, ltb, get_or}
use Rattle.basics.specs.Choice.{pick}
use Rattle.address.specs.Places.{block_of}
use Rattle.shown.specs.declared.Shown.{Shown}
use Rattle.keys.specs.declared.key.Keys.{Keys}

-- 255 is what no part of a byte can be
abbrev pub key_if : Bool → ℕ → ℕ
key_if fits key = pick fits key 255

-- Blocks are listed by three numbers, 255 where there is none: 255 is no block's number. z is one of them
unfoldable pub is_one : List ℕ → ℕ → Bool
is_one blocks z = eqb (get_or blocks 0 0) z || (eqb (get_or blocks 1 0) z || eqb (get_or blocks 2 0) z)

-- a block that is there passes
abbrev pub passes : (ℕ → Bool) → ℕ → Bool
passes f z = not (eqb z 255) && f z

unfoldable pub some_block : (ℕ → Bool) → List ℕ → Bool
some_block f blocks = passes f (get_or blocks 0 0) || (passes f (get_or blocks 1 0) || passes f (get_or blocks 2 0))

-- each block that is there is fitted on a board of so many
abbrev pub AllFitted : ℕ → List ℕ → Type 0
AllFitted board blocks =
    ((get_or blocks 0 0 ≡ 255) ⊎ (get_or blocks 0 0 < board))
    × ((get_or blocks 1 0 ≡ 255) ⊎ (get_or blocks 1 0 < board))
    × ((get_or blocks 2 0 ≡ 255) ⊎ (get_or blocks 2 0 < board))

-- some block is there
unfoldable pub some_changed : List ℕ → Bool
some_changed blocks = not (eqb (get_or blocks 0 0) 255) || (not (eqb (get_or blocks 1 0) 255) || not (eqb (get_or blocks 2 0) 255))

-- b / 8 of the B bytes of quadrichrome cells, or of Q cells, whose source is the block
abbrev pub quad_key : Shown → ℕ → ℕ
quad_key shown z = key_if (eqb (shown.dor / 128 % 2) (z / 8)) (24 + z % 8)

-- what a cell must be to read a byte at X and Y in one of the blocks
unfoldable pub keys_of : Shown → ℕ → ℕ → List ℕ → Keys
keys_of shown x y blocks =
    record {
      character = y * 4 + x % 4;
      user0 = key_if (is_one blocks (shown.dor % 16)) 4;
      user10 = key_if (is_one blocks (shown.dor / 16 % 8 * 2)) 10;
      user11 = key_if (is_one blocks (shown.dor / 16 % 8 * 2 + 1)) 11;
      quad0 = quad_key shown (get_or blocks 0 0);
      quad1 = quad_key shown (get_or blocks 1 0);
      quad2 = quad_key shown (get_or blocks 2 0);
    }

-- each key is that of a B from 128 on: of no cell from the ROM
unfoldable pub keys_high : Keys → Bool
keys_high keys =
    (leb 4 keys.user0 && (leb 8 keys.user10 && leb 8 keys.user11))
    && (leb 16 keys.quad0 && (leb 16 keys.quad1 && leb 16 keys.quad2))

-- some byte can have the source
unfoldable pub is_source : Keys → Bool
is_source keys =
    not (eqb keys.user0 255)
    || (not (eqb keys.user10 255)
    || (not (eqb keys.user11 255)
    || (not (eqb keys.quad0 255)
    || (not (eqb keys.quad1 255)
    || not (eqb keys.quad2 255)))))

unfoldable pub from_block : Keys → List ℕ → Bool
from_block keys code =
    (eqb (get_or code 1 0 / 32) keys.user0 || (eqb (get_or code 1 0 / 16) keys.user10 || eqb (get_or code 1 0 / 16) keys.user11))
    || (eqb (get_or code 1 0 / 8) keys.quad0 || (eqb (get_or code 1 0 / 8) keys.quad1 || eqb (get_or code 1 0 / 8) keys.quad2))

unfoldable pub keyed : Keys → List ℕ → Bool
keyed keys code = eqb (get_or code 0 0 % 128) keys.character && from_block keys code

-- the screen row whose Y is y, from 1 the way back from 8 + (YOR − 8 + r − 1) modulo 24
unfoldable pub row_at : ℕ → ℕ → ℕ
row_at yor y = pick (ltb y 8) 0 (1 + (y + 16 - (yor - 8) % 24) % 24)

-- z is one of the three blocks of the page
unfoldable pub code_block : ℕ → ℕ → Bool
code_block first z = eqb (block_of first 0) z || (eqb (block_of first 1) z || eqb (block_of first 2) z)

unfoldable pub some_code_block : ℕ → List ℕ → Bool
some_code_block first blocks = code_block first (get_or blocks 0 0) || (code_block first (get_or blocks 1 0) || code_block first (get_or blocks 2 0))
