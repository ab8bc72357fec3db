-- How the code carries the bytes of a position: all are stored at the end, and R1 has the last. Nothing here has to be believed: `all_left` of
-- proofs/Carrying.antt shows that it is what carrying them one after another leaves, and `options_left` the same with Options.
-- Assumes nothing.
use Rattle.std.specs.Prelude.{ℕ, List, ltb, set, Option, Some, None}
use Rattle.basics.specs.Choice.{pick}

-- a byte at its place, where there is one
abbrev pub stored_if : ℕ → Option ℕ → List ℕ → List ℕ
stored_if place None m = m
stored_if place (Some v) m = set m place v

-- one, two or three bytes, each at its place
unfoldable pub stored_all : ℕ → ℕ → ℕ → ℕ → ℕ → ℕ → ℕ → List ℕ → List ℕ
stored_all bytes first c second b third a m =
    pick (ltb bytes 2) (set m first c) (pick (ltb bytes 3) (set (set m first c) second b) (set (set (set m first c) second b) third a))

unfoldable pub last_of : ℕ → ℕ → ℕ → ℕ → ℕ
last_of bytes c b a = pick (ltb bytes 2) c (pick (ltb bytes 3) b a)
