-- What the type of bytes says of a list of them.
-- Assumes nothing.
use Rattle.std.specs.Prelude.{ℕ, List, ◌<◌, get_or}

abbrev pub AreBytes : List ℕ → Type 0
AreBytes bytes = (i : ℕ) → get_or bytes i 0 < 256
