-- What follows for a row where two memories agree on the places of its list.
-- Assumes nothing.
use Rattle.std.specs.Prelude.{ℕ, ◌≡◌, List}
use Rattle.shown.specs.declared.Shown.{Shown}
use Rattle.picture.specs.Rows.{row_of}
use Rattle.reading.specs.Agreeing.{AgreeOnList}

-- the frame law: a row has the same bytes in two memories that agree on its reading list
abbrev pub FrameLaw : Type 0
FrameLaw = (shown : Shown) (m n : List ℕ) (r : ℕ) → AgreeOnList shown m n r → (rom : List ℕ) → row_of m rom shown r ≡ row_of n rom shown r
