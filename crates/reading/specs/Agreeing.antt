-- Two memories that agree on the places of a list.
-- Assumes nothing.
use Rattle.std.specs.Prelude.{ℕ, ◌≡◌, Bool, true, List}
use Rattle.address.specs.Places.{byte_at}
use Rattle.shown.specs.declared.Shown.{Shown}
use Rattle.reading.specs.Lists.{on_list}

-- every place that passes holds the same byte in both
abbrev pub Agree : (ℕ → Bool) → List ℕ → List ℕ → Type 0
Agree f m n = (p : ℕ) → f p ≡ true → byte_at m p ≡ byte_at n p

-- on the reading list of row r, as it is in the first
abbrev pub AgreeOnList : Shown → List ℕ → List ℕ → ℕ → Type 0
AgreeOnList shown m n r = Agree (λ p. on_list shown m p r) m n
