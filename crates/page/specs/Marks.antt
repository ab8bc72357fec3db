-- The marks of the page's 25 rows.
-- Assumes nothing.
use Rattle.std.specs.Prelude.{ℕ, Bool, true, false, ◌||◌, List, get_or}
use Rattle.basics.specs.Below.{count_below}
use Rattle.basics.specs.Parts.{table}

-- row r is marked
abbrev pub is_marked : List Bool → ℕ → Bool
is_marked marks r = get_or marks r false

-- how many rows below n are marked
abbrev pub marked_rows : List Bool → ℕ → ℕ
marked_rows marks n = count_below (is_marked marks) n

-- every row marked; none
abbrev pub all_marked : List Bool
all_marked = table (λ r. true) 25

abbrev pub none_marked : List Bool
none_marked = table (λ r. false) 25

-- the marks, with each row that passes marked too
unfoldable pub marked_too : (ℕ → Bool) → List Bool → List Bool
marked_too f marks = table (λ r. is_marked marks r || f r) 25
