-- A question asked of the numbers below one.
-- Assumes nothing.
use Rattle.std.specs.Prelude.{ℕ, ◌<◌, ◌≡◌, Bool}

-- what the question answers at a number below n is what the test says
abbrev pub AnswersAs : (ℕ → Bool → Type 0) → (ℕ → Bool) → ℕ → Type 0
AnswersAs answers test n = (i : ℕ) (yes : Bool) → i < n → answers i yes → yes ≡ test i
