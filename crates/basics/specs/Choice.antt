-- The choice between two things by a test.
-- Assumes nothing.
use Rattle.std.specs.Prelude.{Bool, true, false, ℕ}

-- a where the test holds, else b
abbrev pub pick : {A : Type 0} → Bool → A → A → A
pick true a b = a
pick false a b = b

-- a test as a number: 1 where it holds, 0 where it does not
abbrev pub one_if : Bool → ℕ
one_if t = pick t 1 0
