-- Laws of tests: two that hold together are the same, four in two pairs, and three before others.
-- Assumes nothing.
use mathlib.Core.Path.{◌≡◌, refl, sym}
use mathlib.Core.Bool.{Bool, true, false, ◌||◌}

-- two tests that hold together
pub together : (a b : Bool) → (a ≡ true → b ≡ true) → (b ≡ true → a ≡ true) → a ≡ b
together true b f g = sym (f refl)
together false true f g = g refl
together false false f g = refl

-- four, in two pairs
pub or_swap : (a b c d : Bool) → ((a || b) || (c || d)) ≡ ((a || c) || (b || d))
or_swap true b c d = refl
or_swap false true true d = refl
or_swap false true false d = refl
or_swap false false true d = refl
or_swap false false false d = refl

-- three before others
pub or_three : (a b c d : Bool) → ((a || (b || c)) || d) ≡ (a || (b || (c || d)))
or_three true b c d = refl
or_three false true c d = refl
or_three false false c d = refl
