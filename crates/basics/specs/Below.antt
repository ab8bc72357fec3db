-- What can be asked of a test at the numbers below n: whether one passes, how many pass, and which.
-- Each recurs in the shape of a loop that counts up: what is known after n turns, and the turn at n.
-- Assumes nothing.
use Rattle.std.specs.Prelude.{ℕ, zero, suc, ◌+◌, Bool, false, ◌||◌}
use Rattle.basics.specs.Choice.{pick, one_if}

-- some number below n passes
unfoldable pub any_below : (ℕ → Bool) → ℕ → Bool
any_below f zero = false
any_below f (suc n) = any_below f n || f n

-- how many numbers below n pass
unfoldable pub count_below : (ℕ → Bool) → ℕ → ℕ
count_below f zero = 0
count_below f (suc n) = count_below f n + one_if (f n)

-- the last number below n that passes; none where there is no such number
unfoldable pub last_below : ℕ → (ℕ → Bool) → ℕ → ℕ
last_below none f zero = none
last_below none f (suc n) = pick (f n) n (last_below none f n)
