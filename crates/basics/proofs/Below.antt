-- Laws of what is asked of a test at the numbers below n: a turn of a loop, its end, and two tests that agree.
-- Assumes nothing.
use Prim.Native.Nat.{ℕ, zero, suc, ◌+◌, ◌<◌, ◌≤◌}
use mathlib.Core.Bool.{Bool, true, false, ◌||◌, false≢true, or-false, or_assoc}
use mathlib.Core.Path.{◌≡◌, refl, ap, ap₂, sym, ◌∙◌}
use mathlib.Core.Logic.{⊎_elim}
use native.Mathlib.Numerals.{add-one}
use native.Mathlib.Omega.{arith}
use Rattle.basics.specs.Choice.{one_if}
use Rattle.basics.specs.Below.{any_below, count_below, last_below}
use Rattle.basics.proofs.Choice.{or_left, or_right, or_cases, eq_or_ne, lt_or_le, bool_cases}

last_one : (i n : ℕ) → i < suc n → n ≤ i → i ≡ n
last_one i n l h = omega arith

one_at_most : (t : Bool) → one_if t ≤ 1
one_at_most true = omega arith
one_at_most false = omega arith

module _ (f : ℕ → Bool) where
  pub any_none : any_below f 0 ≡ false
  unfolding any_below
  any_none = refl

  pub any_step : (i : ℕ) → any_below f (i + 1) ≡ (any_below f i || f i)
  unfolding any_below
  any_step i = rw add-one

  -- a turn of a loop that gathers, and its end
  pub gathered : (i : ℕ) (found test : Bool) → found ≡ any_below f i → test ≡ f i → (found || test) ≡ any_below f (i + 1)
  gathered i found test p q = ap₂ ◌||◌ p q ∙ sym (any_step i)

  pub gathered_end : (i n : ℕ) (found : Bool) → found ≡ any_below f i → i ≤ n → n ≤ i → found ≡ any_below f n
  gathered_end i n found p h k = let e : i ≡ n = omega arith in p ∙ ap (any_below f) e

  -- one that passes is enough
  pub any_hit : (n i : ℕ) → i < n → f i ≡ true → any_below f n ≡ true
  unfolding any_below
  any_hit zero i h e = absurd (omega arith)
  any_hit (suc n) i h e =
      ⊎_elim (λ q. or_right (any_below f n) (f n) (ap f (sym q) ∙ e)) (λ q. or_left (any_below f n) (f n) (any_hit n i (omega arith) e)) (eq_or_ne i n)

  -- where some number passes there is one
  pub record Passes (n : ℕ) : Type 0 where
    pub at : ℕ
    pub low : at < n
    pub passes : f at ≡ true

  pub any_at : (n : ℕ) → any_below f n ≡ true → Passes n
  unfolding any_below
  any_at zero e = absurd (false≢true e)
  any_at (suc n) e =
      ⊎_elim
      (λ p. let w = any_at n p in record { at = w.at; low = omega (arith, w.low); passes = w.passes })
      (λ p. record { at = n; low = omega arith; passes = p })
      (or_cases (any_below f n) (f n) e)

  -- where none passes, none does
  pub any_not : (n i : ℕ) → any_below f n ≡ false → i < n → f i ≡ false
  any_not n i e h =
      ⊎_elim (λ t. absurd (false≢true (sym e ∙ any_hit n i h t))) (λ t. t) (bool_cases (f i))

  -- none passes
  pub any_never : (n : ℕ) → ((i : ℕ) → i < n → f i ≡ false) → any_below f n ≡ false
  unfolding any_below
  any_never zero h = refl
  any_never (suc n) h = ap₂ ◌||◌ (any_never n (λ i l. h i (omega arith))) (h n (omega arith))

  -- the numbers below a + b are those below a, and the b from a on
  pub any_split : (a b : ℕ) → any_below f (a + b) ≡ (any_below f a || any_below (λ i. f (a + i)) b)
  unfolding any_below
  any_split a zero = let e : a + 0 ≡ a = omega arith in rw e (sym (or-false (any_below f a)))
  any_split a (suc b) =
      let e : a + suc b ≡ suc (a + b) = omega arith in
      ap (any_below f) e
      ∙ ap (λ (t : Bool). t || f (a + b)) (any_split a b)
      ∙ or_assoc (any_below f a) (any_below (λ i. f (a + i)) b) (f (a + b))

  pub count_none : count_below f 0 ≡ 0
  unfolding count_below
  count_none = refl

  pub count_at_most : (n : ℕ) → count_below f n ≤ n
  unfolding count_below
  count_at_most zero = omega arith
  count_at_most (suc n) = omega (arith, count_at_most n, one_at_most (f n))

  -- none passes
  pub count_never : (n : ℕ) → ((i : ℕ) → i < n → f i ≡ false) → count_below f n ≡ 0
  unfolding count_below
  count_never zero h = refl
  count_never (suc n) h = rw (count_never n (λ i k. h i (omega arith)), h n (omega arith))

  pub count_step : (i : ℕ) → count_below f (i + 1) ≡ count_below f i + one_if (f i)
  unfolding count_below
  count_step i = rw add-one

  -- as many or more are below a higher number, and more where one passes before it
  pub count_grows : (n m : ℕ) → n ≤ m → count_below f n ≤ count_below f m
  unfolding count_below
  count_grows n zero l = let e : n ≡ 0 = omega arith in rw e (omega arith)
  count_grows n (suc m) l =
      ⊎_elim (λ (e : n ≡ suc m). rw e (omega arith)) (λ (h : n ≡ suc m → ⊥). omega (arith, count_grows n m (omega arith))) (eq_or_ne n (suc m))

  pub count_passed : (i n : ℕ) → i < n → f i ≡ true → count_below f i < count_below f n
  count_passed i n l e = let one : count_below f (i + 1) ≡ count_below f i + 1 = count_step i ∙ rw e in omega (arith, count_grows (i + 1) n (omega arith))

  -- one passes; one does not
  pub count_some : (n i : ℕ) → i < n → f i ≡ true → 0 < count_below f n
  count_some n i l e = omega (arith, count_passed i n l e)

  pub count_less : (n i : ℕ) → i < n → f i ≡ false → count_below f n < n
  unfolding count_below
  count_less zero i l e = absurd (omega arith)
  count_less (suc n) i l e =
      ⊎_elim (λ (h : i < n). omega (arith, count_less n i h e, one_at_most (f n)))
      (λ (h : n ≤ i). rw (ap f (sym (last_one i n l h)) ∙ e) (omega (arith, count_at_most n))) (lt_or_le i n)

  -- none passes; one passes, and none after it
  pub last_never : (none n : ℕ) → ((i : ℕ) → i < n → f i ≡ false) → last_below none f n ≡ none
  unfolding last_below
  last_never none zero h = refl
  last_never none (suc n) h = rw (h n (omega arith)) (last_never none n (λ i l. h i (omega arith)))

  pub last_only : (none n i : ℕ) → i < n → f i ≡ true → ((j : ℕ) → j < n → i < j → f j ≡ false) → last_below none f n ≡ i
  unfolding last_below
  last_only none zero i l e h = absurd (omega arith)
  last_only none (suc n) i l e h =
      ⊎_elim
      (λ (q : i < n). rw (h n (omega arith) q) (last_only none n i q e (λ j p. h j (omega arith))))
      (λ (q : n ≤ i). rw (← last_one i n l q, e))
      (lt_or_le i n)

-- two tests that agree below n
module _ (f g : ℕ → Bool) where
  pub any_same : (n : ℕ) → ((i : ℕ) → i < n → f i ≡ g i) → any_below f n ≡ any_below g n
  unfolding any_below
  any_same zero h = refl
  any_same (suc n) h = ap₂ ◌||◌ (any_same n (λ i k. h i (omega arith))) (h n (omega arith))

  pub count_same : (n : ℕ) → ((i : ℕ) → i < n → f i ≡ g i) → count_below f n ≡ count_below g n
  unfolding count_below
  count_same zero h = refl
  count_same (suc n) h = rw (count_same n (λ i k. h i (omega arith)), h n (omega arith))
