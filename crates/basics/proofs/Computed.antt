-- A fact about every number below a bound, or every pair of them, from one test that the checker computes: about all bytes, say.
-- Assumes nothing.
use Prim.Native.Nat.{ℕ, zero, suc, ◌<◌}
use mathlib.Core.Path.{◌≡◌, refl, sym, subst}
use mathlib.Core.Bool.{Bool, true, false, ◌&&◌}
use mathlib.Core.Logic.{⊎_elim}
use native.Mathlib.Nat.{le_of_suc-le-suc, not-suc-le-zero, eq-or-lt_of_le}
use lib.Dec.{T, eqb, eqb→eq}

left : (a b : Bool) → T (a && b) → T a
left true b t = tt
left false b t = t

right : (a b : Bool) → T (a && b) → T b
right true b t = t
right false b t = absurd t

-- the test passes at each number below n
abbrev pub every : (ℕ → Bool) → ℕ → Bool
every f zero = true
every f (suc n) = f n && every f n

pub below : (f : ℕ → Bool) (n : ℕ) → T (every f n) → (k : ℕ) → k < n → T (f k)
below f zero t k l = absurd (not-suc-le-zero l)
below f (suc n) t k l =
    ⊎_elim (λ e. subst (λ (m : ℕ). T (f m)) (sym e) (left (f n) (every f n) t))
    (λ m. below f n (right (f n) (every f n) t) k m)
    (eq-or-lt_of_le (le_of_suc-le-suc l))

-- two functions agree below n
pub agree : (f g : ℕ → ℕ) (n : ℕ) → T (every (λ k. eqb (f k) (g k)) n) → (k : ℕ) → k < n → f k ≡ g k
agree f g n t k l = eqb→eq (f k) (g k) (below (λ k. eqb (f k) (g k)) n t k l)

-- two functions of two numbers agree below m and n
pub agree2 :
    (f g : ℕ → ℕ → ℕ) (m n : ℕ) → T (every (λ j. every (λ k. eqb (f j k) (g j k)) n) m) → (j k : ℕ) → j < m → k < n → f j k ≡ g j k
agree2 f g m n t j k p q =
    agree (f j) (g j) n (below (λ i. every (λ h. eqb (f i h) (g i h)) n) m t j p) k q

-- two tests have one outcome
abbrev pub alike : Bool → Bool → Bool
alike true b = b
alike false true = false
alike false false = true

alike_eq : (a b : Bool) → T (alike a b) → a ≡ b
alike_eq true true t = refl
alike_eq true false t = absurd t
alike_eq false true t = absurd t
alike_eq false false t = refl

-- two tests agree below n
pub agree_test : (f g : ℕ → Bool) (n : ℕ) → T (every (λ k. alike (f k) (g k)) n) → (k : ℕ) → k < n → f k ≡ g k
agree_test f g n t k l = alike_eq (f k) (g k) (below (λ k. alike (f k) (g k)) n t k l)

-- two tests of two numbers agree below m and n
pub agree_test2 :
    (f g : ℕ → ℕ → Bool) (m n : ℕ) → T (every (λ j. every (λ k. alike (f j k) (g j k)) n) m) → (j k : ℕ) → j < m → k < n → f j k ≡ g j k
agree_test2 f g m n t j k p q =
    agree_test (f j) (g j) n (below (λ i. every (λ h. alike (f i h) (g i h)) n) m t j p) k q
