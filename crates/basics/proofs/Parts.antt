-- Laws of a list made of parts: its length, each part, each element, two and two of its parts, and two lists whose parts agree.
-- Assumes nothing.
use Prim.Native.Nat.{ℕ, zero, suc, ◌+◌, ◌*◌, ◌≤◌, ◌<◌}
use mathlib.Core.Path.{◌≡◌, refl, sym, ap, ◌∙◌}
use mathlib.Core.List.{List, [], ◌∷◌, ◌++◌, append_assoc}
use mathlib.Core.Logic.{⊎_elim}
use native.Mathlib.Nat.{not-suc-le-zero, le_of_suc-le-suc, eq-or-lt_of_le, mul-zero, mul-suc, mul-le-mul_left, one-mul}
use native.Mathlib.Numerals.{add-one}
use native.Mathlib.Omega.{arith}
use lib.ListN.{length, get_or, take, drop, length-append, length-drop}
use lib.Seq.{drop_at, take-append-le, drop-append-le, take-add, take_all, get_or-take, get_or-drop, ext_get_or}
use Rattle.basics.specs.Parts.{joined, table, part_of}

module _ {A : Type 0} where
  pub joined_zero : (part : ℕ → List A) → joined part 0 ≡ []
  unfolding joined
  joined_zero part = refl

  pub joined_suc : (part : ℕ → List A) (n : ℕ) → joined part (suc n) ≡ joined part n ++ part n
  unfolding joined
  joined_suc part n = refl

  pub joined_more : (part : ℕ → List A) (n : ℕ) → joined part (n + 1) ≡ joined part n ++ part n
  joined_more part n = rw (add-one, joined_suc)

  -- each of the n parts is k long
  abbrev pub Each : ℕ → (ℕ → List A) → ℕ → Type 0
  Each k part n = (i : ℕ) → i < n → length (part i) ≡ k

  pub length_joined : (k : ℕ) (part : ℕ → List A) (n : ℕ) → Each k part n → length (joined part n) ≡ k * n
  unfolding joined
  length_joined k part zero e = sym (mul-zero k)
  length_joined k part (suc n) e =
      length-append (joined part n) (part n)
      ∙ ap (λ (m : ℕ). m + length (part n)) (length_joined k part n (λ i h. e i (omega arith)))
      ∙ ap (λ (m : ℕ). k * n + m) (e n (omega arith))
      ∙ sym (mul-suc k n)

  pub joined_same : (part other : ℕ → List A) (n : ℕ) → ((i : ℕ) → i < n → part i ≡ other i) → joined part n ≡ joined other n
  unfolding joined
  joined_same part other zero e = refl
  joined_same part other (suc n) e = rw (joined_same part other n (λ i l. e i (omega arith)), e n (omega arith))

  -- twice as many parts, two and two together
  pub joined_pairs : (part : ℕ → List A) (n : ℕ) → joined part (2 * n) ≡ joined (λ i. part (2 * i) ++ part (2 * i + 1)) n
  unfolding joined
  joined_pairs part zero = refl
  joined_pairs part (suc n) =
      let e : 2 * suc n ≡ suc (suc (2 * n)) = omega arith in
      ap (joined part) e
      ∙ append_assoc (joined part (2 * n)) (part (2 * n)) (part (suc (2 * n)))
      ∙ ap (λ (m : ℕ). joined part (2 * n) ++ (part (2 * n) ++ part m)) (sym (add-one (2 * n)))
      ∙ ap (λ (l : List A). l ++ (part (2 * n) ++ part (2 * n + 1))) (joined_pairs part n)

  -- a list is its parts
  pub parts_joined : (k : ℕ) (xs : List A) (n : ℕ) → k * n ≤ length xs → joined (part_of k xs) n ≡ take (k * n) xs
  unfolding joined
  parts_joined k xs zero h = rw mul-zero
  parts_joined k xs (suc n) h =
      let h' : k * n + k ≤ length xs = rw mul-suc at h in
      ap (λ (l : List A). l ++ part_of k xs n) (parts_joined k xs n (omega arith))
      ∙ sym (take-add (k * n) k xs)
      ∙ ap (λ (m : ℕ). take m xs) (sym (mul-suc k n))

  -- part i of the joined list
  pub joined_part : (k : ℕ) (part : ℕ → List A) (n : ℕ) → Each k part n → (i : ℕ) → i < n → part_of k (joined part n) i ≡ part i
  unfolding joined
  joined_part k part zero e i h = absurd (not-suc-le-zero h)
  joined_part k part (suc n) e i h =
      let len : length (joined part n) ≡ k * n = length_joined k part n (λ j l. e j (omega arith)) in
      let long : length (part n) ≡ k = e n (omega arith) in
      ⊎_elim
      (λ (q : i ≡ n).
      ap (λ (m : ℕ). part_of k (joined part n ++ part n) m) q
      ∙ ap (take k) (drop_at (joined part n) (part n) (k * n) len)
      ∙ take_all k (part n) (omega arith)
      ∙ ap part (sym q))
      (λ (l : i < n).
      let m : k * i + k ≤ k * n = rw (← mul-suc) (mul-le-mul_left k l) in
      ap (take k) (drop-append-le (k * i) (joined part n) (part n) (omega arith))
      ∙ take-append-le k (drop (k * i) (joined part n)) (part n) (rw length-drop (omega arith))
      ∙ joined_part k part n (λ j l. e j (omega arith)) i l)
      (eq-or-lt_of_le (le_of_suc-le-suc h))

  -- the first i parts of the joined list
  pub joined_front : (k : ℕ) (part : ℕ → List A) (n : ℕ) → Each k part n → (i : ℕ) → i ≤ n → take (k * i) (joined part n) ≡ joined part i
  joined_front k part n e i h =
      let m : k * i ≤ k * n = mul-le-mul_left k h in
      sym (parts_joined k (joined part n) i (omega (arith, length_joined k part n e)))
      ∙ joined_same _ _ i (λ j l. joined_part k part n e j (omega arith))

  -- element k * i + j is element j of part i
  pub joined_at :
      (k : ℕ) (part : ℕ → List A) (n : ℕ) → Each k part n → (i j : ℕ) (d : A) → i < n → j < k → get_or (joined part n) (k * i + j) d ≡ get_or (part i) j d
  joined_at k part n e i j d h l =
      sym (get_or-take k (drop (k * i) (joined part n)) j d l ∙ get_or-drop (k * i) (joined part n) j d)
      ∙ ap (λ (r : List A). get_or r j d) (joined_part k part n e i h)

  pub length_table : (f : ℕ → A) (n : ℕ) → length (table f n) ≡ n
  length_table f n = length_joined 1 (λ i. f i ∷ []) n (λ i h. refl) ∙ one-mul n

  pub table_at : (f : ℕ → A) (n : ℕ) (i : ℕ) (d : A) → i < n → get_or (table f n) i d ≡ f i
  table_at f n i d h =
      ap (λ (m : ℕ). get_or (table f n) m d) (omega arith)
      ∙ joined_at 1 (λ i. f i ∷ []) n (λ i h. refl) i 0 d h (omega arith)

  pub table_same : (f g : ℕ → A) (n : ℕ) → ((i : ℕ) → i < n → f i ≡ g i) → table f n ≡ table g n
  table_same f g n e = joined_same (λ i. f i ∷ []) (λ i. g i ∷ []) n (λ i h. ap (λ (a : A). a ∷ []) (e i h))

  -- a list is the table of its elements
  pub table_of : (xs : List A) (n : ℕ) (d : A) → length xs ≡ n → xs ≡ table (λ i. get_or xs i d) n
  table_of xs n d h =
      ext_get_or d xs (table (λ i. get_or xs i d) n) (h ∙ sym (length_table (λ i. get_or xs i d) n))
      (λ i l. sym (table_at (λ j. get_or xs j d) n i d (rw (← h) l)))
