-- Laws of a loop that fills a list part by part: what is known of the front after i parts, a turn, and the end.
-- Of an array made by the function itself only its front is known, `take (k * i) xs`; of a lent slice the rest too, `filled`.
-- The premises are what a loop's invariant, its test and its callees' contracts give, so that a search finds them.
-- Assumes nothing.
use Prim.Native.Nat.{ℕ, suc, ◌+◌, ◌-◌, ◌*◌, ◌≤◌, ◌<◌}
use mathlib.Core.Path.{◌≡◌, refl, sym, ap, ◌∙◌}
use mathlib.Core.List.{List, [], ◌∷◌, ◌++◌, append_assoc, append-nil}
use native.Mathlib.Nat.{mul-zero, mul-suc, mul-le-mul_left, one-mul}
use native.Mathlib.Numerals.{add-one}
use native.Mathlib.Omega.{arith}
use lib.ListN.{length, get_or, set, take, drop, length-append, length-drop, take-append-drop, drop_of_length-le}
use lib.Seq.{take_at, drop_at, drop-drop, take-suc, take-suc-set, take_all, take-append-le, take-append-add, length-take-le, get_or-take, ext_get_or, sets, sets-eq}
use borrow.Rule.Slice.PartMut.{put_mid, mid_of, same_len_mid}
use Rattle.basics.specs.Parts.{joined, table, part_of}
use Rattle.basics.proofs.Few.{four}
use Rattle.basics.proofs.Parts.{Each, joined_zero, joined_more, length_joined, length_table, table_at}

module _ {A : Type 0} where
  -- A lent slice: the first i parts, and then what stood there.
  abbrev pub filled : ℕ → (ℕ → List A) → List A → ℕ → List A
  filled k part xs₀ i = joined part i ++ drop (k * i) xs₀

  pub filled_none : (k : ℕ) (part : ℕ → List A) (xs₀ : List A) → xs₀ ≡ filled k part xs₀ 0
  filled_none k part xs₀ = rw (joined_zero, mul-zero)

  pub length_filled :
      (k : ℕ) (part : ℕ → List A) (xs₀ : List A) (i : ℕ) → Each k part i → k * i ≤ length xs₀ → length (filled k part xs₀ i) ≡ length xs₀
  length_filled k part xs₀ i e h =
      let l : length (joined part i) ≡ k * i = length_joined k part i e in
      length-append (joined part i) (drop (k * i) xs₀) ∙ rw length-drop (omega arith)

  seam :
      (k : ℕ) (part : ℕ → List A) (xs₀ ys : List A) (i : ℕ) → ys ≡ part i → joined part i ++ (ys ++ drop (k * i + k) xs₀) ≡ filled k part xs₀ (i + 1)
  seam k part xs₀ ys i q =
      sym (append_assoc (joined part i) ys (drop (k * i + k) xs₀))
      ∙ ap (λ (l : List A). (joined part i ++ l) ++ drop (k * i + k) xs₀) q
      ∙ ap (λ (l : List A). l ++ drop (k * i + k) xs₀) (sym (joined_more part i))
      ∙ ap (λ (m : ℕ). joined part (i + 1) ++ drop m xs₀) (sym (ap (λ (m : ℕ). k * m) (add-one i) ∙ mul-suc k i))

  -- a turn that leaves a part which is right already
  pub filled_keep :
      (k : ℕ) (part : ℕ → List A) (xs₀ : List A) (i : ℕ) → part_of k xs₀ i ≡ part i → filled k part xs₀ i ≡ filled k part xs₀ (i + 1)
  filled_keep k part xs₀ i q =
      ap (λ (l : List A). joined part i ++ l) (sym (take-append-drop k (drop (k * i) xs₀)) ∙ ap (λ (l : List A). part_of k xs₀ i ++ l) (drop-drop k (k * i) xs₀))
      ∙ seam k part xs₀ (part_of k xs₀ i) i q

  -- a turn that lends the part from a, w long, to a function that leaves ys there
  pub filled_part :
      (k : ℕ) (part : ℕ → List A) (xs₀ xs ys : List A) (i a w : ℕ)
      → Each k part i → xs ≡ filled k part xs₀ i → ys ≡ part i → a ≡ k * i → w ≡ k → take a xs ++ (ys ++ drop w (drop a xs)) ≡ filled k part xs₀ (i + 1)
  filled_part k part xs₀ xs ys i a w e q y qa qw =
      let l : length (joined part i) ≡ a = length_joined k part i e ∙ sym qa in
      let front : List A = joined part i in
      let rest : List A = drop (k * i) xs₀ in
      ap (λ (z : List A). take a z ++ (ys ++ drop w (drop a z))) q
      ∙ ap (λ (z : List A). z ++ (ys ++ drop w (drop a (front ++ rest)))) (take_at front rest a l)
      ∙ ap (λ (z : List A). front ++ (ys ++ drop w z)) (drop_at front rest a l)
      ∙ ap (λ (z : ℕ). front ++ (ys ++ drop z rest)) qw
      ∙ ap (λ (z : List A). front ++ (ys ++ z)) (drop-drop k (k * i) xs₀)
      ∙ seam k part xs₀ ys i y

  -- One element a turn: j is i to begin with, and one more after a turn.
  pub filled_front :
      (f : ℕ → A) (xs₀ : List A) (i j : ℕ) → j ≡ i → take i xs₀ ≡ table f i → xs₀ ≡ filled 1 (λ n. f n ∷ []) xs₀ j
  filled_front f xs₀ i j e q =
      sym (take-append-drop i xs₀)
      ∙ ap (λ (z : List A). z ++ drop i xs₀) q
      ∙ ap (λ (m : ℕ). table f i ++ drop m xs₀) (sym (one-mul i))
      ∙ ap (filled 1 (λ n. f n ∷ []) xs₀) (sym e)

  pub filled_next :
      (f : ℕ → A) (xs₀ xs : List A) (i : ℕ) (v : A) (j : ℕ)
      → j ≡ i + 1 → i < length xs → xs ≡ filled 1 (λ n. f n ∷ []) xs₀ i → v ≡ f i → set xs i v ≡ filled 1 (λ n. f n ∷ []) xs₀ j
  filled_next f xs₀ xs i v j k l q e =
      sets-eq (v ∷ []) xs i (omega arith)
      ∙ append_assoc (take i xs) (v ∷ []) (drop (i + 1) xs)
      ∙ ap (λ (z : List A). take i xs ++ ((v ∷ []) ++ z)) (sym (drop-drop 1 i xs))
      ∙ filled_part 1 (λ n. f n ∷ []) xs₀ xs (v ∷ []) i i 1 (λ n h. refl) q (ap (λ (z : A). z ∷ []) e) (sym (one-mul i)) refl
      ∙ ap (filled 1 (λ n. f n ∷ []) xs₀) (sym k)

  pub filled_take : (f : ℕ → A) (xs₀ xs : List A) (i : ℕ) → xs ≡ filled 1 (λ n. f n ∷ []) xs₀ i → take i xs ≡ table f i
  filled_take f xs₀ xs i q = ap (take i) q ∙ take_at (table f i) (drop (1 * i) xs₀) i (length_table f i)

  pub filled_end :
      (k : ℕ) (part : ℕ → List A) (xs₀ xs : List A) (n i : ℕ) → xs ≡ filled k part xs₀ i → i ≤ n → n ≤ i → length xs₀ ≡ k * n → xs ≡ joined part n
  filled_end k part xs₀ xs n i q a b h =
      let e : i ≡ n = omega arith in
      q
      ∙ ap (filled k part xs₀) e
      ∙ ap (λ (l : List A). joined part n ++ l) (drop_of_length-le xs₀ {i = k * n} (omega arith))
      ∙ append-nil (joined part n)

  -- An array that the function made: its front. (At a numeral k, `take (k * 0) xs` computes to [].)
  pub front_none : (part : ℕ → List A) → [] ≡ joined part 0
  front_none part = sym (joined_zero part)

  four_listed : (b : List A) (d : A) → length b ≡ 4 → (get_or b 0 d ∷ get_or b 1 d ∷ get_or b 2 d ∷ get_or b 3 d ∷ []) ≡ b
  four_listed b d s = ext_get_or d (get_or b 0 d ∷ get_or b 1 d ∷ get_or b 2 d ∷ get_or b 3 d ∷ []) b (sym s) (four _ refl refl refl refl)

  -- a turn that stores the four elements of an array
  pub filled_four :
      (part : ℕ → List A) (xs₀ xs b : List A) (i n : ℕ) (d : A)
      → i < n → length xs ≡ 4 * n → xs ≡ filled 4 part xs₀ i → b ≡ part i → ((j : ℕ) → length (part j) ≡ 4)
      → set (set (set (set xs (4 * i) (get_or b 0 d)) (4 * i + 1) (get_or b 1 d)) (4 * i + 2) (get_or b 2 d)) (4 * i + 3) (get_or b 3 d)
      ≡ filled 4 part xs₀ (i + 1)
  filled_four part xs₀ xs b i n d l h q e each =
      let long : length (joined part i) ≡ 4 * i = length_joined 4 part i (λ j k. each j) in
      let p1 : 4 * i + 1 ≡ suc (4 * i) = omega arith in
      let p2 : 4 * i + 2 ≡ suc (suc (4 * i)) = omega arith in
      let p3 : 4 * i + 3 ≡ suc (suc (suc (4 * i))) = omega arith in
      let vs : List A = get_or b 0 d ∷ get_or b 1 d ∷ get_or b 2 d ∷ get_or b 3 d ∷ [] in
      let whole : vs ≡ part i = four_listed b d (ap length e ∙ each i) ∙ e in
      rw (p1, p2, p3)
      (sets-eq vs xs (4 * i) (omega arith)
      ∙ append_assoc (take (4 * i) xs) vs (drop (4 * i + 4) xs)
      ∙ ap (λ (z : List A). take (4 * i) z ++ (vs ++ drop (4 * i + 4) z)) q
      ∙ ap (λ (z : List A). z ++ (vs ++ drop (4 * i + 4) (filled 4 part xs₀ i))) (take_at (joined part i) (drop (4 * i) xs₀) (4 * i) long)
      ∙ ap (λ (z : List A). joined part i ++ (vs ++ z))
      (sym (drop-drop 4 (4 * i) (filled 4 part xs₀ i)) ∙ ap (drop 4) (drop_at (joined part i) (drop (4 * i) xs₀) (4 * i) long) ∙ drop-drop 4 (4 * i) xs₀)
      ∙ seam 4 part xs₀ vs i whole)

  -- a turn that stores the part, and perhaps more behind it, where a later turn stores its own
  pub front_stored :
      (k : ℕ) (part : ℕ → List A) (xs vs : List A) (i : ℕ)
      → take (k * i) xs ≡ joined part i → take k vs ≡ part i → k ≤ length vs → k * i + length vs ≤ length xs
      → take (k * (i + 1)) (sets xs (k * i) vs) ≡ joined part (i + 1)
  front_stored k part xs vs i q e w h =
      let front : length (take (k * i) xs) ≡ k * i = length-take-le (k * i) xs (omega arith) in
      let rest : List A = drop (k * i + length vs) xs in
      let next : k * (i + 1) ≡ length (take (k * i) xs) + k = rw (add-one, mul-suc) (omega arith) in
      ap (λ (m : ℕ). take m (sets xs (k * i) vs)) next
      ∙ ap (take (length (take (k * i) xs) + k)) (sets-eq vs xs (k * i) h ∙ append_assoc (take (k * i) xs) vs rest)
      ∙ take-append-add (take (k * i) xs) (vs ++ rest) k
      ∙ ap (λ (z : List A). take (k * i) xs ++ z) (take-append-le k vs rest w ∙ e)
      ∙ ap (λ (z : List A). z ++ part i) q
      ∙ sym (joined_more part i)

  -- a turn that lends the part to a function that leaves src there
  pub front_lent :
      (k : ℕ) (part : ℕ → List A) (xs ys src : List A) (i n : ℕ)
      → i < n → length xs ≡ k * n → take (k * i) xs ≡ joined part i → ys ≡ src → src ≡ part i → ((j : ℕ) → length (part j) ≡ k)
      → take (k * (i + 1)) (put_mid (k * i) (k * i + k - k * i) xs ys) ≡ joined part (i + 1)
  front_lent k part xs ys src i n l h q e s each =
      let below : k * i + k ≤ k * n = rw (← mul-suc) (mul-le-mul_left k l) in
      let ly : length ys ≡ k = ap length (e ∙ s) ∙ each i in
      let w : ℕ = k * i + k - k * i in
      let long : length (take (k * i) xs ++ ys) ≡ k * (i + 1) =
      length-append (take (k * i) xs) ys
      ∙ ap (λ (m : ℕ). m + length ys) (length-take-le (k * i) xs (omega arith))
      ∙ rw (add-one, mul-suc) (omega arith) in
      ap (take (k * (i + 1))) (sym (append_assoc (take (k * i) xs) ys (drop w (drop (k * i) xs))))
      ∙ take_at (take (k * i) xs ++ ys) (drop w (drop (k * i) xs)) (k * (i + 1)) long
      ∙ ap (λ (z : List A). z ++ ys) q
      ∙ ap (λ (z : List A). joined part i ++ z) (e ∙ s)
      ∙ sym (joined_more part i)

  pub front_end :
      (k : ℕ) (part : ℕ → List A) (xs : List A) (n i : ℕ) → take (k * i) xs ≡ joined part i → i ≤ n → n ≤ i → length xs ≡ k * n → xs ≡ joined part n
  front_end k part xs n i q a b h =
      let e : i ≡ n = omega arith in
      sym (take_all (k * n) xs (omega arith)) ∙ ap (λ (m : ℕ). take (k * m) xs) (sym e) ∙ q ∙ ap (joined part) e

  -- a part that was lent leaves the length
  pub part_length : (a w : ℕ) (xs ys : List A) (n : ℕ) → length ys ≡ length (mid_of a w xs) → length xs ≡ n → length (put_mid a w xs ys) ≡ n
  part_length a w xs ys n k h = same_len_mid a w xs ys k ∙ h

  -- One element a turn.
  pub table_set :
      (f : ℕ → A) (xs : List A) (i : ℕ) (v : A) → take i xs ≡ table f i → v ≡ f i → i < length xs → take (i + 1) (set xs i v) ≡ table f (i + 1)
  table_set f xs i v q y h =
      ap (λ (m : ℕ). take m (set xs i v)) (add-one i)
      ∙ take-suc-set xs i v h
      ∙ ap (λ (z : A). take i xs ++ (z ∷ [])) y
      ∙ ap (λ (z : List A). z ++ (f i ∷ [])) q
      ∙ sym (joined_more (λ j. f j ∷ []) i)

  pub table_end : (f : ℕ → A) (xs : List A) (n i : ℕ) → take i xs ≡ table f i → i ≤ n → n ≤ i → length xs ≡ n → xs ≡ table f n
  table_end f xs n i q a b h = let e : i ≡ n = omega arith in sym (take_all i xs (omega arith)) ∙ q ∙ ap (table f) e

  -- an element of the front
  pub table_front : (f : ℕ → A) (xs : List A) (i k : ℕ) (d : A) → take i xs ≡ table f i → k < i → get_or xs k d ≡ f k
  table_front f xs i k d q h = sym (get_or-take i xs k d h) ∙ ap (λ (z : List A). get_or z k d) q ∙ table_at f i k d h

  -- A copy, one element a turn.
  pub copy_set :
      (src xs : List A) (i : ℕ) (d : A) → take i xs ≡ take i src → i < length xs → i < length src → take (i + 1) (set xs i (get_or src i d)) ≡ take (i + 1) src
  copy_set src xs i d q h hs =
      ap (λ (m : ℕ). take m (set xs i (get_or src i d))) (add-one i)
      ∙ take-suc-set xs i (get_or src i d) h
      ∙ ap (λ (z : List A). z ++ (get_or src i d ∷ [])) q
      ∙ sym (take-suc src i d hs)
      ∙ ap (λ (m : ℕ). take m src) (sym (add-one i))

  pub copy_end : (src xs : List A) (n i : ℕ) → take i xs ≡ take i src → i ≤ n → n ≤ i → length xs ≡ n → length src ≡ n → xs ≡ src
  copy_end src xs n i q a b h hs = sym (take_all i xs (omega arith)) ∙ q ∙ take_all i src (omega arith)
