-- Arrays that a method of the library makes: by a call for each index, the closure leaving its captures as they were, or as a copy of a part of a slice.
-- Assumes nothing.
use Prim.Native.Nat.{ℕ, zero, suc, ◌+◌, ◌<◌, ◌≤◌}
use mathlib.Core.Path.{◌≡◌, refl, sym, ap, subst, ◌∙◌}
use mathlib.Core.List.{List, [], ◌∷◌, ◌++◌, append_assoc, append-nil}
use native.Mathlib.Omega.{arith}
use denote.Param.Members.{Mut}
use lib.ListN.{length, get_or, take, drop, length-drop, drop_of_length-le}
use lib.Seq.{take_at, drop_at, length-take-le, get_or-take, get_or-drop, ext_get_or}
use borrow.Rule.Slice.PartMut.{put_mid}
use Rattle.std.specs.Fn.{Called}
use Rattle.std.specs.Array.{IsFromFnResult, IsFromFnResultFrom}
use Rattle.basics.specs.Parts.{joined, table}
use Rattle.basics.proofs.Parts.{length_table, table_at}

module _ {F A : Type 0} (g : Mut F (ℕ × Unit {0}) A) (f : ℕ → A) (s : F) where
  -- a call at an index gives f of it
  abbrev pub Gives : ℕ → Type 0
  Gives n = (i : ℕ) (x : A) (q : F) → i < n → Called g s (i, tt) x q → (x ≡ f i) × (q ≡ s)

  made_from :
      (n : ℕ) → Gives n → (xs : List A) (i m : ℕ) → i + m ≡ n → (p : F) → p ≡ s → IsFromFnResultFrom g p xs i m → (k : ℕ) (d : A) → k < m → get_or xs (i + k) d ≡ f (i + k)
  made_from n h xs i zero e p same r k d l = absurd (omega arith)
  made_from n h xs i (suc m) e p same r zero d l =
      let call = h i r.1 r.0 (omega arith) (subst (λ (y : F). Called g y (i, tt) r.1 r.0) same r.3) in
      let at : i + 0 ≡ i = omega arith in
      rw at (r.2.1 d ∙ call.0)
  made_from n h xs i (suc m) e p same r (suc k) d l =
      let call = h i r.1 r.0 (omega arith) (subst (λ (y : F). Called g y (i, tt) r.1 r.0) same r.3) in
      let at : i + suc k ≡ i + 1 + k = omega arith in
      rw at (made_from n h xs (i + 1) m (omega arith) r.0 call.1 r.4 k d (omega arith))

  -- `array::from_fn`
  pub table_made : (xs : List A) (n : ℕ) → IsFromFnResult g s xs n → Gives n → xs ≡ table f n
  table_made xs n r h =
      ext_get_or (f 0) xs (table f n) (r.long ∙ sym (length_table f n))
      (λ k l.
      let below : k < n = omega (arith, r.long) in
      let at : 0 + k ≡ k = omega arith in
      ap (λ (j : ℕ). get_or xs j (f 0)) (sym at) ∙ made_from n h xs 0 n (omega arith) s refl r.each k (f 0) below ∙ ap f at ∙ sym (table_at f n k (f 0) below))

module _ {A : Type 0} where
  -- a copy of w elements from `first` on
  pub table_copied :
      (f : ℕ → A) (xs copy : List A) (first w n : ℕ) (d : A)
      → copy ≡ take w (drop first xs) → w ≡ n → first + n ≤ length xs → ((i : ℕ) → i < n → get_or xs (first + i) d ≡ f i) → copy ≡ table f n
  table_copied f xs copy first w n d e long h same =
      let whole : length copy ≡ n = ap length e ∙ length-take-le w (drop first xs) (rw length-drop (omega (arith, h, long))) ∙ long in
      ext_get_or d copy (table f n) (whole ∙ sym (length_table f n))
      (λ k l.
      let below : k < n = omega (arith, whole) in
      ap (λ (z : List A). get_or z k d) e ∙ get_or-take w (drop first xs) k d (omega (arith, below, long)) ∙ get_or-drop first xs k d
      ∙ same k below
      ∙ sym (table_at f n k d below))

  table_split : (f : ℕ → A) (a b : ℕ) → table f (a + b) ≡ table f a ++ table (λ i. f (a + i)) b
  unfolding joined
  table_split f a zero = let e : a + 0 ≡ a = omega arith in ap (table f) e ∙ sym (append-nil (table f a))
  table_split f a (suc b) =
      let e : a + suc b ≡ suc (a + b) = omega arith in
      ap (table f) e
      ∙ ap (λ (z : List A). z ++ (f (a + b) ∷ [])) (table_split f a b)
      ∙ append_assoc (table f a) (table (λ i. f (a + i)) b) (f (a + b) ∷ [])

  -- two copies, one after the other: the second takes the place of what stood after the first
  pub table_two :
      (f : ℕ → A) (front rest last : List A) (a b : ℕ)
      → front ≡ table f a → last ≡ table (λ i. f (a + i)) b → length rest ≡ b → put_mid a b (front ++ rest) last ≡ table f (a + b)
  table_two f front rest last a b p q h =
      let long : length front ≡ a = ap length p ∙ length_table f a in
      ap (λ (z : List A). z ++ (last ++ drop b (drop a (front ++ rest)))) (take_at front rest a long)
      ∙ ap (λ (z : List A). front ++ (last ++ drop b z)) (drop_at front rest a long)
      ∙ ap (λ (z : List A). front ++ (last ++ z)) (drop_of_length-le rest {i = b} (omega arith))
      ∙ ap (λ (z : List A). front ++ z) (append-nil last)
      ∙ ap (λ (z : List A). z ++ last) p
      ∙ ap (λ (z : List A). table f a ++ z) q
      ∙ sym (table_split f a b)
