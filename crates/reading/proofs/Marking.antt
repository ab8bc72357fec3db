-- Laws of marks: rows that are marked too, once and once more, and one row after the other in any order.
-- Assumes nothing.
use Prim.Native.Nat.{ℕ, ◌<◌}
use mathlib.Core.Path.{◌≡◌, sym, ap, ◌∙◌}
use mathlib.Core.Bool.{Bool, false, ◌&&◌, ◌||◌, or-false, or_assoc}
use mathlib.Core.List.{List}
use mathlib.Core.Logic.{⊎_elim}
use lib.Seq.{get_or-set_same, get_or-set_other, ext_get_or}
use native.Mathlib.Omega.{arith}
use lib.Dec.{eqb}
use borrow.Author.Tests.{eq-eqb, ne_eqb}
use lib.ListN.{length, set, length-set}
use Rattle.basics.proofs.Choice.{eq_or_ne}
use Rattle.basics.proofs.Parts.{length_table, table_at, table_same}
use Rattle.page.specs.Marks.{is_marked, marked_too}

module _ (f : ℕ → Bool) (marks : List Bool) where
  pub marked_long : length (marked_too f marks) ≡ 25
  unfolding marked_too
  marked_long = length_table (λ r. is_marked marks r || f r) 25

  pub marked_is : (i : ℕ) → i < 25 → is_marked (marked_too f marks) i ≡ (is_marked marks i || f i)
  unfolding marked_too
  marked_is i l = table_at (λ r. is_marked marks r || f r) 25 i false l

  pub marked_all : (after : List Bool) → length after ≡ 25 → ((i : ℕ) → i < 25 → is_marked after i ≡ (is_marked marks i || f i)) → after ≡ marked_too f marks
  marked_all after h e = ext_get_or false after (marked_too f marks) (h ∙ sym marked_long) (λ i l. e i (omega arith) ∙ sym (marked_is i (omega arith)))

  -- none passes
  pub marked_none : length marks ≡ 25 → ((i : ℕ) → i < 25 → f i ≡ false) → marks ≡ marked_too f marks
  marked_none h e = marked_all marks h (λ i l. sym (ap (λ (t : Bool). is_marked marks i || t) (e i l) ∙ or-false (is_marked marks i)))

  -- two tests that agree
  pub marked_same : (g : ℕ → Bool) → ((i : ℕ) → i < 25 → f i ≡ g i) → marked_too f marks ≡ marked_too g marks
  unfolding marked_too
  marked_same g e = table_same _ _ 25 (λ i l. ap (λ (t : Bool). is_marked marks i || t) (e i l))

  -- once and once more
  pub marked_twice : (g h : ℕ → Bool) → ((i : ℕ) → i < 25 → (f i || g i) ≡ h i) → marked_too g (marked_too f marks) ≡ marked_too h marks
  unfolding marked_too
  marked_twice g h e =
      table_same _ _ 25
      (λ i l.
      ap (λ (t : Bool). t || g i) (table_at (λ r. is_marked marks r || f r) 25 i false l)
      ∙ or_assoc (is_marked marks i) (f i) (g i)
      ∙ ap (λ (t : Bool). is_marked marks i || t) (e i l))

  -- one row more
  pub marked_set :
      (g : ℕ → Bool) (after : List Bool) (r : ℕ) (new t : Bool) → after ≡ marked_too f marks → r < 25 → new ≡ (is_marked after r || t)
      → ((i : ℕ) → i < 25 → (f i || (eqb i r && t)) ≡ g i) → set after r new ≡ marked_too g marks
  unfolding marked_too
  marked_set g after r new t d l en e = ext_get_or false (set after r new) (marked_too g marks) (long ∙ sym (length_table (λ i. is_marked marks i || g i) 25)) (λ i h. value i (omega (arith, long)))
    where
      whole : length after ≡ 25
      whole = ap length d ∙ marked_long

      long : length (set after r new) ≡ 25
      long = length-set after r new ∙ whole

      step : (i : ℕ) → i < 25 → (is_marked after i || (eqb i r && t)) ≡ (is_marked marks i || g i)
      step i h =
          ap (λ (b : Bool). b || (eqb i r && t)) (ap (λ (a : List Bool). is_marked a i) d ∙ marked_is i h)
          ∙ or_assoc (is_marked marks i) (f i) (eqb i r && t)
          ∙ ap (λ (b : Bool). is_marked marks i || b) (e i h)

      value : (i : ℕ) → i < 25 → is_marked (set after r new) i ≡ is_marked (marked_too g marks) i
      value i h =
          ⊎_elim
          (λ (q : i ≡ r).
          ap (is_marked (set after r new)) q
          ∙ get_or-set_same after r new false (omega (arith, whole))
          ∙ en
          ∙ ap (λ (k : ℕ). is_marked after k || t) (sym q)
          ∙ ap (λ (b : Bool). is_marked after i || (b && t)) (sym (eq-eqb i r q))
          ∙ step i h)
          (λ (q : i ≡ r → ⊥).
          get_or-set_other after r i new false q
          ∙ sym (or-false (is_marked after i))
          ∙ ap (λ (b : Bool). is_marked after i || (b && t)) (sym (ne_eqb i r q))
          ∙ step i h)
          (eq_or_ne i r)
          ∙ sym (table_at (λ k. is_marked marks k || g k) 25 i false h)

-- what was marked before a loop passes in it too
pub marked_again :
    (f g : ℕ → Bool) (marks between : List Bool) → between ≡ marked_too f marks → ((i : ℕ) → i < 25 → (f i || g i) ≡ g i) → marked_too g between ≡ marked_too g marks
marked_again f g marks between d e = ap (marked_too g) d ∙ marked_twice f marks g g e
