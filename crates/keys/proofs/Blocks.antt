-- Laws of a question that is asked of each of a few blocks.
-- Assumes nothing.
use Prim.Native.Nat.{ℕ, zero, suc, ◌<◌}
use mathlib.Core.Path.{◌≡◌, refl, sym, ap, ap₂, ◌∙◌}
use mathlib.Core.Bool.{Bool, true, false, not, ◌&&◌, ◌||◌, false≢true, and-false}
use mathlib.Core.List.{List}
use mathlib.Core.Logic.{◌⊎◌, inl, inr}
use native.Mathlib.Omega.{arith}
use lib.Dec.{eqb}
use lib.ListN.{get_or}
use borrow.Author.Tests.{eq-eqb, ne_eqb, eqb-true}
use Rattle.basics.specs.Below.{any_below}
use Rattle.basics.proofs.Choice.{and_right}
use Rattle.keys.specs.HowKeys.{is_one, passes, some_block, AllFitted}
use Rattle.keys.proofs.Tests.{together, or_swap}

module _ (blocks : List ℕ) where
  three : (f g : ℕ → Bool) → ((z : ℕ) → passes f z ≡ g z) → some_block f blocks ≡ (g (get_or blocks 0 0) || (g (get_or blocks 1 0) || g (get_or blocks 2 0)))
  unfolding some_block
  three f g h = ap₂ ◌||◌ (h (get_or blocks 0 0)) (ap₂ ◌||◌ (h (get_or blocks 1 0)) (h (get_or blocks 2 0)))

  -- two questions with one answer
  pub some_same : (f g : ℕ → Bool) → ((z : ℕ) → f z ≡ g z) → some_block f blocks ≡ some_block g blocks
  unfolding some_block
  some_same f g h = three f (passes g) (λ z. ap (λ (t : Bool). not (eqb z 255) && t) (h z))

  -- that have one answer for each block of the board
  pub some_fitted : (board : ℕ) → AllFitted board blocks → (f g : ℕ → Bool) → ((z : ℕ) → z < board → f z ≡ g z) → some_block f blocks ≡ some_block g blocks
  unfolding some_block
  some_fitted board fitted f g h = ap₂ ◌||◌ (one fitted.0) (ap₂ ◌||◌ (one fitted.1) (one fitted.2))
    where
      one : {z : ℕ} → (z ≡ 255) ⊎ (z < board) → passes f z ≡ passes g z
      one {z} (inl e) = rw (eq-eqb z 255 e)
      one {z} (inr l) = ap (λ (t : Bool). not (eqb z 255) && t) (h z l)

  -- a question that only a block's number answers
  pub some_each : (f : ℕ → Bool) → f 255 ≡ false → some_block f blocks ≡ (f (get_or blocks 0 0) || (f (get_or blocks 1 0) || f (get_or blocks 2 0)))
  some_each f none = three f f (λ z. together _ _ (λ e. and_right (not (eqb z 255)) (f z) e) (λ e. there z e))
    where
      there : (z : ℕ) → f z ≡ true → (not (eqb z 255) && f z) ≡ true
      there z e = ap₂ ◌&&◌ (ap not (ne_eqb z 255 (λ q. false≢true (sym none ∙ ap f (sym q) ∙ e)))) e

  pub some_none : some_block (λ z. false) blocks ≡ false
  some_none = three (λ z. false) (λ z. false) (λ z. and-false (not (eqb z 255)))

  pub some_or : (f g : ℕ → Bool) → some_block (λ z. f z || g z) blocks ≡ (some_block f blocks || some_block g blocks)
  unfolding some_block
  some_or f g =
      let p = get_or blocks 0 0 in
      let q = get_or blocks 1 0 in
      let r = get_or blocks 2 0 in
      ap₂ ◌||◌ (both p) (ap₂ ◌||◌ (both q) (both r) ∙ or_swap (passes f q) (passes g q) (passes f r) (passes g r))
      ∙ or_swap (passes f p) (passes g p) (passes f q || passes f r) (passes g q || passes g r)
    where
      spread : (t a b : Bool) → (t && (a || b)) ≡ ((t && a) || (t && b))
      spread true a b = refl
      spread false a b = refl

      both : (z : ℕ) → passes (λ k. f k || g k) z ≡ (passes f z || passes g z)
      both z = spread (not (eqb z 255)) (f z) (g z)

  -- a test that does not ask the block
  pub some_and : (t : Bool) (f : ℕ → Bool) → some_block (λ z. t && f z) blocks ≡ (t && some_block f blocks)
  some_and true f = refl
  some_and false f = some_none

  pub some_any : (f : ℕ → ℕ → Bool) (n : ℕ) → some_block (λ z. any_below (f z) n) blocks ≡ any_below (λ i. some_block (λ z. f z i) blocks) n
  unfolding any_below
  some_any f zero = some_none
  some_any f (suc n) = some_or (λ z. any_below (f z) n) (λ z. f z n) ∙ ap (λ (t : Bool). t || some_block (λ z. f z n) blocks) (some_any f n)

  -- the blocks are asked for a number
  pub some_one : (s : ℕ) → s < 255 → some_block (λ z. eqb s z) blocks ≡ is_one blocks s
  unfolding is_one
  some_one s l =
      some_each (λ z. eqb s z) (ne_eqb s 255 (λ e. omega arith))
      ∙ ap₂ ◌||◌ (turn (get_or blocks 0 0)) (ap₂ ◌||◌ (turn (get_or blocks 1 0)) (turn (get_or blocks 2 0)))
    where
      turn : (z : ℕ) → eqb s z ≡ eqb z s
      turn z = together _ _ (λ e. eq-eqb z s (sym (eqb-true s z e))) (λ e. eq-eqb s z (sym (eqb-true z s e)))
