-- What the list's `contains` says of the marks.
-- Assumes nothing.
use Prim.Native.Nat.{ℕ, zero, suc, ◌≤◌}
use mathlib.Core.Path.{◌≡◌, refl, sym, ap, ap₂, ◌∙◌}
use mathlib.Core.Bool.{Bool, true, false, ◌||◌, beq}
use mathlib.Core.List.{List}
use native.Mathlib.Numerals.{add-one}
use native.Mathlib.Omega.{arith}
use lib.ListN.{length, get_or, take}
use lib.Seq.{take_all}
use Rattle.std.specs.List.{list_any}
use Rattle.std.proofs.lemmas.List.Folds.{list_any_more}
use Rattle.basics.specs.Below.{any_below}
use Rattle.page.specs.Marks.{is_marked}

abbrev is_true : Bool → Bool
is_true b = beq b true

its_own : (b : Bool) → is_true b ≡ b
its_own true = refl
its_own false = refl

marked_front : (marks : List Bool) (n : ℕ) → n ≤ length marks → list_any is_true (take n marks) ≡ any_below (is_marked marks) n
unfolding any_below
marked_front marks zero h = refl
marked_front marks (suc n) h =
    ap (λ (k : ℕ). list_any is_true (take k marks)) (sym (add-one n))
    ∙ list_any_more is_true marks n false (omega (arith, h))
    ∙ ap₂ ◌||◌ (marked_front marks n (omega (arith, h))) (its_own (get_or marks n false))

-- some mark is set
pub marked_any : (marks : List Bool) (n : ℕ) → length marks ≡ n → list_any is_true marks ≡ any_below (is_marked marks) n
marked_any marks n h = ap (list_any is_true) (sym (take_all n marks (omega (arith, h)))) ∙ marked_front marks n (omega (arith, h))
