-- A row that is not marked is found among the marks, which are a list.
-- Assumes nothing.
use Rattle.std.proofs.Common.{suc, ◌+◌, ◌≡◌, refl, sym, ap, ◌∙◌, Bool, true, false, not, List, [], ◌∷◌, length, get_or, ◌||◌}
use mathlib.Core.Bool.{beq}
use native.Mathlib.Omega.{arith}
use Rattle.std.specs.List.{list_any}
use Rattle.basics.specs.Below.{any_below}
use Rattle.basics.proofs.Below.{any_same, any_split}
use Rattle.marking.specs.HowMarked.{is_unmarked}

-- some element passes
pub any_listed : (g : Bool → Bool) (xs : List Bool) → list_any g xs ≡ any_below (λ i. g (get_or xs i false)) (length xs)
unfolding any_below
any_listed g [] = refl
any_listed g (x ∷ xs) =
    let e : length (x ∷ xs) ≡ 1 + length xs = omega arith in
    ap (λ (t : Bool). g x || t) (any_listed g xs ∙ any_same _ (λ i. g (get_or (x ∷ xs) (1 + i) false)) (length xs) (λ i l. let q : 1 + i ≡ suc i = omega arith in rw q))
    ∙ sym (ap (any_below (λ i. g (get_or (x ∷ xs) i false))) e ∙ any_split (λ i. g (get_or (x ∷ xs) i false)) 1 (length xs))

is_false : (b : Bool) → beq b false ≡ not b
is_false true = refl
is_false false = refl

pub unmarked_listed :
    (marks : List Bool) (t : Bool) → t ≡ list_any (λ b. beq b false) marks → length marks ≡ 25 → t ≡ any_below (is_unmarked marks) 25
unmarked_listed marks t e l =
    e
    ∙ any_listed (λ b. beq b false) marks
    ∙ ap (any_below (λ i. beq (get_or marks i false) false)) l
    ∙ any_same _ (is_unmarked marks) 25 (λ i h. is_false (get_or marks i false))
