use Rattle.std.proofs.Common.{rules, ℕ, Bool, ◌+◌, ◌<◌, ◌≡◌, ◌||◌, sym, ap, refl, ◌∙◌}
use mathlib.Core.Bool.{or_assoc}
use Rattle.basics.specs.Below.{any_below}
use Rattle.basics.proofs.Choice.{or_left}
use Rattle.address.specs.Places.{place_of}
use native.Mathlib.Omega.{arith}
use Rattle.asking.proofs.Rows.{left_low, right_low, one_row}
use Rattle.asking.proofs.row.some_in_row.Goals as goal
use Rattle.asking.proofs.row.some_in_row.Goals.{then-some_below, else-some_below, then-some_below-2, else-some_below-2}

pub some_below-requires : goal.some_below-requires
some_below-requires g c = let low : (i : ℕ) → i < 16 → c.place_at-left.result + i < 1024 = λ i l. omega (arith, c.place_at-left.ensures, left_low c.args.y 1 i (omega arith) (omega arith)) in search rules

pub some_below-requires-else-some_below : goal.some_below-requires-else-some_below
some_below-requires-else-some_below g c =
    let low : (i : ℕ) → i < 16 → c.place_at-left.result + 16 + i < 1024 = λ i l. omega (arith, c.place_at-left.ensures, left_low c.args.y 1 (16 + i) (omega arith) (omega arith)) in search rules

pub some_below-requires-else-some_below-2 : goal.some_below-requires-else-some_below-2
some_below-requires-else-some_below-2 g c = let low : (i : ℕ) → i < 8 → c.place_at-right.result + i < 1024 = λ i l. omega (arith, c.place_at-right.ensures, right_low c.args.y i (omega arith) l) in search rules

pub returns : goal.returns
returns g c = λ test answers.
    let y = c.args.y in
    let first = any_below (λ i. test (place_of 0 y 0 + i)) 16 in
    let second = any_below (λ i. test (place_of 0 y 0 + 16 + i)) 16 in
    let third = any_below (λ i. test (place_of 32 y 0 + i)) 8 in
    let one : c.some_below.result ≡ first =
    c.some_below.ensures _ (λ i yes l said. let low : c.place_at-left.result + i < 1024 = omega (arith, c.place_at-left.ensures, left_low y 1 i (omega arith) (omega arith)) in search rules) in
    let two : c.if-some_below.value ≡ (first || second) =
    elim c.if-some_below.branch [
      | then-some_below w ↦ w.value-is ∙ w.if-some_below.true ∙ sym (or_left first second (sym one ∙ w.if-some_below.true))
      | else-some_below w ↦ w.value-is ∙ w.some_below-else-some_below.ensures _ (λ i yes l said. let low : c.place_at-left.result + 16 + i < 1024 = omega (arith, c.place_at-left.ensures, left_low y 1 (16 + i) (omega arith) (omega arith)) in search rules) ∙ sym (ap (λ (t : Bool). t || second) (sym one ∙ w.if-some_below.false))
    ] in
    let three : c.if-some_below-2.result ≡ ((first || second) || third) =
    elim c.if-some_below-2.branch [
      | then-some_below-2 w ↦ w.result-is ∙ w.if-some_below-2.true ∙ sym (or_left (first || second) third (sym two ∙ w.if-some_below-2.true))
      | else-some_below-2 w ↦ w.result-is ∙ w.some_below-else-some_below-2.ensures _ (λ i yes l said. let low : c.place_at-right.result + i < 1024 = omega (arith, c.place_at-right.ensures, right_low y i (omega arith) l) in search rules) ∙ sym (ap (λ (t : Bool). t || third) (sym two ∙ w.if-some_below-2.false))
    ] in
    three ∙ or_assoc first second third ∙ one_row y test first second third refl refl refl
