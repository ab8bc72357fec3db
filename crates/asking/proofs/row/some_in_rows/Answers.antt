use Rattle.std.proofs.Common.{rules, ℕ, Bool, ◌+◌, ◌*◌, ◌<◌, ◌≡◌, ◌||◌, sym, ap, refl, ◌∙◌}
use native.Mathlib.Omega.{arith}
use Rattle.basics.specs.Below.{any_below}
use Rattle.basics.proofs.Choice.{or_left}
use Rattle.address.specs.Places.{place_of}
use Rattle.asking.proofs.Rows.{left_low, rights_low, several_rows}
use Rattle.asking.proofs.row.some_in_rows.Goals as goal
use Rattle.asking.proofs.row.some_in_rows.Goals.{then-some_below, else-some_below}

pub some_below-requires : goal.some_below-requires
some_below-requires g c =
    let low : (i : ℕ) → i < 32 * c.args.rows → c.place_at-left.result + i < 1024 = λ i l. omega (arith, c.place_at-left.ensures, left_low c.args.y c.args.rows i (omega arith) l) in search rules

pub some_below-requires-else-some_below : goal.some_below-requires-else-some_below
some_below-requires-else-some_below g c =
    let low : (i : ℕ) → i < 8 * c.args.rows → c.place_at-right.result + i < 1024 = λ i l. omega (arith, c.place_at-right.ensures, rights_low c.args.y c.args.rows i (omega arith) (omega arith) l) in search rules

pub returns : goal.returns
returns g c = λ test answers.
    let y = c.args.y in
    let n = c.args.rows in
    let first = any_below (λ i. test (place_of 0 y 0 + i)) (32 * n) in
    let second = any_below (λ i. test (place_of 32 y 0 + i)) (8 * n) in
    let one : c.some_below.result ≡ first =
    c.some_below.ensures _ (λ i yes l said. let low : c.place_at-left.result + i < 1024 = omega (arith, c.place_at-left.ensures, left_low y n i (omega arith) l) in search rules) in
    let two : c.if-some_below.result ≡ (first || second) =
    elim c.if-some_below.branch [
      | then-some_below w ↦ w.result-is ∙ w.if-some_below.true ∙ sym (or_left first second (sym one ∙ w.if-some_below.true))
      | else-some_below w ↦ w.result-is ∙ w.some_below-else-some_below.ensures _ (λ i yes l said. let low : c.place_at-right.result + i < 1024 = omega (arith, c.place_at-right.ensures, rights_low y n i (omega arith) (omega arith) l) in search rules) ∙ sym (ap (λ (t : Bool). t || second) (sym one ∙ w.if-some_below.false))
    ] in
    two ∙ several_rows y test n first second (omega arith) refl refl
