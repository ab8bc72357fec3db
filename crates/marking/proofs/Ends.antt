-- The end where every row is marked already.
-- Assumes nothing.
use Prim.Native.Nat.{ℕ}
use mathlib.Core.Path.{◌≡◌, sym, ◌∙◌}
use mathlib.Core.Bool.{Bool, false}
use mathlib.Core.List.{List}
use borrow.Author.Tests.{not-false}
use lib.ListN.{length}
use Rattle.basics.specs.Below.{any_below}
use Rattle.basics.proofs.Choice.{or_left}
use Rattle.basics.proofs.Below.{any_not}
use Rattle.page.specs.Marks.{is_marked, marked_too}
use Rattle.reading.proofs.Marking.{marked_all}
use Rattle.marking.specs.HowMarked.{is_unmarked}

-- all are marked already
pub marked_before : (f : ℕ → Bool) (marks : List Bool) → length marks ≡ 25 → any_below (is_unmarked marks) 25 ≡ false → marks ≡ marked_too f marks
marked_before f marks h e =
    marked_all f marks marks h
    (λ i l. let m = not-false (is_marked marks i) (any_not (is_unmarked marks) 25 i e l) in m ∙ sym (or_left (is_marked marks i) (f i) m))
