-- Bytes that are left alone by a refusal, or written with the processor packed. (The number is the answer's.)
-- Assumes nothing.
use Prim.Native.Nat.{ℕ}
use mathlib.Core.Path.{◌≡◌, refl, sym, ◌∙◌}
use mathlib.Core.Bool.{false}
use mathlib.Core.List.{List}
use mathlib.Core.Logic.{◌≢◌}
use borrow.Author.Tests.{eq-eqb, ne_eqb}
use Rattle.processor.specs.declared.state.Processor.{Processor}
use Rattle.packing.specs.Layouts.{packed}
use Rattle.binturamis.specs.Calls.{is_refusal, bytes_after}

-- an accepted call leaves the processor packed
pub accepted_packed : (before : List ℕ) (p : Processor) → packed p ≡ bytes_after false before p
accepted_packed before p = refl

module _ (n number : ℕ) (is : number ≡ n) (before : List ℕ) (p : Processor) where
  pub left_alone : number ≢ 0 → before ≡ bytes_after (is_refusal n) before p
  left_alone refused = rw (ne_eqb n 0 (λ e. refused (is ∙ e)))

  pub left_packed : (after : List ℕ) → number ≡ 0 → after ≡ packed p → after ≡ bytes_after (is_refusal n) before p
  left_packed after accepted w = rw (eq-eqb n 0 (sym is ∙ accepted)) w
