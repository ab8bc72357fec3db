use Prim.Native.Nat.{ℕ}
use mathlib.Core.Bool.{Bool}
use mathlib.Core.Path.{sym, ap, ◌∙◌}
use Rattle.basics.specs.Choice.{pick}
use Rattle.halves.proofs.half.third_of.Goals as goal

pub returns-then-is_fitted : goal.returns-then-is_fitted
returns-then-is_fitted c = ap (λ (b : Bool). pick {A = ℕ} b 2 0) (sym c.if-is_fitted.true ∙ c.is_fitted.ensures)

pub returns-else-is_fitted : goal.returns-else-is_fitted
returns-else-is_fitted c = ap (λ (b : Bool). pick {A = ℕ} b 2 0) (sym c.if-is_fitted.false ∙ c.is_fitted.ensures)
