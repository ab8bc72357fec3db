-- Demand 1: the contracts leave one answer and one content of state, memory and picture. The contract of an access or a phase change says
-- that its result and the memory after it make the outcome of the definition, and that of a draw likewise with the picture; two results
-- that do so for the same input are the same.
-- Assumes nothing.
use Prim.Native.Nat.{ℕ}
use mathlib.Core.Path.{sym, ap, ◌∙◌}
use Rattle.std.specs.Prelude.{Result}
use Rattle.processor.specs.declared.state.Processor.{Processor}
use Rattle.command.specs.declared.answer.Refusal.{Refusal}
use Rattle.command.specs.declared.answer.DrawRefusal.{DrawRefusal}
use Rattle.processor.specs.declared.draw.Drawn.{Drawn}
use Rattle.processor.specs.declared.execute.Answered.{Answered}
use Rattle.processor.specs.Access.{Outcome}
use Rattle.processor.specs.Draws.{DrawOutcome}
use Rattle.kept.specs.Demands.{OneAccess, OneDraw}

abbrev answered_with : Processor → Result ℕ Refusal → Answered
answered_with p a = record { processor = p; answer = a }

abbrev drawn_with : Processor → Result ℕ DrawRefusal → Drawn
drawn_with p a = record { processor = p; answer = a }

-- write, read and turn
pub one_access : OneAccess
one_access r s m n o a b =
    let e = a ∙ sym b in
    (ap (λ (x : Outcome). answered_with x.left.processor x.answer) e, ap (λ (x : Outcome). x.left.memory) e)

-- draw
pub one_draw : OneDraw
one_draw r s v w o a b =
    let e = a ∙ sym b in
    (ap (λ (x : DrawOutcome). drawn_with x.processor x.answer) e, ap (λ (x : DrawOutcome). x.picture) e)
