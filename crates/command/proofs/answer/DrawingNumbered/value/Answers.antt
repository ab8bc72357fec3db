use Prim.Native.Nat.{ℕ}
use mathlib.Core.Path.{◌≡◌, refl, ◌∙◌}
use Rattle.std.specs.Prelude.{Result, Ok, Err}
use Rattle.std.specs.Result.{result_unwrap_or}
use Rattle.command.specs.declared.answer.DrawRefusal.{DrawRefusal}
use Rattle.command.specs.Answers.{rows_of}
use Rattle.command.proofs.answer.DrawingNumbered.value.Goals as goal

or_none : (a : Result ℕ DrawRefusal) → result_unwrap_or a 0 ≡ rows_of a
or_none (Ok n) = refl
or_none (Err refusal) = refl

pub returns : goal.returns
returns c = c.unwrap_or.ensures ∙ or_none c.args.self
