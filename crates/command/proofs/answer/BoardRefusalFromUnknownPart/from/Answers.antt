use mathlib.Core.Path.{refl}
use Rattle.command.proofs.answer.BoardRefusalFromUnknownPart.from.Goals as goal

pub returns : goal.returns
returns c = refl
