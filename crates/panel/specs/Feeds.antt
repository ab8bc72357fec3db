-- Writes, one after the other, from pairs of an address and a value.
-- Assumes nothing.
use Rattle.std.specs.Prelude.{ℕ, zero, suc, ◌+◌, ◌*◌, List, get_or}
use Rattle.processor.specs.declared.state.Processor.{Processor}
use Rattle.command.specs.Answers.{number_of}
use Rattle.processor.specs.States.{chip}
use Rattle.processor.specs.Access.{Outcome, written}
use Rattle.panel.specs.declared.Fed.{Fed}

-- the state, the memory, and the number of the last write's answer
pub record Feeding : Type 0 where
  pub processor : Processor
  pub memory : List ℕ
  pub last : ℕ

abbrev pub feeding : Fed → List ℕ → Feeding
feeding f m = record { processor = f.processor; memory = m; last = f.last }

-- what a write leaves
abbrev pub after : Outcome → Feeding
after o = record { processor = o.left.processor; memory = o.left.memory; last = number_of o.answer }

-- after the first n pairs of a list of bytes
unfoldable pub fed_pairs : List ℕ → Feeding → ℕ → Feeding
fed_pairs bytes f zero = f
fed_pairs bytes f (suc n) =
    let g = fed_pairs bytes f n in after (written (get_or bytes (2 * n) 0) (get_or bytes (2 * n + 1) 0) (chip g.processor g.memory))
