-- What a number says of a part: the part that has it, or that no part has.
-- Assumes nothing.
use Rattle.std.specs.Prelude.{ℕ, ◌≡◌, true, false, Result, MatchResult}
use Rattle.board.specs.Boards.{is_part, part_named}
use Rattle.board.specs.declared.Part.{Part}
use Rattle.board.specs.declared.UnknownPart.{UnknownPart}

-- the part with this number, or an error with a number that no part has
abbrev pub Names : ℕ → Result Part UnknownPart → Type 0
Names number r =
    MatchResult r (λ part. (is_part number ≡ true) × (part ≡ part_named number)) (λ e. (is_part number ≡ false) × (e.0 ≡ number))
