-- The invariant of demand 3.
-- Assumes nothing.
use Rattle.std.specs.Prelude.{ℕ, ◌<◌, ◌≡◌, Bool, true, false, List}
use Rattle.basics.specs.Parts.{part_of}
use Rattle.shown.specs.declared.Shown.{Shown}
use Rattle.shown.specs.Lengths.{row_bytes}
use Rattle.shown.specs.Modes.{column_bytes}
use Rattle.shown.specs.Refusals.{can_draw}
use Rattle.page.specs.Marks.{is_marked}
use Rattle.picture.specs.Rows.{row_of}
use Rattle.processor.specs.declared.state.Processor.{Processor}
use Rattle.processor.specs.States.{shown_of}
use Rattle.kept.specs.Runs.{World}

-- each row that is not marked is fresh in the picture, and there is such a row only while a draw would get neither 7 nor 8
abbrev pub FreshOn : Shown → List Bool → List ℕ → List ℕ → List ℕ → Type 0
FreshOn shown marks m rom picture =
    (r : ℕ) → r < 25 → is_marked marks r ≡ false →
    (can_draw shown ≡ true) × (part_of (row_bytes (column_bytes shown)) picture r ≡ row_of m rom shown r)

abbrev pub Fresh : Processor → List ℕ → List ℕ → List ℕ → Type 0
Fresh p m rom picture = FreshOn (shown_of p) p.marks m rom picture

abbrev pub FreshIn : World → Type 0
FreshIn w = Fresh w.processor w.memory w.rom w.picture
