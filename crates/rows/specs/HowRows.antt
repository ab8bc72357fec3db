-- What the code takes from private memory for a row, over its row buffer and its lower halves. Nothing here has to be believed: `inputs_row`
-- of proofs/Drawn.antt shows that it is all that the row takes.
-- Assumes nothing.
use Rattle.std.specs.Prelude.{ℕ, Bool, false, List, [], get_or}
use Rattle.basics.specs.Parts.{table}
use Rattle.shown.specs.declared.Shown.{Shown}
use Rattle.sources.specs.Sources.{character_of, cell_source}
use Rattle.page.specs.Inputs.{CellInput, decoded, taken_from}
use Rattle.page.specs.HowHalves.{right_in}

-- what cell x takes
unfoldable pub input_at : List ℕ → Shown → List (List ℕ) → List Bool → ℕ → CellInput
input_at m shown cells lowers x =
    record {
      code = get_or cells x [];
      slices =
          taken_from shown.blocks m (character_of (decoded shown.part (get_or cells x []))) (cell_source shown (decoded shown.part (get_or cells x [])));
      lower = get_or lowers x false;
      right = right_in cells x;
    }

abbrev pub inputs_of : List ℕ → Shown → List (List ℕ) → List Bool → List CellInput
inputs_of m shown cells lowers = table (input_at m shown cells lowers) 40
