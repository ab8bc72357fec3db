use Rattle.std.proofs.Common.{rules, refl, []}
use lib.ListN.{get_or}
use Rattle.phases.specs.HowPhases.{flashes_in}
use Rattle.phases.proofs.Ends.{by_bytes, row_flashed}
use Rattle.phases.proofs.bare.row_flashes.Goals as goal

pub returns : goal.returns
returns c = let part = c.args.page.now.shown.part in
    let eighty = c.is_eighty-eighty.result in
    let cells = c.row_buffer-cells.result in
    row_flashed _ _ _ _ 40 _ _
    (c.some_below.ensures (λ i. flashes_in part eighty (get_or cells i [])) (λ i yes l said. let same = by_bytes part eighty (get_or cells i []) in search rules))
    refl c.row_buffer-cells.ensures c.is_eighty-eighty.ensures
