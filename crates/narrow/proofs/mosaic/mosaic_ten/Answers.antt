use Rattle.narrow.proofs.Bytes.{mosaic_ten_lem}
use mathlib.Core.Path.{refl}
use Rattle.narrow.proofs.mosaic.mosaic_ten.Goals as goal

pub returns : goal.returns
returns c = mosaic_ten_lem _ _ _ refl refl _ _ _ _ _ c.windows-first.ensures c.windows-second.ensures c.windows-third.ensures c.windows-fourth.ensures c.windows-fifth.ensures
