use native.Mathlib.Omega.{arith}
use Rattle.basics.proofs.Made.{table_copied}
use Rattle.sources.proofs.SliceSources.{rom_read}
use Rattle.sources.proofs.source.rom_slices.Goals as goal

pub returns : goal.returns
returns c = table_copied _ c.args.rom.now _ _ _ 10 0 c.copy_from_slice.ensures.after (omega arith) (omega arith) (λ n l. rom_read _ _ _ _)
