use native.Mathlib.Omega.{arith}
use Rattle.sources.proofs.CellSources.{sets_small, set_read}
use mathlib.Core.Path.{refl}
use Rattle.sources.proofs.source.rom_set.Goals as goal

pub overflow_add-result : goal.overflow_add-result
overflow_add-result c = record { fits = omega (arith, c.sets_of.ensures, sets_small c.args.part) }

pub bounds-sets_of : goal.bounds-sets_of
bounds-sets_of c = omega (arith, c.sets_of.ensures, sets_small c.args.part)

pub returns : goal.returns
returns c = set_read c.args.part c.args.b _ _ _ c.sets_of.ensures refl refl
