use native.Mathlib.Omega.{arith}
use Rattle.address.proofs.Places.{place_fits_in}
use Rattle.processor.proofs.carry.load_after.Goals as goal

pub bounds-memory-here : goal.bounds-memory-here
bounds-memory-here c = omega (arith, place_fits_in _ c.args.at _ c.place-here.ensures c.requires.1)
