use Rattle.address.proofs.Places.{place_fits_in}
use native.Mathlib.Omega.{arith}
use Rattle.processor.proofs.byte.store.Goals as goal

pub bounds-memory-here : goal.bounds-memory-here
bounds-memory-here c = omega (arith, place_fits_in c.args.p.blocks c.args.at _ c.place-here.ensures c.requires.1)
