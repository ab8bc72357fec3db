use lib.ListN.{length-set}
use native.Mathlib.Omega.{arith}
use Rattle.address.proofs.Places.{place_fits_in}
use Rattle.processor.specs.States.{chip}
use Rattle.processor.proofs.Ways.{narrow_stored_lem}
use Rattle.processor.proofs.position.narrow_stored.Goals as goal

pub bounds-memory-here : goal.bounds-memory-here
bounds-memory-here c = omega (arith, place_fits_in c.args.p.blocks c.args.at _ c.place-here.ensures c.requires.1)

pub bounds-memory-there : goal.bounds-memory-there
bounds-memory-there c = simp length-set
    (omega (arith, place_fits_in c.args.p.blocks c.attributes_at-beside.result _ c.place-there.ensures (rw c.attributes_at-beside.ensures c.requires.2)))

pub returns : goal.returns
returns c = narrow_stored_lem c.args.at (chip c.args.p c.args.memory.now) _ _ _ _ _ _ _ _ c.is_odd.ensures c.attributes_at-beside.ensures c.load.ensures c.nibble_into-a.ensures
    c.shown.ensures c.narrow_marks-after.ensures c.place-here.ensures c.place-there.ensures
