use Rattle.narrow.proofs.Inks.{eight_is}
use Rattle.narrow.proofs.ink.eight_of.Goals as goal

pub returns : goal.returns
returns c = eight_is c.args.shown _ _ _ c.from_number-none.ensures c.from_number-one.ensures c.from_number-other.ensures _ _ _ _ _ _ _ _ c.packed.ensures c.packed-2.ensures
    c.packed-3.ensures c.packed-4.ensures c.packed-5.ensures c.packed-6.ensures c.packed-7.ensures c.packed-8.ensures
