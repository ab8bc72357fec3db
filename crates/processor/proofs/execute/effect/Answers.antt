use Rattle.address.proofs.Fits.{byte_legal, code_legal, narrow_legal}
use Rattle.processor.proofs.execute.effect.Goals as goal

pub krf-requires : goal.krf-requires
krf-requires c = let g = c.in-Krf.is in
    let l = code_legal _ _ (rw g at c.requires.2) (rw g at c.requires.3) in
    (c.requires.0, l.0, l.1, l.2)

pub oct-requires : goal.oct-requires
oct-requires c = let g = c.in-Oct.is in
    let l = byte_legal _ _ (rw g at c.requires.2) (rw g at c.requires.3) in
    (c.requires.0, l)

pub krl-requires : goal.krl-requires
krl-requires c = let g = c.in-Krl.is in
    let l = narrow_legal _ _ (rw g at c.requires.2) (rw g at c.requires.3) in
    (c.requires.0, l.0, l.1)

pub returns-in-Move : goal.returns-in-Move
returns-in-Move c = rw (c.in-Move.is, c.with_busy-in-Move.ensures, c.cleared.ensures)
