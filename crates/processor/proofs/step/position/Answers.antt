use Rattle.processor.proofs.Carrying.{move_legal, both_on_page, carried_on_page, position_done, registers_of}
use Rattle.processor.proofs.step.position.Goals as goal

pub carry_all-next-requires : goal.carry_all-next-requires
carry_all-next-requires c = let legal = move_legal c.args.bytes c.args.auxiliary c.args.stops c.args.p c.requires.3 c.requires.4 in
    (c.requires.0, c.requires.1, c.requires.2, λ k l. rw c.pointer-from.ensures (legal _ k l), λ k l. rw c.pointer-to.ensures (legal _ k l))

pub passed_on-requires : goal.passed_on-requires
passed_on-requires c = registers_of _ _ _ _ _ _ _ c.carry_all-next.ensures
    (carried_on_page c.args.bytes _ _ _ (both_on_page c.args.bytes c.args.auxiliary c.args.stops c.args.p c.requires.3 c.requires.1))

pub returns : goal.returns
returns c = position_done _ _ _ _ _ _ _ _ _ c.pointer-from.ensures c.pointer-to.ensures c.carry_all-next.ensures c.passed_on.ensures
