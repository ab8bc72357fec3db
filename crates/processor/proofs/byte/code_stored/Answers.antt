use lib.ListN.{length-set}
use mathlib.Core.Path.{refl}
use native.Mathlib.Omega.{arith}
use Rattle.board.specs.Boards.{bytes_of}
use Rattle.processor.specs.States.{chip}
use Rattle.processor.proofs.Ways.{code_within, code_place, code_stored_lem}
use borrow.Author.Rules.{rules}
use Rattle.processor.proofs.byte.code_stored.Goals as goal

pub overflow_add-memory : goal.overflow_add-memory
overflow_add-memory c = omega (arith, code_within c.args.p.blocks c.args.at 0 _ _ (bytes_of c.args.p.blocks) c.place_at-here.ensures c.block.ensures c.requires.1 refl)

pub bounds-memory-here : goal.bounds-memory-here
bounds-memory-here c = code_within _ c.args.at 0 _ _ _ c.place_at-here.ensures c.block.ensures c.requires.1 c.requires.0

pub overflow_add-memory-2 : goal.overflow_add-memory-2
overflow_add-memory-2 c = omega (arith, code_within c.args.p.blocks c.args.at 1 _ _ (bytes_of c.args.p.blocks) c.place_at-here.ensures c.block-2.ensures c.requires.2 refl)

pub bounds-memory-here-2 : goal.bounds-memory-here-2
bounds-memory-here-2 c = code_within _ c.args.at 1 _ _ _ c.place_at-here.ensures c.block-2.ensures c.requires.2 (search rules)

pub overflow_add-memory-3 : goal.overflow_add-memory-3
overflow_add-memory-3 c = omega (arith, code_within c.args.p.blocks c.args.at 2 _ _ (bytes_of c.args.p.blocks) c.place_at-here.ensures c.block-3.ensures c.requires.3 refl)

pub bounds-memory-here-3 : goal.bounds-memory-here-3
bounds-memory-here-3 c = code_within _ c.args.at 2 _ _ _ c.place_at-here.ensures c.block-3.ensures c.requires.3 (simp length-set c.requires.0)

pub returns : goal.returns
returns c = code_stored_lem c.args.at (chip c.args.p c.args.memory.now) _ _ _ _ _ c.shown.ensures c.code_marks-after.ensures
    (code_place c.args.at 0 _ _ _ c.place_at-here.ensures c.block.ensures refl)
    (code_place c.args.at 1 _ _ _ c.place_at-here.ensures c.block-2.ensures refl)
    (code_place c.args.at 2 _ _ _ c.place_at-here.ensures c.block-3.ensures refl)
