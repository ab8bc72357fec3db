use Rattle.address.specs.Places.{block_at, block_of}
use mathlib.Core.Path.{sym, ◌∙◌}
use native.Mathlib.Omega.{arith}
use Rattle.address.proofs.Laws.{legal_page, legal_block}
use Rattle.marking.proofs.Changes.{here_fits, block_fits, changed_fits, changed_at, code_changes}
use borrow.Author.Rules.{rules}
use Rattle.marking.proofs.store.code_marks.Goals as goal

pub changed_block-requires : goal.changed_block-requires
changed_block-requires c = let board = c.args.page.now.shown.blocks in
    (here_fits board (block_at c.args.at 0) _ c.requires.1 c.requires.0, block_fits board _ (block_at c.args.at 0) c.requires.1 c.block.ensures)

pub changed_block-requires-2 : goal.changed_block-requires-2
changed_block-requires-2 c = let board = c.args.page.now.shown.blocks in
    (here_fits board (block_at c.args.at 1) _ c.requires.2 c.requires.0, block_fits board _ (block_at c.args.at 1) c.requires.2 c.block-2.ensures)

pub changed_block-requires-3 : goal.changed_block-requires-3
changed_block-requires-3 c = let board = c.args.page.now.shown.blocks in
    let second = legal_block board (block_at c.args.at 1) c.requires.2 in
    let third = legal_block board (block_at c.args.at 2) c.requires.3 in (
      here_fits board (block_at c.args.at 2) _ c.requires.3 c.requires.0,
      omega (arith, c.block-3.ensures, second, third),
    )

pub marks_after-requires : goal.marks_after-requires
marks_after-requires c = let board = c.args.page.now.shown.blocks in
    let t = c.args.at in
    let second = legal_block board (block_at t 1) c.requires.2 in
    let third = legal_block board (block_at t 2) c.requires.3 in (
      legal_page board (block_at t 0) c.requires.1,
      (
        changed_fits board _ _ _ _ _ (block_fits board _ (block_at t 0) c.requires.1 c.block.ensures) c.changed_block.ensures.0,
        changed_fits board _ _ _ _ _ (block_fits board _ (block_at t 1) c.requires.2 c.block-2.ensures) c.changed_block-2.ensures.0,
        changed_fits board _ _ _ _ _ (omega (arith, c.block-3.ensures, second, third)) c.changed_block-3.ensures.0,
      ),
    )

pub returns : goal.returns
returns c = let a = c.args in
    let third = legal_block a.page.now.shown.blocks (block_at a.at 2) c.requires.3 in
    c.marks_after.ensures
    ∙ sym
    (code_changes a.page.now.shown a.page.now.memory.now a.marks (search rules) a.at _ _ _ _ _ _
    (omega (arith, c.block.ensures, c.changed_block.ensures.1))
    (omega (arith, c.block-2.ensures, c.changed_block-2.ensures.1))
    (omega (arith, third, a.page.now.blocks_in_a_byte))
    (changed_at a.page.now.memory.now a.at.x a.at.y (block_of a.at.z 0) _ _ _ _ c.requires.0
    (omega (arith, c.block.ensures)) c.changed_block.ensures.0)
    (changed_at a.page.now.memory.now a.at.x a.at.y (block_of a.at.z 1) _ _ _ _ c.requires.0
    (omega (arith, c.block-2.ensures)) c.changed_block-2.ensures.0)
    (changed_at a.page.now.memory.now a.at.x a.at.y (block_of a.at.z 2) _ _ _ _ c.requires.0
    (omega (arith, c.block-3.ensures)) c.changed_block-3.ensures.0))
