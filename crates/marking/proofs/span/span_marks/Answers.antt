use lib.Dec.{ltb}
use Rattle.marking.proofs.Changes.{here_fits, block_fits, changed_fits, changed_if_fits, changed_at, changed_if_at, span_changes}
use Rattle.address.proofs.Laws.{legal_page, legal_block}
use borrow.Author.Tests.{ltb-true}
use native.Mathlib.Omega.{arith}
use mathlib.Core.Path.{sym, ◌∙◌}
use Rattle.address.specs.Places.{block_at, block_of}
use borrow.Author.Rules.{rules}
use Rattle.marking.proofs.span.span_marks.Goals as goal

pub changed_block-requires : goal.changed_block-requires
changed_block-requires c = let board = c.args.page.now.shown.blocks in
    let first = c.requires.3 0 (omega arith) in
    (here_fits board (block_at c.args.at 0) _ first c.requires.0, block_fits board _ (block_at c.args.at 0) first c.block.ensures)

pub changed_if-requires : goal.changed_if-requires
changed_if-requires c = let board = c.args.page.now.shown.blocks in (
  here_fits board (block_at c.args.at 0) _ (c.requires.3 0 (omega arith)) c.requires.0,
  λ t. block_fits board _ (block_at c.args.at 1) (c.requires.3 1 (ltb-true _ _ t)) c.block-2.ensures,
)

pub changed_if-requires-2 : goal.changed_if-requires-2
changed_if-requires-2 c = let board = c.args.page.now.shown.blocks in (
  here_fits board (block_at c.args.at 0) _ (c.requires.3 0 (omega arith)) c.requires.0,
  λ t. block_fits board _ (block_at c.args.at 2) (c.requires.3 2 (ltb-true _ _ t)) c.block-3.ensures,
)

pub marks_after-requires : goal.marks_after-requires
marks_after-requires c = let board = c.args.page.now.shown.blocks in
    let t = c.args.at in
    let first = c.requires.3 0 (omega arith) in (
      legal_page board (block_at t 0) first,
      (
        changed_fits board _ _ _ _ _ (block_fits board _ (block_at t 0) first c.block.ensures) c.changed_block.ensures.0,
        changed_if_fits board _ _ _ _ _ _ (λ q. block_fits board _ (block_at t 1) (c.requires.3 1 (ltb-true _ _ q)) c.block-2.ensures) c.changed_if.ensures.0,
        changed_if_fits board _ _ _ _ _ _ (λ q. block_fits board _ (block_at t 2) (c.requires.3 2 (ltb-true _ _ q)) c.block-3.ensures) c.changed_if-2.ensures.0,
      ),
    )

pub returns : goal.returns
returns c = let a = c.args in
    c.marks_after.ensures
    ∙ sym
    (span_changes a.page.now.shown a.page.now.memory.now a.marks (search rules) a.at a.bytes _ _ _ _ _ _
    (λ k l. omega (arith, legal_block a.page.now.shown.blocks (block_at a.at k) (c.requires.3 k l), a.page.now.blocks_in_a_byte))
    (changed_at a.page.now.memory.now a.at.x a.at.y (block_of a.at.z 0) _ _ _ _ c.requires.0 c.block.ensures c.changed_block.ensures.0)
    (changed_if_at a.page.now.memory.now a.at.x a.at.y (block_of a.at.z 1) a.b _ _ _ (ltb 1 a.bytes) c.requires.0 c.block-2.ensures c.changed_if.ensures.0)
    (changed_if_at a.page.now.memory.now a.at.x a.at.y (block_of a.at.z 2) a.a _ _ _ (ltb 2 a.bytes) c.requires.0 c.block-3.ensures c.changed_if-2.ensures.0)
    c.requires.1 c.requires.2)
