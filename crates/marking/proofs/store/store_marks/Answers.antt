use mathlib.Core.Logic.{inl}
use mathlib.Core.Path.{refl, sym, ◌∙◌}
use Rattle.address.proofs.Laws.{legal_page, legal_block}
use Rattle.marking.proofs.Changes.{here_fits, changed_fits, changed_at, store_changes}
use borrow.Author.Rules.{rules}
use Rattle.marking.proofs.store.store_marks.Goals as goal

pub changed_block-requires : goal.changed_block-requires
changed_block-requires c = let board = c.args.page.now.shown.blocks in
    (here_fits board c.args.at _ c.requires c.place_at-here.ensures, legal_block board c.args.at c.requires)

pub marks_after-requires : goal.marks_after-requires
marks_after-requires c = let board = c.args.page.now.shown.blocks in (
  legal_page board c.args.at c.requires,
  (
    changed_fits board _ _ _ _ _ (legal_block board c.args.at c.requires) c.changed_block.ensures.0,
    inl refl,
    inl refl,
  ),
)

pub returns : goal.returns
returns c = let a = c.args in
    c.marks_after.ensures
    ∙ sym
    (store_changes a.page.now.shown a.page.now.memory.now a.marks (search rules) a.at.x a.at.y a.at.z _ c.changed_block.ensures.1 _
    (changed_at a.page.now.memory.now a.at.x a.at.y a.at.z _ _ _ _ c.place_at-here.ensures refl c.changed_block.ensures.0))
