use mathlib.Core.Logic.{inl}
use mathlib.Core.Path.{refl, sym, ap, ◌∙◌}
use native.Mathlib.Omega.{arith}
use Rattle.address.specs.Narrow.{attributes_at}
use Rattle.address.specs.declared.triple.Triple.{Triple}
use Rattle.address.proofs.Laws.{legal_page, legal_block}
use Rattle.marking.proofs.Changes.{here_fits, changed_fits, changed_at, narrow_changes}
use borrow.Author.Rules.{rules}
use Rattle.marking.proofs.store.narrow_marks.Goals as goal

pub changed_block-requires : goal.changed_block-requires
changed_block-requires c = let board = c.args.page.now.shown.blocks in
    (here_fits board c.args.at _ c.requires.0 c.place_at-here.ensures, legal_block board c.args.at c.requires.0)

pub changed_block-requires-2 : goal.changed_block-requires-2
changed_block-requires-2 c = let board = c.args.page.now.shown.blocks in
    (here_fits board c.args.at _ c.requires.0 c.place_at-here.ensures, omega (arith, ap (λ (t : Triple). t.z) c.attributes_at-attributes.ensures, legal_block board c.args.at c.requires.0, legal_block board (attributes_at c.args.at) c.requires.1))

pub marks_after-requires : goal.marks_after-requires
marks_after-requires c = let board = c.args.page.now.shown.blocks in
    let attributes = ap (λ (t : Triple). t.z) c.attributes_at-attributes.ensures in
    let first = legal_block board c.args.at c.requires.0 in (
      legal_page board c.args.at c.requires.0,
      (
        changed_fits board _ _ _ _ _ first c.changed_block.ensures.0,
        changed_fits board _ _ _ _ _ (omega (arith, attributes, first, legal_block board (attributes_at c.args.at) c.requires.1)) c.changed_block-2.ensures.0,
        inl refl,
      ),
    )

pub returns : goal.returns
returns c = let a = c.args in
    c.marks_after.ensures
    ∙ sym
    (narrow_changes a.page.now.shown a.page.now.memory.now a.marks (search rules) a.at _ _ _ _ c.changed_block.ensures.1
    (omega (arith, ap (λ (t : Triple). t.z) c.attributes_at-attributes.ensures, c.changed_block-2.ensures.1))
    (changed_at a.page.now.memory.now a.at.x a.at.y a.at.z _ _ _ _ c.place_at-here.ensures refl c.changed_block.ensures.0)
    (changed_at a.page.now.memory.now a.at.x a.at.y (attributes_at a.at).z _ _ _ _ c.place_at-here.ensures
    (omega (arith, ap (λ (t : Triple). t.z) c.attributes_at-attributes.ensures)) c.changed_block-2.ensures.0))
