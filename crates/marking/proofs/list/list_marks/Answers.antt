use mathlib.Core.Path.{sym, ◌∙◌}
use native.Mathlib.Omega.{arith}
use Rattle.keys.proofs.Characters.{keys_high_lem}
use Rattle.keys.proofs.Places.{page_y}
use Rattle.marking.proofs.Fits.{second_bare, has_second, has_first}
use Rattle.marking.proofs.Lists.{list_own, list_bare, list_asked, list_left}
use Rattle.marking.proofs.list.list_marks.Goals as goal
use Rattle.marking.proofs.list.list_marks.Goals.{then-eighty-via-then-eighty, then-eighty-via-else-eighty+then-shown-block}

pub returns-then-eighty : goal.returns-then-eighty
returns-then-eighty c = let p = c.requires in
    let s = c.args.page.now.shown in
    let z = c.first_block-z.ensures in
    elim c.then-eighty.branch [
      | then-eighty-via-then-eighty w ↦ list_own _ _ c.args.page.now.memory_whole _ _ p.0 _ p.1 (sym c.is_eighty-eighty.ensures ∙ w.if-eighty.true) _ _ z c.yor-yor.ensures _ _ c.own_row.ensures
      | then-eighty-via-else-eighty+then-shown-block w ↦
          list_bare _ _ c.args.page.now.memory_whole _ _ p.0 _ p.1 (sym c.is_eighty-eighty.ensures ∙ w.if-eighty.false) c.args.page.now.memory_of_bytes
          (second_bare s _ _ z w.block.ensures w.if-shown-block.true) _ _ z c.yor-yor.ensures _ _ c.own_row.ensures
    ]

pub own_marks-requires : goal.own_marks-requires
own_marks-requires c = (has_second c.args.page.now.shown _ _ c.first_block-z.ensures c.block.ensures c.args.page.now.memory.now c.args.page.now.memory_whole c.if-shown-block.false)

pub keys_of-keys-requires : goal.keys_of-keys-requires
keys_of-keys-requires c = page_y _ _ c.requires.0

pub slice_marks-requires : goal.slice_marks-requires
slice_marks-requires c = let z = c.first_block-z.ensures in (
  has_first c.args.page.now.shown _ _ z c.block.ensures c.args.page.now.memory.now c.args.page.now.memory_whole c.if-shown-block.false,
  has_second c.args.page.now.shown _ _ z c.block.ensures c.args.page.now.memory.now c.args.page.now.memory_whole c.if-shown-block.false,
  keys_high_lem _ _ _ _ _ c.keys_of-keys.ensures,
)

pub returns-then-is_source : goal.returns-then-is_source
returns-then-is_source c = let p = c.requires in
    list_asked _ _ c.args.page.now.memory_whole _ _ p.0 _ p.1 (sym c.is_eighty-eighty.ensures ∙ c.if-eighty.false) c.args.page.now.memory_of_bytes _ _ _ c.first_block-z.ensures c.yor-yor.ensures c.keys_of-keys.ensures _ _ c.own_marks.ensures _ c.slice_marks.ensures

pub returns-else-is_source : goal.returns-else-is_source
returns-else-is_source c = let p = c.requires in
    list_left _ _ c.args.page.now.memory_whole _ _ p.0 _ p.1 (sym c.is_eighty-eighty.ensures ∙ c.if-eighty.false) c.args.page.now.memory_of_bytes _ _ _ c.first_block-z.ensures c.yor-yor.ensures c.keys_of-keys.ensures _ _ c.own_marks.ensures _ c.is_source.ensures c.if-is_source.false
