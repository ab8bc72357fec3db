use native.Mathlib.Omega.{arith}
use Rattle.page.specs.Inputs.{decoded}
use Rattle.columns.proofs.PlainCells.{set_whole, side_by_side, plain_ten}
use Rattle.columns.proofs.Tens.{ten_wide, ten_whole, wide_code}
use mathlib.Core.Path.{refl, sym, ◌∙◌}
use borrow.Author.Rules.{rules}
use Rattle.columns.proofs.ten.ten_of.Goals as goal

pub rom_slices-requires : goal.rom_slices-requires
rom_slices-requires c = let s = c.args.scene.now in
    omega (arith, c.rom_set.ensures, set_whole s.page.memory.now s.rom.now s.page.shown c.args.code (sym c.is_plain.ensures ∙ c.if-is_plain.true) s.rom_whole)

pub returns-then-is_plain : goal.returns-then-is_plain
returns-then-is_plain c = let s = c.args.scene.now in
    let plain = sym c.is_plain.ensures ∙ c.if-is_plain.true in
    rw (← c.rom_set.ensures) c.rom_slices.ensures
    ∙ sym (side_by_side s.page.memory.now s.rom.now s.page.shown c.args.code plain _ refl s.rom_whole)
    ∙ plain_ten s.page.memory.now s.rom.now s.page.shown c.args.code plain c.args.lower c.args.right _ refl s.rom_whole s.page.memory_of_bytes s.rom_of_bytes

pub returns-then-is_wide : goal.returns-then-is_wide
returns-then-is_wide c = let s = c.args.scene.now in
    let cell = decoded s.page.shown.part c.args.code in
    c.doubled_slices.ensures
    ∙ ten_wide s.page.memory.now s.rom.now s.page.shown cell c.args.lower c.args.right _ _ c.shown_slices-ten.ensures c.slices_of.ensures (sym (c.is_wide.ensures ∙ wide_code s.page.shown.part c.args.code) ∙ c.if-is_wide.true)

pub returns : goal.returns
returns c = let s = c.args.scene.now in
    let cell = decoded s.page.shown.part c.args.code in
    ten_whole s.page.memory.now s.rom.now s.page.shown cell c.args.lower c.args.right _ _ c.shown_slices-ten.ensures c.slices_of.ensures
    s.page.memory_of_bytes s.rom_of_bytes (search rules)
    (sym (c.is_wide.ensures ∙ wide_code s.page.shown.part c.args.code) ∙ c.if-is_wide.false)
