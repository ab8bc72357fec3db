use Rattle.narrow.proofs.Texts.{hidden_ten, plain_ten, lined_ten, rom_ten}
use mathlib.Core.Path.{refl, sym, ◌∙◌}
use Rattle.narrow.proofs.text.text_ten.Goals as goal

pub returns-then-is_hidden : goal.returns-then-is_hidden
returns-then-is_hidden c = hidden_ten c.args.rom.now c.args.shown c.args.cell c.requires.1 _ c.shaded-none.ensures (sym c.is_hidden.ensures ∙ c.if-is_hidden.true)

pub returns-then-cell-eq1 : goal.returns-then-cell-eq1
returns-then-cell-eq1 c = lined_ten c.args.rom.now c.args.shown c.args.cell c.requires.1 (sym c.is_hidden.ensures ∙ c.if-is_hidden.false) _
    (c.shaded_ten-ten.ensures ∙ rom_ten c.args.rom.now _ _ _ _ _ c.requires.1 refl refl) _ c.shaded.ensures c.if-cell-eq1.true

pub returns-else-cell-eq1 : goal.returns-else-cell-eq1
returns-else-cell-eq1 c = plain_ten c.args.rom.now c.args.shown c.args.cell c.requires.1 (sym c.is_hidden.ensures ∙ c.if-is_hidden.false) _
    (c.shaded_ten-ten.ensures ∙ rom_ten c.args.rom.now _ _ _ _ _ c.requires.1 refl refl) c.if-cell-eq1.false
