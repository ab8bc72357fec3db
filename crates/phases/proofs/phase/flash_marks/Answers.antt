use mathlib.Core.Path.{sym, ◌∙◌}
use Rattle.board.specs.declared.Part.TheVariants.{Ef9345}
use Rattle.page.specs.Inputs.{flashes}
use Rattle.page.proofs.Codes.{has_code}
use Rattle.narrow.specs.Codes.{pair_flashes}
use Rattle.asking.specs.HowAsked.{blinks}
use Rattle.phases.proofs.Ends.{forty_flashes, forty_blinks, eighty_flashes, flash_made, flash_none}
use borrow.Author.Rules.{rules}
use Rattle.phases.proofs.phase.flash_marks.Goals as goal

pub returns-then-not-is_fitted : goal.returns-then-not-is_fitted
returns-then-not-is_fitted c = flash_none c.args.page.now.shown c.args.page.now.memory.now c.args.page.now.memory_whole (sym c.is_fitted.ensures ∙ c.if-not-is_fitted.true) _ (search rules)

pub pair_flash_in-requires : goal.pair_flash_in-requires
pair_flash_in-requires c = let has =
    has_code c.args.page.now.shown c.args.page.now.memory.now c.args.page.now.memory_whole _ c.first_block-z.ensures (sym c.is_fitted-fitted.ensures ∙ c.if-fitted.true) (sym c.is_fitted.ensures ∙ c.if-not-is_fitted.false) in
    (has.0, has.1, has.2)

pub returns-then-fitted : goal.returns-then-fitted
returns-then-fitted c = flash_made c.args.page.now.shown c.args.page.now.memory.now c.args.page.now.memory_whole _ _ _ _ pair_flashes (λ code. eighty_flashes _ code (sym c.is_eighty.ensures ∙ c.if-is_eighty.true)) c.first_block-z.ensures c.yor-yor.ensures c.pair_flash_in.ensures

pub flash_in-requires : goal.flash_in-requires
flash_in-requires c = let has =
    has_code c.args.page.now.shown c.args.page.now.memory.now c.args.page.now.memory_whole _ c.first_block-z.ensures (sym c.is_fitted-fitted.ensures ∙ c.if-fitted-2.true) (sym c.is_fitted.ensures ∙ c.if-not-is_fitted.false) in
    (has.1, has.2)

pub returns-in-Ef9345 : goal.returns-in-Ef9345
returns-in-Ef9345 c = flash_made c.args.page.now.shown c.args.page.now.memory.now c.args.page.now.memory_whole _ _ _ _ (flashes Ef9345) (λ code. forty_flashes _ code Ef9345 c.in-Ef9345.is (sym c.is_eighty.ensures ∙ c.if-is_eighty.false)) c.first_block-z.ensures c.yor-yor.ensures c.flash_in.ensures

pub blink_in-requires : goal.blink_in-requires
blink_in-requires c = let has =
    has_code c.args.page.now.shown c.args.page.now.memory.now c.args.page.now.memory_whole _ c.first_block-z.ensures (sym c.is_fitted-fitted.ensures ∙ c.if-fitted-2.true) (sym c.is_fitted.ensures ∙ c.if-not-is_fitted.false) in
    has.2

pub returns-in-Ts9347 : goal.returns-in-Ts9347
returns-in-Ts9347 c = flash_made c.args.page.now.shown c.args.page.now.memory.now c.args.page.now.memory_whole _ _ _ _ blinks (λ code. forty_blinks _ code c.in-Ts9347.is (sym c.is_eighty.ensures ∙ c.if-is_eighty.false)) c.first_block-z.ensures c.yor-yor.ensures c.blink_in.ensures

pub returns : goal.returns
returns c = c.bare_flash_in-2.ensures
