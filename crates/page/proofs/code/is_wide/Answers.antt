use mathlib.Core.Path.{refl, ◌∙◌}
use lib.ListN.{get_or}
use mir.Syntax.{w8}
use mir.Val.{Fits}
use borrow.Author.Tests.{lt-ltb, le-ltb}
use Rattle.page.proofs.Stretches.{wide_test}
use borrow.Author.Rules.{rules}
use Rattle.page.proofs.code.is_wide.Goals as goal

pub returns-then-code-lt192 : goal.returns-then-code-lt192
returns-then-code-lt192 c = let f : Fits w8 (get_or c.args.code 1 0) = search rules in
    rw (lt-ltb (get_or c.args.code 1 0) 192 c.if-code-lt192.true) at (wide_test c.args.code (get_or c.args.code 1 0) f.fits refl)

pub returns-else-code-lt192 : goal.returns-else-code-lt192
returns-else-code-lt192 c = let f : Fits w8 (get_or c.args.code 1 0) = search rules in
    let not = le-ltb (get_or c.args.code 1 0) 192 c.if-code-lt192.false in
    not ∙ rw not at (wide_test c.args.code (get_or c.args.code 1 0) f.fits refl)
