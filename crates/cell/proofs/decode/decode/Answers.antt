use Rattle.cell.proofs.Codes.{cell_bichrome, cell_quadrichrome}
use Rattle.cell.specs.declared.kind.Cell.TheVariants.{Bichrome, Quadrichrome}
use native.Mathlib.Omega.{arith}
use lib.ListN.{get_or}
use mir.Syntax.{w8}
use mir.Val.{Fits}
use mathlib.Core.Path.{ap, ◌∙◌}
use borrow.Author.Rules.{rules}
use Rattle.cell.proofs.decode.decode.Goals as goal

pub returns-then-b-last_bichrome : goal.returns-then-b-last_bichrome
returns-then-b-last_bichrome c = let f : Fits w8 (get_or c.args.code 1 0) = search rules in
    ap Bichrome c.bichrome.ensures ∙ cell_bichrome _ _ _ _ f.fits (omega (arith, c.if-b-last_bichrome.true, c.last_bichrome.ensures))

pub returns-else-b-last_bichrome : goal.returns-else-b-last_bichrome
returns-else-b-last_bichrome c = let f : Fits w8 (get_or c.args.code 1 0) = search rules in
    ap Quadrichrome c.quadrichrome.ensures ∙ cell_quadrichrome _ _ _ _ f.fits (omega (arith, c.if-b-last_bichrome.false, c.last_bichrome.ensures))
