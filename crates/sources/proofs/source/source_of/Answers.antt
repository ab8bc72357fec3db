use native.Mathlib.Omega.{arith}
use lib.ListN.{get_or}
use mir.Syntax.{w8}
use mir.Val.{Fits}
use Rattle.sources.proofs.CellSources.{source_rom, source_user}
use borrow.Author.Rules.{rules}
use Rattle.sources.proofs.source.source_of.Goals as goal

pub returns-then-b-lt128 : goal.returns-then-b-lt128
returns-then-b-lt128 c = let a = c.args in
    let f : Fits w8 (get_or a.code 1 0) = search rules in
    source_rom a.shown (get_or a.code 0 0) (get_or a.code 1 0) (get_or a.code 2 0) f.fits c.if-b-lt128.true _ c.rom_set.ensures

pub returns : goal.returns
returns c = let a = c.args in
    let f : Fits w8 (get_or a.code 1 0) = search rules in
    source_user a.shown (get_or a.code 0 0) (get_or a.code 1 0) (get_or a.code 2 0) f.fits a.shown.part (omega (arith, c.if-b-lt128.false)) _ c.user_block.ensures
