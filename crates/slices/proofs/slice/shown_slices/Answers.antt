use Prim.Native.Nat.{◌/◌, ◌%◌}
use native.Mathlib.Omega.{arith}
use lib.ListN.{get_or}
use borrow.Author.Tests.{eq-eqb}
use mir.Syntax.{w8}
use mir.Val.{Fits}
use Rattle.slices.proofs.Codes.{code_single, code_tall, code_half}
use borrow.Author.Rules.{rules}
use Rattle.slices.proofs.slice.shown_slices.Goals as goal

pub returns-then-b-eq0 : goal.returns-then-b-eq0
returns-then-b-eq0 c = let a = c.args in
    let f : Fits w8 (get_or a.code 1 0) = search rules in
    code_single a.part (get_or a.code 0 0) (get_or a.code 1 0) (get_or a.code 2 0) f.fits a.lower a.slices c.if-b-eq0.true (search rules)

pub returns-then-b-lt192 : goal.returns-then-b-lt192
returns-then-b-lt192 c = let a = c.args in
    let f : Fits w8 (get_or a.code 1 0) = search rules in
    code_tall a.part (get_or a.code 0 0) (get_or a.code 1 0) (get_or a.code 2 0) f.fits a.lower a.slices c.if-b-lt192.true (eq-eqb (get_or a.code 1 0 / 2 % 2) 1 (omega (arith, c.if-b-eq0.false))) _
    c.is_alphanumeric_at.ensures _ c.tall_slices.ensures

pub returns : goal.returns
returns c = let a = c.args in
    let f : Fits w8 (get_or a.code 1 0) = search rules in
    code_half (get_or a.code 0 0) (get_or a.code 1 0) (get_or a.code 2 0) f.fits (omega (arith, c.if-b-lt192.false)) (eq-eqb (get_or a.code 1 0 / 2 % 2) 1 (omega (arith, c.if-b-eq0.false)))
    a.lower _ a.slices _ c.tall_slices-2.ensures a.part c.half_of.ensures
