use Rattle.eighty.proofs.Lines.{position_put, line_end}
use Rattle.basics.proofs.Filled.{front_none, part_length}
use native.Mathlib.Omega.{arith}
use mathlib.Core.Path.{◌∙◌}
use lib.ListN.{length}
use Prim.Native.Nat.{◌≤◌}
use borrow.Author.Rules.{rules}
use Rattle.eighty.proofs.line.draw_line.Goals as goal

pub loop-p-init : goal.loop-p-init
loop-p-init c = (search rules, front_none _)

pub loop-p-preserved : goal.loop-p-preserved
loop-p-preserved c = let l = c.loop-p in
    let a = c.args in (
      search (part_length, rules),
      position_put a.tens.now.bytes a.inks.now a.n l.line c.copy_from_slice.new.self l.p _ c.inks_at-from.ensures.0 (search rules) c.copy_from_slice.ensures.after (search rules) (search rules) l.invariant.1,
    )

pub slice_bounds-copy_from_slice-end-2 : goal.slice_bounds-copy_from_slice-end-2
slice_bounds-copy_from_slice-end-2 c = let long : 240 ≤ length c.loop-p.line = omega (arith, c.loop-p.invariant.0) in search rules

pub copy_from_slice-requires-2 : goal.copy_from_slice-requires-2
copy_from_slice-requires-2 c = let long : 240 ≤ length c.loop-p.line = omega (arith, c.loop-p.invariant.0) in search rules

pub returns : goal.returns
returns c = let l = c.loop-p in
    c.copy_from_slice-2.ensures.after ∙ line_end c.args.tens.now.bytes c.args.inks.now c.args.n l.line l.p (search rules) c.loop-p-test.false l.invariant.1
