use native.Mathlib.Omega.{arith}
use mathlib.Core.Path.{refl}
use Rattle.basics.specs.Parts.{joined}
use Rattle.page.proofs.Codes.{left_fits, right_fits, row_bytes, row_bare}
use Rattle.page.proofs.code.bytes_at.Goals as goal

pub overflow_add-left : goal.overflow_add-left
overflow_add-left c = record { fits = omega (arith, left_fits _ _ _ c.args.y c.args.page.now.memory_whole c.requires c.if-z-page.true _ c.place_at-left.ensures) }

pub slice_bounds-copy_from_slice-end-then-z-page : goal.slice_bounds-copy_from_slice-end-then-z-page
slice_bounds-copy_from_slice-end-then-z-page c = left_fits _ _ _ c.args.y c.args.page.now.memory_whole c.requires c.if-z-page.true _ c.place_at-left.ensures

pub overflow_add-right : goal.overflow_add-right
overflow_add-right c = record { fits = omega (arith, right_fits _ _ _ c.args.y c.args.page.now.memory_whole c.requires c.if-z-page.true _ c.place_at-right.ensures) }

pub slice_bounds-copy_from_slice-end-then-z-page-2 : goal.slice_bounds-copy_from_slice-end-then-z-page-2
slice_bounds-copy_from_slice-end-then-z-page-2 c = right_fits _ _ _ c.args.y c.args.page.now.memory_whole c.requires c.if-z-page.true _ c.place_at-right.ensures

pub returns-then-z-page : goal.returns-then-z-page
returns-then-z-page c =
    row_bytes _ _ _ c.args.y c.args.page.now.memory_whole c.requires c.if-z-page.true _ _ c.place_at-left.ensures c.place_at-right.ensures _ _ _
    c.copy_from_slice.ensures.after c.copy_from_slice-then-z-page.ensures.after refl

pub returns-else-z-page : goal.returns-else-z-page
unfolding joined
returns-else-z-page c = row_bare _ _ _ c.args.y c.args.page.now.memory_whole c.requires (omega arith)
