use mathlib.Core.Path.{refl, ap, ◌∙◌}
use Rattle.processor.specs.States.{chip}
use Rattle.processor.proofs.Carrying.{options_left, asked_some, length_stored}
use native.Mathlib.Omega.{arith}
use lib.ListN.{length-set}
use borrow.Author.Tests.{le-ltb}
use Rattle.std.specs.Prelude.{is_some}
use Rattle.address.proofs.Places.{place_fits_in}
use Rattle.processor.proofs.carry.carry_all.Goals as goal

pub second_byte-b-requires : goal.second_byte-b-requires
second_byte-b-requires c = (c.requires.0, place_fits_in _ _ _ c.place-first.ensures (rw c.block_at.ensures (c.requires.4 0 (omega arith))), λ t. rw c.block_at-5.ensures (c.requires.3 1 t))

pub third_byte-a-requires : goal.third_byte-a-requires
third_byte-a-requires c = (
  c.requires.0,
  place_fits_in _ _ _ c.place-first.ensures (rw c.block_at.ensures (c.requires.4 0 (omega arith))),
  λ t. (
    rw c.block_at-6.ensures (c.requires.3 2 t),
    place_fits_in _ _ _ c.place-second.ensures (rw c.block_at-2.ensures (c.requires.4 1 (omega (arith, t)))),
    ap is_some c.second_byte-b.ensures ∙ rw (le-ltb c.args.bytes 2 (omega (arith, t))) refl,
  ),
)

pub store_if-requires : goal.store_if-requires
store_if-requires c = λ s. rw (length-set, c.requires.0) (place_fits_in _ _ _ c.place-second.ensures (rw c.block_at-2.ensures (c.requires.4 1 (asked_some _ 2 _ _ c.second_byte-b.ensures s))))

pub store_if-requires-2 : goal.store_if-requires-2
store_if-requires-2 c = λ s. rw (c.store_if.ensures, length_stored, length-set, c.requires.0) (place_fits_in _ _ _ c.place-third.ensures (rw c.block_at-3.ensures (c.requires.4 2 (asked_some _ 3 _ _ c.third_byte-a.ensures s))))

pub bounds-memory-first : goal.bounds-memory-first
bounds-memory-first c = rw c.requires.0 (place_fits_in _ _ _ c.place-first.ensures (rw c.block_at.ensures (c.requires.4 0 (omega arith))))

pub returns : goal.returns
returns c = rw (c.store_if-2.ensures, c.store_if.ensures, c.unwrap_or-3.ensures, c.or.ensures)
    (options_left c.args.from c.args.to (chip c.args.p c.args.memory.now) _ _ _ _ _ _ _ _ c.args.bytes c.requires.1 c.requires.2 c.shown.ensures
    (c.place-first.ensures ∙ rw c.block_at.ensures refl) (c.place-second.ensures ∙ rw c.block_at-2.ensures refl) (c.place-third.ensures ∙ rw c.block_at-3.ensures refl)
    (c.load-c.ensures ∙ rw c.block_at-4.ensures refl) (c.second_byte-b.ensures ∙ rw c.block_at-5.ensures refl) (c.third_byte-a.ensures ∙ rw c.block_at-6.ensures refl)
    (c.span_marks-after.ensures ∙ rw (c.unwrap_or.ensures, c.unwrap_or-2.ensures) refl))
