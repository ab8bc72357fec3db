use Rattle.std.proofs.Common.{rules, ℕ, Bool, ◌+◌, ◌*◌, ◌∙◌}
use native.Mathlib.Omega.{arith}
use Rattle.board.specs.declared.Part.TheVariants.{Ef9345}
use Rattle.address.specs.Rows.{row_y}
use Rattle.address.proofs.Laws.{row_from_one, row_small}
use Rattle.asking.specs.HowAsked.{flash_at}
use Rattle.marking.proofs.Loops.{up_begins, up_ends, up_asked, up_left, up_end}
use Rattle.phases.proofs.Quiet.{quiet_still}
use Rattle.phases.proofs.Asked.{first_asked}
use Rattle.phases.proofs.phase.flash_in.Goals as goal
use Rattle.phases.proofs.phase.flash_in.Goals.{then-not-are_quiet, else-not-are_quiet}

pub mark_where-requires : goal.mark_where-requires
mark_where-requires c = search (rules, row_small)

pub loop-g-init : goal.loop-g-init
loop-g-init c = let s = c.args in
    let f : ℕ → Bool = λ r. flash_at Ef9345 s.memory.now s.z (row_y s.yor r) in
    (omega arith, up_begins f s.marks.now (λ i. i) 1 _ (c.mark_where.ensures f (λ r yes l said. search rules) ∙ first_asked f s.marks.now 1))

pub are_quiet-requires : goal.are_quiet-requires
are_quiet-requires c = (search rules, omega (arith, row_from_one c.args.yor (1 + 4 * c.loop-g.g) (λ e. omega arith)))

pub mark_where-requires-then-not-are_quiet : goal.mark_where-requires-then-not-are_quiet
mark_where-requires-then-not-are_quiet c = search (rules, row_small)

pub returns : goal.returns
returns c = let s = c.args in
    let f : ℕ → Bool = λ r. flash_at Ef9345 s.memory.now s.z (row_y s.yor r) in
    up_ends f s.marks.now (λ i. i) 1 _ (c.mark_where.ensures f (λ r yes l said. search rules) ∙ first_asked f s.marks.now 1) _ (up_end f _ (λ i. i) _ _ c.loop-g.invariant.1 (λ i h. omega arith))

pub loop-g-preserved : goal.loop-g-preserved
loop-g-preserved c =
    let l = c.loop-g in
    let s = c.args in
    let f : ℕ → Bool = λ r. flash_at Ef9345 s.memory.now s.z (row_y s.yor r) in (
      omega arith,
      elim c.if-not-are_quiet.branch [
        | then-not-are_quiet w ↦ w.marks-is ∙ up_asked f _ (λ i. i) 4 (1 + 4 * l.g) _ _ _ (omega arith) l.invariant.1 (w.mark_where-then-not-are_quiet.ensures f (λ r yes l said. search rules))
        | else-not-are_quiet w ↦
            w.marks-is
            ∙ up_left f _ (λ i. i) 4 (1 + 4 * l.g) _ _ (omega arith) l.invariant.1
            (quiet_still s.memory.now s.z _ _ Ef9345 s.yor (1 + 4 * l.g) _ c.are_quiet.ensures w.if-not-are_quiet.false c.row_y.ensures (λ e. omega arith))
      ],
    )
