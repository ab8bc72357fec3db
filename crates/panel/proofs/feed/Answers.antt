use Rattle.std.proofs.Common.{rules, ◌≡◌, ◌+◌, ◌*◌, length, ◌++◌, ◌∷◌, []}
use native.Mathlib.Omega.{arith}
use mathlib.Core.Path.{refl, ap, ◌∙◌}
use lib.ListN.{length-append, length-drop, get_or}
use Rattle.panel.proofs.Turns.{feed_turn, pair_at, pairs_left, pairs_low}
use Rattle.panel.specs.Feeds.{feeding, fed_pairs}
use Rattle.panel.proofs.feed.Goals as goal

pub loop-pair-init : goal.loop-pair-init
unfolding fed_pairs
loop-pair-init c = (refl, search rules, omega arith, search rules, refl)

pub loop-pair-preserved : goal.loop-pair-preserved
loop-pair-preserved c = let l = c.loop-pair in
    let i = length l.yielded in
    let bytes = c.args.chunk.now in
    let pair = c.in-Some.pair.now in
    let step = c.in-Some.ensures.steps in
    let long : length pair ≡ 2 = step.1.1 ∙ l.invariant.1 in
    let m : length (l.yielded ++ c.in-Some.pair ∷ []) ≡ i + 1 = length-append l.yielded (c.in-Some.pair ∷ []) in
    let here : 2 * i + 0 ≡ 2 * i = omega arith in
    let first : get_or pair 0 0 ≡ get_or bytes (2 * i) 0 = pair_at bytes pair _ _ i l.invariant.3 step.1.0 long l.invariant.2 0 (omega arith) ∙ ap (λ k. get_or bytes k 0) here in
    let second : get_or pair 1 0 ≡ get_or bytes (2 * i + 1) 0 = pair_at bytes pair _ _ i l.invariant.3 step.1.0 long l.invariant.2 1 (omega arith) in (
      search rules,
      step.0 ∙ l.invariant.1,
      pairs_low bytes pair _ _ i l.invariant.3 step.1.0 long l.invariant.2 _ m,
      pairs_left bytes pair _ _ i l.invariant.3 step.1.0 long l.invariant.2 _ m,
      rw m (feed_turn bytes _ l.state l.memory _ i c.write-answered.result _ l.invariant.4 (c.write-answered.ensures ∙ rw (first, second) refl) c.number.ensures),
    )

pub returns : goal.returns
returns c = let l = c.loop-pair in
    let bytes = c.args.chunk.now in
    let short = c.in-None.ensures.steps in
    let left = ap length l.invariant.3 ∙ length-drop (2 * length l.yielded) bytes in
    l.invariant.4 ∙ ap (fed_pairs bytes (feeding c.args.start c.args.memory.now)) (omega arith)
