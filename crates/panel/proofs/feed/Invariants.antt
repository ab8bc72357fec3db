use Rattle.std.proofs.Common.{◌≡◌, ◌≤◌, length, drop, ◌*◌}
use Rattle.panel.specs.Feeds.{feeding, fed_pairs}
use Rattle.panel.proofs.feed.Given as goal

abbrev pub invariant-loop-pair : goal.invariant-loop-pair
invariant-loop-pair l =
    (length l.memory ≡ length l.initial.memory) × (l.pair-iterator.size ≡ 2) × (2 * length l.yielded ≤ length l.chunk)
    × (l.pair-iterator.rest.now ≡ drop (2 * length l.yielded) l.chunk)
    × (feeding l.state l.memory ≡ fed_pairs l.chunk (feeding l.initial.state l.initial.memory) (length l.yielded))
