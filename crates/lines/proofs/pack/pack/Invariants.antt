use Rattle.shown.specs.Lengths.{forty_bytes}
use Rattle.lines.specs.HowLines.{four_of}
use Rattle.basics.proofs.Filled.{filled}
use mathlib.Core.Path.{◌≡◌}
use Rattle.lines.proofs.pack.pack.Given as goal

abbrev pub invariant-loop-x : goal.invariant-loop-x
invariant-loop-x l = l.line ≡ filled forty_bytes (four_of l.bytes l.pairs) l.initial.line l.x
