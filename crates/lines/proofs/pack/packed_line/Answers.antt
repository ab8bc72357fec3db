use Rattle.shown.specs.Lengths.{forty_bytes}
use Rattle.lines.specs.HowLines.{four_of}
use Rattle.lines.proofs.Drawn.{begun_long, begun_front}
use Rattle.basics.proofs.Filled.{front_none, filled_end}
use native.Mathlib.Omega.{arith}
use Rattle.lines.proofs.pack.packed_line.Goals as goal

pub pack-requires : goal.pack-requires
pack-requires c = (omega arith, omega arith, front_none _)

pub pack-requires-2 : goal.pack-requires-2
pack-requires-2 c = let a = c.args in (
  omega arith,
  omega arith,
  begun_front a.bytes a.pairs.now c.pack.new.line c.pack.ensures 24 (omega arith),
)

pub returns : goal.returns
returns c = let a = c.args in
    filled_end forty_bytes (four_of a.bytes a.pairs.now) c.pack.new.line c.pack-2.new.line 40 40 c.pack-2.ensures (omega arith) (omega arith)
    (begun_long a.bytes a.pairs.now c.pack.new.line c.pack.ensures)
