use Prim.Native.Nat.{◌+◌, ◌*◌}
use Rattle.marking.proofs.Changes.{changed_not, changed_there}
use native.Mathlib.Omega.{arith}
use Rattle.marking.proofs.store.changed_block.Goals as goal

pub returns-then-page-z : goal.returns-then-page-z
returns-then-page-z c = let s = c.args in (changed_not s.page.now.memory.now (1024 * s.z + s.at) (s.z * 1024 + s.at) s.z s.value (omega arith) (omega arith), omega arith)

pub returns : goal.returns
returns c = let s = c.args in (changed_there s.page.now.memory.now (1024 * s.z + s.at) (s.z * 1024 + s.at) s.z s.value (omega arith) (λ e. omega arith), omega (arith, s.page.now.blocks_in_a_byte))
