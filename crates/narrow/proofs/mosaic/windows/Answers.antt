use Rattle.narrow.proofs.Bytes.{windows_is}
use native.Mathlib.Omega.{arith}
use Rattle.narrow.proofs.mosaic.windows.Goals as goal

pub returns : goal.returns
returns c = windows_is _ _ _ (omega arith) (omega arith) (omega arith)
