use mathlib.Core.Path.{◌≡◌, sym, ap, ◌∙◌}
use native.Mathlib.Omega.{arith}
use Prim.Native.Nat.{◌<◌}
use lib.ListN.{length, set, length-set}
use borrow.Author.Tests.{le-ltb}
use Rattle.std.specs.Prelude.{Some, unwrap_or}
use Rattle.processor.proofs.Carrying.{load_stored, some_value}
use Rattle.processor.proofs.carry.third_byte.Goals as goal

pub returns-then-place-second : goal.returns-then-place-second
returns-then-place-second c = let q = c.requires.2 c.if-bytes-lt3.false in
    let m = set c.args.memory.now c.args.first c.args.c in
    let l : c.args.second < length m = rw (length-set c.args.memory.now c.args.first c.args.c) (omega (arith, q.1)) in
    let met : c.place.result ≡ c.args.second = omega (arith, c.if-place-second.true) in
    rw (le-ltb _ _ c.if-bytes-lt3.false)
    (sym (some_value c.args.b q.2) ∙ ap Some (load_stored m c.args.at _ c.args.second (unwrap_or c.args.b 0) c.place.ensures met l))
