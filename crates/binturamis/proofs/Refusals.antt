-- A refused call leaves what it was lent, and the 64 bytes, whatever they hold.
-- Assumes nothing.
use Prim.Native.Nat.{ℕ}
use mathlib.Core.Path.{◌≡◌, ap, sym, ◌∙◌}
use mathlib.Core.Bool.{true, false≢true}
use mathlib.Core.Logic.{◌≢◌}
use Rattle.packing.specs.Layouts.{unpacked}
use Rattle.kept.specs.Orders.{is_early}
use Rattle.kept.specs.Runs.{write, read, turn, move, draw, World}
use Rattle.kept.proofs.Refusals.{refusal_leaves}
use Rattle.binturamis.specs.Calls.{is_refusal}
use Rattle.binturamis.specs.Promises.{RefusedCall}
use Rattle.binturamis.specs.Runs.{Caller}

-- a number that leaves things alone is not 0
pub early_refuses : (n : ℕ) → is_early n ≡ true → n ≢ 0
early_refuses n e z = false≢true (sym (ap is_early z) ∙ e)

pub refusal_refuses : (n : ℕ) → is_refusal n ≡ true → n ≢ 0
refusal_refuses n e z = false≢true (sym (ap is_refusal z) ∙ e)

-- the world of a caller, whatever its bytes
abbrev world_of : Caller → World
world_of b = record { processor = unpacked b.bytes; memory = b.memory; rom = b.rom; picture = b.picture }

pub refused_call : RefusedCall
refused_call (write x address v) b e =
    let l = refusal_leaves (write x address v) (world_of b) (early_refuses _ e) in (rw e, l.1, l.2)
refused_call (read x address) b e = let l = refusal_leaves (read x address) (world_of b) (refusal_refuses _ e) in (rw e, l.1, l.2)
refused_call (turn x n) b e = let l = refusal_leaves (turn x n) (world_of b) (refusal_refuses _ e) in (rw e, l.1, l.2)
refused_call (move x) b e = let l = refusal_leaves (move x) (world_of b) (refusal_refuses _ e) in (rw e, l.1, l.2)
refused_call (draw x y z) b e = let l = refusal_leaves (draw x y z) (world_of b) (refusal_refuses _ e) in (rw e, l.1, l.2)
