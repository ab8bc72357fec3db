use mathlib.Core.List.{[], ◌∷◌}
use mathlib.Core.Path.{refl}
use native.Mathlib.Omega.{arith}
use Rattle.asking.proofs.Rows.{flash_test, pair_test}
use Rattle.phases.proofs.bare.column_flashes.Goals as goal

pub returns-then-eighty : goal.returns-then-eighty
returns-then-eighty c = let s = c.args in
    rw c.if-eighty.true (pair_test (s.c ∷ s.b ∷ s.a ∷ []) (omega arith) (omega arith))

pub returns : goal.returns
returns c = let s = c.args in
    rw c.if-eighty.false (flash_test (s.c ∷ s.b ∷ s.a ∷ []) s.part _ _ _ c.last_bichrome.ensures (omega arith) refl refl)
