-- Four rows that are quiet do not flash: no cell of theirs has its A3 set, and their Ys are those that were looked at.
-- Assumes nothing.
use Prim.Native.Nat.{ℕ, ◌+◌, ◌<◌}
use mathlib.Core.Path.{◌≡◌, refl, sym, ap, ◌∙◌}
use mathlib.Core.Bool.{Bool, true, false, not, ◌&&◌}
use mathlib.Core.List.{List}
use native.Mathlib.Omega.{arith}
use lib.Dec.{leb}
use borrow.Author.Tests.{leb-true, not-true}
use Rattle.basics.specs.Below.{any_below}
use Rattle.basics.proofs.Choice.{and_left, and_right}
use Rattle.address.specs.Rows.{row_y}
use Rattle.address.proofs.Laws.{row_from_one}
use Rattle.board.specs.declared.Part.{Part}
use Rattle.asking.specs.HowAsked.{flash_at, blink_at}
use Rattle.asking.proofs.Rows.{none_flashes}
use Rattle.phases.specs.HowPhases.{are_quiet}

-- the row k on has the Y k on, where the Ys do not begin again
row_next : (yor r k : ℕ) → (r ≡ 0 → ⊥) → row_y yor r + k < 32 → row_y yor (r + k) ≡ row_y yor r + k
row_next yor r k n h = omega (arith, row_from_one yor r n, row_from_one yor (r + k) (λ e. n (omega arith)))

grouped : (a b c : Bool) → (a && (b && c)) ≡ ((a && b) && c)
grouped true b c = refl
grouped false b c = refl

module _ (m : List ℕ) (z y : ℕ) (before : Bool) where
  abbrev looks : Bool
  looks = any_below (λ k. blink_at m z (y + k)) 4

  -- where it is looked, and where it is not
  module _ (asked : Bool) (said : asked ≡ (not before && leb y 28)) where
    pub quiet_looked : (t : Bool) → asked ≡ true → t ≡ looks → not t ≡ are_quiet m z y before
    unfolding are_quiet
    quiet_looked t on q = let both = sym said ∙ on in let fresh : not before ≡ true = and_left _ _ both in let low : leb y 28 ≡ true = and_right (not before) _ both in rw (fresh, low, q)

    pub quiet_unasked : asked ≡ false → asked ≡ are_quiet m z y before
    unfolding are_quiet
    quiet_unasked off = off ∙ sym (grouped (not before) (leb y 28) (not looks) ∙ ap (λ (b : Bool). b && not looks) (sym said ∙ off))

  pub quiet_still :
      (part : Part) (yor r : ℕ) (t : Bool) → t ≡ are_quiet m z y before → t ≡ true → y ≡ row_y yor r → (r ≡ 0 → ⊥)
      → (k : ℕ) → k < 4 → flash_at part m z (row_y yor (r + k)) ≡ false
  unfolding are_quiet
  quiet_still part yor r t e on ey n k l =
      let rest = and_right (not before) _ (sym e ∙ on) in
      let low = leb-true y 28 (and_left _ _ rest) in
      ap (flash_at part m z) (row_next yor r k n (omega arith) ∙ ap (λ (a : ℕ). a + k) (sym ey))
      ∙ none_flashes part m z y 4 looks refl (not-true looks (and_right (leb y 28) _ rest)) k l
