-- The next X and the next Y as the code works them out, and what they leave.
-- Assumes nothing.
use Rattle.std.proofs.Common.{ℕ, ◌+◌, ◌-◌, ◌%◌, ◌≡◌, Bool, true, List, arith}
use lib.Dec.{eqb}
use lib.ListN.{set}
use lib.Seq.{get_or-set_other}
use borrow.Author.Tests.{eq-eqb, ne_eqb}
use Rattle.basics.specs.Bits.{bits}
use Rattle.basics.proofs.Choice.{pick_either}
use Rattle.moves.specs.Onward.{is_last, next_x, next_y, auxiliary_x, main_y, main_x, BothOnPage, down, is_end}

low_six : (v : ℕ) → bits 0 6 v ≡ v % 64
low_six v = omega arith

low_five : (v : ℕ) → bits 0 5 v ≡ v % 32
low_five v = omega arith

pub last_as : (v : ℕ) → eqb (v % 64) 39 ≡ is_last v
last_as v = rw (low_six v)

pub next_last : (v : ℕ) → v % 64 ≡ 39 → v - 39 ≡ next_x v
unfolding next_x
next_last v e = rw (low_six v, eq-eqb _ _ e)

pub next_more : (v : ℕ) → (v % 64 ≡ 39 → ⊥) → v + 1 ≡ next_x v
unfolding next_x
next_more v n = rw (low_six v, ne_eqb _ _ n)

pub next_31 : (v : ℕ) → v % 32 ≡ 31 → v - 23 ≡ next_y v
unfolding next_y
next_31 v e = rw (low_five v, eq-eqb _ _ e)

pub next_0 : (v : ℕ) → v % 32 ≡ 0 → v ≡ next_y v
unfolding next_y
next_0 v e = let n : v % 32 ≡ 31 → ⊥ = λ q. omega arith in rw (low_five v, ne_eqb _ _ n, eq-eqb _ _ e)

pub next_row : (v : ℕ) → (v % 32 ≡ 31 → ⊥) → (v % 32 ≡ 0 → ⊥) → v + 1 ≡ next_y v
unfolding next_y
next_row v n z = rw (low_five v, ne_eqb _ _ n, ne_eqb _ _ z)

-- down leaves both X
pub down_on_page : (registers : List ℕ) → BothOnPage registers → BothOnPage (down registers)
unfolding down
down_on_page registers h =
    let y = next_y (main_y registers) in
    pick_either BothOnPage (is_last (main_x registers)) (set registers 6 y) registers
    (rw (get_or-set_other registers 6 5 y 0 (λ e. omega arith), get_or-set_other registers 6 7 y 0 (λ e. omega arith)) h) h

-- where X passes 39
pub went_down : (registers : List ℕ) → main_x registers % 64 ≡ 39 → set registers 6 (next_y (main_y registers)) ≡ down registers
unfolding down
went_down registers e = rw (low_six (main_x registers), eq-eqb _ _ e)

-- whether a move with a stop ends: by the auxiliary pointer's X, or else by the main pointer's
module _ (stops : Bool) (registers : List ℕ) (e : stops ≡ true) where
  pub ends_auxiliary : auxiliary_x registers % 64 ≡ 39 → eqb (auxiliary_x registers % 64) 39 ≡ is_end stops registers
  unfolding is_end
  ends_auxiliary x = rw (e, low_six (auxiliary_x registers), eq-eqb _ _ x)

  pub ends_main : (auxiliary_x registers % 64 ≡ 39 → ⊥) → eqb (main_x registers % 64) 39 ≡ is_end stops registers
  unfolding is_end
  ends_main x = rw (e, low_six (auxiliary_x registers), ne_eqb _ _ x, low_six (main_x registers))
