-- A row's list is the same in two memories that agree on every place that it holds in the first. So a byte is on a list before a store
-- to it exactly when it is after.
-- Assumes nothing.
use Prim.Native.Nat.{ℕ, zero, suc, ◌<◌}
use mathlib.Core.Path.{◌≡◌, refl, sym, ap, ◌∙◌}
use mathlib.Core.Bool.{Bool, true, false, not, ◌&&◌, ◌||◌, false≢true}
use mathlib.Core.List.{List}
use mathlib.Core.Logic.{⊎_elim}
use borrow.Author.Tests.{eq-eqb}
use lib.ListN.{set}
use lib.Seq.{get_or-set_other, set-get_or, set-set}
use Rattle.basics.proofs.Choice.{bool_cases, and_both, or_left, or_right}
use Rattle.basics.proofs.Below.{any_hit, any_same}
use Rattle.address.specs.Addresses.{Address, byte_from, is_at}
use Rattle.address.specs.Places.{byte_at}
use Rattle.std.proofs.Common.{Ok, Err}
use Rattle.shown.specs.declared.Shown.{Shown}
use Rattle.shown.specs.Modes.{is_eighty}
use Rattle.page.specs.Codes.{code_address, code_at}
use Rattle.page.specs.Halves.{is_tall}
use Rattle.reading.specs.Lists.{code_holds, row_holds, cell_holds, slices_hold, has_tall, above_holds, on_list}
use Rattle.reading.specs.Agreeing.{Agree, AgreeOnList}

-- what is taken at an address whose place passes is the same in two memories that agree on what passes
pub taken_same : (f : ℕ → Bool) (m n : List ℕ) → Agree f m n → (a : Address) → ((p : ℕ) → is_at p a ≡ true → f p ≡ true) → byte_from m a ≡ byte_from n a
taken_same f m n agree (Err why) h = refl
taken_same f m n agree (Ok p) h = agree p (h p (eq-eqb p p refl))

-- a row holds the three bytes of each of its cells that are fitted
module _ (shown : Shown) (r x p : ℕ) (l : x < 40) where
  holds_0 : is_at p (code_address shown r x 0) ≡ true → row_holds shown p r ≡ true
  unfolding row_holds code_holds
  holds_0 e = any_hit (code_holds shown p r) 40 x l (or_left _ _ e)

  holds_1 : is_at p (code_address shown r x 1) ≡ true → row_holds shown p r ≡ true
  unfolding row_holds code_holds
  holds_1 e = any_hit (code_holds shown p r) 40 x l (or_right (is_at p (code_address shown r x 0)) _ (or_left _ _ e))

  holds_2 : is_at p (code_address shown r x 2) ≡ true → row_holds shown p r ≡ true
  unfolding row_holds code_holds
  holds_2 e =
      any_hit (code_holds shown p r) 40 x l
      (or_right (is_at p (code_address shown r x 0)) _ (or_right (is_at p (code_address shown r x 1)) _ e))

module _ (shown : Shown) (m n : List ℕ) where
  abbrev pub Own : ℕ → Type 0
  Own r = Agree (λ p. row_holds shown p r) m n

  abbrev pub Sliced : ℕ → Type 0
  Sliced r = Agree (λ p. slices_hold shown m p r) m n

  abbrev pub Up : ℕ → Type 0
  Up r = Agree (λ p. above_holds shown m p r) m n

  pub code_same : (r x : ℕ) → Own r → x < 40 → code_at shown m r x ≡ code_at shown n r x
  unfolding code_at
  code_same r x own l =
      rw (
        taken_same (λ p. row_holds shown p r) m n own (code_address shown r x 0) (λ p. holds_0 shown r x p l),
        taken_same (λ p. row_holds shown p r) m n own (code_address shown r x 1) (λ p. holds_1 shown r x p l),
        taken_same (λ p. row_holds shown p r) m n own (code_address shown r x 2) (λ p. holds_2 shown r x p l),
      )

  tall_same : (r : ℕ) → Own r → has_tall shown m r ≡ has_tall shown n r
  unfolding has_tall
  tall_same r own = any_same _ _ 40 (λ x l. ap (is_tall shown.part) (code_same r x own l))

  -- where row k + 1 has a double height cell, what it reaches above holds row k and what k reaches
  pub own_above : (k : ℕ) → has_tall shown m (suc k) ≡ true → Up (suc k) → Own k
  unfolding above_holds
  own_above k d up p h = up p (and_both _ _ d (or_left _ _ h))

  pub up_above : (k : ℕ) → has_tall shown m (suc k) ≡ true → Up (suc k) → Up k
  unfolding above_holds
  up_above k d up p h = up p (and_both _ _ d (or_right (row_holds shown p k) _ h))

  above_same : (p r : ℕ) → Own r → Up r → above_holds shown m p r ≡ above_holds shown n p r
  unfolding above_holds
  above_same p zero own up = refl
  above_same p (suc k) own up = go (has_tall shown m (suc k)) refl (λ o u. above_same p k o u)
    where
      go :
          (t : Bool) → has_tall shown m (suc k) ≡ t → (Own k → Up k → above_holds shown m p k ≡ above_holds shown n p k)
          → (has_tall shown m (suc k) && (row_holds shown p k || above_holds shown m p k)) ≡ (has_tall shown n (suc k) && (row_holds shown p k || above_holds shown n p k))
      go true d below = rw (← tall_same (suc k) own, d, below (own_above k d up) (up_above k d up))
      go false d below = rw (← tall_same (suc k) own, d)

  slices_same : (p r : ℕ) → Own r → slices_hold shown m p r ≡ slices_hold shown n p r
  unfolding slices_hold
  slices_same p r own = any_same _ _ 40 (λ x l. ap (cell_holds shown p) (code_same r x own l))

module _ (shown : Shown) (m n : List ℕ) (r : ℕ) (agree : AgreeOnList shown m n r) where
  pub its_own : Own shown m n r
  unfolding on_list
  its_own p h = agree p (or_left _ _ h)

  -- in 40 columns the slices of its cells, and what it reaches above
  module _ (forty : is_eighty shown ≡ false) where
    pub its_slices : Sliced shown m n r
    unfolding on_list
    its_slices p h = agree p (or_right (row_holds shown p r) _ (rw forty (or_left _ _ h)))

    pub its_up : Up shown m n r
    unfolding on_list
    its_up p h = agree p (or_right (row_holds shown p r) _ (rw forty (or_right (slices_hold shown m p r) _ h)))

  -- its list is the same
  pub list_same : (p : ℕ) → on_list shown m p r ≡ on_list shown n p r
  unfolding on_list
  list_same p = go (is_eighty shown) refl
    where
      go :
          (b : Bool) → is_eighty shown ≡ b
          → (row_holds shown p r || (not b && (slices_hold shown m p r || above_holds shown m p r)))
          ≡ (row_holds shown p r || (not b && (slices_hold shown n p r || above_holds shown n p r)))
      go true e = refl
      go false e = rw (slices_same shown m n p r its_own, above_same shown m n p r its_own (its_up e))

-- a byte that is on no list of the row: the memories agree on what is on it
pub agree_off : (shown : Shown) (m : List ℕ) (p v r : ℕ) → on_list shown m p r ≡ false → AgreeOnList shown m (set m p v) r
agree_off shown m p v r off q on =
    sym (get_or-set_other m p q v 0 (λ e. false≢true (sym off ∙ ap (λ (s : ℕ). on_list shown m s r) (sym e) ∙ on)))

-- a byte is on a row's list before a store to it exactly when it is after
module _ (shown : Shown) (m : List ℕ) (p v r : ℕ) where
  -- off the list before: the list is the same after
  off_after : on_list shown m p r ≡ false → on_list shown (set m p v) p r ≡ false
  off_after off = sym (list_same shown m (set m p v) r (agree_off shown m p v r off) p) ∙ off

  -- off the list after: the store taken back changes nothing that the row reads
  off_before : on_list shown (set m p v) p r ≡ false → on_list shown m p r ≡ false
  off_before off =
      sym (ap (λ (n : List ℕ). on_list shown n p r) (set-set m p v (byte_at m p) ∙ set-get_or m p 0))
      ∙ sym (list_same shown (set m p v) (set (set m p v) p (byte_at m p)) r (agree_off shown (set m p v) p (byte_at m p) r off) p)
      ∙ off

  pub list_stable : on_list shown m p r ≡ on_list shown (set m p v) p r
  list_stable =
      ⊎_elim
      (λ t. ⊎_elim (λ u. t ∙ sym u) (λ u. absurd (false≢true (sym (off_before u) ∙ t))) (bool_cases (on_list shown (set m p v) p r)))
      (λ o. o ∙ sym (off_after o))
      (bool_cases (on_list shown m p r))
