-- Laws of the refusals: the bits of TGS and PAT as comparisons, and the length that 6 asks for.
-- Assumes nothing.
use Rattle.std.proofs.Common.{ℕ, ◌/◌, ◌≤◌, ◌<◌, ◌≡◌, refl, sym, ap, ◌∙◌, Bool, true, false, not, ◌&&◌, ◌||◌, Option, None, Some, arith}
use Rattle.std.specs.Option.{is_some}
use mathlib.Core.Bool.{and-false, or-true, or-false}
use lib.Dec.{ltb, leb, eqb}
use borrow.Author.Tests.{le-leb, lt-leb, eq-eqb, ne_eqb}
use Rattle.basics.specs.Bits.{is_set}
use Rattle.basics.specs.Choice.{pick}
use Rattle.basics.proofs.Computed.{agree_test}
use Rattle.board.specs.declared.Part.{Part}
use Rattle.board.specs.declared.Part.TheVariants.{Ef9345, Ts9347}
use Rattle.shown.specs.declared.Shown.{Shown}
use Rattle.shown.specs.Lengths.{forty_bytes, eighty_bytes, picture_bytes}
use Rattle.shown.specs.Modes.{has_eighty, is_eighty, column_bytes}
use Rattle.shown.specs.Origins.{yor_of}
use Rattle.shown.specs.Refusals.{refused7, refused8, can_draw}
use Rattle.shown.proofs.Modes.{forty_tgs, eighty_part, eighty_bytes_lem, forty_bytes_lem}

-- what TGS says of 7: bits 7 and 6 one without the other, or bit 5; without 80 columns any of the three
tgs_bits :
    (part : Part) (p : Bool) (tgs : ℕ) → tgs < 256
    → pick (has_eighty part && (is_set 7 tgs && is_set 6 tgs)) (is_set 5 tgs || p) (is_set 7 tgs || (is_set 6 tgs || (is_set 5 tgs || p)))
    ≡ ((leb 32 tgs && not (has_eighty part && eqb (tgs / 32) 6)) || p)
tgs_bits Ef9345 true =
    agree_test (λ tgs. pick (is_set 7 tgs && is_set 6 tgs) (is_set 5 tgs || true) (is_set 7 tgs || (is_set 6 tgs || (is_set 5 tgs || true))))
    (λ tgs. (leb 32 tgs && not (eqb (tgs / 32) 6)) || true) 256 tt
tgs_bits Ef9345 false =
    agree_test (λ tgs. pick (is_set 7 tgs && is_set 6 tgs) (is_set 5 tgs || false) (is_set 7 tgs || (is_set 6 tgs || (is_set 5 tgs || false))))
    (λ tgs. (leb 32 tgs && not (eqb (tgs / 32) 6)) || false) 256 tt
tgs_bits Ts9347 true =
    agree_test (λ tgs. is_set 7 tgs || (is_set 6 tgs || (is_set 5 tgs || true))) (λ tgs. (leb 32 tgs && true) || true) 256 tt
tgs_bits Ts9347 false =
    agree_test (λ tgs. is_set 7 tgs || (is_set 6 tgs || (is_set 5 tgs || false))) (λ tgs. (leb 32 tgs && true) || false) 256 tt

-- PAT bit 7
pat_bit : (pat : ℕ) → pat < 256 → is_set 7 pat ≡ leb 128 pat
pat_bit = agree_test (λ pat. is_set 7 pat) (λ pat. leb 128 pat) 256 tt

module _ (shown : Shown) where
  module _ (h : shown.tgs < 256) (k : shown.pat < 256) where
    refused_test :
        ((leb 32 shown.tgs && not (has_eighty shown.part && eqb (shown.tgs / 32) 6)) || leb 128 shown.pat) ≡ refused7 shown
    unfolding refused7 is_eighty
    refused_test =
        sym (tgs_bits shown.part (is_set 7 shown.pat) shown.tgs h
        ∙ ap (λ (t : Bool). (leb 32 shown.tgs && not (has_eighty shown.part && eqb (shown.tgs / 32) 6)) || t) (pat_bit shown.pat k))

    -- PAT 7, in every mode
    refused_pat : 128 ≤ shown.pat → refused7 shown ≡ true
    refused_pat l = sym refused_test ∙ rw (le-leb 128 shown.pat l) (or-true (leb 32 shown.tgs && not (has_eighty shown.part && eqb (shown.tgs / 32) 6)))

    -- without it, what TGS says of the mode
    refused_mode : shown.pat < 128 → refused7 shown ≡ (leb 32 shown.tgs && not (has_eighty shown.part && eqb (shown.tgs / 32) 6))
    refused_mode l =
        sym refused_test ∙ rw (lt-leb 128 shown.pat l) (or-false (leb 32 shown.tgs && not (has_eighty shown.part && eqb (shown.tgs / 32) 6)))

    -- the length that 6 asks for, in the ways of the code
    abbrev asked : Option ℕ
    asked = pick (refused7 shown) None (Some (picture_bytes (column_bytes shown)))

    pub asked_refused : 128 ≤ shown.pat → None ≡ asked
    asked_refused l = rw (refused_pat l) refl

    pub asked_forty : shown.pat < 128 → shown.tgs / 32 ≡ 0 → Some (picture_bytes forty_bytes) ≡ asked
    asked_forty l q =
        let low : shown.tgs < 32 = omega (arith, q) in
        rw (refused_mode l, lt-leb 32 shown.tgs low, forty_bytes_lem shown (sym (forty_tgs shown (omega arith)))) refl

    module _ (l : shown.pat < 128) (six : shown.tgs / 32 ≡ 6) where
      high : 192 ≤ shown.tgs
      high = omega (arith, six)

      refused_six : refused7 shown ≡ not (has_eighty shown.part && true)
      refused_six = rw (refused_mode l, le-leb 32 shown.tgs (omega (arith, high)), eq-eqb (shown.tgs / 32) 6 six)

      pub asked_eighty : shown.part ≡ Ef9345 → Some (picture_bytes eighty_bytes) ≡ asked
      asked_eighty part =
          let has : has_eighty shown.part ≡ true = ap has_eighty part in
          rw (refused_six, eighty_bytes_lem shown (sym (eighty_part shown high h) ∙ has), has) refl

      pub asked_no_eighty : shown.part ≡ Ts9347 → None ≡ asked
      asked_no_eighty part = rw (refused_six, part) refl

    pub asked_no_mode : shown.pat < 128 → (shown.tgs / 32 ≡ 0 → ⊥) → (shown.tgs / 32 ≡ 6 → ⊥) → None ≡ asked
    asked_no_mode l z n =
        let high : 32 ≤ shown.tgs = omega (arith, z) in
        rw (refused_mode l, le-leb 32 shown.tgs high, ne_eqb (shown.tgs / 32) 6 n, and-false (has_eighty shown.part)) refl

  -- what a caller learns from the length that 6 asks for
  pub asked_none : None ≡ pick (refused7 shown) None (Some (picture_bytes (column_bytes shown))) → refused7 shown ≡ true
  asked_none e = go (refused7 shown) e
    where
      go : (b : Bool) → None ≡ pick b None (Some (picture_bytes (column_bytes shown))) → b ≡ true
      go true e = refl
      go false e = cc

  module _ (n : ℕ) (learnt : Some n ≡ pick (refused7 shown) None (Some (picture_bytes (column_bytes shown)))) where
    both : (b : Bool) → Some n ≡ pick b None (Some (picture_bytes (column_bytes shown))) → (b ≡ false) × (n ≡ picture_bytes (column_bytes shown))
    both true e = cc
    both false e = (refl, cc)

    pub asked_some : refused7 shown ≡ false
    asked_some = (both (refused7 shown) learnt).0

    pub asked_length : n ≡ picture_bytes (column_bytes shown)
    asked_length = (both (refused7 shown) learnt).1

  pub none_asked :
      (r : Option ℕ) → r ≡ pick (refused7 shown) None (Some (picture_bytes (column_bytes shown))) → (b : Bool) → is_some r ≡ not b → b ≡ refused7 shown
  none_asked r e b i = go (refused7 shown) e b i
    where
      go : (t : Bool) → r ≡ pick t None (Some (picture_bytes (column_bytes shown))) → (b : Bool) → is_some r ≡ not b → b ≡ t
      go true e true i = refl
      go true e false i = cc
      go false e true i = cc
      go false e false i = refl

  pub low_origin : (yor : ℕ) → yor ≡ yor_of shown → ltb yor 8 ≡ refused8 shown
  unfolding refused8
  low_origin yor e = ap (λ (n : ℕ). ltb n 8) e

-- what decides whether a draw would get 7 or 8
pub can_draw_same : (a b : Shown) → a.tgs ≡ b.tgs → a.part ≡ b.part → a.pat ≡ b.pat → a.ror ≡ b.ror → can_draw a ≡ can_draw b
unfolding is_eighty refused7 refused8 can_draw
can_draw_same a b tgs part pat ror = rw (tgs, part, pat, ror)
