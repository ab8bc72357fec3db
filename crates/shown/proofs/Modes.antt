-- Laws of the mode: its two bits as a comparison, and the lengths that go with it.
-- Assumes nothing.
use Prim.Native.Nat.{ℕ, ◌≤◌, ◌<◌}
use mathlib.Core.Path.{◌≡◌, refl, sym, ap, ◌∙◌}
use mathlib.Core.Bool.{Bool, true, false, ◌&&◌}
use lib.Dec.{leb}
use native.Mathlib.Omega.{arith}
use denote.Enum.Bare.{sameb}
use borrow.Author.Tests.{le-leb, lt-leb}
use Rattle.basics.specs.Bits.{is_set}
use Rattle.basics.specs.Choice.{pick}
use Rattle.basics.proofs.Computed.{agree_test}
use Rattle.board.specs.contracts.Part.{the_type}
use Rattle.board.specs.declared.Part.{Part}
use Rattle.board.specs.declared.Part.TheVariants.{Ef9345, Ts9347}
use Rattle.shown.specs.declared.Shown.{Shown}
use Rattle.shown.specs.Lengths.{forty_bytes, eighty_bytes, picture_bytes}
use Rattle.shown.specs.Modes.{has_eighty, is_eighty, column_bytes}

-- both bits of the mode
mode_bits : (tgs : ℕ) → tgs < 256 → leb 192 tgs ≡ (is_set 7 tgs && is_set 6 tgs)
mode_bits = agree_test (λ tgs. leb 192 tgs) (λ tgs. is_set 7 tgs && is_set 6 tgs) 256 tt

module _ (shown : Shown) where
  pub eighty_test : shown.tgs < 256 → (has_eighty shown.part && leb 192 shown.tgs) ≡ is_eighty shown
  unfolding is_eighty
  eighty_test h = ap (λ (t : Bool). has_eighty shown.part && t) (mode_bits shown.tgs h)

  -- below 192 TGS tells by itself
  pub forty_tgs : shown.tgs < 192 → false ≡ is_eighty shown
  forty_tgs h = sym (none shown.part) ∙ eighty_test (omega arith)
    where
      none : (part : Part) → (has_eighty part && leb 192 shown.tgs) ≡ false
      none Ef9345 = lt-leb 192 shown.tgs h
      none Ts9347 = refl

  pub eighty_part : 192 ≤ shown.tgs → shown.tgs < 256 → has_eighty shown.part ≡ is_eighty shown
  eighty_part l h = sym (told shown.part) ∙ eighty_test h
    where
      told : (part : Part) → (has_eighty part && leb 192 shown.tgs) ≡ has_eighty part
      told Ef9345 = le-leb 192 shown.tgs l
      told Ts9347 = refl

  -- the two tests of the code
  pub eighty_asked : 192 ≤ shown.tgs → shown.tgs < 256 → (b : Bool) → b ≡ sameb the_type shown.part Ef9345 → b ≡ is_eighty shown
  eighty_asked l h b e = e ∙ either shown.part ∙ eighty_part l h
    where
      either : (part : Part) → sameb the_type part Ef9345 ≡ has_eighty part
      either Ef9345 = refl
      either Ts9347 = refl

  pub forty_asked : shown.tgs < 192 → leb 192 shown.tgs ≡ is_eighty shown
  forty_asked l = lt-leb 192 shown.tgs l ∙ forty_tgs l

  -- the bytes of a column in each mode
  pub eighty_bytes_lem : is_eighty shown ≡ true → column_bytes shown ≡ eighty_bytes
  eighty_bytes_lem e = ap (λ (t : Bool). pick t eighty_bytes forty_bytes) e

  pub forty_bytes_lem : is_eighty shown ≡ false → column_bytes shown ≡ forty_bytes
  forty_bytes_lem e = ap (λ (t : Bool). pick t eighty_bytes forty_bytes) e

  module _ (b : Bool) (asked : b ≡ is_eighty shown) where
    pub eighty_picture : b ≡ true → picture_bytes eighty_bytes ≡ picture_bytes (column_bytes shown)
    eighty_picture e = sym (ap picture_bytes (eighty_bytes_lem (sym asked ∙ e)))

    pub forty_picture : b ≡ false → picture_bytes forty_bytes ≡ picture_bytes (column_bytes shown)
    forty_picture e = sym (ap picture_bytes (forty_bytes_lem (sym asked ∙ e)))

-- the mode is TGS's and the part's alone
pub eighty_same : (a b : Shown) → a.tgs ≡ b.tgs → a.part ≡ b.part → is_eighty a ≡ is_eighty b
unfolding is_eighty
eighty_same a b tgs part = rw (tgs, part)

pub bytes_same : (a b : Shown) → a.tgs ≡ b.tgs → a.part ≡ b.part → column_bytes a ≡ column_bytes b
bytes_same a b tgs part = ap (λ (t : Bool). pick t eighty_bytes forty_bytes) (eighty_same a b tgs part)
