-- The ten bytes of each position of a row: how many, how large, put column by column, and each found again.
-- Assumes nothing.
use Prim.Native.Nat.{ℕ, ◌+◌, ◌-◌, ◌*◌, ◌/◌, ◌%◌, ◌≤◌, ◌<◌}
use mathlib.Core.Path.{◌≡◌, sym, ap, ap₂, ◌∙◌}
use mathlib.Core.List.{List, [], ◌∷◌, ◌++◌, append-nil}
use mathlib.Core.Logic.{⊎_elim}
use native.Mathlib.Omega.{arith}
use lib.ListN.{length, get_or, length-append, get_or-append}
use lib.Seq.{get_or-append-add}
use Rattle.std.specs.List.{flat_map}
use Rattle.basics.proofs.Choice.{lt_or_le}
use Rattle.basics.proofs.Parts.{length_table, table_at, joined_at}
use Rattle.shown.specs.declared.Shown.{Shown}
use Rattle.narrow.specs.declared.pair.Narrow.{Narrow}
use Rattle.narrow.specs.Codes.{even_of, odd_of}
use Rattle.narrow.specs.HowTens.{byte_of, narrow_ten}
use Rattle.narrow.proofs.Drawn.{byte_small}
use Rattle.eighty.specs.HowEighty.{pair_tens, eighty_tens, SevenBits}

module _ (rom : List ℕ) (shown : Shown) where
  ten_long : (cell : Narrow) → length (narrow_ten rom shown cell) ≡ 10
  unfolding narrow_ten
  ten_long cell = length_table _ 10

  ten_at_lem : (cell : Narrow) (n : ℕ) → n < 10 → get_or (narrow_ten rom shown cell) n 0 ≡ byte_of rom shown cell n
  unfolding narrow_ten
  ten_at_lem cell n l = table_at (byte_of rom shown cell) 10 n 0 l

  module _ (code : List ℕ) where
    abbrev evens : List ℕ
    evens = narrow_ten rom shown (even_of code)

    abbrev odds : List ℕ
    odds = narrow_ten rom shown (odd_of code)

    pub pair_tens_long : length (pair_tens rom shown code) ≡ 20
    unfolding pair_tens
    pair_tens_long = rw (length-append, ten_long (even_of code), ten_long (odd_of code))

    -- one after the other, the even position's first
    pub pair_flat : (first second : List ℕ) → first ≡ evens → second ≡ odds → flat_map (λ ten. ten) (first ∷ second ∷ []) ≡ pair_tens rom shown code
    unfolding pair_tens
    pair_flat first second p q = ap (λ (z : List ℕ). first ++ z) (append-nil second) ∙ ap₂ ◌++◌ p q

    pub even_at_lem : (n : ℕ) → n < 10 → get_or (pair_tens rom shown code) n 0 ≡ byte_of rom shown (even_of code) n
    unfolding pair_tens
    even_at_lem n l = get_or-append evens odds 0 n (rw (ten_long (even_of code)) l) ∙ ten_at_lem (even_of code) n l

    pub odd_at : (n : ℕ) → n < 10 → get_or (pair_tens rom shown code) (10 + n) 0 ≡ byte_of rom shown (odd_of code) n
    unfolding pair_tens
    odd_at n l =
        ap (λ (k : ℕ). get_or (evens ++ odds) (k + n) 0) (sym (ten_long (even_of code))) ∙ get_or-append-add evens odds n 0 ∙ ten_at_lem (odd_of code) n l

    pair_small : (j : ℕ) → j < 20 → get_or (pair_tens rom shown code) j 0 < 128
    pair_small j l =
        ⊎_elim (λ h. rw (even_at_lem j h) (byte_small rom shown (even_of code) j)) (λ h. rw (later h) (byte_small rom shown (odd_of code) (j - 10))) (lt_or_le j 10)
      where
        later : 10 ≤ j → get_or (pair_tens rom shown code) j 0 ≡ byte_of rom shown (odd_of code) (j - 10)
        later h = ap (λ (i : ℕ). get_or (pair_tens rom shown code) i 0) (omega arith) ∙ odd_at (j - 10) (omega arith)

  module _ (cells : List (List ℕ)) (tens : List ℕ) (is : tens ≡ eighty_tens rom shown cells) where
    -- byte j of column x
    pub column_at : (x j : ℕ) → x < 40 → j < 20 → get_or tens (20 * x + j) 0 ≡ get_or (pair_tens rom shown (get_or cells x [])) j 0
    unfolding eighty_tens
    column_at x j h l =
        ap (λ (z : List ℕ). get_or z (20 * x + j) 0) is
        ∙ joined_at 20 (λ i. pair_tens rom shown (get_or cells i [])) 40 (λ i k. pair_tens_long (get_or cells i [])) x j 0 h l

    pub tens_small : SevenBits tens
    tens_small i l =
        let same : i ≡ 20 * (i / 20) + i % 20 = omega arith in
        rw (ap (λ (k : ℕ). get_or tens k 0) same ∙ column_at (i / 20) (i % 20) (omega arith) (omega arith))
        (pair_small (get_or cells (i / 20) []) (i % 20) (omega arith))
