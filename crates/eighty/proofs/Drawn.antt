-- What the code draws of a row in 80 columns is the row.
-- Assumes nothing.
use Prim.Native.Nat.{ℕ, ◌+◌, ◌*◌, ◌<◌}
use mathlib.Core.Path.{◌≡◌, ap, ap₂, ◌∙◌}
use mathlib.Core.List.{List, [], ◌++◌}
use native.Mathlib.Omega.{arith}
use lib.ListN.{length, get_or}
use Rattle.basics.specs.Parts.{joined}
use Rattle.basics.proofs.Parts.{joined_same, joined_pairs}
use Rattle.shown.specs.declared.Shown.{Shown}
use Rattle.shown.specs.Lengths.{eighty_bytes, line_bytes, row_bytes}
use Rattle.shown.proofs.Lengths.{columns_long, lines_long}
use Rattle.narrow.specs.declared.pair.Narrow.{Narrow}
use Rattle.narrow.specs.Codes.{even_of, odd_of}
use Rattle.narrow.specs.Pixels.{narrow_line, pair_line}
use Rattle.narrow.specs.HowTens.{byte_of}
use Rattle.narrow.specs.HowInks.{inks_of, three_in}
use Rattle.narrow.proofs.Inks.{ink_found}
use Rattle.narrow.proofs.Drawn.{byte_small, ink_line, pair_long}
use Rattle.eighty.specs.Rows.{eighty_line, eighty_lines}
use Rattle.eighty.specs.HowEighty.{eighty_tens, three_on, eighty_line_on}
use Rattle.eighty.proofs.Tens.{even_at_lem, odd_at, column_at}

module _ (rom : List ℕ) (shown : Shown) (cells : List (List ℕ)) where
  module _ (tens inks : List ℕ) (is-tens : tens ≡ eighty_tens rom shown cells) (is-inks : inks ≡ inks_of shown) (n : ℕ) (h : n < 10) where
    -- the byte of a cell's line chooses its pixels
    chosen : (cell : Narrow) (e : ℕ) → e ≡ byte_of rom shown cell n → three_in inks e ≡ narrow_line rom shown cell n
    chosen cell e q =
        ap (three_in inks) q ∙ ink_found shown inks (byte_of rom shown cell n) is-inks (byte_small rom shown cell n) ∙ ink_line rom shown cell n

    drawn_column : (x : ℕ) → x < 40 → three_on tens inks n (2 * x) ++ three_on tens inks n (2 * x + 1) ≡ pair_line rom shown (get_or cells x []) n
    unfolding pair_line
    drawn_column x l =
        let code = get_or cells x [] in
        ap₂ ◌++◌
        (chosen (even_of code) _ (ap (λ (i : ℕ). get_or tens i 0) (omega arith) ∙ column_at rom shown cells tens is-tens x n l (omega arith) ∙ even_at_lem rom shown code n h))
        (chosen (odd_of code) _ (ap (λ (i : ℕ). get_or tens i 0) (omega arith) ∙ column_at rom shown cells tens is-tens x (10 + n) l (omega arith) ∙ odd_at rom shown code n h))

    pub drawn_line : eighty_line_on tens inks n ≡ eighty_line rom shown cells n
    unfolding eighty_line_on eighty_line
    drawn_line = joined_pairs (three_on tens inks n) 40 ∙ joined_same _ _ 40 drawn_column

  pub drawn_eighty :
      (tens inks part : List ℕ) → tens ≡ eighty_tens rom shown cells → inks ≡ inks_of shown → part ≡ joined (eighty_line_on tens inks) 10
      → part ≡ eighty_lines rom shown cells
  unfolding eighty_lines
  drawn_eighty tens inks part is-tens is-inks is-part = is-part ∙ joined_same _ _ 10 (λ n h. drawn_line tens inks is-tens is-inks n h)

  line_long : (n : ℕ) → length (eighty_line rom shown cells n) ≡ line_bytes eighty_bytes
  unfolding eighty_line
  line_long n = columns_long eighty_bytes _ (λ x l. pair_long rom shown (get_or cells x []) n)

  -- a row is 2,400 bytes
  pub eighty_long : length (eighty_lines rom shown cells) ≡ row_bytes eighty_bytes
  unfolding eighty_lines
  eighty_long = lines_long eighty_bytes _ (λ n l. line_long n)
