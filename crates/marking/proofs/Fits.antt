-- The blocks of the page that memory has, by the test of the code.
-- Assumes nothing.
use Prim.Native.Nat.{ℕ, ◌≤◌, ◌<◌}
use mathlib.Core.Path.{◌≡◌, ap, ◌∙◌}
use mathlib.Core.Bool.{false}
use mathlib.Core.List.{List}
use native.Mathlib.Omega.{arith}
use lib.ListN.{length}
use borrow.Author.Tests.{le-ltb}
use Rattle.board.specs.Boards.{bytes_of}
use Rattle.address.specs.Places.{block_of}
use Rattle.shown.specs.declared.Shown.{Shown}
use Rattle.shown.specs.Origins.{first_block}
use Rattle.page.specs.HowCodes.{is_fitted, Has}

-- z is the page's first block as the code has it, and second the one after it
module _ (shown : Shown) (z second : ℕ) (ez : z ≡ first_block shown) (es : second ≡ block_of z 1) where
  pub second_bare : shown.blocks ≤ second → is_fitted shown 1 ≡ false
  second_bare l = le-ltb (block_of (first_block shown) 1) shown.blocks (omega (arith, es ∙ ap (λ (k : ℕ). block_of k 1) ez))

  -- with the second block memory has the first, whose number is even
  module _ (m : List ℕ) (whole : length m ≡ bytes_of shown.blocks) (fits : second < shown.blocks) where
    pub has_second : Has m z 1
    has_second = omega (arith, whole, es)

    pub has_first : Has m z 0
    has_first = omega (arith, whole, es, ez)
