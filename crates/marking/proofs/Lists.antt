-- What the code asks of a row is what its list holds: a byte of the row's own, and in 40 columns also one of a row above that it reaches, and a
-- byte that one of its cells has as a slice.
-- Assumes nothing.
use Prim.Native.Nat.{ℕ, zero, suc, ◌%◌, ◌<◌}
use mathlib.Core.Path.{◌≡◌, refl, sym, ap, ap₂, ◌∙◌}
use mathlib.Core.Bool.{Bool, true, false, not, ◌&&◌, ◌||◌, and-false, and-true, and_comm, or-false}
use mathlib.Core.List.{List}
use native.Mathlib.Omega.{arith}
use lib.Dec.{eqb}
use lib.ListN.{length, get_or}
use Rattle.basics.proofs.Below.{any_same, any_never}
use Rattle.board.specs.Boards.{bytes_of}
use Rattle.board.specs.declared.Part.{Part}
use Rattle.board.specs.declared.Part.TheVariants.{Ef9345, Ts9347}
use Rattle.address.specs.Triples.{on_page}
use Rattle.address.specs.Places.{place_of, block_of}
use Rattle.address.specs.Rows.{row_y}
use Rattle.address.proofs.Laws.{y_facts, facts_y, page_row, facts_page, row_legal}
use Rattle.shown.specs.declared.Shown.{Shown}
use Rattle.shown.specs.Modes.{is_eighty}
use Rattle.shown.specs.Origins.{yor_of, highest_bit, first_block}
use Rattle.page.specs.Codes.{code_at}
use Rattle.page.specs.HowCodes.{code_of, is_fitted}
use Rattle.page.specs.Halves.{is_tall}
use Rattle.page.specs.Marks.{marked_too}
use Rattle.page.proofs.Codes.{code_kept, bare_block, bare_byte}
use Rattle.keys.specs.declared.key.Keys.{Keys}
use Rattle.reading.specs.Lists.{row_holds, cell_holds, slices_hold, has_tall, above_holds, on_list}
use Rattle.keys.specs.HowKeys.{AllFitted, some_block, keys_of, is_source, row_at, code_block, some_code_block}
use Rattle.asking.specs.HowAsked.{shows_character, tall_at, keyed_at}
use Rattle.marking.specs.HowMarked.{falls_to, some_on_list}
use Rattle.keys.proofs.Blocks.{some_same, some_fitted, some_each, some_none, some_or, some_any}
use Rattle.asking.proofs.Rows.{no_source, no_character}
use Rattle.keys.proofs.Characters.{keyed_cell, keys_high_lem}
use Rattle.keys.proofs.Places.{no_code_block, own_bytes, row_at_lem}
use Rattle.reading.proofs.Marking.{marked_none, marked_same, marked_twice, marked_long}
use Rattle.marking.proofs.Falls.{falls_alone}

-- own bytes and those above, and then slices; the list names the slices before those above
slices_last : (own slices above : Bool) → (own || (slices || above)) ≡ ((own || above) || slices)
slices_last true slices above = refl
slices_last false true true = refl
slices_last false true false = refl
slices_last false false true = refl
slices_last false false false = refl

-- the test of the block comes first
block_first : (code own tall falls : Bool) → ((code && own) || (tall && (code && falls))) ≡ (code && (own || (tall && falls)))
block_first true own tall falls = refl
block_first false own tall falls = and-false tall

-- the page's first block is one of 32, of either part
first_small : (shown : Shown) → first_block shown < 32
first_small shown = let h = high shown.part in omega arith
  where
    high : (part : Part) → highest_bit part shown.dor < 2
    high Ef9345 = omega arith
    high Ts9347 = omega arith

-- a cell whose B is 0 is not of double height, and has its slices from the ROM
module _ (code : List ℕ) (none : get_or code 1 0 ≡ 0) where
  bare_tall : (part : Part) → is_tall part code ≡ false
  unfolding is_tall
  bare_tall Ef9345 = rw none
  bare_tall Ts9347 = rw none

  bare_character : (t : ℕ) → shows_character t code ≡ false
  unfolding shows_character
  bare_character t = rw none (and-false (eqb (get_or code 0 0 % 128) t))

module _ (shown : Shown) (m : List ℕ) (whole : length m ≡ bytes_of shown.blocks) (x y : ℕ) (page : on_page x y ≡ true) where
  abbrev first : ℕ
  first = first_block shown

  abbrev tall : ℕ → Bool
  tall r = tall_at shown.part m first (row_y (yor_of shown) r)

  abbrev falls : ℕ → Bool
  falls = falls_to tall (row_at (yor_of shown) y)

  -- the list, by the mode
  listed : (b : Bool) → is_eighty shown ≡ b → (p r : ℕ) → on_list shown m p r ≡ (row_holds shown p r || (not b && (slices_hold shown m p r || above_holds shown m p r)))
  unfolding on_list
  listed b e p r = rw e

  -- a byte of its own
  own : (z r : ℕ) → z < shown.blocks → r < 25 → row_holds shown (place_of x y z) r ≡ (code_block first z && eqb r (row_at (yor_of shown) y))
  own z r fits l =
      sym (own_bytes x y z page shown fits r)
      ∙ ap (λ (t : Bool). code_block first z && t) (sym (row_at_lem (yor_of shown) y r l (facts_y y (page_row x y page))))

  -- the rows of double height, by the bytes that memory has
  tall_kept : (r : ℕ) → has_tall shown m r ≡ tall r
  unfolding has_tall
  tall_kept r = any_same _ _ 40 (λ i l. ap (is_tall shown.part) (code_kept shown m whole r i l))

  -- or of a row above
  reached : (z r : ℕ) → z < shown.blocks → r < 25 → (row_holds shown (place_of x y z) r || above_holds shown m (place_of x y z) r) ≡ (code_block first z && falls r)
  unfolding above_holds falls_to
  reached z zero fits l = or-false (row_holds shown (place_of x y z) 0) ∙ own z 0 fits l
  reached z (suc r) fits l =
      ap₂ ◌||◌ (own z (suc r) fits l) (ap₂ ◌&&◌ (tall_kept (suc r)) (reached z r fits (omega arith)))
      ∙ block_first (code_block first z) (eqb (suc r) (row_at (yor_of shown) y)) (tall (suc r)) (falls r)

  module _ (blocks : List ℕ) (fitted : AllFitted shown.blocks blocks) where
    -- in some block
    some_reached : (t : Bool) → some_block (λ z. code_block first z && t) blocks ≡ (some_code_block first blocks && t)
    unfolding some_code_block
    some_reached true =
        some_same blocks (λ z. code_block first z && true) (code_block first) (λ z. and-true (code_block first z))
        ∙ some_each blocks (code_block first) (no_code_block first (first_small shown))
        ∙ sym (and-true (code_block first (get_or blocks 0 0) || (code_block first (get_or blocks 1 0) || code_block first (get_or blocks 2 0))))
    some_reached false =
        some_same blocks (λ z. code_block first z && false) (λ z. false) (λ z. and-false (code_block first z))
        ∙ some_none blocks
        ∙ sym (and-false (code_block first (get_or blocks 0 0) || (code_block first (get_or blocks 1 0) || code_block first (get_or blocks 2 0))))

    -- in 80 columns a list is the row's own bytes; z and yor are what the code has
    module _ (eighty : is_eighty shown ≡ true) where
      own_asked : (r : ℕ) → r < 25 → some_on_list shown m x y blocks r ≡ (eqb r (row_at (yor_of shown) y) && some_code_block first blocks)
      unfolding some_on_list
      own_asked r l =
          some_fitted blocks shown.blocks fitted _ (λ z. code_block first z && eqb r (row_at (yor_of shown) y))
          (λ z fits. listed true eighty (place_of x y z) r ∙ or-false (row_holds shown (place_of x y z) r) ∙ own z r fits l)
          ∙ some_reached (eqb r (row_at (yor_of shown) y))
          ∙ and_comm (some_code_block first blocks) (eqb r (row_at (yor_of shown) y))

      pub list_own :
          (z yor : ℕ) → z ≡ first_block shown → yor ≡ yor_of shown → (marks after : List Bool)
          → after ≡ marked_too (λ r. eqb r (row_at yor y) && some_code_block z blocks) marks → after ≡ marked_too (some_on_list shown m x y blocks) marks
      list_own z yor ez eo marks after e = e ∙ marked_same _ marks _ (λ r l. rw (ez, eo) (sym (own_asked r l)))

    -- in 40 columns a slice of some block too
    module _ (forty : is_eighty shown ≡ false) (bytes : (k : ℕ) → get_or m k 0 < 256) where
      some_slices :
          (r : ℕ)
          → some_block (λ z. slices_hold shown m (place_of x y z) r) blocks ≡ keyed_at (keys_of shown x y blocks) m first (row_y (yor_of shown) r)
      unfolding slices_hold code_of
      some_slices r =
          some_any blocks (λ z i. cell_holds shown (place_of x y z) (code_at shown m r i)) 40
          ∙ any_same _ _ 40
          (λ i l.
          let code = code_of m first (row_y (yor_of shown) r) i in
          some_same blocks _ _ (λ z. ap (cell_holds shown (place_of x y z)) (code_kept shown m whole r i l))
          ∙ sym (keyed_cell shown x y page blocks code fitted (bytes (place_of i (row_y (yor_of shown) r) (block_of first 1)))))

      pub asked :
          (r : ℕ) → r < 25
          → some_on_list shown m x y blocks r
          ≡ ((some_code_block first blocks && falls r) || keyed_at (keys_of shown x y blocks) m first (row_y (yor_of shown) r))
      unfolding some_on_list
      asked r l =
          some_fitted blocks shown.blocks fitted _ (λ z. (code_block first z && falls r) || slices_hold shown m (place_of x y z) r)
          (λ z fits.
          listed false forty (place_of x y z) r
          ∙ slices_last (row_holds shown (place_of x y z) r) (slices_hold shown m (place_of x y z) r) (above_holds shown m (place_of x y z) r)
          ∙ ap (λ (t : Bool). t || slices_hold shown m (place_of x y z) r) (reached z r fits l))
          ∙ some_or blocks (λ z. code_block first z && falls r) (λ z. slices_hold shown m (place_of x y z) r)
          ∙ ap₂ ◌||◌ (some_reached (falls r)) (some_slices r)

      -- where the second block of the page is not fitted, the row's own bytes are all again
      module _ (bare : is_fitted shown 1 ≡ false) where
        no_b : (r i : ℕ) → i < 40 → get_or (code_of m first (row_y (yor_of shown) r) i) 1 0 ≡ 0
        unfolding code_of
        no_b r i l =
            let row = row_y (yor_of shown) r in
            bare_byte m first row i 1 (facts_page i row l (y_facts row (row_legal (yor_of shown) r))) (bare_block shown m whole 1 bare)

        no_tall : (r : ℕ) → tall r ≡ false
        no_tall r = any_never _ 40 (λ i l. bare_tall _ (no_b r i l) shown.part)

        no_keyed : (r : ℕ) → keyed_at (keys_of shown x y blocks) m first (row_y (yor_of shown) r) ≡ false
        no_keyed r =
            let keys = keys_of shown x y blocks in
            sym
            (no_character keys (keys_high_lem shown x y blocks keys refl) (code_of m first (row_y (yor_of shown) r)) 40
            (any_never _ 40 (λ i l. bare_character _ (no_b r i l) keys.character)))

        bare_asked : (r : ℕ) → r < 25 → some_on_list shown m x y blocks r ≡ (eqb r (row_at (yor_of shown) y) && some_code_block first blocks)
        bare_asked r l =
            asked r l
            ∙ ap₂ ◌||◌ (ap (λ (t : Bool). some_code_block first blocks && t) (falls_alone tall (row_at (yor_of shown) y) no_tall r)) (no_keyed r)
            ∙ or-false (some_code_block first blocks && eqb r (row_at (yor_of shown) y))
            ∙ and_comm (some_code_block first blocks) (eqb r (row_at (yor_of shown) y))

        pub list_bare :
            (z yor : ℕ) → z ≡ first_block shown → yor ≡ yor_of shown → (marks after : List Bool)
            → after ≡ marked_too (λ r. eqb r (row_at yor y) && some_code_block z blocks) marks → after ≡ marked_too (some_on_list shown m x y blocks) marks
        list_bare z yor ez eo marks after e = e ∙ marked_same _ marks _ (λ r l. rw (ez, eo) (sym (bare_asked r l)))

      -- the rows that are reached are marked, and then those whose cells the keys fit; z, yor and keys are what the code has
      module _
          (z yor : ℕ) (keys : Keys) (ez : z ≡ first_block shown) (eo : yor ≡ yor_of shown) (ek : keys ≡ keys_of shown x y blocks)
          (marks between : List Bool)
          (d : between ≡ marked_too (λ r. some_code_block z blocks && falls_to (λ i. tall_at shown.part m z (row_y yor i)) (row_at yor y) r) marks)
        where
          pub list_asked : (after : List Bool) → after ≡ marked_too (λ r. keyed_at keys m z (row_y yor r)) between → after ≡ marked_too (some_on_list shown m x y blocks) marks
          list_asked after e =
              e
              ∙ ap (marked_too (λ r. keyed_at keys m z (row_y yor r))) d
              ∙ marked_twice _ marks _ _ (λ r l. rw (ez, eo, ek) (sym (asked r l)))

          -- no byte can have the source
          pub list_left : (source : Bool) → source ≡ is_source keys → source ≡ false → between ≡ marked_too (some_on_list shown m x y blocks) marks
          list_left source es none =
              list_asked between (marked_none _ between (ap length d ∙ marked_long _ marks) (λ r l. no_source keys 40 (sym es ∙ none) m z (row_y yor r) bytes))

-- whether a block of the page is among them
module _ (some code : Bool) (es : some ≡ code) (tall : ℕ → Bool) (at : ℕ) (marks : List Bool) where
  pub own_reached :
      (row : ℕ) (after : List Bool) → some ≡ true → row ≡ at → after ≡ marked_too (falls_to tall row) marks
      → after ≡ marked_too (λ r. code && falls_to tall at r) marks
  own_reached row after t ea e =
      e ∙ marked_same _ marks _ (λ i l. ap (λ (k : ℕ). falls_to tall k i) ea ∙ sym (ap (λ (b : Bool). b && falls_to tall at i) (sym es ∙ t)))

  pub own_left : some ≡ false → length marks ≡ 25 → marks ≡ marked_too (λ r. code && falls_to tall at r) marks
  own_left f h = marked_none _ marks h (λ i l. ap (λ (b : Bool). b && falls_to tall at i) (sym es ∙ f))
