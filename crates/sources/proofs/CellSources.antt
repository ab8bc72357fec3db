-- The source of a cell by B: below 128 a set of the ROM, from 128 on a block of memory, in which the parts do not differ.
-- Assumes nothing.
use Prim.Native.Nat.{ℕ, ◌+◌, ◌*◌, ◌/◌, ◌%◌, ◌<◌, ◌≤◌}
use mathlib.Core.Path.{◌≡◌, refl, sym, ap, ◌∙◌}
use mathlib.Core.Bool.{Bool, true, false}
use mathlib.Core.List.{List, [], ◌∷◌}
use mathlib.Core.Logic.{⊎_elim}
use native.Mathlib.Omega.{arith}
use lib.ListN.{get_or}
use borrow.Author.Tests.{lt-ltb, le-ltb}
use Rattle.basics.specs.Bits.{bits}
use Rattle.basics.specs.Choice.{pick}
use Rattle.basics.proofs.Choice.{lt_or_le}
use Rattle.basics.proofs.Few.{eight}
use Rattle.board.specs.declared.Part.{Part}
use Rattle.board.specs.declared.Part.TheVariants.{Ef9345, Ts9347}
use Rattle.shown.specs.declared.Shown.{Shown}
use Rattle.shown.specs.Lengths.{rom_bytes}
use Rattle.cell.specs.declared.kind.Set.TheVariants.{UserG0, UserG1}
use Rattle.cell.specs.declared.kind.Cell.TheVariants.{Bichrome, Quadrichrome}
use Rattle.cell.specs.Cells.{ef9345_set, ts9347_set, set_of, bichrome_of, quadrichrome_of, is_quadrichrome, cell_of}
use Rattle.cell.specs.HowCells.{last_bichrome}
use Rattle.cell.proofs.Codes.{set-UserG0, set-UserG1, ts9347-G0, ts9347-G10, ts9347-Goe, ts9347-UserG0, ts9347-UserG1, ts9347-Q, below_last, cell_bichrome, cell_quadrichrome}
use Rattle.sources.specs.Sources.{set_source, cell_source, character_of}
use Rattle.sources.specs.HowSources.{set_number, sets_from, user_block}
use Rattle.sources.specs.declared.source.Source.{Source}
use Rattle.sources.specs.declared.source.Source.TheVariants.{Rom, Block}

-- an EF9345's sets of B7..B4 below 8 are those of its ROM
ef9345_plain : (shown : Shown) → shown.part ≡ Ef9345 → (high : ℕ) → high < 8 → set_source shown (ef9345_set high) ≡ Rom (set_number Ef9345 high)
unfolding ef9345_set
ef9345_plain shown e =
    eight (λ high. set_source shown (ef9345_set high) ≡ Rom (set_number Ef9345 high)) (rw e refl) (rw e refl) (rw e refl) (rw e refl) (rw e refl) (rw e refl) (rw e refl) (rw e refl)

-- and a TS9347's of B below 128 those of its own
module _ (shown : Shown) (e : shown.part ≡ Ts9347) (b : ℕ) (l : b < 128) where
  from-G0 : b / 16 % 4 < 2 → set_source shown (ts9347_set b) ≡ Rom 2
  from-G0 h = rw (← (ts9347-G0 b l h), e)

  from-G10 : b / 16 % 4 ≡ 2 → set_source shown (ts9347_set b) ≡ Rom 0
  from-G10 h = rw (← (ts9347-G10 b l h), e)

  from-Goe : b / 16 % 4 ≡ 3 → set_source shown (ts9347_set b) ≡ Rom 1
  from-Goe h = rw (← (ts9347-Goe b l h), e)

  ts9347_plain : set_source shown (ts9347_set b) ≡ Rom (set_number Ts9347 (b / 16 % 8))
  ts9347_plain =
      eight (λ high. b / 16 % 8 ≡ high → set_source shown (ts9347_set b) ≡ Rom (set_number Ts9347 high))
      (λ q. from-G0 (omega (arith, q))) (λ q. from-G0 (omega (arith, q))) (λ q. from-G10 (omega (arith, q))) (λ q. from-Goe (omega (arith, q)))
      (λ q. from-G0 (omega (arith, q))) (λ q. from-G0 (omega (arith, q))) (λ q. from-G10 (omega (arith, q))) (λ q. from-Goe (omega (arith, q)))
      (b / 16 % 8) (omega arith) refl

pub set_plain : (part : Part) (shown : Shown) → shown.part ≡ part → (b : ℕ) → b < 128 → set_source shown (set_of part b) ≡ Rom (set_number part (b / 16 % 8))
set_plain Ef9345 shown e b l =
    let high : bits 4 4 b ≡ b / 16 % 8 = omega (arith, l) in rw high (ef9345_plain shown e (b / 16 % 8) (omega arith))
set_plain Ts9347 shown e b l = ts9347_plain shown e b l

-- the table of the code has those of both parts
abbrev sets_listed : List ℕ
sets_listed = 0 ∷ 0 ∷ 1 ∷ 2 ∷ 3 ∷ 3 ∷ 4 ∷ 4 ∷ 2 ∷ 2 ∷ 0 ∷ 1 ∷ 2 ∷ 2 ∷ 0 ∷ 1 ∷ []

pub sets_small : (part : Part) → sets_from part ≤ 8
sets_small Ef9345 = omega arith
sets_small Ts9347 = omega arith

set_listed : (part : Part) (high : ℕ) → high < 8 → get_or sets_listed (sets_from part + high) 0 ≡ set_number part high
set_listed Ef9345 = eight (λ high. get_or sets_listed (0 + high) 0 ≡ set_number Ef9345 high) refl refl refl refl refl refl refl refl
set_listed Ts9347 = eight (λ high. get_or sets_listed (8 + high) 0 ≡ set_number Ts9347 high) refl refl refl refl refl refl refl refl

pub set_read :
    (part : Part) (b first place set : ℕ) → first ≡ sets_from part → place ≡ first + b / 16 % 8 → set ≡ get_or sets_listed place 0 → set ≡ set_number part (b / 16 % 8)
set_read part b first place set p q r =
    r ∙ ap (λ (i : ℕ). get_or sets_listed i 0) (q ∙ ap (λ (k : ℕ). k + b / 16 % 8) p) ∙ set_listed part (b / 16 % 8) (omega arith)

-- a set is one of the part's
pub set_fits : (part : Part) (high : ℕ) → high < 8 → 1280 * set_number part high + 1280 ≤ rom_bytes part
set_fits Ef9345 =
    eight (λ high. 1280 * set_number Ef9345 high + 1280 ≤ rom_bytes Ef9345)
    (omega arith) (omega arith) (omega arith) (omega arith) (omega arith) (omega arith) (omega arith) (omega arith)
set_fits Ts9347 =
    eight (λ high. 1280 * set_number Ts9347 high + 1280 ≤ rom_bytes Ts9347)
    (omega arith) (omega arith) (omega arith) (omega arith) (omega arith) (omega arith) (omega arith) (omega arith)

-- the block, at the sums that the code has
module _ (dor b : ℕ) where
  pub user_zero : b < 160 → dor % 16 ≡ user_block dor b
  user_zero l = rw (lt-ltb b 160 l)

  pub user_one : 160 ≤ b → b < 192 → dor / 16 % 8 * 2 + b / 16 % 2 ≡ user_block dor b
  user_one k l = rw (le-ltb b 160 k, lt-ltb b 192 l) (omega arith)

  pub user_q : 192 ≤ b → b < 256 → dor < 256 → dor / 128 * 8 + b / 8 % 8 ≡ user_block dor b
  user_q k h l = rw (le-ltb b 160 (omega (arith, k)), le-ltb b 192 k) (omega (arith, h, l))

-- the source of a cell, by B, of either part
module _ (shown : Shown) (c b a : ℕ) (small : b < 256) where
  abbrev pub source_of : Part → Source
  source_of part = cell_source shown (cell_of part c b a)

  bichrome : (part : Part) → b ≤ last_bichrome part → source_of part ≡ set_source shown (set_of part b)
  unfolding bichrome_of
  bichrome part l = ap (cell_source shown) (sym (cell_bichrome part c b a small l))

  pub of_set : (part : Part) → b < 192 → source_of part ≡ set_source shown (set_of part b)
  of_set part l = bichrome part (below_last part b l)

  pub source_user0 : (part : Part) → 128 ≤ b → b < 160 → source_of part ≡ Block (shown.dor % 16)
  source_user0 part h l = of_set part (omega arith) ∙ ap (set_source shown) (sym (named part)) ∙ ap Block (omega arith)
    where
      named : (part : Part) → UserG0 ≡ set_of part b
      named Ef9345 = set-UserG0 (bits 4 4 b) (omega arith) (omega arith)
      named Ts9347 = ts9347-UserG0 b h l

  pub source_user1 : (part : Part) → 160 ≤ b → b < 192 → source_of part ≡ Block (2 * (shown.dor / 16 % 8) + b / 16 % 2)
  source_user1 part h l = of_set part l ∙ ap (set_source shown) (sym (named part)) ∙ ap Block (omega arith)
    where
      named : (part : Part) → UserG1 (b / 16 % 2) ≡ set_of part b
      named Ef9345 = let e : b / 16 % 2 ≡ bits 4 4 b % 2 = omega arith in ap UserG1 e ∙ set-UserG1 (bits 4 4 b) (omega arith)
      named Ts9347 = ts9347-UserG1 b h l

  -- quadrichrome of the one, of a set Q of the other: the same block
  pub source_quad : (part : Part) → 192 ≤ b → source_of part ≡ Block (8 * (shown.dor / 128 % 2) + b / 8 % 8)
  unfolding last_bichrome quadrichrome_of
  source_quad Ef9345 h = ap (cell_source shown) (sym (cell_quadrichrome Ef9345 c b a small (omega arith))) ∙ ap Block (omega arith)
  source_quad Ts9347 h = bichrome Ts9347 (omega arith) ∙ ap (set_source shown) (sym (ts9347-Q b h small)) ∙ ap Block (omega arith)

  -- the set and the block as the code works them out
  pub source_rom : b < 128 → (set : ℕ) → set ≡ set_number shown.part (b / 16 % 8) → Rom set ≡ source_of shown.part
  source_rom l set e = ap Rom e ∙ sym (of_set shown.part (omega (arith, l)) ∙ set_plain shown.part shown refl b l)

  pub source_user : (part : Part) → 128 ≤ b → (z : ℕ) → z ≡ user_block shown.dor b → Block z ≡ source_of part
  source_user part h z e = ap Block e ∙ ⊎_elim zero later (lt_or_le b 160)
    where
      zero : b < 160 → Block (user_block shown.dor b) ≡ source_of part
      zero l = rw (lt-ltb b 160 l) (sym (source_user0 part h l))

      one : 160 ≤ b → b < 192 → Block (user_block shown.dor b) ≡ source_of part
      one k l = rw (le-ltb b 160 k, lt-ltb b 192 l) (sym (source_user1 part k l))

      q : 160 ≤ b → 192 ≤ b → Block (user_block shown.dor b) ≡ source_of part
      q k l = rw (le-ltb b 160 k, le-ltb b 192 l) (sym (source_quad part l))

      later : 160 ≤ b → Block (user_block shown.dor b) ≡ source_of part
      later k = ⊎_elim (one k) (q k) (lt_or_le b 192)

pub character : (part : Part) (c b a : ℕ) → character_of (cell_of part c b a) ≡ c
unfolding cell_of bichrome_of quadrichrome_of
character part c b a = go (is_quadrichrome part b)
  where
    go : (q : Bool) → character_of (pick q (Quadrichrome (quadrichrome_of c b a)) (Bichrome (bichrome_of part c b a))) ≡ c
    go true = refl
    go false = refl
