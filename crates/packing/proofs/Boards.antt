-- Laws of the byte that stands for a board and for busy.
-- Assumes nothing.
use Prim.Native.Nat.{ℕ, ◌%◌}
use mathlib.Core.Path.{◌≡◌, refl, ap, ◌∙◌}
use mathlib.Core.Bool.{Bool, true, false, ◌||◌}
use mathlib.Core.List.{List, [], ◌∷◌}
use mathlib.Core.Logic.{⊎_elim}
use native.Mathlib.Omega.{arith}
use lib.Dec.{eqb}
use lib.ListN.{get_or}
use borrow.Author.Tests.{eqb-true}
use Rattle.basics.specs.Choice.{pick}
use Rattle.basics.proofs.Choice.{or_cases}
use Rattle.basics.proofs.Computed.{agree, agree_test}
use Rattle.board.specs.Boards.{is_board, full_board}
use Rattle.board.specs.declared.Part.{Part}
use Rattle.board.specs.declared.Part.TheVariants.{Ef9345, Ts9347}
use Rattle.packing.specs.Layouts.{board_byte, part_of_byte, blocks_of_byte, is_busy_byte}

-- one of three numbers
one_of_three : (P : ℕ → Type 0) (x y z n : ℕ) → P x → P y → P z → (eqb n x || (eqb n y || eqb n z)) ≡ true → P n
one_of_three P x y z n px py pz t =
    ⊎_elim (λ e. rw (eqb-true n x e) px)
    (λ u. ⊎_elim (λ e. rw (eqb-true n y e) py) (λ e. rw (eqb-true n z e) pz) (or_cases (eqb n y) (eqb n z) u))
    (or_cases (eqb n x) _ t)

-- a board's byte stands for its part, for its blocks and for busy
pub part_back : (part : Part) (blocks : ℕ) (busy : Bool) → is_board part blocks ≡ true → part_of_byte (board_byte blocks busy) ≡ part
part_back Ef9345 blocks true b = one_of_three (λ n. part_of_byte (board_byte n true) ≡ Ef9345) 2 8 16 blocks refl refl refl b
part_back Ef9345 blocks false b = one_of_three (λ n. part_of_byte (board_byte n false) ≡ Ef9345) 2 8 16 blocks refl refl refl b
part_back Ts9347 blocks true b = rw (eqb-true blocks 32 b)
part_back Ts9347 blocks false b = rw (eqb-true blocks 32 b)

pub blocks_back : (part : Part) (blocks : ℕ) (busy : Bool) → is_board part blocks ≡ true → blocks_of_byte (board_byte blocks busy) ≡ blocks
blocks_back Ef9345 blocks true b = one_of_three (λ n. blocks_of_byte (board_byte n true) ≡ n) 2 8 16 blocks refl refl refl b
blocks_back Ef9345 blocks false b = one_of_three (λ n. blocks_of_byte (board_byte n false) ≡ n) 2 8 16 blocks refl refl refl b
blocks_back Ts9347 blocks true b = rw (eqb-true blocks 32 b)
blocks_back Ts9347 blocks false b = rw (eqb-true blocks 32 b)

pub busy_back : (part : Part) (blocks : ℕ) (busy : Bool) → is_board part blocks ≡ true → is_busy_byte (board_byte blocks busy) ≡ busy
busy_back Ef9345 blocks true b = one_of_three (λ n. is_busy_byte (board_byte n true) ≡ true) 2 8 16 blocks refl refl refl b
busy_back Ef9345 blocks false b = one_of_three (λ n. is_busy_byte (board_byte n false) ≡ false) 2 8 16 blocks refl refl refl b
busy_back Ts9347 blocks true b = rw (eqb-true blocks 32 b)
busy_back Ts9347 blocks false b = rw (eqb-true blocks 32 b)

-- by the four bits
abbrev part_at : ℕ → Part
part_at k = pick (eqb k 4) Ts9347 Ef9345

abbrev blocks_at : ℕ → ℕ
blocks_at k = pick (eqb k 4) 32 (pick (is_board Ef9345 k) k full_board)

-- every byte stands for a board
pub board_named : (b : ℕ) → is_board (part_of_byte b) (blocks_of_byte b) ≡ true
board_named b = agree_test (λ k. is_board (part_at k) (blocks_at k)) (λ k. true) 16 tt (b % 16) (omega arith)

-- the code's table has its blocks
abbrev listed : List ℕ
listed = 16 ∷ 16 ∷ 2 ∷ 16 ∷ 32 ∷ 16 ∷ 16 ∷ 16 ∷ 8 ∷ 16 ∷ 16 ∷ 16 ∷ 16 ∷ 16 ∷ 16 ∷ 16 ∷ []

pub blocks_listed : (b i : ℕ) → i ≡ b % 16 → get_or listed i 0 ≡ blocks_of_byte b
blocks_listed b i e = ap (λ (k : ℕ). get_or listed k 0) e ∙ agree (λ k. get_or listed k 0) blocks_at 16 tt (b % 16) (omega arith)
