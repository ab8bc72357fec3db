-- Packing and unpacking a processor is a round trip, and any 64 bytes unpack to a processor.
-- Assumes nothing.
use Prim.Native.Nat.{ℕ, ◌+◌}
use mathlib.Core.Path.{◌≡◌, refl, sym, ap, ◌∙◌}
use mathlib.Core.Bool.{Bool, true, false}
use mathlib.Core.List.{List, [], ◌∷◌, ◌++◌, map, append_assoc}
use native.Mathlib.Omega.{arith}
use lib.ListN.{length, get_or, take, drop, length-append, length-map}
use lib.Seq.{get_or_at, take_at, drop_at, drop-drop, get_or-drop}
use Rattle.basics.specs.Choice.{one_if}
use Rattle.board.specs.Boards.{is_board}
use Rattle.processor.specs.declared.state.Processor.{Processor}
use Rattle.processor.specs.Sizes.{Sized}
use Rattle.packing.specs.Layouts.{packed, unpacked, is_on, part_of_byte, blocks_of_byte, is_busy_byte}
use Rattle.packing.proofs.Boards.{part_back, blocks_back, busy_back, board_named}
use Rattle.packing.proofs.Parts.{length_part, length_marks}

-- marks as bytes and back
on_one : (marks : List Bool) → map is_on (map one_if marks) ≡ marks
on_one [] = refl
on_one (true ∷ marks) = ap (λ (l : List Bool). true ∷ l) (on_one marks)
on_one (false ∷ marks) = ap (λ (l : List Bool). false ∷ l) (on_one marks)

on_flag : (b : Bool) → is_on (one_if b) ≡ b
on_flag true = refl
on_flag false = refl

-- parts of a list that is made of five
module _ (r i : List ℕ) (x y z : ℕ) (marks : List ℕ) (n : ℕ) (rest : List ℕ) (lr : length r ≡ 8) (li : length i ≡ 8) (lm : length marks ≡ 25) where
  abbrev whole : List ℕ
  whole = r ++ i ++ (x ∷ y ∷ z ∷ []) ++ marks ++ (n ∷ rest)

  abbrev after : List ℕ
  after = (x ∷ y ∷ z ∷ []) ++ (marks ++ (n ∷ rest))

  right_first : whole ≡ r ++ (i ++ after)
  right_first = simp append_assoc

  right_after : whole ≡ r ++ i ++ after
  right_after = simp append_assoc

  first_part : take 8 whole ≡ r
  first_part = ap (take 8) right_first ∙ take_at r (i ++ after) 8 lr

  second_part : take 8 (drop 8 whole) ≡ i
  second_part =
      ap (λ (l : List ℕ). take 8 (drop 8 l)) right_first ∙ ap (take 8) (drop_at r (i ++ after) 8 lr) ∙ take_at i after 8 li

  behind : drop 16 whole ≡ after
  behind = ap (drop 16) right_after ∙ drop_at (r ++ i) after 16 (length-append r i ∙ omega arith)

  at_place : (n : ℕ) → get_or whole (16 + n) 0 ≡ get_or after n 0
  at_place n = sym (get_or-drop 16 whole n 0) ∙ ap (λ (l : List ℕ). get_or l n 0) behind

  last_part : take 25 (drop 19 whole) ≡ marks
  last_part = ap (take 25) (sym (drop-drop 3 16 whole) ∙ ap (drop 3) behind) ∙ take_at marks (n ∷ rest) 25 lm

  board_place : get_or whole 44 0 ≡ n
  board_place = at_place 28 ∙ get_or_at marks n rest 0 25 lm

  -- unpacked
  made :
      unpacked whole
      ≡ record { registers = r; indirect = i; lxm = is_on x; lxa = is_on y; phase = z; marks = map is_on marks; blocks = blocks_of_byte n; busy = is_busy_byte n; part = part_of_byte n }
  unfolding unpacked
  made = rw (first_part, second_part, at_place 0, at_place 1, at_place 2, last_part, board_place)

-- every processor of a board comes back as it was
pub unpacked_packed : (p : Processor) → Sized p → is_board p.part p.blocks ≡ true → unpacked (packed p) ≡ p
unfolding packed
unpacked_packed p s b =
    rw (made _ _ _ _ _ _ _ _ s.0 s.1 (length-map p.marks one_if ∙ s.2), blocks_back p.part p.blocks p.busy b, busy_back p.part p.blocks p.busy b, part_back p.part p.blocks p.busy b) (simp (on_flag, on_one))

-- any 64 bytes are a processor's
pub unpacked_sized : (bytes : List ℕ) → length bytes ≡ 64 → Sized (unpacked bytes)
unfolding unpacked
unpacked_sized bytes l = (length_part 0 8 bytes (omega arith), length_part 8 8 bytes (omega arith), length_marks 19 25 bytes (omega arith))

pub unpacked_board : (bytes : List ℕ) → is_board (unpacked bytes).part (unpacked bytes).blocks ≡ true
unfolding unpacked
unpacked_board bytes = board_named (get_or bytes 44 0)
