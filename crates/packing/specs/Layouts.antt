-- The 64 bytes that hold a processor.
-- Assumes nothing.
use Rattle.std.specs.Prelude.{ℕ, ◌+◌, ◌*◌, ◌/◌, ◌%◌, Bool, not, List, [], ◌∷◌, ◌++◌, map, eqb, leb, get_or, take, drop, replicate}
use Rattle.basics.specs.Choice.{pick, one_if}
use Rattle.board.specs.Boards.{is_board, full_board}
use Rattle.board.specs.declared.Part.{Part}
use Rattle.board.specs.declared.Part.TheVariants.{Ef9345, Ts9347}
use Rattle.processor.specs.declared.state.Processor.{Processor}

-- the byte of a board and of busy: the blocks modulo 16, 4 for every 32, and 16 while a move runs. So 0 stands for 16 blocks and idle, 2 and 8 for
-- themselves, and 4 for a TS9347's 32
abbrev pub board_byte : ℕ → Bool → ℕ
board_byte blocks busy = blocks % 16 + 4 * (blocks / 32) + 16 * one_if busy

-- by a byte's low four bits: 4 stands for a TS9347, since no number of blocks is of both parts
abbrev pub part_of_byte : ℕ → Part
part_of_byte b = pick (eqb (b % 16) 4) Ts9347 Ef9345

-- with its 32 blocks; what names no board stands for 16
abbrev pub blocks_of_byte : ℕ → ℕ
blocks_of_byte b = pick (eqb (b % 16) 4) 32 (pick (is_board Ef9345 (b % 16)) (b % 16) full_board)

-- a byte from 16 on stands for busy
abbrev pub is_busy_byte : ℕ → Bool
is_busy_byte b = leb 16 b

-- R0 to R7, the indirect registers by r, LXm, LXa, the phase, the 25 marks, the board with busy, and 19 bytes of 0. (A bit or a mark is 1 or 0.)
unfoldable pub packed : Processor → List ℕ
packed p =
    p.registers ++ p.indirect ++ (one_if p.lxm ∷ one_if p.lxa ∷ p.phase ∷ []) ++ map one_if p.marks ++ board_byte p.blocks p.busy ∷ replicate 19 0

-- any byte but 0 stands for a bit or a mark that is set
abbrev pub is_on : ℕ → Bool
is_on b = not (eqb b 0)

-- the same places of any 64 bytes
unfoldable pub unpacked : List ℕ → Processor
unpacked bytes =
    record {
      registers = take 8 bytes;
      indirect = take 8 (drop 8 bytes);
      lxm = is_on (get_or bytes 16 0);
      lxa = is_on (get_or bytes 17 0);
      phase = get_or bytes 18 0;
      marks = map is_on (take 25 (drop 19 bytes));
      blocks = blocks_of_byte (get_or bytes 44 0);
      busy = is_busy_byte (get_or bytes 44 0);
      part = part_of_byte (get_or bytes 44 0);
    }
