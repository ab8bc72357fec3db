-- The processor's state and its registers.
-- Assumes nothing.
use Rattle.std.specs.Prelude.{ℕ, ◌+◌, ◌*◌, Bool, false, not, ◌&&◌, ◌||◌, List, [], ◌∷◌, eqb, get_or, set}
use Rattle.basics.specs.Choice.{pick, one_if}
use Rattle.board.specs.Boards.{full_board}
use Rattle.board.specs.declared.Part.{Part}
use Rattle.board.specs.declared.Part.TheVariants.{Ef9345}
use Rattle.shown.specs.declared.Shown.{Shown}
use Rattle.shown.specs.Modes.{is_eighty}
use Rattle.page.specs.Marks.{all_marked}
use Rattle.processor.specs.declared.state.Processor.{Processor}

-- the registers by name; R0 written is the command
abbrev pub register_of : Processor → ℕ → ℕ
register_of p n = get_or p.registers n 0

-- what a page is drawn by: the indirect registers by r (TGS 1, MAT 2, PAT 3, DOR 4, ROR 7), the phase, and the board
abbrev pub shown_by : List ℕ → ℕ → ℕ → Part → Shown
shown_by i phase blocks part =
    record { tgs = get_or i 1 0; mat = get_or i 2 0; pat = get_or i 3 0; dor = get_or i 4 0; ror = get_or i 7 0; phase = phase; blocks = blocks; part = part }

abbrev pub shown_of : Processor → Shown
shown_of p = shown_by p.indirect p.phase p.blocks p.part

-- Power-up of a part with so many blocks: all registers and both LX bits 0, command 91 hex, phase 0, every row marked. (Nothing runs.)
unfoldable pub powered_up : Part → ℕ → Processor
powered_up part blocks =
    record {
      registers = 0x91 ∷ 0 ∷ 0 ∷ 0 ∷ 0 ∷ 0 ∷ 0 ∷ 0 ∷ [];
      indirect = 0 ∷ 0 ∷ 0 ∷ 0 ∷ 0 ∷ 0 ∷ 0 ∷ 0 ∷ [];
      lxm = false;
      lxa = false;
      phase = 0;
      marks = all_marked;
      blocks = blocks;
      busy = false;
      part = part;
    }

-- of which nothing else is said: an EF9345 with 16 blocks
abbrev pub power_up : Processor
power_up = powered_up Ef9345 full_board

-- the state with one part other
abbrev pub with_registers : Processor → List ℕ → Processor
with_registers p l = record { registers = l; indirect = p.indirect; lxm = p.lxm; lxa = p.lxa; phase = p.phase; marks = p.marks; blocks = p.blocks; busy = p.busy; part = p.part }

abbrev pub with_lx : Processor → Bool → Bool → Processor
with_lx p m a = record { registers = p.registers; indirect = p.indirect; lxm = m; lxa = a; phase = p.phase; marks = p.marks; blocks = p.blocks; busy = p.busy; part = p.part }

abbrev pub with_marks : Processor → List Bool → Processor
with_marks p l = record { registers = p.registers; indirect = p.indirect; lxm = p.lxm; lxa = p.lxa; phase = p.phase; marks = l; blocks = p.blocks; busy = p.busy; part = p.part }

abbrev pub with_indirect : Processor → List ℕ → List Bool → Processor
with_indirect p i l = record { registers = p.registers; indirect = i; lxm = p.lxm; lxa = p.lxa; phase = p.phase; marks = l; blocks = p.blocks; busy = p.busy; part = p.part }

abbrev pub with_phase : Processor → ℕ → List Bool → Processor
with_phase p n l = record { registers = p.registers; indirect = p.indirect; lxm = p.lxm; lxa = p.lxa; phase = n; marks = l; blocks = p.blocks; busy = p.busy; part = p.part }

-- a move runs, or none
abbrev pub with_busy : Processor → Bool → Processor
with_busy p b = record { registers = p.registers; indirect = p.indirect; lxm = p.lxm; lxa = p.lxa; phase = p.phase; marks = p.marks; blocks = p.blocks; busy = b; part = p.part }

-- register n written
abbrev pub with_register : Processor → ℕ → ℕ → Processor
with_register p n v = with_registers p (set p.registers n v)

-- R0 read is the status: bit 7 busy, 6 set if either LX is set, 5 LXm, 4 LXa, others 0
unfoldable pub status_of : Processor → ℕ
status_of p = 128 * one_if p.busy + 64 * one_if (p.lxm || p.lxa) + 32 * one_if p.lxm + 16 * one_if p.lxa

-- register n read
unfoldable pub register_read : Processor → ℕ → ℕ
register_read p n = pick (eqb n 0) (status_of p) (register_of p n)

-- An accepted KRF, OCT, KRL or move first clears both LX bits
abbrev pub cleared : Processor → Processor
cleared p = with_lx p false false

-- IND read: R1 from the register r
abbrev pub indirect_read : Processor → ℕ → Processor
indirect_read p r = with_register p 1 (get_or p.indirect r 0)

-- IND: R1 to the register r. A changed value in ROR, DOR, PAT or TGS marks all 25; in 80 columns one in MAT too. (2 is MAT.)
unfoldable pub indirect_written : Processor → ℕ → Processor
indirect_written p r =
    with_indirect p (set p.indirect r (register_of p 1))
    (pick (not (eqb (get_or p.indirect r 0) (register_of p 1)) && (not (eqb r 2) || is_eighty (shown_of p))) all_marked p.marks)

-- the chip: the state with the private memory
pub record Chip : Type 0 where
  pub processor : Processor
  pub memory : List ℕ

abbrev pub chip : Processor → List ℕ → Chip
chip p m = record { processor = p; memory = m }
