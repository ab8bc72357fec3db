-- Demand 1: each number of an operation is given, after a run of operations from power-up. The memory, the ROM and the picture are of zeros.
-- Assumes nothing.
use Rattle.std.specs.Prelude.{Some}
use Prim.Native.Nat.{ℕ, ◌<◌}
use mathlib.Core.Path.{◌≡◌, refl, sym, ap, subst, ◌∙◌}
use mathlib.Core.Bool.{true, false}
use mathlib.Core.List.{List, [], ◌∷◌}
use mathlib.Core.Logic.{◌≢◌, inl}
use native.Mathlib.Omega.{arith}
use lib.ListN.{length, replicate, length-replicate, length-set}
use Rattle.basics.specs.Parts.{joined}
use Rattle.address.specs.Addresses.{address_of}
use Rattle.board.specs.Boards.{full_board, bytes_of}
use Rattle.board.specs.declared.Part.{Part}
use Rattle.board.specs.declared.Part.TheVariants.{Ef9345}
use Rattle.address.specs.Places.{place_of}
use Rattle.address.specs.Triples.{on_page, legal_y}
use Rattle.shown.specs.Lengths.{rom_bytes, forty_bytes, picture_bytes}
use Rattle.shown.specs.Modes.{is_eighty}
use Rattle.shown.specs.Refusals.{refused7, refused8}
use Rattle.command.specs.declared.Command.TheVariants.{Ind, Move}
use Rattle.command.specs.Commands.{command_of, command_for}
use Rattle.command.specs.Held.{is_write_held}
use Rattle.command.proofs.Listed.{named, lists_ind}
use Rattle.processor.specs.States.{chip, powered_up, with_register, indirect_written}
use Rattle.processor.specs.Access.{effect, indirect}
use Rattle.processor.specs.Pointers.{pointer_of}
use Rattle.processor.specs.Sizes.{Sized}
use Rattle.kept.specs.Demands.{Gives, EachNumberReached, put, execute, Idle}
use Rattle.kept.specs.Premises.{Fair}
use Rattle.kept.specs.Runs.{own, other, Operation, write, turn, draw, World, first, step, run, done}
use Rattle.kept.proofs.Boards.{Whole, power_up_whole}
use Rattle.kept.proofs.Numbers.{number_first}
use Rattle.kept.proofs.Programs.{written_in, put_step, idle_free, execute_step}
use Rattle.kept.proofs.Refusals.{world_with}
use Rattle.kept.proofs.Sizes.{power_up_sized}

unfoldable pub zeros : ℕ → List ℕ
zeros n = replicate n 0

pub long : (n : ℕ) → length (zeros n) ≡ n
unfolding zeros
long n = length-replicate n 0

abbrev pub picture : List ℕ
picture = zeros (picture_bytes forty_bytes)

-- power-up of a part with so many blocks
module _ (part : Part) (blocks : ℕ) where
  abbrev pub start : World
  start = first part blocks (zeros (bytes_of blocks)) (zeros (rom_bytes part)) picture

  start_whole : Whole start
  start_whole = power_up_whole part blocks (zeros (bytes_of blocks)) (long (bytes_of blocks))

  start_idle : Idle start
  unfolding powered_up
  start_idle = refl

-- of an EF9345 with 16
abbrev pub memory_bytes : ℕ
memory_bytes = bytes_of full_board

abbrev pub characters : ℕ
characters = rom_bytes Ef9345

abbrev pub at_first : World
at_first = start Ef9345 full_board

-- an operation at once
at_once : (o : Operation) (n : ℕ) → Fair o at_first → (done o at_first).number ≡ n → Gives n
at_once o n g e =
    record {
      part = Ef9345;
      blocks = full_board;
      board = refl;
      memory = zeros memory_bytes;
      rom = zeros characters;
      picture = picture;
      before = [];
      last = o;
      fair = (g, tt);
      happens = e;
    }

-- no list is as long as a memory, a ROM or a picture
none_long : (n : ℕ) → 0 < n → length {A = ℕ} [] ≢ n
none_long n l e = omega arith

gives_0 : Gives 0
unfolding powered_up command_of command_for
gives_0 = at_once (write own 0x20 0x00) 0 tt (number_first (write own 0x20 0x00) at_first ∙ rw (long memory_bytes))

gives_1 : Gives 1
unfolding powered_up
gives_1 = at_once (write (other []) 0x20 0x00) 1 (none_long memory_bytes (omega arith)) (number_first (write (other []) 0x20 0x00) at_first)

gives_2 : Gives 2
unfolding powered_up
gives_2 = at_once (write own 0x30 0x00) 2 tt (number_first (write own 0x30 0x00) at_first ∙ rw (long memory_bytes))

gives_3 : Gives 3
unfolding powered_up command_of command_for
gives_3 = at_once (write own 0x28 0x05) 3 tt (number_first (write own 0x28 0x05) at_first ∙ rw (long memory_bytes))

gives_5 : Gives 5
unfolding powered_up
gives_5 =
    let o = draw own (other []) own in
    at_once o 5 (tt, none_long characters (omega arith), inl tt) (number_first o at_first ∙ rw (long memory_bytes))

gives_6 : Gives 6
unfolding powered_up is_eighty refused7
gives_6 =
    let o = draw own own (other []) in
    at_once o 6 (tt, tt, inl (none_long (picture_bytes forty_bytes) (omega arith))) (number_first o at_first ∙ rw (long memory_bytes, long characters))

-- at power-up the origin is 0
gives_8 : Gives 8
unfolding powered_up is_eighty refused7 refused8
gives_8 =
    at_once (draw own own own) 8 (tt, tt, inl tt)
    (number_first (draw own own own) at_first ∙ rw (long memory_bytes, long characters, long (picture_bytes forty_bytes)))

gives_9 : Gives 9
unfolding powered_up
gives_9 = at_once (turn own 2) 9 tt (number_first (turn own 2) at_first ∙ rw (long memory_bytes))

-- KRF at X 40, which is written to R7 first
gives_4 : Gives 4
unfolding powered_up command_of command_for pointer_of address_of on_page legal_y place_of
gives_4 =
    record {
      part = Ef9345;
      blocks = full_board;
      board = refl;
      memory = zeros memory_bytes;
      rom = zeros characters;
      picture = picture;
      before = put 7 40 ∷ [];
      last = execute 0x00;
      fair = (tt, (tt, tt));
      happens =
          subst (λ (w : World). (done (execute 0x00) w).number ≡ 4) (sym (put_step at_first (start_whole Ef9345 full_board) (start_idle Ef9345 full_board) 7 40 (omega arith)))
          (number_first (execute 0x00) (written_in at_first 7 40) ∙ rw (long memory_bytes));
    }

-- KRF at (0, 0, 0) of a 2 block board: A is in block 2
gives_11 : Gives 11
unfolding powered_up command_of command_for pointer_of address_of on_page legal_y place_of
gives_11 =
    record {
      part = Ef9345;
      blocks = 2;
      board = refl;
      memory = zeros (bytes_of 2);
      rom = zeros characters;
      picture = picture;
      before = [];
      last = execute 0x00;
      fair = (tt, tt);
      happens = number_first (execute 0x00) (first Ef9345 2 (zeros (bytes_of 2)) (zeros characters) picture) ∙ rw (long (bytes_of 2));
    }

-- IND: v written to R1 and from there to the register that the command names
abbrev pub setting : ℕ → ℕ → List Operation
setting v code = put 1 v ∷ execute code ∷ []

abbrev pub set_in : World → ℕ → ℕ → ℕ → World
set_in w v code r = world_with w (indirect_written (with_register (with_register w.processor 1 v) 0 code) r) w.memory w.picture

pub setting_in :
    (w : World) → Whole w → Idle w → Sized w.processor → (v code r : ℕ) → command_of code ≡ Some (Ind r false) →
    run (setting v code) w ≡ set_in w v code r
unfolding indirect
setting_in w whole idle s v code r is =
    ap (step (execute code)) (put_step w whole idle 1 v (omega arith))
    ∙ execute_step (written_in w 1 v) whole (length-set w.processor.registers 1 v ∙ s.0, s.1, s.2) code (idle_free (written_in w 1 v) code idle) (Some (Ind r false))
    (named w.processor.part code (Some (Ind r false)) is (lists_ind w.processor.part r false)) refl refl refl refl

-- the same from power-up
module _ (part : Part) (blocks : ℕ) where
  abbrev pub set_up : ℕ → ℕ → ℕ → World
  set_up v code r = set_in (start part blocks) v code r

  pub setting_up : (v code r : ℕ) → command_of code ≡ Some (Ind r false) → run (setting v code) (start part blocks) ≡ set_up v code r
  setting_up = setting_in (start part blocks) (start_whole part blocks) (start_idle part blocks) (power_up_sized part blocks)

-- 128 in TGS
gives_7 : Gives 7
unfolding powered_up command_of command_for indirect_written is_eighty refused7
gives_7 =
    record {
      part = Ef9345;
      blocks = full_board;
      board = refl;
      memory = zeros memory_bytes;
      rom = zeros characters;
      picture = picture;
      before = setting 128 0x81;
      last = draw own own own;
      fair = (tt, (tt, ((tt, tt, inl tt), tt)));
      happens =
          subst (λ (w : World). (done (draw own own own) w).number ≡ 7) (sym (setting_up Ef9345 full_board 128 0x81 1 refl))
          (number_first (draw own own own) (set_up Ef9345 full_board 128 0x81 1) ∙ rw (long memory_bytes, long characters));
    }

-- MVB with a stop is started at (0, 0, 0), and then R1 is written
gives_10 : Gives 10
unfolding powered_up command_of command_for pointer_of address_of on_page legal_y place_of joined is_write_held
gives_10 =
    let k = chip (with_register at_first.processor 0 0xD5) (zeros memory_bytes) in
    record {
      part = Ef9345;
      blocks = full_board;
      board = refl;
      memory = zeros memory_bytes;
      rom = zeros characters;
      picture = picture;
      before = execute 0xD5 ∷ [];
      last = put 1 0;
      fair = (tt, (tt, tt));
      happens =
          subst (λ (w : World). (done (put 1 0) w).number ≡ 10)
          (sym (execute_step at_first (start_whole Ef9345 full_board) (power_up_sized Ef9345 full_board) 0xD5 (idle_free at_first 0xD5 (start_idle Ef9345 full_board)) (Some (Move 1 false true)) refl refl refl refl refl))
          (number_first (put 1 0) (world_with at_first (effect (Some (Move 1 false true)) k).processor (effect (Some (Move 1 false true)) k).memory picture)
          ∙ rw (long memory_bytes));
    }

pub each_number_reached : EachNumberReached
each_number_reached = (gives_0, gives_1, gives_2, gives_3, gives_4, gives_5, gives_6, gives_7, gives_8, gives_9, gives_10, gives_11)
