-- Demand 1: a draw of 25 rows of either part, one of some and not all, and one of 80 columns after one of 40 is accepted after a run of
-- operations from power-up.
-- Assumes nothing.
use Rattle.std.specs.Prelude.{Some}
use Prim.Native.Nat.{ℕ, ◌<◌}
use mathlib.Core.Path.{◌≡◌, refl, sym, ap, subst, ◌∙◌}
use mathlib.Core.Bool.{Bool, true, false, ◌||◌, false≢true}
use mathlib.Core.List.{List, [], ◌∷◌}
use mathlib.Core.Logic.{◌≢◌, inl, inr}
use native.Mathlib.Omega.{arith}
use lib.ListN.{length, length-set}
use borrow.Author.Tests.{eq-eqb}
use Rattle.basics.specs.Below.{count_below, any_below}
use Rattle.basics.specs.Parts.{joined}
use Rattle.basics.proofs.Below.{count_some, count_less}
use Rattle.basics.proofs.Parts.{table_at, length_table}
use Rattle.address.specs.Addresses.{address_of}
use Rattle.board.specs.Boards.{full_board, bytes_of}
use Rattle.board.specs.declared.Part.{Part}
use Rattle.board.specs.declared.Part.TheVariants.{Ef9345, Ts9347}
use Rattle.address.specs.Places.{place_of}
use Rattle.address.specs.Rows.{row_y}
use Rattle.address.specs.Triples.{on_page, legal_y}
use Rattle.shown.specs.declared.Shown.{Shown}
use Rattle.shown.specs.Lengths.{rom_bytes, forty_bytes, eighty_bytes, picture_bytes}
use Rattle.shown.specs.Modes.{is_eighty}
use Rattle.shown.specs.Refusals.{refused7, refused8, can_draw}
use Rattle.shown.proofs.Modes.{forty_tgs}
use Rattle.page.specs.Codes.{code_address, code_at}
use Rattle.page.specs.Marks.{is_marked, marked_rows, none_marked}
use Rattle.picture.specs.Redraws.{redrawn}
use Rattle.picture.proofs.Redrawing.{redrawn_long}
use Rattle.reading.specs.Lists.{code_holds, row_holds, cell_holds, slices_hold, has_tall, above_holds, on_list}
use Rattle.command.specs.declared.Command.TheVariants.{Ind, Oct}
use Rattle.command.specs.Commands.{command_of, command_for}
use Rattle.processor.specs.States.{chip, powered_up, shown_of, with_register, with_marks, cleared, indirect_written}
use Rattle.processor.specs.Bytes.{oct, stored}
use Rattle.processor.specs.Draws.{DrawOutcome, drawn_page}
use Rattle.processor.specs.Pointers.{pointer_of, incremented_if}
use Rattle.cell.specs.Cells.{cell_of, bichrome_of, ef9345_set}
use Rattle.page.specs.Halves.{is_tall}
use Rattle.kept.specs.Demands.{Redraws, EightyReached, Ts9347Reached, DrawsReached, put, execute}
use Rattle.kept.specs.Orders.{first_of, order}
use Rattle.kept.specs.Premises.{EveryRowMarked}
use Rattle.kept.specs.Runs.{Lent, own, other, Operation, draw, World, step, run, done, picture_lent, Reply, reply, reply_to}
use Rattle.kept.proofs.Boards.{run_power_up}
use Rattle.kept.proofs.Numbers.{answered_in_order}
use Rattle.kept.proofs.Programs.{idle_free, execute_step}
use Rattle.kept.proofs.Marks.{store_marks_exact}
use Rattle.kept.proofs.Reached.{zeros, long, picture, start, memory_bytes, characters, at_first, setting, set_in, setting_in, set_up, setting_up}
use Rattle.kept.proofs.Refusals.{world_with}
use Rattle.kept.proofs.Walk.{draw_known}

-- what is shown with ROR 8: row 0 is Y 0 and row 1 is Y 8
abbrev plainly : Shown
plainly = record { tgs = 0; mat = 0; pat = 0; dor = 0; ror = 8; phase = 0; blocks = full_board; part = Ef9345 }

-- the byte at place 0 is C of the first cell of row 0, and nothing that row 1 reads: no cell of zeros is tall or has slices in memory
listed : on_list plainly (zeros memory_bytes) 0 0 ≡ true
unfolding zeros on_list row_holds code_holds code_address address_of on_page legal_y any_below place_of row_y
listed = refl

unlisted : on_list plainly (zeros memory_bytes) 0 1 ≡ false
unfolding zeros on_list row_holds code_holds code_address address_of on_page legal_y any_below slices_hold cell_holds has_tall above_holds code_at place_of row_y cell_of bichrome_of ef9345_set is_tall is_eighty
unlisted = refl

ror_listed : command_of 0x87 ≡ Some (Ind 7 false)
unfolding command_of
ror_listed = refl

-- an accepted draw's answer, and what it leaves
accepted_draw :
    (w : World) → first_of (order (draw own own own) w) ≡ 0 →
    let p = w.processor in
    step (draw own own own) w ≡ world_with w (with_marks p none_marked) w.memory (redrawn p.marks w.picture w.memory w.rom (shown_of p))
unfolding drawn_page
accepted_draw w e =
    let p = w.processor in
    draw_known
    (λ (o : DrawOutcome).
    world_with w o.processor w.memory o.picture
    ≡ world_with w (with_marks p none_marked) w.memory (redrawn p.marks w.picture w.memory w.rom (shown_of p)))
    p w.memory w.rom w.picture
    (λ a f n. absurd (n (sym f ∙ e)))
    (λ f can. refl)

draw_said_lem :
    (z : Lent) (w : World) (n : ℕ) → first_of (order (draw own own z) w) ≡ 0 → marked_rows w.processor.marks 25 ≡ n → reply_to (draw own own z) w ≡ reply 0 n
draw_said_lem z w n e m = answered_in_order (draw own own z) w ∙ rw e (ap (reply 0) m)

-- ROR 8, and every row marked, of either part
module _ (part : Part) (blocks : ℕ) where
  abbrev shown_all : World
  shown_all = set_up part blocks 8 0x87 7

  all_forty : is_eighty (shown_of shown_all.processor) ≡ false
  unfolding powered_up indirect_written
  all_forty = sym (forty_tgs (shown_of shown_all.processor) (omega arith))

  all_first : first_of (order (draw own own own) shown_all) ≡ 0
  unfolding powered_up indirect_written refused7 refused8
  all_first =
      rw (eq-eqb _ _ (long (bytes_of blocks)), eq-eqb _ _ (long (rom_bytes part)), all_forty, eq-eqb _ _ (long (picture_bytes forty_bytes)))

  all_rows : marked_rows shown_all.processor.marks 25 ≡ 25
  unfolding powered_up indirect_written count_below joined
  all_rows = refl

  all_said : reply_to (draw own own own) (run (setting 8 0x87) (start part blocks)) ≡ reply 0 25
  all_said =
      subst (λ (w : World). reply_to (draw own own own) w ≡ reply 0 25) (sym (setting_up part blocks 8 0x87 7 ror_listed))
      (draw_said_lem own shown_all 25 all_first all_rows)

draws_all : Redraws (λ n. n ≡ 25)
draws_all =
    let said = all_said Ef9345 full_board in
    record {
      part = Ef9345;
      blocks = full_board;
      board = refl;
      memory = zeros memory_bytes;
      rom = zeros characters;
      picture = picture;
      before = setting 8 0x87;
      last = draw own own own;
      fair = (tt, (tt, ((tt, tt, inl tt), tt)));
      happens = (refl, ap (λ (a : Reply). a.number) said, ap (λ (a : Reply). a.value) said);
    }

draws_ts9347 : Ts9347Reached
draws_ts9347 =
    let said = all_said Ts9347 32 in
    record {
      part = Ts9347;
      blocks = 32;
      board = refl;
      memory = zeros (bytes_of 32);
      rom = zeros (rom_bytes Ts9347);
      picture = picture;
      before = setting 8 0x87;
      last = draw own own own;
      fair = (tt, (tt, ((tt, tt, inl tt), tt)));
      happens = (
        (run_power_up Ts9347 32 (setting 8 0x87) (zeros (bytes_of 32)) (zeros (rom_bytes Ts9347)) picture).0,
        ap (λ (a : Reply). a.number) said,
        ap (λ (a : Reply). a.value) said,
      );
    }

-- after that draw of the EF9345 no row is marked
abbrev shown_full : World
shown_full = shown_all Ef9345 full_board

abbrev after_draw : World
after_draw =
    let p = shown_full.processor in
    world_with at_first (with_marks p none_marked) (zeros memory_bytes) (redrawn p.marks picture (zeros memory_bytes) (zeros characters) (shown_of p))

drawing_all : step (draw own own own) shown_full ≡ after_draw
drawing_all = accepted_draw shown_full (all_first Ef9345 full_board)

-- OCT then stores R1, which is 8, at (0, 0, 0)
abbrev after_store : World
after_store =
    let k = chip (with_register after_draw.processor 0 0x30) (zeros memory_bytes) in
    world_with after_draw (oct false false false k).processor (oct false false false k).memory after_draw.picture

storing : step (execute 0x30) after_draw ≡ after_store
unfolding command_of command_for powered_up indirect_written pointer_of address_of on_page legal_y place_of
storing =
    execute_step after_draw (long memory_bytes) (refl, refl, length_table (λ r. false) 25) 0x30 (idle_free after_draw 0x30 refl) (Some (Oct false false false)) refl refl refl refl refl

-- then row 0 is marked, and row 1 is not
abbrev marked : ℕ → Bool
marked r = is_marked after_store.processor.marks r

marked_by_list : (r : ℕ) → r < 25 → marked r ≡ on_list plainly (zeros memory_bytes) 0 r
unfolding zeros powered_up indirect_written oct incremented_if pointer_of place_of can_draw is_eighty refused7 refused8
marked_by_list r l =
    store_marks_exact (pointer_of false after_draw.processor) 8 (chip (cleared (with_register after_draw.processor 0 0x30)) (zeros memory_bytes)) r l
    ∙ ap (λ (b : Bool). b || on_list plainly (zeros memory_bytes) 0 r) (table_at (λ s. false) 25 r false l)

-- the draw after it
after_long : length after_draw.picture ≡ picture_bytes forty_bytes
unfolding is_eighty indirect_written powered_up
after_long = redrawn_long shown_full.processor.marks picture (zeros memory_bytes) (zeros characters) (shown_of shown_full.processor) (long (picture_bytes forty_bytes))

stored_memory : length after_store.memory ≡ memory_bytes
unfolding oct stored
stored_memory = length-set (zeros memory_bytes) _ _ ∙ long memory_bytes

some_first : first_of (order (draw own own own) after_store) ≡ 0
unfolding powered_up indirect_written oct incremented_if stored is_eighty refused7 refused8
some_first = rw (stored_memory, long characters, after_long)

-- the whole run
abbrev before_some : List Operation
before_some = put 1 8 ∷ execute 0x87 ∷ draw own own own ∷ execute 0x30 ∷ []

before_some_run : run before_some at_first ≡ after_store
before_some_run =
    ap (run (draw own own own ∷ execute 0x30 ∷ [])) (setting_up Ef9345 full_board 8 0x87 7 ror_listed) ∙ ap (step (execute 0x30)) drawing_all ∙ storing

draws_some : Redraws (λ n. (0 < n) × (n < 25))
draws_some =
    let n = marked_rows after_store.processor.marks 25 in
    let said = subst (λ (w : World). reply_to (draw own own own) w ≡ reply 0 n) (sym before_some_run) (draw_said_lem own after_store n some_first refl) in
    let rows = ap (λ (a : Reply). a.value) said in
    record {
      part = Ef9345;
      blocks = full_board;
      board = refl;
      memory = zeros memory_bytes;
      rom = zeros characters;
      picture = picture;
      before = before_some;
      last = draw own own own;
      fair = (tt, (tt, ((tt, tt, inl tt), (tt, ((tt, tt, inl tt), tt)))));
      happens = (
        refl,
        ap (λ (a : Reply). a.number) said,
        (
          rw rows (count_some marked 25 0 (omega arith) (marked_by_list 0 (omega arith) ∙ listed)),
          rw rows (count_less marked 25 1 (omega arith) (marked_by_list 1 (omega arith) ∙ unlisted)),
        ),
      );
    }

-- C0 in TGS, after the first draw: 80 columns, and every row marked again
abbrev turned : World
turned = set_in after_draw 0xC0 0x81 1

tgs_listed : command_of 0x81 ≡ Some (Ind 1 false)
unfolding command_of
tgs_listed = refl

turning : run (setting 0xC0 0x81) after_draw ≡ turned
unfolding powered_up indirect_written
turning = setting_in after_draw (long memory_bytes) refl (refl, refl, length_table (λ r. false) 25) 0xC0 0x81 1 tgs_listed

turned_eighty : is_eighty (shown_of turned.processor) ≡ true
unfolding powered_up indirect_written is_eighty
turned_eighty = refl

turned_marked : EveryRowMarked turned
unfolding powered_up indirect_written
turned_marked r l = table_at (λ s. true) 25 r false l

turned_rows : marked_rows turned.processor.marks 25 ≡ 25
unfolding powered_up indirect_written count_below joined
turned_rows = refl

-- another picture is lent, of 60,000 bytes
abbrev longer : Lent
longer = other (zeros (picture_bytes eighty_bytes))

turned_first : first_of (order (draw own own longer) turned) ≡ 0
unfolding powered_up indirect_written is_eighty refused7 refused8
turned_first = rw (long memory_bytes, long characters, long (picture_bytes eighty_bytes))

abbrev is_other : Lent → Bool
is_other own = false
is_other (other b) = true

abbrev before_turned : List Operation
before_turned = put 1 8 ∷ execute 0x87 ∷ draw own own own ∷ put 1 0xC0 ∷ execute 0x81 ∷ []

before_turned_run : run before_turned at_first ≡ turned
before_turned_run =
    ap (run (draw own own own ∷ setting 0xC0 0x81)) (setting_up Ef9345 full_board 8 0x87 7 ror_listed) ∙ ap (run (setting 0xC0 0x81)) drawing_all ∙ turning

abbrev Wide : World → Type 0
Wide w =
    let o = draw own own longer in
    (length w.picture ≡ picture_bytes forty_bytes) × (picture_lent o ≢ own) × (is_eighty (shown_of w.processor) ≡ true) × ((done o w).number ≡ 0)
    × ((done o w).value ≡ 25)

turned_wide : Wide turned
turned_wide =
    let said = draw_said_lem longer turned 25 turned_first turned_rows in (
      after_long,
      λ e. false≢true (sym (ap is_other e)),
      turned_eighty,
      ap (λ (a : Reply). a.number) said,
      ap (λ (a : Reply). a.value) said,
    )

draws_eighty : EightyReached
draws_eighty =
    record {
      part = Ef9345;
      blocks = full_board;
      board = refl;
      memory = zeros memory_bytes;
      rom = zeros characters;
      picture = picture;
      before = before_turned;
      last = draw own own longer;
      fair = (
        tt,
        (tt, ((tt, tt, inl tt), (tt, (tt, ((tt, tt, inr (subst EveryRowMarked (sym before_turned_run) turned_marked)), tt))))),
      );
      happens = subst Wide (sym before_turned_run) turned_wide;
    }

pub draws_reached : DrawsReached
draws_reached = (draws_all, draws_some, draws_eighty, draws_ts9347)
