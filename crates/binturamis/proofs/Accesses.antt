-- Laws of accesses that are told apart first: those that ask for no execution, of which the register's part is all; and writes that are
-- refused before they take place.
-- Assumes nothing.
use Prim.Native.Nat.{ℕ, ◌+◌, ◌/◌, ◌%◌, ◌<◌}
use mathlib.Core.Path.{◌≡◌, refl, sym, ap, ◌∙◌}
use mathlib.Core.Bool.{Bool, true, false, not, ◌&&◌}
use mathlib.Core.List.{List}
use mathlib.Core.Logic.{◌≢◌, ⊎_elim}
use native.Mathlib.Omega.{arith}
use lib.Dec.{eqb}
use lib.ListN.{length, get_or, set}
use lib.Seq.{take-set-lt, drop-set-lt, get_or-set_other}
use borrow.Author.Tests.{eq-eqb, ne_eqb, eqb-true, lt-leb, not-true}
use Rattle.board.specs.Boards.{bytes_of, full_board}
use Rattle.basics.specs.Bits.{bits}
use Rattle.basics.specs.Choice.{pick}
use Rattle.basics.proofs.Choice.{and_left, and_right, bool_cases}
use Rattle.processor.specs.declared.state.Processor.{Processor}
use Rattle.processor.specs.declared.execute.Answered.{Answered}
use Rattle.command.specs.Answers.{number_of, value_of}
use Rattle.command.specs.Held.{is_write_held}
use Rattle.processor.specs.States.{Chip, chip, with_register, register_read}
use Rattle.processor.specs.Access.{Outcome, outcome_of, written, read_out}
use Rattle.kept.specs.Orders.{is_early}
use Rattle.kept.proofs.Plain.{plain_written, plain_read}
use Rattle.kept.proofs.Walk.{Ends, after_write, write_known}
use Rattle.packing.specs.Layouts.{packed, unpacked}
use Rattle.binturamis.specs.Calls.{word, is_refusal, called, call_of}
use Rattle.binturamis.proofs.Calls.{call_made}
use Rattle.binturamis.proofs.Leaving.{accepted_packed}

-- a register written in the bytes is the register written
unpacked_set : (bytes : List ℕ) (n v : ℕ) → n < 8 → unpacked (set bytes n v) ≡ with_register (unpacked bytes) n v
unfolding unpacked
unpacked_set bytes n v h =
    rw (
      take-set-lt 8 bytes n v h,
      drop-set-lt 8 bytes n v h,
      drop-set-lt 19 bytes n v (omega arith),
      get_or-set_other bytes n 16 v 0 (λ e. omega arith),
      get_or-set_other bytes n 17 v 0 (λ e. omega arith),
      get_or-set_other bytes n 18 v 0 (λ e. omega arith),
      get_or-set_other bytes n 44 v 0 (λ e. omega arith),
    )

-- bytes that have 0 for the board, and 4
pub full_board_lem : (bytes : List ℕ) → get_or bytes 44 0 ≡ 0 → full_board ≡ (unpacked bytes).blocks
unfolding unpacked
full_board_lem bytes z = rw z

pub ts9347_board : (bytes : List ℕ) → get_or bytes 44 0 ≡ 4 → 32 ≡ (unpacked bytes).blocks
unfolding unpacked
ts9347_board bytes z = rw z

-- which are below 16, so that no move runs
pub board_idle : (bytes : List ℕ) (b : ℕ) → get_or bytes 44 0 ≡ b → b < 16 → (unpacked bytes).busy ≡ false
unfolding unpacked
board_idle bytes b z l = rw (z, lt-leb 16 b l)

-- a register written leaves the board's byte
pub still_board : (bytes : List ℕ) (n v b : ℕ) → n < 8 → get_or bytes 44 0 ≡ b → get_or (set bytes n v) 44 0 ≡ b
still_board bytes n v b h z = get_or-set_other bytes n 44 v 0 (λ e. omega arith) ∙ z

-- the test of a plain access
module _
    (m : List ℕ) (blocks : ℕ) (busy : Bool) (address : ℕ) (plain : Bool) (test : plain ≡ (not busy && (eqb (length m) (bytes_of blocks) && eqb (address / 8) 4)))
    (taken : plain ≡ true) where
  all : (not busy && (eqb (length m) (bytes_of blocks) && eqb (address / 8) 4)) ≡ true
  all = sym test ∙ taken

  pub plain_idle : busy ≡ false
  plain_idle = not-true busy (and_left (not busy) _ all)

  both : (eqb (length m) (bytes_of blocks) && eqb (address / 8) 4) ≡ true
  both = and_right (not busy) _ all

  pub plain_length : length m ≡ bytes_of blocks
  plain_length = eqb-true (length m) (bytes_of blocks) (and_left (eqb (length m) (bytes_of blocks)) (eqb (address / 8) 4) both)

  pub plain_address : address / 8 ≡ 4
  plain_address = eqb-true (address / 8) 4 (and_right (eqb (length m) (bytes_of blocks)) (eqb (address / 8) 4) both)

module _
    (address : ℕ) (m bytes : List ℕ) (right : length m ≡ bytes_of (unpacked bytes).blocks) (idle : (unpacked bytes).busy ≡ false) (four : address / 8 ≡ 4) where
  -- the calls
  pub plain_write_made :
      (v : ℕ) (b : List ℕ) (p : Processor) → p ≡ unpacked (set bytes (address % 8) v) → b ≡ packed p
      → called b m 0 ≡ call_of is_early bytes (written address v (chip (unpacked bytes) m))
  plain_write_made v b p ep eb =
      let n = address % 8 in
      let p = with_register (unpacked bytes) n v in
      ap (λ (c : List ℕ). called c m 0) (eb ∙ ap packed (ep ∙ unpacked_set bytes n v (omega arith)) ∙ accepted_packed bytes p)
      ∙ sym (ap (call_of is_early bytes) (plain_written address m (unpacked bytes) right idle four v))

  pub plain_read_made :
      (b : List ℕ) (p : Processor) (v : ℕ) → p ≡ unpacked bytes → b ≡ packed p → v ≡ register_read p (address % 8)
      → called b m v ≡ call_of is_refusal bytes (read_out address (chip (unpacked bytes) m))
  plain_read_made b p v ep eb ev = rw (plain_read address m (unpacked bytes) right idle four, ← ep, ← eb, ← ev) (ap (called b m) (omega arith))

-- a plain write by how far its address is past 32, which is the register; the board has so many blocks
pub past_write_made :
    (address v blocks : ℕ) (m bytes : List ℕ) → blocks ≡ (unpacked bytes).blocks → (unpacked bytes).busy ≡ false → length m ≡ bytes_of blocks → (n : ℕ) → n ≡ (address + 224) % 256 → n < 8
    → address < 256 → (b : List ℕ) (p : Processor) → p ≡ unpacked (set bytes n v) → b ≡ packed p
    → called b m 0 ≡ call_of is_early bytes (written address v (chip (unpacked bytes) m))
past_write_made address v blocks m bytes board idle right n past plain small b p ep eb =
    let register : n ≡ address % 8 = omega arith in
    plain_write_made address m bytes (right ∙ ap bytes_of board) idle (omega arith) v b p (ep ∙ ap (λ (k : ℕ). unpacked (set bytes k v)) register) eb

-- a write that is refused by 1, 2 or 10 leaves everything alone, and any other leaves the processor packed; w is the answer of the former
module _ (address v : ℕ) (m bytes : List ℕ) (w : ℕ)
    (is
    : w
    ≡ pick (eqb (length m) (bytes_of (unpacked bytes).blocks))
    (pick (eqb (bits 4 4 address) 2) (pick ((unpacked bytes).busy && is_write_held address v) (word 10 0) 0) (word 2 0)) (word 1 0)) where
  abbrev before : Chip
  before = chip (unpacked bytes) m

  abbrev Early : Outcome → Type 0
  Early o = (w ≢ 0 → called bytes m w ≡ call_of is_early bytes o) × (w ≡ 0 → is_early (number_of o.answer) ≡ false)

  ends : Ends address (is_write_held address v) 0 before (after_write address v before) Early
  ends =
      record {
        wrong_memory = λ l. let one = rw l at is in ((λ n. rw one), (λ z. absurd (omega arith)));
        wrong_address = λ l a. let two = rw (l, a) at is in ((λ n. rw two), (λ z. absurd (omega arith)));
        busy = λ l a b. let ten = rw (l, a, b) at is in ((λ n. rw ten), (λ z. absurd (omega arith)));
        not_executed = λ l a b x. ((λ n. absurd (n (rw (l, a, b) at is))), (λ q. refl));
        not_listed = λ l a b x u. ((λ n. absurd (n (rw (l, a, b) at is))), (λ q. refl));
        bad_pointer = λ l a b x u s. ((λ n. absurd (n (rw (l, a, b) at is))), (λ q. refl));
        not_fitted = λ l a b x u s f. ((λ n. absurd (n (rw (l, a, b) at is))), (λ q. refl));
        accepted = λ l a b x u s f. ((λ n. absurd (n (rw (l, a, b) at is))), (λ q. refl));
      }

  told : Early (written address v before)
  told = write_known Early address v before ends

  pub early_made : w ≢ 0 → called bytes m w ≡ call_of is_early bytes (written address v before)
  early_made n = told.0 n

  -- one that is not refused by 1 has the whole memory
  pub late_length : w ≡ 0 → length m ≡ bytes_of (unpacked bytes).blocks
  late_length z =
      ⊎_elim (λ t. eqb-true _ _ t) (λ f. let one : w ≡ word 1 0 = rw f at is in absurd (omega arith))
      (bool_cases (eqb (length m) (bytes_of (unpacked bytes).blocks)))

  -- and where it asks for no execution, and is not refused by 10, no move runs
  pub late_idle : w ≡ 0 → address / 8 ≡ 4 → (unpacked bytes).busy ≡ false
  unfolding is_write_held
  late_idle z four =
      ⊎_elim
      (λ (t : (unpacked bytes).busy ≡ true).
      let whole = eq-eqb _ _ (late_length z) in
      let chosen = eq-eqb (bits 4 4 address) 2 (omega arith) in
      let lower = ne_eqb (bits 0 4 address) 8 (λ q. omega arith) in
      let ten : w ≡ word 10 0 = rw (whole, chosen, t, lower) at is in absurd (omega arith))
      (λ f. f) (bool_cases (unpacked bytes).busy)

  pub late_made :
      (p : Processor) (r : Answered) (after b : List ℕ) (answer : ℕ) → w ≡ 0 → p ≡ unpacked bytes → outcome_of r after ≡ written address v (chip p m)
      → b ≡ packed r.processor → answer ≡ word (number_of r.answer) (value_of r.answer)
      → called b after answer ≡ call_of is_early bytes (written address v before)
  late_made p r after b answer z ep er eb ea =
      let same = er ∙ ap (λ (q : Processor). written address v (chip q m)) ep in
      let late = ap (λ (o : Outcome). is_early (number_of o.answer)) same ∙ told.1 z in
      call_made is_early (written address v) bytes m p r after b answer ep er (rw late eb) ea

-- the answer of one that 1 and 2 do not refuse, as the code learns it
module _
    (memory blocks : ℕ) (busy : Bool) (address v : ℕ) (whole : memory ≡ bytes_of blocks) (chosen : bits 4 4 address ≡ 2) (held : Bool)
    (is : held ≡ (busy && is_write_held address v)) where
  abbrev Told : ℕ
  Told = pick (eqb memory (bytes_of blocks)) (pick (eqb (bits 4 4 address) 2) (pick (busy && is_write_held address v) (word 10 0) 0) (word 2 0)) (word 1 0)

  pub early_held : held ≡ true → word 10 0 ≡ Told
  early_held t = rw (eq-eqb _ _ whole, eq-eqb _ _ chosen, sym is ∙ t)

  pub early_none : held ≡ false → 0 ≡ Told
  early_none f = rw (eq-eqb _ _ whole, eq-eqb _ _ chosen, sym is ∙ f)

-- a write on 16 blocks whose memory is as long as they are: 2, and one that is not refused by it
module _ (address v : ℕ) (m bytes : List ℕ) (z : get_or bytes 44 0 ≡ 0) where
  abbrev after : Outcome
  after = written address v (chip (unpacked bytes) m)

  module _ (e : length m ≡ bytes_of full_board) (small : address < 256) where
    pub full_address_made : (address / 16 ≡ 2 → ⊥) → called bytes m 131072 ≡ call_of is_early bytes after
    full_address_made n =
        early_made address v m bytes 131072
        (rw (← full_board_lem bytes z, eq-eqb (length m) (bytes_of full_board) e, ne_eqb (bits 4 4 address) 2 (λ q. n (omega arith))))
        (λ q. omega arith)

    pub full_late_made :
        address / 16 ≡ 2 → (p : Processor) (r : Answered) (left b : List ℕ) (answer : ℕ) → p ≡ unpacked bytes →
        outcome_of r left ≡ written address v (chip p m) → b ≡ packed r.processor → answer ≡ word (number_of r.answer) (value_of r.answer) →
        called b left answer ≡ call_of is_early bytes after
    full_late_made two p r left b answer =
        late_made address v m bytes 0
        (rw (← full_board_lem bytes z, eq-eqb (length m) (bytes_of full_board) e, eq-eqb (bits 4 4 address) 2 (omega arith), board_idle bytes 0 z (omega arith))) p r left b answer refl
