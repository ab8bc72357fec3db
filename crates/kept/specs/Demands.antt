-- What is claimed: the three demands as statements, in their order, each followed by what it comes to, Demand1 to Demand3, and what is said of moves. Nothing is proved
-- here: each is the type of a theorem of the same name, in small letters with underscores, and proofs/Demands has all three together.
-- Operations, what they are lent, and runs are in Runs; the refusals and their order in Orders; the premises of demand 3 in Premises; what
-- stores in Quiet; what marks in Rules.
-- Assumes nothing.
use Rattle.std.specs.Prelude.{ℕ, ◌+◌, ◌*◌, ◌<◌, ◌≤◌, ◌≡◌, Bool, true, false, not, ◌&&◌, ◌||◌, List, [], ◌∷◌, ◌++◌, ◌≢◌, length, replicate, Option, Some, None}
use Rattle.basics.specs.Choice.{pick, one_if}
use Rattle.address.specs.Addresses.{byte_addresses, code_addresses, narrow_addresses, all_fitted}
use Rattle.board.specs.Boards.{is_part, part_named, is_board, bytes_of}
use Rattle.board.specs.declared.Part.{Part}
use Rattle.board.specs.declared.Part.TheVariants.{Ef9345, Ts9347}
use Rattle.address.specs.Narrow.{is_odd, attributes_at, neighbour_at, nibble_for, both_halves}
use Rattle.address.specs.Places.{byte_at, loaded}
use Rattle.address.specs.Pointers.{main_pointer, auxiliary_pointer}
use Rattle.address.specs.declared.triple.Triple.{Triple}
use Rattle.shown.specs.declared.Shown.{Shown}
use Rattle.shown.specs.Lengths.{forty_bytes, picture_bytes}
use Rattle.shown.specs.Modes.{is_eighty}
use Rattle.page.specs.Marks.{is_marked}
use Rattle.picture.specs.Redraws.{fresh}
use Rattle.reading.specs.Lists.{on_list}
use Rattle.command.specs.Answers.{power_number_of}
use Rattle.command.specs.declared.Command.{Command}
use Rattle.command.specs.declared.Command.TheVariants.{Nop, Ind, Krf, Oct, Krl, Move}
use Rattle.command.specs.Commands.{command_for}
use Rattle.processor.specs.declared.draw.Drawn.{Drawn}
use Rattle.processor.specs.declared.execute.Answered.{Answered}
use Rattle.processor.specs.Access.{Outcome, outcome_of, addresses_of, is_whole}
use Rattle.processor.specs.Draws.{DrawOutcome, draw_outcome_of}
use Rattle.processor.specs.Pointers.{pointer_of}
use Rattle.processor.specs.PowerUps.{powered_up_board}
use Rattle.processor.specs.Sizes.{Sized}
use Rattle.processor.specs.States.{shown_of, register_of, powered_up, power_up}
use Rattle.kept.specs.Orders.{order, first_of, returned, is_late}
use Rattle.kept.specs.Premises.{Fair, FairRun}
use Rattle.kept.specs.Quiet.{command_run, Quiet}
use Rattle.kept.specs.Rules.{marks_row, clears}
use Rattle.kept.specs.Runs.{Lent, own, Operation, write, read, move, draw, World, first, step, run, done, registered, lent_of, chip_lent, memory_lent, picture_lent, Reply, reply, reply_to, replies}

-- 1. Every register access, step, phase change and draw request gets an answer, for all values and buffer lengths. Bad ones are refused by number
-- in a fixed order. Apart from a register access that had already taken place, a refusal changes nothing.

-- the answer is the number of the first condition, in the order of the rules, that holds (0 where none does), with what the rules return
abbrev pub AnsweredInOrder : Type 0
AnsweredInOrder = (o : Operation) (w : World) → let n = first_of (order o w) in reply_to o w ≡ reply n (returned o w n)

-- after 3, 4 or 11 the register access itself has happened, and nothing else; after the others nothing has changed: state (the marks are in it),
-- memory, picture
abbrev pub RefusalLeaves : Type 0
RefusalLeaves =
    (o : Operation) (w : World) → (done o w).number ≢ 0 →
    ((done o w).processor ≡ pick (is_late (done o w).number) (registered o w) w.processor)
    × ((done o w).memory ≡ lent_of (memory_lent o) w.memory)
    × ((done o w).picture ≡ lent_of (picture_lent o) w.picture)

-- the part and the size are given at power-up and stay
abbrev pub BoardStays : Type 0
BoardStays =
    (os : List Operation) (w : World) →
    ((run os w).processor.part ≡ w.processor.part) × ((run os w).processor.blocks ≡ w.processor.blocks)

-- at power-up an unknown part is refused with 14, before a size that is none of the part's, with 12; both hand back the 16 block board
abbrev pub BoardChosen : Type 0
BoardChosen =
    (part blocks : ℕ) →
    (power_number_of (powered_up_board part blocks).answer ≡ pick (is_part part) (pick (is_board (part_named part) blocks) 0 12) 14)
    × ((powered_up_board part blocks).processor
    ≡ pick (is_part part && is_board (part_named part) blocks) (powered_up (part_named part) blocks) power_up)

-- some operation, after some run from power-up of a board that keeps the premises of demand 3
pub record Reached (Happens : Operation → World → Type 0) : Type 0 where
  pub part : Part
  pub blocks : ℕ
  pub board : is_board part blocks ≡ true
  pub memory : List ℕ
  pub rom : List ℕ
  pub picture : List ℕ
  pub before : List Operation
  pub last : Operation
  pub fair : FairRun (before ++ last ∷ []) (first part blocks memory rom picture)
  pub happens : Happens last (run before (first part blocks memory rom picture))

-- each number of an operation is given; 11 on a board with less memory
abbrev pub Gives : ℕ → Type 0
Gives n = Reached (λ o w. (done o w).number ≡ n)

abbrev pub EachNumberReached : Type 0
EachNumberReached = Gives 0 × Gives 1 × Gives 2 × Gives 3 × Gives 4 × Gives 5 × Gives 6 × Gives 7 × Gives 8 × Gives 9 × Gives 10 × Gives 11

-- a draw is accepted, of all 25 rows, and of some and not all
abbrev pub Redraws : (ℕ → Type 0) → Type 0
Redraws Rows = Reached (λ o w. (o ≡ draw own own own) × ((done o w).number ≡ 0) × Rows (done o w).value)

-- and one of 80 columns, of all 25 rows, into another picture than the kept one, which is of 40 columns
abbrev pub EightyReached : Type 0
EightyReached =
    Reached
    (λ o w.
    (length w.picture ≡ picture_bytes forty_bytes) × (picture_lent o ≢ own) × (is_eighty (shown_of w.processor) ≡ true)
    × ((done o w).number ≡ 0) × ((done o w).value ≡ 25))

-- and one of a TS9347, of all 25 rows
abbrev pub Ts9347Reached : Type 0
Ts9347Reached = Reached (λ o w. (w.processor.part ≡ Ts9347) × ((done o w).number ≡ 0) × ((done o w).value ≡ 25))

abbrev pub DrawsReached : Type 0
DrawsReached = Redraws (λ n. n ≡ 25) × Redraws (λ n. (0 < n) × (n < 25)) × EightyReached × Ts9347Reached

-- a contract says that what is returned and what is left make the outcome of the definition: two that do so for the same input are the same
abbrev pub OneAccess : Type 0
OneAccess = (r s : Answered) (m n : List ℕ) (o : Outcome) → outcome_of r m ≡ o → outcome_of s n ≡ o → (r ≡ s) × (m ≡ n)

abbrev pub OneDraw : Type 0
OneDraw = (r s : Drawn) (v w : List ℕ) (o : DrawOutcome) → draw_outcome_of r v ≡ o → draw_outcome_of s w ≡ o → (r ≡ s) × (v ≡ w)

abbrev pub Demand1 : Type 0
Demand1 = AnsweredInOrder × RefusalLeaves × BoardStays × BoardChosen × EachNumberReached × DrawsReached × OneAccess × OneDraw

-- 2. Registers, commands, addresses and each pixel are what the rules say: that is in the contracts, by the definitions of the other crates.
-- Three code bytes written at a legal pointer, and read there before another store, are the same three.

-- a value written to register n, register n read, and a command written to R0 and executed
abbrev pub put : ℕ → ℕ → Operation
put n v = write own (0x20 + n) v

abbrev pub get : ℕ → Operation
get n = read own (0x20 + n)

abbrev pub execute : ℕ → Operation
execute c = write own 0x28 c

-- KRF 00, read 08; OCT 30, plus 4 auxiliary pointer, plus 8 read; KRL 50, read 58; each plus 1 with increment
abbrev pub krf_code : Bool → Bool → ℕ
krf_code reads increments = 8 * one_if reads + one_if increments

abbrev pub oct_code : Bool → Bool → Bool → ℕ
oct_code reads auxiliary increments = 0x30 + 8 * one_if reads + 4 * one_if auxiliary + one_if increments

abbrev pub krl_code : Bool → Bool → ℕ
krl_code reads increments = 0x50 + 8 * one_if reads + one_if increments

-- R1, R2 and R3 read: C, B and A
abbrev pub code_replies : ℕ → ℕ → ℕ → List Reply
code_replies c b a = reply 0 c ∷ reply 0 b ∷ reply 0 a ∷ []

-- no move runs. (While one does every register write is refused with 10.)
abbrev pub Idle : World → Type 0
Idle w = w.processor.busy ≡ false

-- after any run on a board of either part and any number of blocks that leaves no move running, C, B and A are written to R1, R2 and R3 and stored by KRF
-- at a pointer that is legal with all three blocks fitted; then come operations that store nothing and leave no move running, and the pointer is set back;
-- KRF reads: R1, R2 and R3 are C, B and A
abbrev pub CodeRoundTrip : Type 0
CodeRoundTrip =
    (part : Part) (blocks : ℕ) (m rom picture : List ℕ) (before between : List Operation) (r6 r7 c b a : ℕ) (i j : Bool) →
    length m ≡ bytes_of blocks → all_fitted (code_addresses blocks (main_pointer part r6 r7)) ≡ true →
    let pointer = put 6 r6 ∷ put 7 r7 ∷ [] in
    let ready = run before (first part blocks m rom picture) in
    let stored = run (pointer ++ put 1 c ∷ put 2 b ∷ put 3 a ∷ execute (krf_code false i) ∷ []) ready in
    Idle ready →
    Quiet between stored → Idle (run between stored) →
    replies (pointer ++ execute (krf_code true j) ∷ get 1 ∷ get 2 ∷ get 3 ∷ []) (run between stored)
    ≡ reply 0 0 ∷ reply 0 0 ∷ reply 0 0 ∷ code_replies c b a

-- one byte the same way, by OCT through either pointer
abbrev pub ByteRoundTrip : Type 0
ByteRoundTrip =
    (part : Part) (blocks : ℕ) (m rom picture : List ℕ) (before between : List Operation) (r4 r5 r6 r7 v : ℕ) (auxiliary i j : Bool) →
    length m ≡ bytes_of blocks → all_fitted (byte_addresses blocks (pick auxiliary (auxiliary_pointer part r4 r5 r6) (main_pointer part r6 r7))) ≡ true →
    let pointers = put 4 r4 ∷ put 5 r5 ∷ put 6 r6 ∷ put 7 r7 ∷ [] in
    let ready = run before (first part blocks m rom picture) in
    let stored = run (pointers ++ put 1 v ∷ execute (oct_code false auxiliary i) ∷ []) ready in
    Idle ready →
    Quiet between stored → Idle (run between stored) →
    replies (pointers ++ execute (oct_code true auxiliary j) ∷ get 1 ∷ []) (run between stored)
    ≡ reply 0 0 ∷ reply 0 0 ∷ reply 0 0 ∷ reply 0 0 ∷ reply 0 0 ∷ reply 0 v ∷ []

-- R1 and R3 read: C, and of A the nibble of the position in both halves
abbrev pub narrow_replies : Triple → ℕ → ℕ → List Reply
narrow_replies t c a = reply 0 c ∷ reply 0 (both_halves (nibble_for (is_odd t) a)) ∷ []

-- a 12-bit code the same way, by KRL, which an EF9345 alone runs
abbrev pub NarrowRoundTrip : Type 0
NarrowRoundTrip =
    (blocks : ℕ) (m rom picture : List ℕ) (before between : List Operation) (r6 r7 c a : ℕ) (i j : Bool) →
    length m ≡ bytes_of blocks → all_fitted (narrow_addresses blocks (main_pointer Ef9345 r6 r7)) ≡ true →
    let pointer = put 6 r6 ∷ put 7 r7 ∷ [] in
    let ready = run before (first Ef9345 blocks m rom picture) in
    let stored = run (pointer ++ put 1 c ∷ put 3 a ∷ execute (krl_code false i) ∷ []) ready in
    Idle ready →
    Quiet between stored → Idle (run between stored) →
    replies (pointer ++ execute (krl_code true j) ∷ get 1 ∷ get 3 ∷ []) (run between stored)
    ≡ reply 0 0 ∷ reply 0 0 ∷ reply 0 0 ∷ narrow_replies (main_pointer Ef9345 r6 r7) c a

-- all three however the commands come to be executed: o, accepted, stores by KRF, OCT or KRL what its registers then hold; q, accepted, reads at a pointer
-- with the same X, Y and Z
abbrev pub CodeKept : Type 0
CodeKept =
    (part : Part) (blocks : ℕ) (m rom picture : List ℕ) (before between : List Operation) (o q : Operation) (i j : Bool) →
    let w = run before (first part blocks m rom picture) in
    let u = run between (step o w) in
    memory_lent o ≡ own → command_run o w ≡ Some (Krf false i) → Quiet between (step o w) →
    memory_lent q ≡ own → command_run q u ≡ Some (Krf true j) → pointer_of false (registered q u) ≡ pointer_of false (registered o w) →
    (n : ℕ) → 1 ≤ n → n ≤ 3 → register_of (step q u).processor n ≡ register_of (registered o w) n

abbrev pub ByteKept : Type 0
ByteKept =
    (part : Part) (blocks : ℕ) (m rom picture : List ℕ) (before between : List Operation) (o q : Operation) (x y i j : Bool) →
    let w = run before (first part blocks m rom picture) in
    let u = run between (step o w) in
    memory_lent o ≡ own → command_run o w ≡ Some (Oct false x i) → Quiet between (step o w) →
    memory_lent q ≡ own → command_run q u ≡ Some (Oct true y j) → pointer_of y (registered q u) ≡ pointer_of x (registered o w) →
    register_of (step q u).processor 1 ≡ register_of (registered o w) 1

abbrev pub NarrowKept : Type 0
NarrowKept =
    (part : Part) (blocks : ℕ) (m rom picture : List ℕ) (before between : List Operation) (o q : Operation) (i j : Bool) →
    let w = run before (first part blocks m rom picture) in
    let u = run between (step o w) in
    let t = pointer_of false (registered o w) in
    memory_lent o ≡ own → command_run o w ≡ Some (Krl false i) → Quiet between (step o w) →
    memory_lent q ≡ own → command_run q u ≡ Some (Krl true j) → pointer_of false (registered q u) ≡ t →
    (register_of (step q u).processor 1 ≡ register_of (registered o w) 1)
    × (register_of (step q u).processor 3 ≡ both_halves (nibble_for (is_odd t) (register_of (registered o w) 3)))

-- and the neighbour, the other position of the column, has the C and the nibble that it had
abbrev pub NeighbourKept : Type 0
NeighbourKept =
    (o : Operation) (w : World) (i : Bool) →
    let t = pointer_of false (registered o w) in
    memory_lent o ≡ own → command_run o w ≡ Some (Krl false i) →
    (loaded (neighbour_at t) (step o w).memory ≡ loaded (neighbour_at t) w.memory)
    × (nibble_for (is_odd (neighbour_at t)) (loaded (attributes_at t) (step o w).memory)
    ≡ nibble_for (is_odd (neighbour_at t)) (loaded (attributes_at t) w.memory))

-- bytes 40 to 63 of each block are unused and stay as they were, over every run
abbrev pub UnusedStay : Type 0
UnusedStay =
    (os : List Operation) (w : World) (z i : ℕ) → 40 ≤ i → i < 64 → byte_at (run os w).memory (1024 * z + i) ≡ byte_at w.memory (1024 * z + i)

abbrev pub Demand2 : Type 0
Demand2 = CodeRoundTrip × ByteRoundTrip × NarrowRoundTrip × CodeKept × ByteKept × NarrowKept × NeighbourKept × UnusedStay

-- Moves. A step while nothing runs answers 0 and changes nothing
abbrev pub StepIdle : Type 0
StepIdle = (x : Lent) (w : World) → is_whole (chip_lent x w) ≡ true → Idle w → (reply_to (move x) w ≡ reply 0 0) × (step (move x) w ≡ w)

-- a move with a stop ends within 40 steps, from any state in which it began
abbrev pub most_steps : ℕ
most_steps = 40

abbrev pub MoveEnds : Type 0
MoveEnds =
    (o : Operation) (w : World) (bytes : ℕ) (auxiliary : Bool) → Sized w.processor → memory_lent o ≡ own →
    command_run o w ≡ Some (Move bytes auxiliary true) → Idle (run (replicate most_steps (move own)) (step o w))

-- one without runs on, however many steps there are
abbrev pub MoveGoesOn : Type 0
MoveGoesOn =
    (o : Operation) (w : World) (bytes : ℕ) (auxiliary : Bool) (n : ℕ) → Sized w.processor → memory_lent o ≡ own →
    command_run o w ≡ Some (Move bytes auxiliary false) → (run (replicate n (move own)) (step o w)).processor.busy ≡ true

-- until a NOP, 90 or 91, is executed
abbrev pub NopEnds : Type 0
NopEnds =
    (v : ℕ) (w : World) → 0x90 ≤ v → v ≤ 0x91 → is_whole (chip_lent own w) ≡ true → Sized w.processor →
    (reply_to (execute v) w ≡ reply 0 0) × Idle (step (execute v) w)

-- what runs is a move
abbrev pub is_move : Option Command → Bool
is_move (Some Nop) = false
is_move (Some (Ind r reads)) = false
is_move (Some (Krf reads increments)) = false
is_move (Some (Oct reads auxiliary increments)) = false
is_move (Some (Krl reads increments)) = false
is_move (Some (Move bytes auxiliary stops)) = true
is_move None = false

-- and it has legal, fitted pointers, from its start until it ends, over every run from power-up
abbrev pub MoveFitted : Type 0
MoveFitted =
    (part : Part) (blocks : ℕ) (m rom picture : List ℕ) (os : List Operation) →
    let p = (run os (first part blocks m rom picture)).processor in
    let c = command_for p.part (register_of p 0) in
    p.busy ≡ true → (is_move c ≡ true) × (all_fitted (addresses_of c p) ≡ true)

abbrev pub Moves : Type 0
Moves = StepIdle × MoveEnds × MoveGoesOn × NopEnds × MoveFitted

-- 3. From power-up, over any sequence of accesses, steps, phase changes and draws, the picture kept by redrawing marked rows equals, after each
-- accepted draw, the picture drawn afresh from the present memory, registers, character ROM and phase. A row is marked exactly when the rules
-- say so, and the reported number of redrawn rows is the number marked.

-- (the premises are FairRun and Fair)
abbrev pub DrawFresh : Type 0
DrawFresh =
    (part : Part) (blocks : ℕ) (m rom picture : List ℕ) (os : List Operation) (x y z : Lent) →
    let w = run os (first part blocks m rom picture) in
    FairRun os (first part blocks m rom picture) → Fair (draw x y z) w → (done (draw x y z) w).number ≡ 0 →
    let after = step (draw x y z) w in after.picture ≡ fresh after.memory after.rom (shown_of after.processor)

-- row r is marked after an operation exactly when it was before and no accepted draw has cleared it, or the rules mark it
abbrev pub MarksExact : Type 0
MarksExact =
    (o : Operation) (w : World) (r : ℕ) → r < 25 →
    is_marked (step o w).processor.marks r ≡ ((is_marked w.processor.marks r && not (clears o w)) || marks_row o w r)

-- a byte that is not fitted is on no reading list
abbrev pub ListsFitted : Type 0
ListsFitted = (shown : Shown) (m : List ℕ) (p : ℕ) → bytes_of shown.blocks ≤ p → (r : ℕ) → on_list shown m p r ≡ false

-- (the number of rows that a draw reports is the number marked: that is in AnsweredInOrder)
abbrev pub Demand3 : Type 0
Demand3 = DrawFresh × MarksExact × ListsFitted × AnsweredInOrder
