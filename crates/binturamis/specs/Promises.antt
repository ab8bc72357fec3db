-- What is claimed of the calls, beside the contract of each: they are the operations of the three demands (kept/specs/Demands), so that all that
-- is said there holds of them. Nothing is proved here; each is the type of the theorem of that name, in small letters with underscores.
-- Assumes nothing.
use Rattle.std.specs.Prelude.{ℕ, ◌≡◌, Bool, true, List}
use Rattle.board.specs.Boards.{is_board}
use Rattle.board.specs.declared.Part.{Part}
use Rattle.kept.specs.Orders.{is_early}
use Rattle.kept.specs.Runs.{Operation, write, read, turn, move, draw, first, run, done, lent_of, memory_lent, picture_lent}
use Rattle.packing.specs.Layouts.{unpacked}
use Rattle.binturamis.specs.Calls.{word, is_refusal}
use Rattle.binturamis.specs.Runs.{Caller, caller_of, called_by, calls}

-- calls from the power-up of a board leave the memory and the picture of the same run of operations, and its processor packed
abbrev pub CallsRun : Type 0
CallsRun =
    (os : List Operation) (part : Part) (blocks : ℕ) (m rom picture : List ℕ) → is_board part blocks ≡ true →
    calls os (caller_of (first part blocks m rom picture)) ≡ caller_of (run os (first part blocks m rom picture))

-- the 64 bytes mean that processor
abbrev pub CallsHold : Type 0
CallsHold =
    (os : List Operation) (part : Part) (blocks : ℕ) (m rom picture : List ℕ) → is_board part blocks ≡ true →
    unpacked (calls os (caller_of (first part blocks m rom picture))).bytes ≡ (run os (first part blocks m rom picture)).processor

-- and each call answers the number and the value of its operation
abbrev pub CallsAnswer : Type 0
CallsAnswer =
    (os : List Operation) (o : Operation) (part : Part) (blocks : ℕ) (m rom picture : List ℕ) → is_board part blocks ≡ true →
    let d = done o (run os (first part blocks m rom picture)) in
    (called_by o (calls os (caller_of (first part blocks m rom picture)))).answer ≡ word d.number d.value

-- the numbers with which a call has changed nothing: of a write 1, 2 and 10, since its register is written before 3, 4 and 11; of the others all
abbrev pub leaves_alone : Operation → ℕ → Bool
leaves_alone (write x address v) n = is_early n
leaves_alone (read x address) n = is_refusal n
leaves_alone (turn x phase) n = is_refusal n
leaves_alone (move x) n = is_refusal n
leaves_alone (draw x y z) n = is_refusal n

-- such a call leaves the 64 bytes alone, whatever they hold, and the memory and the picture that it was lent
abbrev pub RefusedCall : Type 0
RefusedCall =
    (o : Operation) (b : Caller) → leaves_alone o (called_by o b).number ≡ true →
    ((called_by o b).bytes ≡ b.bytes)
    × ((called_by o b).memory ≡ lent_of (memory_lent o) b.memory)
    × ((called_by o b).picture ≡ lent_of (picture_lent o) b.picture)
