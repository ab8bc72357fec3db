-- Programs: registers written, a command executed, registers read.
-- Assumes nothing.
use Rattle.std.specs.Prelude.{Option, is_none}
use Prim.Native.Nat.{ℕ, ◌+◌, ◌<◌, ◌≤◌, ◌%◌}
use mathlib.Core.Path.{◌≡◌, refl, ap, ◌∙◌}
use mathlib.Core.Bool.{false, ◌&&◌}
use mathlib.Core.List.{List, [], ◌∷◌, ◌++◌}
use native.Mathlib.Omega.{arith}
use lib.ListN.{length, set}
use lib.Seq.{get_or-set_same}
use borrow.Author.Tests.{eq-eqb, ne_eqb}
use Rattle.command.specs.declared.Command.{Command}
use Rattle.command.specs.Commands.{command_for}
use Rattle.command.specs.Held.{is_write_held}
use Rattle.processor.specs.declared.state.Processor.{Processor}
use Rattle.processor.specs.States.{chip, register_of, register_read, with_register, with_registers}
use Rattle.processor.specs.Access.{Outcome, is_astray, is_unfitted, effect}
use Rattle.processor.specs.Sizes.{Sized}
use Rattle.kept.specs.Demands.{put, get, execute, Idle}
use Rattle.kept.specs.Orders.{first_of, order}
use Rattle.kept.specs.Quiet.{command_run, Quiet}
use Rattle.kept.specs.Runs.{Operation, World, step, run, reply, Reply, reply_to, replies, access_done}
use Rattle.kept.proofs.Boards.{Whole}
use Rattle.kept.proofs.Numbers.{answered_in_order, number_first}
use Rattle.kept.proofs.Plain.{plain_written, plain_read}
use Rattle.kept.proofs.Ran.{is_nop, command_ran}
use Rattle.kept.proofs.Refusals.{world_with, worlds_same}

-- runs, quiet runs and replies, one after the other
pub run_both : (one two : List Operation) (w : World) → run (one ++ two) w ≡ run two (run one w)
run_both [] two w = refl
run_both (o ∷ one) two w = run_both one two (step o w)

pub quiet_both : (one two : List Operation) (w : World) → Quiet one w → Quiet two (run one w) → Quiet (one ++ two) w
quiet_both [] two w q r = r
quiet_both (o ∷ one) two w q r = (q.0, quiet_both one two (step o w) q.1 r)

pub replies_both : (one two : List Operation) (w : World) → replies (one ++ two) w ≡ replies one w ++ replies two (run one w)
replies_both [] two w = refl
replies_both (o ∷ one) two w = ap (λ (l : List Reply). reply_to o w ∷ l) (replies_both one two (step o w))

pub replies_on :
    (o : Operation) (os : List Operation) (w u : World) (a : Reply) (l : List Reply) →
    reply_to o w ≡ a → step o w ≡ u → replies os u ≡ l → replies (o ∷ os) w ≡ a ∷ l
replies_on o os w u a l ea eu el =
    ap (λ (b : Reply). b ∷ replies os (step o w)) ea ∙ ap (λ (z : World). a ∷ replies os z) eu ∙ ap (λ (z : List Reply). a ∷ z) el

-- a register written or read
abbrev pub written_in : World → ℕ → ℕ → World
written_in w n v = record { processor = with_register w.processor n v; memory = w.memory; rom = w.rom; picture = w.picture }

abbrev stepped : World → Outcome → World
stepped w o = record { processor = o.left.processor; memory = o.left.memory; rom = w.rom; picture = w.picture }

abbrev said : World → Outcome → Reply
said w o = reply (access_done o w).number (access_done o w).value

low : (n : ℕ) → n < 8 → (0x20 + n) % 8 ≡ n
low n l = omega arith

module _ (w : World) (whole : Whole w) (idle : Idle w) where
  pub put_step : (n v : ℕ) → n < 8 → step (put n v) w ≡ written_in w n v
  put_step n v l =
      ap (stepped w) (plain_written (0x20 + n) w.memory w.processor whole idle (omega arith) v)
      ∙ ap (λ (i : ℕ). written_in w i v) (low n l)

  pub put_reply : (n v : ℕ) → n < 8 → reply_to (put n v) w ≡ reply 0 0
  put_reply n v l = ap (said w) (plain_written (0x20 + n) w.memory w.processor whole idle (omega arith) v)

  pub get_step : (n : ℕ) → n < 8 → step (get n) w ≡ w
  get_step n l = ap (stepped w) (plain_read (0x20 + n) w.memory w.processor whole idle (omega arith))

  pub get_reply : (n : ℕ) → 1 ≤ n → n < 8 → reply_to (get n) w ≡ reply 0 (register_of w.processor n)
  unfolding register_read
  get_reply n a l =
      ap (said w) (plain_read (0x20 + n) w.memory w.processor whole idle (omega arith))
      ∙ ap (λ (i : ℕ). reply 0 (register_read w.processor i)) (low n l)
      ∙ rw (ne_eqb n 0 (λ e. omega arith))

-- a command that 10 does not refuse, written to R0 and executed
abbrev pub Free : World → ℕ → Type 0
Free w code = (w.processor.busy && is_write_held 0x28 code) ≡ false

pub idle_free : (w : World) (code : ℕ) → Idle w → Free w code
idle_free w code idle = rw idle

module _ (w : World) (whole : Whole w) (s : Sized w.processor) (code : ℕ) (free : Free w code) where
  pub command_there : register_of (with_register w.processor 0 code) 0 ≡ code
  command_there = get_or-set_same w.processor.registers 0 code 0 (rw s.0 (omega arith))

  module _
      (c : Option Command) (is : command_for w.processor.part code ≡ c) (u : is_none c ≡ false) (a : is_astray c (with_register w.processor 0 code) ≡ false)
      (f : is_unfitted c (with_register w.processor 0 code) ≡ false) where
    first_none : first_of (order (execute code) w) ≡ 0
    first_none = rw (eq-eqb _ _ whole, free, command_there, is, u, a, f)

    pub execute_reply : reply_to (execute code) w ≡ reply 0 0
    execute_reply = answered_in_order (execute code) w ∙ ap (λ (n : ℕ). reply n 0) first_none

    pub execute_runs : command_run (execute code) w ≡ c
    execute_runs = rw (number_first (execute code) w ∙ first_none) (ap (command_for w.processor.part) command_there ∙ is)

    pub execute_step :
        is_nop c ≡ false →
        let k = chip (with_register w.processor 0 code) w.memory in
        step (execute code) w ≡ world_with w (effect c k).processor (effect c k).memory w.picture
    execute_step n =
        let ran = command_ran (execute code) w c n execute_runs in worlds_same w _ _ _ _ _ _ ran.0 ran.1 refl

-- eight registers, one by one
pub eight :
    (P : List ℕ → Type 0) → ((a b c d e f g h : ℕ) → P (a ∷ b ∷ c ∷ d ∷ e ∷ f ∷ g ∷ h ∷ [])) → (l : List ℕ) → length l ≡ 8 → P l
eight P all (a ∷ b ∷ c ∷ d ∷ e ∷ f ∷ g ∷ h ∷ []) q = all a b c d e f g h
eight P all [] q = absurd (omega arith)
eight P all (a ∷ []) q = absurd (omega arith)
eight P all (a ∷ b ∷ []) q = absurd (omega arith)
eight P all (a ∷ b ∷ c ∷ []) q = absurd (omega arith)
eight P all (a ∷ b ∷ c ∷ d ∷ []) q = absurd (omega arith)
eight P all (a ∷ b ∷ c ∷ d ∷ e ∷ []) q = absurd (omega arith)
eight P all (a ∷ b ∷ c ∷ d ∷ e ∷ f ∷ []) q = absurd (omega arith)
eight P all (a ∷ b ∷ c ∷ d ∷ e ∷ f ∷ g ∷ []) q = absurd (omega arith)
eight P all (a ∷ b ∷ c ∷ d ∷ e ∷ f ∷ g ∷ h ∷ i ∷ l) q = absurd (omega arith)

-- values written to registers, one after the other
pub record Put : Type 0 where
  pub register : ℕ
  pub value : ℕ

abbrev pub to : ℕ → ℕ → Put
to n v = record { register = n; value = v }

abbrev pub puts : List Put → List Operation
puts [] = []
puts (p ∷ ps) = put p.register p.value ∷ puts ps

-- each to one of the eight
abbrev pub Named : List Put → Type 0
Named [] = Unit {0}
Named (p ∷ ps) = (p.register < 8) × Named ps

-- the registers after them, and what is replied to them
abbrev pub put_into : List Put → List ℕ → List ℕ
put_into [] l = l
put_into (p ∷ ps) l = put_into ps (set l p.register p.value)

abbrev pub accepted : List Put → List Reply
accepted [] = []
accepted (p ∷ ps) = reply 0 0 ∷ accepted ps

pub puts_set :
    (ps : List Put) → Named ps → (w : World) → Whole w → Idle w →
    run (puts ps) w ≡ world_with w (with_registers w.processor (put_into ps w.processor.registers)) w.memory w.picture
puts_set [] named w whole idle = refl
puts_set (p ∷ ps) named w whole idle =
    ap (run (puts ps)) (put_step w whole idle p.register p.value named.0) ∙ puts_set ps named.1 (written_in w p.register p.value) whole idle

pub puts_replies : (ps : List Put) → Named ps → (w : World) → Whole w → Idle w → replies (puts ps) w ≡ accepted ps
puts_replies [] named w whole idle = refl
puts_replies (p ∷ ps) named w whole idle =
    let n = p.register in
    let v = p.value in
    replies_on (put n v) (puts ps) w (written_in w n v) _ _ (put_reply w whole idle n v named.0) (put_step w whole idle n v named.0)
    (puts_replies ps named.1 (written_in w n v) whole idle)

-- registers read, one after the other, and what is replied where each holds its value
abbrev pub gets : List Put → List Operation
gets [] = []
gets (p ∷ ps) = get p.register ∷ gets ps

abbrev pub answers : List Put → List Reply
answers [] = []
answers (p ∷ ps) = reply 0 p.value ∷ answers ps

abbrev pub Holds : List Put → Processor → Type 0
Holds [] q = Unit {0}
Holds (p ∷ ps) q = ((1 ≤ p.register) × (p.register < 8) × (register_of q p.register ≡ p.value)) × Holds ps q

pub gets_replies : (ps : List Put) (w : World) → Whole w → Idle w → Holds ps w.processor → replies (gets ps) w ≡ answers ps
gets_replies [] w whole idle holds = refl
gets_replies (p ∷ ps) w whole idle holds =
    let n = p.register in
    replies_on (get n) (gets ps) w w _ _ (get_reply w whole idle n holds.0.0 holds.0.1 ∙ ap (reply 0) holds.0.2) (get_step w whole idle n holds.0.1)
    (gets_replies ps w whole idle holds.1)
