-- The pointer that a command uses, and its increment.
-- Assumes nothing.
use Rattle.std.specs.Prelude.{ℕ, ◌+◌, ◌-◌, Bool, true, ◌&&◌}
use Rattle.basics.specs.Choice.{pick}
use Rattle.basics.specs.Bits.{is_set}
use Rattle.moves.specs.Onward.{is_last, next_x}
use Rattle.address.specs.Pointers.{main_pointer, auxiliary_pointer}
use Rattle.address.specs.declared.triple.Triple.{Triple}
use Rattle.processor.specs.declared.state.Processor.{Processor}
use Rattle.processor.specs.States.{register_of, with_register, with_lx}

-- the main pointer, or the auxiliary one
unfoldable pub pointer_of : Bool → Processor → Triple
pointer_of auxiliary p =
    pick auxiliary
    (auxiliary_pointer p.part (register_of p 4) (register_of p 5) (register_of p 6))
    (main_pointer p.part (register_of p 6) (register_of p 7))

-- Increment adds 1 to X of the pointer used; from 39 its LX bit is set
unfoldable pub incremented : Bool → Processor → Processor
incremented auxiliary p =
    pick auxiliary
    (pick (is_last (register_of p 5)) (with_lx (with_register p 5 (next_x (register_of p 5))) p.lxm true)
    (with_register p 5 (next_x (register_of p 5))))
    (pick (is_last (register_of p 7)) (with_lx (with_register p 7 (next_x (register_of p 7))) true p.lxa)
    (with_register p 7 (next_x (register_of p 7))))

unfoldable pub incremented_if : Bool → Bool → Processor → Processor
incremented_if asked auxiliary p = pick asked (incremented auxiliary p) p

-- KRL's increment, of R7, whose bit 7 is Z0: from even to odd at the same X, from odd to the next X's even; from X 39, odd, to X 0, even
unfoldable pub next_position : ℕ → ℕ
next_position r7 = pick (is_set 7 r7) (next_x (r7 - 128)) (r7 + 128)

-- and sets LXm
unfoldable pub advanced : Processor → Processor
advanced p =
    pick (is_set 7 (register_of p 7) && is_last (register_of p 7))
    (with_lx (with_register p 7 (next_position (register_of p 7))) true p.lxa)
    (with_register p 7 (next_position (register_of p 7)))

unfoldable pub advanced_if : Bool → Processor → Processor
advanced_if asked p = pick asked (advanced p) p
