-- The three demands and what is said of moves, proved: each statement's theorem in its place.
-- Assumes nothing.
use Rattle.kept.specs.Demands.{Demand1, Demand2, Demand3, Moves}
use Rattle.kept.proofs.Always.{draw_fresh}
use Rattle.kept.proofs.Boards.{board_stays, board_chosen}
use Rattle.kept.proofs.ByteTrip.{byte_round_trip}
use Rattle.kept.proofs.CodeTrip.{code_round_trip}
use Rattle.kept.proofs.Lists.{lists_fitted}
use Rattle.kept.proofs.Exact.{marks_exact}
use Rattle.kept.proofs.Memory.{unused_stay}
use Rattle.kept.proofs.Moves.{step_idle, move_ends, move_goes_on, nop_ends, move_fitted}
use Rattle.kept.proofs.NarrowTrip.{narrow_round_trip}
use Rattle.kept.proofs.Numbers.{answered_in_order}
use Rattle.kept.proofs.Reached.{each_number_reached}
use Rattle.kept.proofs.ReachedDraws.{draws_reached}
use Rattle.kept.proofs.Refusals.{refusal_leaves}
use Rattle.kept.proofs.RoundTrip.{code_kept, byte_kept, narrow_kept, neighbour_kept}
use Rattle.kept.proofs.Unique.{one_access, one_draw}

pub demand_1 : Demand1
demand_1 = (answered_in_order, refusal_leaves, board_stays, board_chosen, each_number_reached, draws_reached, one_access, one_draw)

pub demand_2 : Demand2
demand_2 = (code_round_trip, byte_round_trip, narrow_round_trip, code_kept, byte_kept, narrow_kept, neighbour_kept, unused_stay)

pub demand_3 : Demand3
demand_3 = (draw_fresh, marks_exact, lists_fitted, answered_in_order)

pub moves : Moves
moves = (step_idle, move_ends, move_goes_on, nop_ends, move_fitted)
