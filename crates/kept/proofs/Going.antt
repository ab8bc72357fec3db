-- A move that runs: it has legal, fitted pointers, and has them still after a step.
-- Assumes nothing.
use Rattle.std.specs.Prelude.{Option, Some, IfSome}
use Prim.Native.Nat.{ℕ, ◌/◌, ◌<◌, ◌≤◌}
use mathlib.Core.Path.{◌≡◌, refl, sym, ap, subst, ◌∙◌}
use mathlib.Core.Bool.{Bool, true, false}
use mathlib.Core.List.{List}
use mathlib.Core.Logic.{◌⊎◌, inl, inr, ⊎_elim}
use lib.ListN.{length, get_or, set}
use Rattle.basics.specs.Bits.{bits}
use Rattle.basics.specs.Choice.{pick}
use Rattle.basics.proofs.Choice.{pick_either}
use Rattle.address.specs.Addresses.{is_illegal, is_not_fitted}
use Rattle.address.specs.Places.{block_at}
use Rattle.address.specs.Pointers.{main_pointer, auxiliary_pointer}
use Rattle.address.specs.Triples.{legal, legal_in}
use Rattle.address.specs.declared.triple.Triple.{Triple}
use Rattle.address.proofs.Laws.{page_column, page_row, Row}
use Rattle.board.specs.declared.Part.{Part}
use Rattle.command.specs.declared.Command.{Command}
use Rattle.command.specs.declared.Command.TheVariants.{Move}
use Rattle.command.proofs.Asked.{asked_for}
use Rattle.command.specs.Commands.{command_for, Asked}
use Rattle.moves.specs.Onward.{is_last, next_x, next_y, main_x, main_y, across, down, onward}
use Rattle.moves.specs.Spans.{span_addresses}
use Rattle.moves.proofs.Pointers.{x_stays, y_stays, main_block_stays, auxiliary_block_stays, main_at, auxiliary_at, gone_on}
use Rattle.moves.proofs.Spans.{some_both, span_fitted}
use Rattle.processor.specs.declared.state.Processor.{Processor}
use Rattle.processor.specs.States.{register_of}
use Rattle.processor.specs.Pointers.{pointer_of}
use Rattle.processor.specs.Access.{is_astray, is_unfitted}
use Rattle.processor.proofs.Carrying.{move_pointer, move_legal}
use Rattle.kept.proofs.Programs.{eight}
use Rattle.kept.proofs.Walk.{command_in}

-- the command in R0 is a move with legal, fitted pointers
pub record Runs (bytes : ℕ) (auxiliary stops : Bool) (p : Processor) : Type 0 where
  pub is : command_in p ≡ Some (Move bytes auxiliary stops)
  pub astray : is_astray (Some (Move bytes auxiliary stops)) p ≡ false
  pub unfitted : is_unfitted (Some (Move bytes auxiliary stops)) p ≡ false

pub bytes_asked : (bytes : ℕ) (auxiliary stops : Bool) (p : Processor) → command_in p ≡ Some (Move bytes auxiliary stops) → 1 ≤ bytes
bytes_asked bytes auxiliary stops p e = (subst (λ (c : Option Command). IfSome c Asked) e (asked_for p.part (register_of p 0))).0

-- the registers after a step, by those before it: R0 and R4 stay, both X go on, and the main pointer's Y goes on or stays
abbrev pub Onto : List ℕ → List ℕ → Type 0
Onto l m =
    (get_or m 0 0 ≡ get_or l 0 0) × (get_or m 4 0 ≡ get_or l 4 0) × (get_or m 5 0 ≡ next_x (get_or l 5 0)) × (get_or m 7 0 ≡ next_x (get_or l 7 0))
    × ((get_or m 6 0 ≡ get_or l 6 0) ⊎ (get_or m 6 0 ≡ next_y (get_or l 6 0)))

across_onto : (l : List ℕ) → length l ≡ 8 → Onto l (across l)
unfolding across
across_onto l e = eight (λ m. Onto m (across m)) (λ a b c d e f g h. (refl, refl, refl, refl, inl refl)) l e

lower_onto : (l : List ℕ) → length l ≡ 8 → Onto l (across (set l 6 (next_y (main_y l))))
unfolding across
lower_onto l e = eight (λ m. Onto m (across (set m 6 (next_y (main_y m))))) (λ a b c d e f g h. (refl, refl, refl, refl, inr refl)) l e

pub onward_onto : (stops : Bool) (l : List ℕ) → length l ≡ 8 → Onto l (onward stops l)
unfolding onward down
onward_onto true l e = across_onto l e
onward_onto false l e = pick_either (λ (m : List ℕ). Onto l (across m)) (is_last (main_x l)) _ _ (lower_onto l e) (across_onto l e)

-- pointers that were legal and fitted are so after it
module _ (part : Part) (l m : List ℕ) (o : Onto l m) where
  row_after_lem : Row (bits 0 5 (get_or l 6 0)) → Row (bits 0 5 (get_or m 6 0)) × (get_or m 6 0 / 32 ≡ get_or l 6 0 / 32)
  row_after_lem r =
      ⊎_elim (λ (e : get_or m 6 0 ≡ get_or l 6 0). rw e (r, refl)) (λ (e : get_or m 6 0 ≡ next_y (get_or l 6 0)). rw e (y_stays (get_or l 6 0) r)) o.4

  abbrev main : List ℕ → Triple
  main n = main_pointer part (get_or n 6 0) (get_or n 7 0)

  abbrev auxiliary : List ℕ → Triple
  auxiliary n = auxiliary_pointer part (get_or n 4 0) (get_or n 5 0) (get_or n 6 0)

  module _ (g : legal (main l) ≡ true) where
    main_row : Row (bits 0 5 (get_or l 6 0))
    main_row = subst Row (main_at part (get_or l 6 0) (get_or l 7 0)).1 (page_row _ _ g)

    main_column : bits 0 6 (get_or l 7 0) < 40
    main_column = rw (main_at part (get_or l 6 0) (get_or l 7 0)).0 at (page_column _ _ g)

    pub main_on : (blocks k : ℕ) → legal_in blocks (block_at (main l) k) ≡ true → legal_in blocks (block_at (main m) k) ≡ true
    main_on blocks k e =
        let x = x_stays (get_or l 7 0) main_column in
        let y = row_after_lem main_row in
        let at = main_at part (get_or m 6 0) (get_or m 7 0) in
        gone_on blocks k (main l) (main m) (main_block_stays part (get_or l 6 0) (get_or m 6 0) (get_or l 7 0) (get_or m 7 0) y.1 (rw o.3 x.1))
        (rw (at.0, o.3) x.0) (subst Row (sym at.1) y.0) e

    pub auxiliary_on :
        legal (auxiliary l) ≡ true → (blocks k : ℕ) → legal_in blocks (block_at (auxiliary l) k) ≡ true → legal_in blocks (block_at (auxiliary m) k) ≡ true
    auxiliary_on h blocks k e =
        let before = auxiliary_at part (get_or l 4 0) (get_or l 5 0) (get_or l 6 0) in
        let x = x_stays (get_or l 5 0) (rw before.0 at (page_column _ _ h)) in
        let y = row_after_lem main_row in
        let at = auxiliary_at part (get_or m 4 0) (get_or m 5 0) (get_or m 6 0) in
        let block = auxiliary_block_stays part (get_or l 4 0) (get_or l 5 0) (get_or m 5 0) (get_or l 6 0) (get_or m 6 0) (rw o.2 x.1) y.1 in
        gone_on blocks k (auxiliary l) (auxiliary m) (ap (λ (n : ℕ). (auxiliary_pointer part n (get_or m 5 0) (get_or m 6 0)).z) o.1 ∙ block)
        (rw (at.0, o.2) x.0) (subst Row (sym (at.1 ∙ ap (bits 0 5) o.1)) (subst Row before.1 (page_row _ _ h))) e

-- so a move that runs does so after a step, if it does not end
module _ (bytes : ℕ) (aux stops : Bool) (p q : Processor) (h : Runs bytes aux stops p) (sp : q.part ≡ p.part) (sb : q.blocks ≡ p.blocks) (o : Onto p.registers q.registers) where
  abbrev move : Option Command
  move = Some (Move bytes aux stops)

  one : 1 ≤ bytes
  one = bytes_asked bytes aux stops p h.is

  point : (which : Bool) (k : ℕ) → k < bytes → legal_in q.blocks (block_at (pointer_of which q) k) ≡ true
  unfolding pointer_of
  point which k l = rw (sp, sb) (go which)
    where
      go : (w : Bool) → legal_in p.blocks (block_at (pick w (auxiliary_pointer p.part (register_of q 4) (register_of q 5) (register_of q 6)) (main_pointer p.part (register_of q 6) (register_of q 7))) k) ≡ true
      go false = main_on p.part p.registers q.registers o (move_pointer bytes aux stops p h.astray one false) p.blocks k (move_legal bytes aux stops p h.astray h.unfitted false k l)
      go true = auxiliary_on p.part p.registers q.registers o (move_pointer bytes aux stops p h.astray one false) (move_pointer bytes aux stops p h.astray one true) p.blocks k (move_legal bytes aux stops p h.astray h.unfitted true k l)

  pub runs_on : Runs bytes aux stops q
  runs_on =
      let m = span_addresses bytes q.blocks (pointer_of false q) in
      let a = span_addresses bytes q.blocks (pointer_of true q) in
      let fm = span_fitted bytes q.blocks (pointer_of false q) (point false) in
      let fa = span_fitted bytes q.blocks (pointer_of true q) (point true) in
      record {
        is = ap (λ (n : ℕ). command_for q.part n) o.0 ∙ ap (λ (t : Part). command_for t (register_of p 0)) sp ∙ h.is;
        astray = some_both is_illegal m a ∙ rw (fm.0, fa.0);
        unfitted = some_both is_not_fitted m a ∙ rw (fm.1, fa.1);
      }
