-- A turn of the loop that feeds.
-- Assumes nothing.
use Prim.Native.Nat.{ℕ, ◌+◌, ◌-◌, ◌*◌, ◌≤◌, ◌<◌}
use mathlib.Core.Path.{◌≡◌, sym, ap, ◌∙◌}
use mathlib.Core.List.{List, ◌++◌}
use native.Mathlib.Omega.{arith}
use native.Mathlib.Numerals.{add-one}
use lib.ListN.{length, get_or, drop, length-append, length-drop}
use lib.Seq.{take_at, drop_at, drop-drop, get_or-take, get_or-drop}
use Rattle.processor.specs.declared.execute.Answered.{Answered}
use Rattle.command.specs.Answers.{number_of}
use Rattle.processor.specs.States.{chip}
use Rattle.processor.specs.Access.{outcome_of, written}
use Rattle.panel.specs.declared.Fed.{Fed}
use Rattle.panel.specs.Feeds.{Feeding, feeding, after, fed_pairs}

pub feed_turn :
    (bytes : List ℕ) (start : Feeding) (f : Fed) (m n : List ℕ) (i : ℕ) (r : Answered) (last : ℕ)
    → feeding f m ≡ fed_pairs bytes start i
    → outcome_of r n ≡ written (get_or bytes (2 * i) 0) (get_or bytes (2 * i + 1) 0) (chip f.processor m)
    → last ≡ number_of r.answer
    → ◌≡◌ {A = Feeding} (record { processor = r.processor; memory = n; last = last }) (fed_pairs bytes start (i + 1))
unfolding fed_pairs
feed_turn bytes start f m n i r last so_far wrote number =
    rw (add-one)
    (ap (λ (k : ℕ). record { processor = r.processor; memory = n; last = k }) number
    ∙ ap after wrote
    ∙ ap (λ (g : Feeding). after (written (get_or bytes (2 * i) 0) (get_or bytes (2 * i + 1) 0) (chip g.processor g.memory))) so_far)

-- and of what the chunks leave
module _ (bytes pair rest next : List ℕ) (i : ℕ) (so_far : rest ≡ drop (2 * i) bytes) (split : rest ≡ pair ++ next) (long : length pair ≡ 2) (low : 2 * i ≤ length bytes) where
  pub pair_at : (k : ℕ) → k < 2 → get_or pair k 0 ≡ get_or bytes (2 * i + k) 0
  pair_at k h =
      ap (λ (l : List ℕ). get_or l k 0) (sym (take_at pair next 2 long))
      ∙ get_or-take 2 (pair ++ next) k 0 h
      ∙ ap (λ (l : List ℕ). get_or l k 0) (sym split ∙ so_far)
      ∙ get_or-drop (2 * i) bytes k 0

  pub pairs_left : (m : ℕ) → m ≡ i + 1 → next ≡ drop (2 * m) bytes
  pairs_left m e =
      let at : 2 * i + 2 ≡ 2 * m = omega arith in
      sym (drop_at pair next 2 long) ∙ ap (drop 2) (sym split ∙ so_far) ∙ drop-drop 2 (2 * i) bytes ∙ ap (λ (k : ℕ). drop k bytes) at

  pub pairs_low : (m : ℕ) → m ≡ i + 1 → 2 * m ≤ length bytes
  pairs_low m e =
      let whole : length bytes - 2 * i ≡ 2 + length next = sym (length-drop (2 * i) bytes) ∙ ap length (sym so_far ∙ split) ∙ length-append pair next ∙ omega arith in
      omega arith
