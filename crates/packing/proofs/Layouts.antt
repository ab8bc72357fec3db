-- Laws of the 64 bytes of a processor and of the 48 that show it: the parts that are put in make the whole.
-- Assumes nothing.
use Prim.Native.Nat.{ℕ}
use mathlib.Core.Path.{◌≡◌, refl, sym, ap, ◌∙◌}
use mathlib.Core.Bool.{Bool}
use mathlib.Core.List.{List, [], ◌∷◌, ◌++◌, map, append_assoc}
use native.Mathlib.Omega.{arith}
use lib.ListN.{length, get_or, take, drop, replicate, length-append, length-map}
use lib.Seq.{paste}
use Rattle.basics.specs.Choice.{one_if}
use Rattle.board.specs.Boards.{part_number}
use Rattle.board.specs.declared.Part.{Part}
use Rattle.processor.specs.declared.state.Processor.{Processor}
use Rattle.processor.specs.States.{register_of, status_of, shown_of}
use Rattle.packing.specs.Layouts.{unpacked, is_on, part_of_byte, blocks_of_byte, is_busy_byte}
use Rattle.packing.specs.Reports.{reported, registers_shown, drawn_by}
use Rattle.packing.proofs.Parts.{put_middle}

-- the zeros with two bits, x and y, the phase and the board's byte, then the registers, the indirect registers and the marks
pub packed_parts :
    (p : Processor) (m a n x y z : ℕ) (b1 b2 b3 : List ℕ) → length p.registers ≡ 8 → length p.indirect ≡ 8 → length p.marks ≡ 25
    → m ≡ x → a ≡ y → n ≡ z
    → b1 ≡ paste (replicate 16 0 ++ (m ∷ a ∷ p.phase ∷ []) ++ replicate 25 0 ++ (n ∷ replicate 19 0)) 0 p.registers 8
    → b2 ≡ paste b1 8 p.indirect 8 → b3 ≡ paste b2 19 (map one_if p.marks) 25
    → b3 ≡ p.registers ++ p.indirect ++ (x ∷ y ∷ p.phase ∷ []) ++ map one_if p.marks ++ (z ∷ replicate 19 0)
packed_parts p m a n x y z b1 b2 b3 lr li lm em ea en e1 e2 e3 =
    let R : List ℕ = p.registers in
    let I : List ℕ = p.indirect in
    let B : List ℕ = m ∷ a ∷ p.phase ∷ [] in
    let N : List ℕ = n ∷ replicate 19 0 in
    let X : List ℕ = B ++ replicate 25 0 ++ N in
    let l19 : length (R ++ I ++ B) ≡ 19 = length-append (R ++ I) B ∙ omega (arith, length-append R I) in
    let f1 : b1 ≡ R ++ replicate 8 0 ++ X =
    e1 ∙ put_middle [] (replicate 8 0) (replicate 8 0 ++ X) R 0 8 refl refl lr ∙ sym (append_assoc R (replicate 8 0) X) in
    let f2 : b2 ≡ R ++ I ++ B ++ replicate 25 0 ++ N =
    e2
    ∙ ap (λ (b : List ℕ). paste b 8 I 8) f1
    ∙ put_middle R (replicate 8 0) X I 8 8 lr refl li
    ∙ sym (append_assoc (R ++ I) (B ++ replicate 25 0) N)
    ∙ ap (λ (b : List ℕ). b ++ N) (sym (append_assoc (R ++ I) B (replicate 25 0))) in
    e3
    ∙ ap (λ (b : List ℕ). paste b 19 (map one_if p.marks) 25) f2
    ∙ put_middle (R ++ I ++ B) (replicate 25 0) N (map one_if p.marks) 19 25 l19 refl (length-map p.marks one_if ∙ lm)
    ∙ rw (em, ea, en)

-- the parts that are taken out, with the three bytes between them and the board's
pub unpacked_parts :
    (bytes r i : List ℕ) (marks : List Bool) (blocks : ℕ) (busy : Bool) (part : Part) → r ≡ take 8 bytes → i ≡ take 8 (drop 8 bytes) → marks ≡ map is_on (take 25 (drop 19 bytes)) → blocks ≡ blocks_of_byte (get_or bytes 44 0)
    → busy ≡ is_busy_byte (get_or bytes 44 0) → part ≡ part_of_byte (get_or bytes 44 0)
    → record { registers = r; indirect = i; lxm = is_on (get_or bytes 16 0); lxa = is_on (get_or bytes 17 0); phase = get_or bytes 18 0; marks = marks; blocks = blocks; busy = busy; part = part }
    ≡ unpacked bytes
unfolding unpacked
unpacked_parts bytes r i marks blocks busy part er ei em eb eu ep = rw (er, ei, em, eb, eu, ep)

-- what is shown before the marks, then the marks
pub reported_parts :
    (p : Processor) (s n : ℕ) (b : List ℕ) → length p.marks ≡ 25 → s ≡ status_of p → n ≡ part_number p.part
    → b
    ≡ paste
    (register_of p 1 ∷ register_of p 2 ∷ register_of p 3 ∷ register_of p 4 ∷ register_of p 5 ∷ register_of p 6 ∷ register_of p 7 ∷ register_of p 0 ∷ s
    ∷ (shown_of p).tgs ∷ (shown_of p).mat ∷ (shown_of p).pat ∷ (shown_of p).dor ∷ (shown_of p).ror ∷ (shown_of p).phase ∷ (replicate 25 0 ++ (n ∷ p.blocks ∷ replicate 6 0)))
    15 (map one_if p.marks) 25
    → b ≡ reported p
unfolding reported
reported_parts p s n b lm es en e =
    e
    ∙ rw (es, en)
    (put_middle (registers_shown p ++ drawn_by (shown_of p)) (replicate 25 0) (part_number p.part ∷ p.blocks ∷ replicate 6 0) (map one_if p.marks) 15 25
    refl refl (length-map p.marks one_if ∙ lm))
