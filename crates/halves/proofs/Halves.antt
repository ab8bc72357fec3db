-- Laws of halves.
-- Assumes nothing.
use Prim.Native.Nat.{ℕ, zero, suc, ◌+◌, ◌-◌, ◌*◌, ◌%◌, ◌<◌, ◌≤◌}
use mathlib.Core.Path.{◌≡◌, refl, sym, ap, ap₂, ◌∙◌}
use mathlib.Core.Bool.{Bool, true, false, not, ◌&&◌, and-true}
use mathlib.Core.List.{List, [], ◌∷◌, ◌++◌, append_assoc, append-nil}
use mathlib.Core.Logic.{◌⊎◌, inl, inr, ⊎_elim}
use native.Mathlib.Omega.{arith}
use lib.Dec.{eqb}
use lib.ListN.{length, get_or, take, drop, length-append, length-drop, drop_of_length-le}
use lib.Seq.{take_at, drop_at, drop-drop, take-suc, take_all, length-take-le, get_or-take, get_or-drop, get_or-append-add}
use borrow.Rule.Slice.PartMut.{put_mid}
use lib.Pointwise.{pointwise}
use Rattle.basics.specs.Below.{any_below}
use Rattle.basics.specs.Choice.{pick}
use Rattle.basics.specs.Parts.{joined, table}
use Rattle.basics.proofs.Choice.{eq_or_ne}
use Rattle.basics.proofs.Below.{any_not, any_never, any_same}
use Rattle.basics.proofs.Parts.{length_table, table_at, table_same}
use Rattle.basics.proofs.Filled.{filled, table_front}
use Rattle.board.specs.Boards.{bytes_of}
use Rattle.board.specs.declared.Part.{Part}
use Rattle.board.specs.declared.Part.TheVariants.{Ef9345, Ts9347}
use Rattle.address.specs.Places.{place_of, block_of}
use Rattle.address.specs.Rows.{row_y}
use Rattle.address.proofs.Laws.{facts_page, row_facts}
use Rattle.shown.specs.declared.Shown.{Shown}
use Rattle.shown.specs.Origins.{yor_of, first_block}
use Rattle.page.specs.Codes.{code_at, row_buffer}
use Rattle.page.specs.HowCodes.{code_of, is_fitted, Has}
use Rattle.page.specs.Halves.{is_tall, is_wide, same_code, goes_on, second_half, lower_half, right_half, lower_halves}
use Rattle.page.specs.HowHalves.{Compared, right_in, goes_on_in, goes_on_at, next_lower_in, next_lower_at}
use Rattle.page.specs.declared.stretch.Starts.{Starts}
use Rattle.page.proofs.Stretches.{compared_on}
use Rattle.halves.specs.Above.{next_lower_on}
use Rattle.page.proofs.Codes.{buffer, code_kept, has_block, bare_block, bare_byte, first_fitted}

-- a list of three, and what `==` says of two of them
three_listed : (a : List ℕ) → length a ≡ 3 → a ≡ get_or a 0 0 ∷ get_or a 1 0 ∷ get_or a 2 0 ∷ []
three_listed a h =
    sym (take_all 3 a (omega (arith, h))) ∙ rw (take-suc a 2 0 (omega (arith, h)), take-suc a 1 0 (omega (arith, h)), take-suc a 0 0 (omega (arith, h)))

pub same_is : (a b : List ℕ) → length a ≡ 3 → length b ≡ 3 → pointwise eqb a b ≡ same_code a b
unfolding same_code
same_is a b p q =
    ap₂ (pointwise eqb) (three_listed a p) (three_listed b q)
    ∙ ap (λ (t : Bool). eqb (get_or a 0 0) (get_or b 0 0) && (eqb (get_or a 1 0) (get_or b 1 0) && t)) (and-true (eqb (get_or a 2 0) (get_or b 2 0)))

module _ (doubles : List ℕ → Bool) (code : ℕ → List ℕ) where
  pub first_half : second_half doubles code 0 ≡ false
  unfolding second_half
  first_half = refl

  -- at a cell that is not the first
  pub half_next :
      (i : ℕ) → 0 < i → (goes_on (doubles (code i)) (code i) (code (i - 1)) && not (second_half doubles code (i - 1))) ≡ second_half doubles code i
  unfolding second_half
  half_next zero l = absurd (omega arith)
  half_next (suc i) l =
      let e : suc i - 1 ≡ i = omega arith in
      ap (λ (j : ℕ). goes_on (doubles (code (suc i))) (code (suc i)) (code j) && not (second_half doubles code j)) e

-- halves of two runs that agree so far
pub half_same :
    (doubles : List ℕ → Bool) (f g : ℕ → List ℕ) (n : ℕ) → ((i : ℕ) → i ≤ n → f i ≡ g i) → second_half doubles f n ≡ second_half doubles g n
unfolding second_half
half_same doubles f g zero e = refl
half_same doubles f g (suc n) e = rw (e (suc n) (omega arith), e n (omega arith), half_same doubles f g n (λ i l. e i (omega arith)))

-- the right halves of a row are those of its buffer
pub right_row : (shown : Shown) (m : List ℕ) (r x : ℕ) → x < 40 → right_in (row_buffer shown m r) x ≡ right_half shown m r x
right_row shown m r x l =
    half_same is_wide (λ i. get_or (row_buffer shown m r) i []) (code_at shown m r) x (λ i h. table_at (code_at shown m r) 40 i [] (omega arith))

-- a turn along a row: from what the code learnt of cell x, and the halves so far
pub right_turn :
    (cells : List (List ℕ)) (x : ℕ) (halves : List Bool) (w on : Bool)
    → 0 < x → w ≡ is_wide (get_or cells x []) → on ≡ goes_on w (get_or cells x []) (get_or cells (x - 1) []) → take x halves ≡ table (right_in cells) x
    → (on && not (get_or halves (x - 1) false)) ≡ right_in cells x
right_turn cells x halves w on l ew eo et =
    rw (eo, ew, table_front (right_in cells) halves x (x - 1) false et (omega arith)) (half_next is_wide (λ i. get_or cells i []) x l)

-- where no cell of a row is of double width, no right half is shown
none_right :
    (cells : List (List ℕ)) → ((x : ℕ) → x < 40 → is_wide (get_or cells x []) ≡ false) → table (λ x. false) 40 ≡ table (right_in cells) 40
none_right cells single_wide = table_same _ _ 40 (λ x l. sym (single x l))
  where
    single : (x : ℕ) → x < 40 → right_in cells x ≡ false
    single x l =
        ⊎_elim
        (λ (e : x ≡ 0). rw e (first_half is_wide (λ i. get_or cells i [])))
        (λ n. sym (half_next is_wide (λ i. get_or cells i []) x (omega (arith, n))) ∙ rw (single_wide x l))
        (eq_or_ne x 0)

-- a cell whose B is 0 is of single height
zero_single : (part : Part) (code : List ℕ) → get_or code 1 0 ≡ 0 → is_tall part code ≡ false
unfolding is_tall
zero_single Ef9345 code e = rw e
zero_single Ts9347 code e = rw e

module _ (shown : Shown) (m : List ℕ) (whole : length m ≡ bytes_of shown.blocks) where
  pub right_none :
      (r z y yor : ℕ) (cells : List (List ℕ)) → cells ≡ row_buffer shown m r → z ≡ first_block shown → y ≡ row_y yor r → yor ≡ yor_of shown
      → any_below (λ x. is_wide (code_of m z y x)) 40 ≡ false → table (λ x. false) 40 ≡ table (right_in cells) 40
  right_none r z y yor cells is-cells ez ey eo none =
      none_right cells
      (λ x l.
      rw (is-cells ∙ sym (buffer shown m whole r z y yor ez ey eo), table_at (code_of m z y) 40 x [] l) (any_not (λ i. is_wide (code_of m z y i)) 40 x none l))

  -- where the page's second block is not fitted every B byte is 0, and no cell doubles
  module _ (bare : is_fitted shown 1 ≡ false) where
    second_zero : (r x : ℕ) → x < 40 → get_or (code_at shown m r x) 1 0 ≡ 0
    unfolding code_of
    second_zero r x l =
        let y = row_y (yor_of shown) r in
        rw (code_kept shown m whole r x l)
        (bare_byte m (first_block shown) y x 1 (facts_page x y l (row_facts (yor_of shown) r)) (bare_block shown m whole 1 bare))

    never_tall : (r x : ℕ) → x < 40 → is_tall shown.part (code_at shown m r x) ≡ false
    never_tall r x l = zero_single shown.part (code_at shown m r x) (second_zero r x l)

    never_wide : (r x : ℕ) → x < 40 → is_wide (code_at shown m r x) ≡ false
    unfolding is_wide
    never_wide r x l = rw (second_zero r x l)

    pub right_bare : (r : ℕ) (cells : List (List ℕ)) → cells ≡ row_buffer shown m r → table (λ x. false) 40 ≡ table (right_in cells) 40
    right_bare r cells is-cells = none_right cells (λ x l. rw (is-cells, table_at (code_at shown m r) 40 x [] l) (never_wide r x l))

    pub on_bare : (r : ℕ) → false ≡ any_below (goes_on_at shown m r) 40
    on_bare r = sym (any_never (goes_on_at shown m r) 40 (λ x l. rw (never_tall r x l)))

    pub lower_bare : (r : ℕ) (lowers : List Bool) → table (λ x. false) 40 ≡ table (next_lower_at shown m r lowers) 40
    lower_bare r lowers = table_same _ _ 40 (λ x l. rw (never_tall r x l))

  -- where it is fitted, what the code compares as third bytes
  pub compared : (z t : ℕ) → z ≡ first_block shown → is_fitted shown 1 ≡ true → t ≡ pick (is_fitted shown 2) 2 0 → Compared m z t
  compared z t ez fitted et = rw ez (has_block shown m whole 0 (first_fitted shown fitted), has_block shown m whole 1 fitted, at_third (is_fitted shown 2) refl et)
    where
      at_third : (b : Bool) → is_fitted shown 2 ≡ b → t ≡ pick b 2 0 → ((t ≡ 2) × Has m (first_block shown) 2) ⊎ ((t ≡ 0) × (length m ≤ 1024 * block_of (first_block shown) 2))
      at_third true e p = inl (p, has_block shown m whole 2 e)
      at_third false e p = inr (p, bare_block shown m whole 2 e)

-- the three ways of a row's lower halves
module _ (shown : Shown) (m : List ℕ) (r : ℕ) where
  pub lower_service : r ≡ 0 → table (λ x. false) 40 ≡ lower_halves shown m r
  lower_service e = table_same _ _ 40 (λ x l. rw e (sym (first_half (is_tall shown.part) _)))

  module _ (pos : 0 < r) where
    pub lower_next : (halves : List Bool) → halves ≡ lower_halves shown m (r - 1) → table (next_lower_at shown m r halves) 40 ≡ lower_halves shown m r
    lower_next halves e =
        table_same _ _ 40
        (λ x l.
        ap (λ (b : Bool). goes_on_at shown m r x && not b) (ap (λ (h : List Bool). get_or h x false) e ∙ table_at (lower_half shown m (r - 1)) 40 x false l)
        ∙ half_next (is_tall shown.part) (λ i. code_at shown m i x) r pos)

    pub lower_none : any_below (goes_on_at shown m r) 40 ≡ false → table (λ x. false) 40 ≡ lower_halves shown m r
    lower_none e =
        table_same _ _ 40
        (λ x l.
        ap (λ (a : Bool). a && not (lower_half shown m (r - 1) x)) (sym (any_not (goes_on_at shown m r) 40 x e l))
        ∙ half_next (is_tall shown.part) (λ i. code_at shown m i x) r pos)

-- the cells of a row and of the row above it, by the block and the Ys that the code has
module _
    (shown : Shown) (m : List ℕ) (whole : length m ≡ bytes_of shown.blocks)
    (r z y u yor : ℕ) (ez : z ≡ first_block shown) (ey : y ≡ row_y yor r) (eu : u ≡ row_y yor (r - 1)) (eo : yor ≡ yor_of shown)
  where
    on_row : (x : ℕ) → x < 40 → goes_on_in shown.part m z y u x ≡ goes_on_at shown m r x
    on_row x l = rw (ez, ey, eu, eo, code_kept shown m whole r x l, code_kept shown m whole (r - 1) x l)

    pub on_rows : any_below (goes_on_in shown.part m z y u) 40 ≡ any_below (goes_on_at shown m r) 40
    on_rows = any_same _ _ 40 on_row

    pub lower_rows : (lowers : List Bool) → table (next_lower_in shown.part m z y u lowers) 40 ≡ table (next_lower_at shown m r lowers) 40
    lower_rows lowers = table_same _ _ 40 (λ x l. ap (λ (t : Bool). t && not (get_or lowers x false)) (on_row x l))

-- while the halves of a stretch are put, those that are still to come stand as they did
module _ {A : Type 0} where
  pub still_there : (f : ℕ → A) (xs₀ xs : List A) (i : ℕ) (d : A) → xs ≡ filled 1 (λ n. f n ∷ []) xs₀ i → get_or xs i d ≡ get_or xs₀ i d
  still_there f xs₀ xs i d q =
      let here : i ≡ length (table f i) + 0 = rw (length_table f i) (omega arith) in
      let there : 1 * i + 0 ≡ i = omega arith in
      ap (λ (z : List A). get_or z i d) q
      ∙ ap (λ (k : ℕ). get_or (table f i ++ drop (1 * i) xs₀) k d) here
      ∙ get_or-append-add (table f i) (drop (1 * i) xs₀) 0 d
      ∙ get_or-drop (1 * i) xs₀ 0 d
      ∙ ap (λ (k : ℕ). get_or xs₀ k d) there

  joined_split : (part : ℕ → List A) (a b : ℕ) → joined part (a + b) ≡ joined part a ++ joined (λ i. part (a + i)) b
  unfolding joined
  joined_split part a zero = let e : a + 0 ≡ a = omega arith in rw e (sym (append-nil (joined part a)))
  joined_split part a (suc b) =
      let e : a + suc b ≡ suc (a + b) = omega arith in
      rw e (ap (λ (z : List A). z ++ part (a + b)) (joined_split part a b) ∙ append_assoc (joined part a) (joined (λ i. part (a + i)) b) (part (a + b)))

  -- the left 32 of forty put anew, and then the right 8
  pub two_put :
      (f : ℕ → A) (xs left right : List A) → length xs ≡ 40 → left ≡ table (λ i. f (0 + i)) 32 → right ≡ table (λ i. f (32 + i)) 8
      → put_mid 32 8 (left ++ drop 32 xs) right ≡ table f 40
  two_put f xs left right h p q =
      let long : length left ≡ 32 = ap length p ∙ length_table _ 32 in
      ap (λ (z : List A). z ++ (right ++ drop 8 (drop 32 (left ++ drop 32 xs)))) (take_at left (drop 32 xs) 32 long)
      ∙ ap (λ (z : List A). left ++ (right ++ drop 8 z)) (drop_at left (drop 32 xs) 32 long)
      ∙ ap (λ (z : List A). left ++ (right ++ z)) (drop-drop 8 32 xs ∙ drop_of_length-le xs {i = 40} (omega (arith, h)))
      ∙ ap (λ (z : List A). left ++ z) (append-nil right)
      ∙ ap₂ ◌++◌ (p ∙ table_same _ _ 32 (λ i l. ap f (omega arith))) q
      ∙ sym (joined_split (λ i. f i ∷ []) 32 8)

-- a stretch of the row at y is put from the halves of the row above it
pub stretch_next :
    (m : List ℕ) (z t : ℕ) → Compared m z t → (part : Part) (y u : ℕ) (halves old new : List Bool) (first n : ℕ) → first + n ≤ 40 → first % 32 + n ≤ 32 → (here above : Starts)
    → (here.c ≡ place_of first y (block_of z 0)) × (here.b ≡ place_of first y (block_of z 1)) × (here.a ≡ place_of first y (block_of z t))
    → (above.c ≡ place_of first u (block_of z 0)) × (above.b ≡ place_of first u (block_of z 1)) × (above.a ≡ place_of first u (block_of z t))
    → length old ≡ n → ((i : ℕ) → i < n → get_or old i false ≡ get_or halves (first + i) false) → new ≡ table (next_lower_on part m here above old) (length old)
    → new ≡ table (λ i. next_lower_in part m z y u halves (first + i)) n
stretch_next m z t fit part y u halves old new first n column side here above eh ea long same is =
    is
    ∙ ap (table (next_lower_on part m here above old)) long
    ∙ table_same _ _ n
    (λ i l. ap₂ (λ (on half : Bool). on && not half) (compared_on m z t fit part first i (omega (arith, l)) (omega (arith, l)) y u here above eh ea) (same i l))

-- a part of forty halves that is put anew: how long it is, and where its halves stand
pub record PartOf (halves old : List Bool) (first n : ℕ) : Type 0 where
  pub long : length old ≡ n
  pub same : (i : ℕ) → i < n → get_or old i false ≡ get_or halves (first + i) false

pub left_part : (halves : List Bool) → length halves ≡ 40 → PartOf halves (take 32 halves) 0 32
left_part halves h =
    record {
      long = length-take-le 32 halves (omega (arith, h));
      same = λ i l. get_or-take 32 halves i false l ∙ ap (λ (k : ℕ). get_or halves k false) (omega arith);
    }

-- the right 8, behind the left 32 that are put
pub record RightPart (halves left : List Bool) : Type 0 where
  pub whole : length (left ++ drop 32 halves) ≡ 40
  pub part : PartOf halves (take 8 (drop 32 (left ++ drop 32 halves))) 32 8

pub right_part :
    (halves left : List Bool) (f : ℕ → Bool) → length halves ≡ 40 → left ≡ table f (length (take 32 halves)) → RightPart halves left
right_part halves left f h e =
    record {
      whole = length-append left (drop 32 halves) ∙ rw (long, length-drop 32 halves) (omega (arith, h));
      part = record {
        long = rw there (length-take-le 8 (drop 32 halves) (rw (length-drop 32 halves) (omega (arith, h))));
        same = λ i l. ap (λ (z : List Bool). get_or z i false) there ∙ get_or-take 8 (drop 32 halves) i false l ∙ get_or-drop 32 halves i false;
      };
    }
  where
    long : length left ≡ 32
    long = ap length e ∙ length_table f _ ∙ length-take-le 32 halves (omega (arith, h))

    there : take 8 (drop 32 (left ++ drop 32 halves)) ≡ take 8 (drop 32 halves)
    there = ap (take 8) (drop_at left (drop 32 halves) 32 long)
