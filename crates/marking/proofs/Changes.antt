-- The blocks in which stores at one X and Y change a byte, and what such stores mark.
-- Assumes nothing.
use Prim.Native.Nat.{ℕ, ◌+◌, ◌*◌, ◌<◌, ◌≤◌}
use mathlib.Core.Path.{◌≡◌, refl, sym, ap, ap₂, ◌∙◌}
use mathlib.Core.Bool.{Bool, true, false, not, ◌&&◌, ◌||◌, or-false}
use mathlib.Core.List.{List, [], ◌∷◌}
use mathlib.Core.Logic.{◌⊎◌, inl, inr, ⊎_elim}
use native.Mathlib.Omega.{arith}
use lib.Dec.{eqb, ltb}
use lib.ListN.{length, get_or, take}
use borrow.Author.Tests.{eq-eqb, ne_eqb}
use Rattle.basics.specs.Choice.{pick}
use Rattle.basics.proofs.Choice.{pick_same, or_none, or_neither, eq_or_ne}
use Rattle.address.specs.declared.triple.Triple.{Triple}
use Rattle.address.specs.Triples.{legal_in}
use Rattle.address.specs.Places.{place_of, block_of, byte_at}
use Rattle.address.specs.Narrow.{attributes_at}
use Rattle.address.proofs.Laws.{legal_page, legal_block}
use Rattle.address.proofs.Places.{place_within, place_block, blocks_differ}
use Rattle.address.proofs.Positions.{attributes_apart}
use Rattle.shown.specs.declared.Shown.{Shown}
use Rattle.shown.specs.Refusals.{can_draw}
use Rattle.page.specs.Marks.{marked_too}
use Rattle.reading.specs.Lists.{on_list}
use Rattle.reading.specs.Marks.{Store, store_marks, stores_marks, narrow_stores, code_stores}
use Rattle.keys.specs.HowKeys.{passes, some_block, some_changed}
use Rattle.marking.specs.HowMarked.{changed_block, some_on_list, change_marks}
use Rattle.reading.proofs.Marking.{marked_none, marked_same}
use Rattle.reading.proofs.Several.{several}
use Rattle.marking.proofs.Apart.{Apart, some_store, changes_it, each_changes}

module _ (m : List ℕ) (p q z v : ℕ) (at : q ≡ p) where
  pub changed_not : get_or m q 0 ≡ v → 255 ≡ changed_block m p z v
  unfolding changed_block
  changed_not e = rw (eq-eqb (get_or m p 0) v (ap (λ (k : ℕ). get_or m k 0) (sym at) ∙ e))

  pub changed_there : (get_or m q 0 ≡ v → ⊥) → z ≡ changed_block m p z v
  unfolding changed_block
  changed_there n = rw (ne_eqb (get_or m p 0) v (λ e. n (ap (λ (k : ℕ). get_or m k 0) at ∙ e)))

-- the offset in a block, of a triple that is legal and fitted
pub here_fits : (board : ℕ) (t : Triple) (here : ℕ) → legal_in board t ≡ true → here ≡ place_of t.x t.y 0 → here < 1024
here_fits board t here lawful e = omega (arith, place_block t.x t.y 0 (legal_page board t lawful))

-- and the block that the code has
pub block_fits : (board block : ℕ) (t : Triple) → legal_in board t ≡ true → block ≡ t.z → block < board
block_fits board block t lawful e = rw e (legal_block board t lawful)

-- a block that changes is fitted
pub changed_fits : (board : ℕ) (m : List ℕ) (p z v b : ℕ) → z < board → b ≡ changed_block m p z v → (b ≡ 255) ⊎ (b < board)
unfolding changed_block
changed_fits board m p z v b l e = rw e (go (eqb (byte_at m p) v))
  where
    go : (t : Bool) → (pick t 255 z ≡ 255) ⊎ (pick t 255 z < board)
    go true = inl refl
    go false = inr l

-- the block that the code has, by the place
pub changed_at :
    (m : List ℕ) (x y z v here block changed : ℕ) → here ≡ place_of x y 0 → block ≡ z → changed ≡ changed_block m (1024 * block + here) block v
    → changed ≡ changed_block m (place_of x y z) z v
changed_at m x y z v here block changed eh eb e =
    let p : 1024 * z + here ≡ place_of x y z = omega (arith, place_within x y z) in
    e ∙ ap (λ (k : ℕ). changed_block m (1024 * k + here) k v) eb ∙ ap (λ (k : ℕ). changed_block m k z v) p

-- the same of a byte that is asked for or not
pub changed_if_fits :
    (board : ℕ) (m : List ℕ) (p z v b : ℕ) (asked : Bool) → (asked ≡ true → z < board) → b ≡ pick asked (changed_block m p z v) 255 → (b ≡ 255) ⊎ (b < board)
changed_if_fits board m p z v b true l e = changed_fits board m p z v b (l refl) e
changed_if_fits board m p z v b false l e = inl e

pub changed_if_at :
    (m : List ℕ) (x y z v here block changed : ℕ) (asked : Bool) → here ≡ place_of x y 0 → block ≡ z → changed ≡ pick asked (changed_block m (1024 * block + here) block v) 255
    → changed ≡ pick asked (changed_block m (place_of x y z) z v) 255
changed_if_at m x y z v here block changed asked eh eb e = e ∙ ap (λ (n : ℕ). pick asked n 255) (changed_at m x y z v here block _ eh eb refl)

-- a block that changes passes where it does
changed_passes : (f : ℕ → Bool) (m : List ℕ) (p z v : ℕ) → z < 255 → passes f (changed_block m p z v) ≡ (not (eqb (byte_at m p) v) && f z)
unfolding changed_block
changed_passes f m p z v l = go (eqb (byte_at m p) v)
  where
    go : (t : Bool) → passes f (pick t 255 z) ≡ (not t && f z)
    go true = refl
    go false = ap (λ (t : Bool). not t && f z) (ne_eqb z 255 (λ e. omega arith))

-- the places at one X and Y in two blocks
places_differ : (x y i j : ℕ) → (i ≡ j → ⊥) → place_of x y i ≡ place_of x y j → ⊥
places_differ x y i j n e = n (omega (arith, place_within x y i, place_within x y j))

module _ (shown : Shown) (m : List ℕ) (marks : List Bool) (long : length marks ≡ 25) where
  abbrev on : ℕ → ℕ → ℕ → ℕ → Bool
  on x y r z = on_list shown m (place_of x y z) r

  -- a store at X and Y changes a byte that a list holds exactly where the block that the code has for it passes
  passed :
      (x y z v b : ℕ) → z < 255 → b ≡ changed_block m (place_of x y z) z v
      → (r : ℕ) → changes_it shown m r (record { place = place_of x y z; value = v }) ≡ passes (on x y r) b
  passed x y z v b small e r = sym (ap (passes (on x y r)) e ∙ changed_passes (on x y r) m (place_of x y z) z v small)

  -- stores at X and Y, none where another was, mark the rows whose lists hold a byte in a block that the code has
  stores_change :
      (x y : ℕ) (stores : List Store) (blocks : List ℕ) → Apart stores
      → ((r : ℕ) → some_store (changes_it shown m r) stores ≡ some_block (on x y r) blocks)
      → stores_marks shown m stores marks ≡ change_marks shown m x y blocks marks
  unfolding change_marks some_on_list
  stores_change x y stores blocks off e =
      several shown stores m marks long
      ∙ ap (λ (l : List Bool). pick (can_draw shown) l marks) (marked_same _ marks _ (λ r l. each_changes shown m r stores off ∙ e r))

  -- one store
  pub store_changes :
      (x y z v : ℕ) → z < 255 → (b : ℕ) → b ≡ changed_block m (place_of x y z) z v
      → store_marks shown m (place_of x y z) v marks ≡ change_marks shown m x y (b ∷ 255 ∷ 255 ∷ []) marks
  unfolding stores_marks some_block
  store_changes x y z v small b e =
      stores_change x y (record { place = place_of x y z; value = v } ∷ []) (b ∷ 255 ∷ 255 ∷ []) (tt, tt)
      (λ r. ap (λ (t : Bool). t || false) (passed x y z v b small e r))

  module _ (t : Triple) where
    abbrev at : ℕ → ℕ
    at z = place_of t.x t.y z

    abbrev changed : ℕ → ℕ → ℕ
    changed z v = changed_block m (at z) z v

    -- the two stores of a position of 80 columns
    pub narrow_changes :
        (c a u v : ℕ) → t.z < 255 → (attributes_at t).z < 255 → u ≡ changed t.z c → v ≡ changed (attributes_at t).z a
        → stores_marks shown m (narrow_stores t c a) marks ≡ change_marks shown m t.x t.y (u ∷ v ∷ 255 ∷ []) marks
    unfolding narrow_stores some_block
    narrow_changes c a u v sc sa eu ev =
        stores_change t.x t.y (narrow_stores t c a) (u ∷ v ∷ 255 ∷ [])
        ((places_differ t.x t.y (attributes_at t).z t.z (attributes_apart t), tt), (tt, tt))
        (λ r.
        ap₂ ◌||◌ (passed _ _ t.z c u sc eu r)
        (ap (λ (b : Bool). b || false) (passed _ _ (attributes_at t).z a v sa ev r)))

    -- the three stores of a code
    pub code_changes :
        (c b a u v w : ℕ) → block_of t.z 0 < 255 → block_of t.z 1 < 255 → block_of t.z 2 < 255
        → u ≡ changed (block_of t.z 0) c → v ≡ changed (block_of t.z 1) b → w ≡ changed (block_of t.z 2) a
        → stores_marks shown m (code_stores t c b a) marks ≡ change_marks shown m t.x t.y (u ∷ v ∷ w ∷ []) marks
    unfolding code_stores some_block
    code_changes c b a u v w sc sb sa eu ev ew =
        stores_change t.x t.y (code_stores t c b a) (u ∷ v ∷ w ∷ [])
        ((off 1 0 (omega arith) (omega arith), (off 2 0 (omega arith) (omega arith), tt)), ((off 2 1 (omega arith) (omega arith), tt), (tt, tt)))
        (λ r.
        ap₂ ◌||◌ (passed _ _ (block_of t.z 0) c u sc eu r)
        (ap₂ ◌||◌ (passed _ _ (block_of t.z 1) b v sb ev r) (or-false _ ∙ passed _ _ (block_of t.z 2) a w sa ew r)))
      where
        -- one is not at the place of one before it
        off : (i j : ℕ) → i < 4 → j < i → at (block_of t.z i) ≡ at (block_of t.z j) → ⊥
        off i j l h = places_differ t.x t.y (block_of t.z i) (block_of t.z j) (λ e. omega (arith, blocks_differ t.z i j l (omega arith) e))

    -- the first bytes of a code: one, two or three
    abbrev In : ℕ → ℕ → ℕ → ℕ → Type 0
    In bytes k v u = u ≡ pick (ltb k bytes) (changed (block_of t.z k) v) 255

    module _ (bytes c b a u v w : ℕ) (s : (k : ℕ) → k < bytes → block_of t.z k < 255) (eu : u ≡ changed (block_of t.z 0) c) (ev : In bytes 1 b v) (ew : In bytes 2 a w) where
      abbrev Span : ℕ → Type 0
      Span n = stores_marks shown m (take n (code_stores t c b a)) marks ≡ change_marks shown m t.x t.y (u ∷ v ∷ w ∷ []) marks

      one : bytes ≡ 1 → Span bytes
      unfolding code_stores stores_marks
      one e =
          let v0 : v ≡ 255 = rw e at ev in
          let w0 : w ≡ 255 = rw e at ew in
          rw (e, v0, w0) (store_changes t.x t.y (block_of t.z 0) c (s 0 (omega arith)) u eu)

      two : bytes ≡ 2 → Span bytes
      unfolding code_stores some_block
      two e =
          let v0 : v ≡ changed (block_of t.z 1) b = rw e at ev in
          let w0 : w ≡ 255 = rw e at ew in
          rw (e, w0)
          (stores_change t.x t.y (take 2 (code_stores t c b a)) (u ∷ v ∷ 255 ∷ [])
          ((places_differ t.x t.y (block_of t.z 1) (block_of t.z 0) (λ q. omega (arith, blocks_differ t.z 1 0 (omega arith) (omega arith) q)), tt), (tt, tt))
          (λ r.
          ap₂ ◌||◌ (passed _ _ (block_of t.z 0) c u (s 0 (omega arith)) eu r)
          (ap (λ (k : Bool). k || false) (passed _ _ (block_of t.z 1) b v (s 1 (omega arith)) v0 r))))

      three : bytes ≡ 3 → Span bytes
      unfolding code_stores
      three e =
          let v0 : v ≡ changed (block_of t.z 1) b = rw e at ev in
          let w0 : w ≡ changed (block_of t.z 2) a = rw e at ew in
          rw e (code_changes c b a u v w (s 0 (omega arith)) (s 1 (omega arith)) (s 2 (omega arith)) eu v0 w0)

      pub span_changes : 1 ≤ bytes → bytes ≤ 3 → Span bytes
      span_changes l h =
          ⊎_elim (λ (e : bytes ≡ 1). one e)
          (λ (n : bytes ≡ 1 → ⊥). ⊎_elim (λ (e : bytes ≡ 2). two e) (λ (k : bytes ≡ 2 → ⊥). let e : bytes ≡ 3 = omega arith in three e) (eq_or_ne bytes 2))
          (eq_or_ne bytes 1)

  -- the ends of the code: no byte changes, the rows are asked, and a draw would be refused
  module _ (x y : ℕ) (blocks : List ℕ) where
    none_on : some_changed blocks ≡ false → (r : ℕ) → some_on_list shown m x y blocks r ≡ false
    unfolding some_changed some_on_list some_block
    none_on none r =
        let p = not (eqb (get_or blocks 0 0) 255) in
        let q = not (eqb (get_or blocks 1 0) 255) in
        let w = not (eqb (get_or blocks 2 0) 255) in
        let rest = or_none p (q || w) none in
        ap₂ ◌||◌ (ap (λ (t : Bool). t && on x y r (get_or blocks 0 0)) (or_neither p (q || w) none))
        (ap₂ ◌||◌ (ap (λ (t : Bool). t && on x y r (get_or blocks 1 0)) (or_neither q w rest)) (ap (λ (t : Bool). t && on x y r (get_or blocks 2 0)) (or_none q w rest)))

    pub changes_none : (some : Bool) → some ≡ some_changed blocks → some ≡ false → marks ≡ change_marks shown m x y blocks marks
    unfolding change_marks
    changes_none some es n =
        sym
        (ap (λ (l : List Bool). pick (can_draw shown) l marks) (sym (marked_none _ marks long (λ r l. none_on (sym es ∙ n) r)))
        ∙ pick_same (can_draw shown) marks)

    pub changes_asked :
        (drawn : Bool) → drawn ≡ can_draw shown → drawn ≡ true → (after : List Bool) → after ≡ marked_too (some_on_list shown m x y blocks) marks
        → after ≡ change_marks shown m x y blocks marks
    unfolding change_marks
    changes_asked drawn learnt can after made = rw (sym learnt ∙ can) made

    pub changes_refused : (drawn : Bool) → drawn ≡ can_draw shown → drawn ≡ false → marks ≡ change_marks shown m x y blocks marks
    unfolding change_marks
    changes_refused drawn learnt can = rw (sym learnt ∙ can)
