-- Stores of which no two are at one place: each changes the byte that was there before the first of them.
-- Assumes nothing.
use Prim.Native.Nat.{ℕ}
use mathlib.Core.Path.{◌≡◌, refl, ap, ap₂, ◌∙◌}
use mathlib.Core.Bool.{Bool, false, not, ◌&&◌, ◌||◌}
use mathlib.Core.List.{List, [], ◌∷◌}
use lib.Dec.{eqb}
use lib.ListN.{set}
use lib.Seq.{get_or-set_other}
use Rattle.address.specs.Places.{byte_at}
use Rattle.shown.specs.declared.Shown.{Shown}
use Rattle.reading.specs.Lists.{on_list}
use Rattle.reading.specs.Marks.{Store, changes_on}

-- it holds of each store
abbrev Each : (Store → Type 0) → List Store → Type 0
Each P [] = Unit {0}
Each P (s ∷ stores) = P s × Each P stores

-- no store is at the place of one before it
abbrev pub Apart : List Store → Type 0
Apart [] = Unit {0}
Apart (s ∷ stores) = Each (λ u. u.place ≡ s.place → ⊥) stores × Apart stores

-- some store passes
abbrev pub some_store : (Store → Bool) → List Store → Bool
some_store f [] = false
some_store f (s ∷ stores) = f s || some_store f stores

-- row r's list is taken in memory m, before the first store
module _ (shown : Shown) (m : List ℕ) (r : ℕ) where
  -- the store changes a byte of m that the list holds
  abbrev pub changes_it : Store → Bool
  changes_it s = not (eqb (byte_at m s.place) s.value) && on_list shown m s.place r

  -- memory n has the bytes of m where the stores are
  abbrev Same : List ℕ → List Store → Type 0
  Same n = Each (λ s. byte_at n s.place ≡ byte_at m s.place)

  still : (stores : List Store) → Same m stores
  still [] = tt
  still (s ∷ stores) = (refl, still stores)

  -- also after a store elsewhere
  kept : (n : List ℕ) (p v : ℕ) (stores : List Store) → Same n stores → Each (λ u. u.place ≡ p → ⊥) stores → Same (set n p v) stores
  kept n p v [] e off = tt
  kept n p v (s ∷ stores) e off = (get_or-set_other n p s.place v 0 off.0 ∙ e.0, kept n p v stores e.1 off.1)

  each_from : (stores : List Store) (n : List ℕ) → Same n stores → Apart stores → changes_on shown m n stores r ≡ some_store changes_it stores
  unfolding changes_on
  each_from [] n e off = refl
  each_from (s ∷ stores) n e off =
      ap₂ ◌||◌ (ap (λ (byte : ℕ). not (eqb byte s.value) && on_list shown m s.place r) e.0)
      (each_from stores (set n s.place s.value) (kept n s.place s.value stores e.1 off.0) off.1)

  pub each_changes : (stores : List Store) → Apart stores → changes_on shown m m stores r ≡ some_store changes_it stores
  each_changes stores off = each_from stores m (still stores) off
