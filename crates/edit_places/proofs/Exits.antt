-- What each exit of a small function gives.
use Prim.Native.Nat.{ℕ, ◌+◌, ◌≤◌, ◌<◌}
use mathlib.Core.Path.{◌≡◌, refl}
use mathlib.Core.Bool.{Bool, true, false}
use mathlib.Core.List.{List}
use lib.Dec.{ltb, eqb}
use borrow.Author.Tests.{lt-ltb, le-ltb, ltb-true, ltb-false, eqb-true, eqb-false}
use lib.ListN.{get_or, set}
use Rattle.contraction.specs.Entries.{kind_at}
use Rattle.contraction.proofs.EntryLaws.{kind_at-leaf, kind_at-E, kind_at-left, kind_at-right, kind_at-S, kind_at-C}
use Rattle.edits.specs.Spots.{works}
use Rattle.edit_places.specs.Standing.{met, view, joined_starts, joined_ups, spot_of, entered}

-- the kinds of E and R
pub works-leaf : (k : ℕ) → k ≡ 0 → false ≡ works (kind_at k)
works-leaf k e = rw (kind_at-leaf k e)

pub works_in : (k : ℕ) → (k ≡ 0 → ⊥) → k < 13 → true ≡ works (kind_at k)
works_in k a b = go (ltb k 5) refl (ltb k 9) refl
  where
    go : (x : Bool) → ltb k 5 ≡ x → (y : Bool) → ltb k 9 ≡ y → true ≡ works (kind_at k)
    go true p y q = rw (kind_at-E k a (ltb-true k 5 p))
    go false p true q = rw (kind_at-left k (ltb-false k 5 p) (ltb-true k 9 q))
    go false p false q = rw (kind_at-right k (ltb-false k 9 q) b)

pub works_out : (k : ℕ) → 13 ≤ k → false ≡ works (kind_at k)
works_out k a = go (eqb k 13) refl
  where
    go : (x : Bool) → eqb k 13 ≡ x → false ≡ works (kind_at k)
    go true p = rw (kind_at-S k (eqb-true k 13 p))
    go false p = rw (kind_at-C k a (eqb-false k 13 p))

-- where a node stands
module _ (ups xs : List ℕ) (kind first : ℕ) {x : ℕ} {b : Bool} (known : b ≡ works (kind_at kind)) (is : x ≡ get_or xs first 0) where
  pub spot-over : {r : ℕ} → b ≡ true → r ≡ get_or ups x 0 → r ≡ spot_of ups xs kind first
  spot-over e q = rw (← known, e) (rw is at q)

  pub spot-same : b ≡ false → x ≡ spot_of ups xs kind first
  spot-same e = rw (← known, e) is

pub meet-leaf : (ss us xs ss' xs' : List ℕ) (c j next : ℕ) → ss' ≡ set ss j j → xs' ≡ set xs next j → c < 65520
    → view ss' us xs' (next + 1) (j + 1) ≡ met (view ss us xs next j) c
meet-leaf ss us xs ss' xs' c j next e q h = rw (e, q, lt-ltb c 65520 h)

pub meet-operation : (ss us xs ss' us' : List ℕ) (c j next : ℕ) → us' ≡ joined_ups ss us j → ss' ≡ joined_starts ss j → 65520 ≤ c
    → view ss' us' xs next (j + 1) ≡ met (view ss us xs next j) c
meet-operation ss us xs ss' us' c j next e q h = rw (e, q, le-ltb c 65520 h)

-- a node is entered, or is none to enter
module _ (kind spot i : ℕ) (ps : List ℕ) {b : Bool} (known : b ≡ works (kind_at kind)) where
  pub entered_in : {ps' : List ℕ} → b ≡ true → ps' ≡ set ps spot i → ps' ≡ entered kind spot i ps
  entered_in e q = rw (← known, e) q

  pub entered_out : b ≡ false → ps ≡ entered kind spot i ps
  entered_out e = rw (← known, e)
