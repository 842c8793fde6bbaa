-- The two ways of a record in a pass, skipped or reworked; a leaf is always skipped, since it has no children.
use Prim.Native.Nat.{ℕ, suc}
use mathlib.Core.Path.{◌≡◌, refl}
use mathlib.Core.Bool.{true, false, false≢true}
use mathlib.Core.List.{List, [], ◌∷◌}
use lib.ListN.{set}
use Rattle.contraction.specs.Records.{Kind, leaf, E, R, S, C, Rec, is_leaf, below, children}
use Rattle.toggle_passes.specs.Reworking.{steps, changed, reworked, rework}

-- the two ways of a record
pub rework_skip : (old : List ℕ) (r : Rec) (rs : List Rec) (j : ℕ) (ls : List ℕ) → changed old ls (children r) ≡ false
    → rework old (r ∷ rs) j ls ≡ rework old rs (suc j) ls
rework_skip old r rs j ls e = rw (e, rework)

pub rework-here : (old : List ℕ) (r : Rec) (rs : List Rec) (j : ℕ) (ls : List ℕ) → changed old ls (children r) ≡ true
    → rework old (r ∷ rs) j ls ≡ steps (rework old rs (suc j) (set ls j (reworked ls r))).labels (suc (rework old rs (suc j) (set ls j (reworked ls r))).count)
rework-here old r rs j ls e = rw (e, rework)

-- a record that stands over a node is no leaf, and a leaf stands over none
pub leaf-none : (r : Rec) → is_leaf r.kind ≡ true → children r ≡ []
leaf-none r e = by_kind r.kind e
  where
    by_kind : (k : Kind) → is_leaf k ≡ true → below k r.first r.second ≡ []
    by_kind leaf q = refl
    by_kind (E o) q = absurd (false≢true q)
    by_kind (R side o) q = absurd (false≢true q)
    by_kind S q = absurd (false≢true q)
    by_kind C q = absurd (false≢true q)
