-- Labels right at every node are the labels worked out afresh.
use Prim.Native.Nat.{ℕ, suc, ◌+◌, ◌<◌}
use native.Mathlib.Omega.{arith}
use mathlib.Core.Path.{◌≡◌, refl, sym, ◌∙◌}
use mathlib.Core.Bool.{Bool, true, false}
use mathlib.Core.List.{List, [], ◌∷◌}
use lib.Dec.{eqb}
use borrow.Author.Tests.{eqb-true, eqb-false}
use lib.ListN.{length, get_or}
use lib.Seq.{ext_get_or}
use Rattle.formula.specs.Formula.{Formula}
use Rattle.formula.specs.States.{State}
use Rattle.contraction.specs.Records.{Rec}
use Rattle.contraction.specs.Rounds.{dwarf}
use Rattle.contraction.specs.Terms.{Each, ChildrenBelow}
use Rattle.contraction.proofs.Worked.{Good, Steady, worked_good, length-worked}
use Rattle.contraction.proofs.Order.{children_smaller}
use Rattle.contraction.proofs.Over.{over_below}
use Rattle.labels.specs.Labels.{label, labels}
use Rattle.labels.proofs.Rules.{label_local}

-- a label hangs on the labels of nodes with smaller numbers
pub below_steady : (state : State) (n : ℕ) (r : Rec) → ChildrenBelow n r → Steady (label state) n r
below_steady state n r b xs ys h = label_local state r xs ys (λ c e. h c (over_below r n c b e))

each_steady : (state : State) (rs : List Rec) (n : ℕ) → Each ChildrenBelow n rs → Each (Steady (label state)) n rs
each_steady state [] n b = tt
each_steady state (r ∷ rs) n b = (below_steady state n r b.0, each_steady state rs (suc n) b.1)

-- the labels worked out afresh are right, and the rules leave no choice
pub labels_good : (f : Formula) (state : State) → Good (label state) (labels state (dwarf f)) 0 (dwarf f)
labels_good f state = worked_good (label state) (dwarf f) [] 0 refl (each_steady state (dwarf f) 0 (children_smaller f))

good_unique : (by : List ℕ → Rec → ℕ) (rs : List Rec) (xs ys : List ℕ) (n : ℕ) → Each (Steady by) n rs → Good by xs n rs → Good by ys n rs
    → ((i : ℕ) → i < n → get_or xs i 0 ≡ get_or ys i 0) → (i : ℕ) → i < n + length rs → get_or xs i 0 ≡ get_or ys i 0
good_unique by [] xs ys n st g h e i l = e i (omega arith)
good_unique by (r ∷ rs) xs ys n st g h e i l = good_unique by rs xs ys (suc n) st.1 g.1 h.1 more i (omega arith)
  where
    more : (k : ℕ) → k < suc n → get_or xs k 0 ≡ get_or ys k 0
    more k p = go (eqb k n) refl
      where
        go : (b : Bool) → eqb k n ≡ b → get_or xs k 0 ≡ get_or ys k 0
        go true q = rw (eqb-true k n q) (g.0 ∙ st.0 xs ys e ∙ sym h.0)
        go false q = e k (below (eqb-false k n q))
          where
            below : (k ≡ n → ⊥) → k < n
            below z = omega arith

pub length-labels : (state : State) (rs : List Rec) → length (labels state rs) ≡ length rs
length-labels state rs = omega (arith, length-worked (label state) rs [])

pub labels_unique : (f : Formula) (state : State) (xs : List ℕ) → length xs ≡ length (dwarf f) → Good (label state) xs 0 (dwarf f) → xs ≡ labels state (dwarf f)
labels_unique f state xs e g =
    let rs = dwarf f in
    ext_get_or 0 xs (labels state rs) (e ∙ sym (length-labels state rs))
    (λ i p. good_unique (label state) rs xs (labels state rs) 0 (each_steady state rs 0 (children_smaller f)) g (labels_good f state) (λ k q. absurd (omega arith)) i (omega arith))
