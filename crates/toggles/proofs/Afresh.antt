-- A toggle leaves the labels worked out afresh from the state in which its shape is flipped.
use Prim.Native.Nat.{ℕ, zero, suc, ◌+◌, ◌<◌, ◌≤◌}
use native.Mathlib.Omega.{arith}
use mathlib.Core.Path.{◌≡◌, refl, sym, ap, ◌∙◌}
use mathlib.Core.Bool.{Bool, true, false, not, cond, ◌&&◌, ◌||◌, true≢false, false≢true}
use mathlib.Core.List.{List, [], ◌∷◌}
use lib.Dec.{eqb}
use borrow.Author.Tests.{eqb-true}
use lib.ListN.{length, get_or, set, length-set}
use lib.Seq.{get_or-set_same, get_or-set_other}
use Rattle.formula.specs.Formula.{Formula}
use Rattle.formula.specs.States.{State, outside, flipped}
use Rattle.contraction.specs.Records.{Rec, is_leaf, children, listed}
use Rattle.contraction.specs.Rounds.{dwarf}
use Rattle.contraction.specs.Terms.{Each, ChildrenBelow}
use Rattle.contraction.proofs.Worked.{Good}
use Rattle.contraction.proofs.Order.{children_smaller}
use Rattle.labels.specs.Labels.{bit, label, labels, is_of}
use Rattle.labels.proofs.Rules.{on_bit, label-leaf, label_inner, label_local}
use Rattle.labels.proofs.Links.{cases}
use Rattle.labels.proofs.Afresh.{below_steady, labels_good, labels_unique, length-labels}
use Rattle.toggle_passes.specs.Reworking.{changed, reworked, rework}
use Rattle.toggle_passes.proofs.Reworking.{rework_skip, rework-here, leaf-none}
use Rattle.toggles.specs.Toggles.{flip, flip_leaves, toggle}

-- where no child's label has changed, each is as it was
or_none : (a b : Bool) → a || b ≡ false → (a ≡ false) × (b ≡ false)
or_none true b e = absurd (true≢false e)
or_none false b e = (refl, e)

not-true : (b : Bool) → not b ≡ false → b ≡ true
not-true true e = refl
not-true false e = absurd (true≢false e)

unchanged : (old ls cs : List ℕ) (c : ℕ) → changed old ls cs ≡ false → listed c cs ≡ true → get_or ls c 0 ≡ get_or old c 0
unchanged old ls [] c e l = absurd (false≢true l)
unchanged old ls (d ∷ ds) c e l =
    let o = or_none (not (eqb (get_or ls d 0) (get_or old d 0))) (changed old ls ds) e in
    go o.0 (unchanged old ls ds c o.1) (eqb c d) refl
  where
    go : not (eqb (get_or ls d 0) (get_or old d 0)) ≡ false → (listed c ds ≡ true → get_or ls c 0 ≡ get_or old c 0) → (b : Bool) → eqb c d ≡ b → get_or ls c 0 ≡ get_or old c 0
    go same ih true q = rw (eqb-true c d q) (eqb-true _ _ (not-true _ same))
    go same ih false q = ih (rw q at l)

pub flip-on : (v : ℕ) → (v ≡ 0 → ⊥) → 0 ≡ flip v
flip-on zero n = absurd (n refl)
flip-on (suc v) n = refl

-- each leaf of the shape has the other bit, every other node the same label
abbrev flipped_leaf : ℕ → Rec → ℕ → ℕ
flipped_leaf s r x = cond (is_of s r) (flip x) x

abbrev Flips : ℕ → List ℕ → List ℕ → ℕ → List Rec → Type 0
Flips s xs ys n [] = Unit {0}
Flips s xs ys n (r ∷ rs) = (get_or ys n 0 ≡ flipped_leaf s r (get_or xs n 0)) × Flips s xs ys (suc n) rs

record AllFlipped (s : ℕ) (rs : List Rec) (i : ℕ) (ls ms : List ℕ) : Type 0 where
  pub lower : (k : ℕ) → k < i → get_or ms k 0 ≡ get_or ls k 0
  pub flips : Flips s ls ms i rs
  pub long : length ms ≡ length ls

flips_past : (s : ℕ) (rs : List Rec) (i v n : ℕ) (xs ys : List ℕ) → i < n → Flips s (set xs i v) ys n rs → Flips s xs ys n rs
flips_past s [] i v n xs ys h f = tt
flips_past s (r ∷ rs) i v n xs ys h f =
    (f.0 ∙ ap (flipped_leaf s r) (get_or-set_other xs i n v 0 (λ q. omega arith)), flips_past s rs i v (suc n) xs ys (omega arith) f.1)

flipped-leaves : (s : ℕ) (rs : List Rec) (i : ℕ) (ls : List ℕ) → i + length rs ≤ length ls → AllFlipped s rs i ls (flip_leaves s rs i ls)
flipped-leaves s [] i ls h = record { lower = λ k p. refl; flips = tt; long = refl }
flipped-leaves s (r ∷ rs) i ls h = go (is_of s r) refl (λ ms. flipped-leaves s rs (suc i) ms)
  where
    go : (b : Bool) → is_of s r ≡ b → ((ms : List ℕ) → suc i + length rs ≤ length ms → AllFlipped s rs (suc i) ms (flip_leaves s rs (suc i) ms))
        → AllFlipped s (r ∷ rs) i ls (flip_leaves s rs (suc i) (cond (is_of s r) (set ls i (flip (get_or ls i 0))) ls))
    go true e ih =
        let v = flip (get_or ls i 0) in
        let w = ih (set ls i v) (omega (arith, length-set ls i v)) in
        rw e
        record {
          lower = λ k p. w.lower k (omega arith) ∙ get_or-set_other ls i k v 0 (λ q. omega arith);
          flips = (
            rw e (w.lower i (omega arith) ∙ get_or-set_same ls i v 0 (omega arith)),
            flips_past s rs i v (suc i) ls _ (omega arith) w.flips,
          );
          long = w.long ∙ length-set ls i v;
        }
    go false e ih =
        let w = ih ls (omega arith) in
        rw e record { lower = λ k p. w.lower k (omega arith); flips = (rw e (w.lower i (omega arith)), w.flips); long = w.long }

-- what the pass leaves: right labels from node j on, and those before it as they were
record Mended (new : State) (rs : List Rec) (j : ℕ) (ls ms : List ℕ) : Type 0 where
  good : Good (label new) ms j rs
  lower : (k : ℕ) → k < j → get_or ms k 0 ≡ get_or ls k 0
  long : length ms ≡ length ls

flipped-bit : (s t : ℕ) (state : State) → cond (eqb t s) (flip (bit (state t))) (bit (state t)) ≡ bit (flipped s state t)
flipped-bit s t state = go (eqb t s)
  where
    go : (b : Bool) → cond b (flip (bit (state t))) (bit (state t)) ≡ bit (cond b (not (state t)) (state t))
    go true = ap (λ z. bit (not z)) (on_bit (state t))
    go false = refl

module _ (state : State) (s : ℕ) (old : List ℕ) where
  abbrev Mends : List Rec → ℕ → Type 0
  Mends rs j = (ls : List ℕ) → j + length rs ≤ length ls → Flips s old ls j rs → Mended (flipped s state) rs j ls (rework old rs j ls).labels

  flips_set : (rs : List Rec) (j v n : ℕ) (ls : List ℕ) → j < n → Flips s old ls n rs → Flips s old (set ls j v) n rs
  flips_set [] j v n ls h f = tt
  flips_set (r ∷ rs) j v n ls h f = (get_or-set_other ls j n v 0 (λ q. omega arith) ∙ f.0, flips_set rs j v (suc n) ls (omega arith) f.1)

  module _ (r : Rec) (rs : List Rec) (j : ℕ) (small : ChildrenBelow j r) (right : get_or old j 0 ≡ label state old r) (ih : Mends rs (suc j)) where
    abbrev new : State
    new = flipped s state

    -- the node is as it was, and right
    stays : (ls : List ℕ) → j + length (r ∷ rs) ≤ length ls → Flips s old ls j (r ∷ rs) → get_or ls j 0 ≡ label new ls r
        → Mended new (r ∷ rs) j ls (rework old rs (suc j) ls).labels
    stays ls b f is =
        let w = ih ls (omega arith) f.1 in
        record {
          good = (w.lower j (omega arith) ∙ is ∙ below_steady new j r small ls (rework old rs (suc j) ls).labels (λ k p. sym (w.lower k (omega arith))), w.good);
          lower = λ k p. w.lower k (omega arith);
          long = w.long;
        }

    -- it is reworked
    anew : (ls : List ℕ) → j + length (r ∷ rs) ≤ length ls → Flips s old ls j (r ∷ rs) → reworked ls r ≡ label new ls r
        → Mended new (r ∷ rs) j ls (rework old rs (suc j) (set ls j (reworked ls r))).labels
    anew ls b f is =
        let v = reworked ls r in
        let w = ih (set ls j v) (omega (arith, length-set ls j v)) (flips_set rs j v (suc j) ls (omega arith) f.1) in
        let kept : (k : ℕ) → k < j → get_or (rework old rs (suc j) (set ls j v)).labels k 0 ≡ get_or ls k 0 =
        λ k p. w.lower k (omega arith) ∙ get_or-set_other ls j k v 0 (λ q. omega arith) in
        record {
          good = (
            w.lower j (omega arith) ∙ get_or-set_same ls j v 0 (omega arith) ∙ is ∙ below_steady new j r small ls (rework old rs (suc j) (set ls j v)).labels (λ k p. sym (kept k p)),
            w.good,
          );
          lower = kept;
          long = w.long ∙ length-set ls j v;
        }

    mends : Mends (r ∷ rs) j
    mends ls b f =
        cases (is_leaf r.kind)
        (λ l. rw (rework_skip old r rs j ls (ap (changed old ls) (leaf-none r l))) (stays ls b f (leaf-right l)))
        (λ l. cases (changed old ls (children r))
        (λ e. rw (rework-here old r rs j ls e) (anew ls b f (sym (label_inner new ls r l))))
        (λ e. rw (rework_skip old r rs j ls e) (stays ls b f (inner_right l e))))
      where
        leaf-right : is_leaf r.kind ≡ true → get_or ls j 0 ≡ label new ls r
        leaf-right l =
            f.0 ∙ ap (λ z. cond (z && eqb r.first s) (flip (get_or old j 0)) (get_or old j 0)) l
            ∙ ap (λ x. cond (eqb r.first s) (flip x) x) (right ∙ label-leaf state old r l) ∙ flipped-bit s r.first state ∙ sym (label-leaf new ls r l)

        inner_right : is_leaf r.kind ≡ false → changed old ls (children r) ≡ false → get_or ls j 0 ≡ label new ls r
        inner_right l e =
            f.0 ∙ ap (λ z. cond (z && eqb r.first s) (flip (get_or old j 0)) (get_or old j 0)) l
            ∙ right ∙ label_inner state old r l ∙ label_local outside r old ls (λ c o. sym (unchanged old ls (children r) c e o)) ∙ sym (label_inner new ls r l)

  mended : (rs : List Rec) (j : ℕ) → Each ChildrenBelow j rs → Good (label state) old j rs → Mends rs j
  mended [] j small g = λ ls b f. record { good = tt; lower = λ k p. refl; long = refl }
  mended (r ∷ rs) j small g = mends r rs j small.0 g.0 (mended rs (suc j) small.1 g.1)

pub toggle-labels : (f : Formula) (state : State) (s : ℕ) → (toggle (dwarf f) s (labels state (dwarf f))).labels ≡ labels (flipped s state) (dwarf f)
toggle-labels f state s =
    let rs = dwarf f in
    let old = labels state rs in
    let long = length-labels state rs in
    let w = flipped-leaves s rs 0 old (omega arith) in
    let m = mended state s old rs 0 (children_smaller f) (labels_good f state) (flip_leaves s rs 0 old) (omega (arith, w.long)) w.flips in
    labels_unique f (flipped s state) (toggle rs s old).labels (m.long ∙ w.long ∙ long) m.good
