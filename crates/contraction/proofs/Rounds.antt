-- The rounds done without asking whether more than one node remains: at a single leaf a round makes nothing and leaves it as it is.
-- As many rounds as there are nodes leave a single leaf, the last node made.
use Prim.Native.Nat.{ℕ, zero, suc, ◌+◌, ◌≤◌}
use native.Mathlib.Omega.{arith}
use mathlib.Core.Path.{◌≡◌, refl, sym, ap, ap₂, ◌∙◌}
use mathlib.Core.List.{List, [], ◌++◌}
use lib.ListN.{length, length-append}
use Rattle.formula.specs.Formula.{Formula, leaf, node, leaves}
use Rattle.contraction.specs.Records.{Rec}
use Rattle.contraction.specs.Rounds.{Work, tip, one, two, nodes, raked, compressed, round_makes, round_leaves, made, planted, leaf_recs, enough, dwarf}
use Rattle.contraction.proofs.Counts.{four_fifths, nodes_pos}

-- what k rounds make, and the tree that they leave
abbrev pub all_made : ℕ → Work → ℕ → List Rec
all_made zero w n = []
all_made (suc k) w n = round_makes w n ++ all_made k (round_leaves w n) (n + length (round_makes w n))

abbrev pub remains : ℕ → Work → ℕ → Work
remains zero w n = w
remains (suc k) w n = remains k (round_leaves w n) (n + length (round_makes w n))

all_made-tip : (k d n : ℕ) → all_made k (tip d) n ≡ []
all_made-tip zero d n = refl
all_made-tip (suc k) d n = all_made-tip k d (n + 0)

pub made_all : (k : ℕ) (w : Work) (n : ℕ) → made k w n ≡ all_made k w n
made_all zero w n = refl
made_all (suc k) (tip d) n = sym (all_made-tip (suc k) d n)
made_all (suc k) (one d c) n = ap (λ q. round_makes (one d c) n ++ q) (made_all k (round_leaves (one d c) n) _)
made_all (suc k) (two o l r) n = ap (λ q. round_makes (two o l r) n ++ q) (made_all k (round_leaves (two o l r) n) _)

-- each round leaves fewer nodes, where it found more than one
pub fewer : (w : Work) (n k : ℕ) → nodes w ≤ suc (suc k) → nodes (round_leaves w n) ≤ suc k
fewer (tip d) n k h = omega arith
fewer (one d c) n k h = omega (arith, four_fifths (one d c) n tt)
fewer (two o l r) n k h = omega (arith, four_fifths (two o l r) n tt)

-- a single leaf is the last node made
abbrev Top : ℕ → Work → Type 0
Top n (tip d) = suc d ≡ n
Top n (one d c) = Unit {0}
Top n (two o l r) = Unit {0}

top_one : (u : ℕ) (c : Work) (n m : ℕ) → Top m (compressed (one u c) n)
top_one u (tip d) n m = tt
top_one u (one d c) n m = tt
top_one u (two o l r) n m = tt

round_top : (w : Work) (n : ℕ) → Top n w → Top (n + length (round_makes w n)) (round_leaves w n)
round_top (tip d) n t = omega arith
round_top (one d (tip v)) n t = omega arith
round_top (one d (one e c)) n t = top_one d (raked (one e c) n) _ _
round_top (one d (two o l r)) n t = top_one d (raked (two o l r) n) _ _
round_top (two o (tip a) (tip b)) n t = omega arith
round_top (two o (tip a) (one d c)) n t = top_one _ (raked (one d c) _) _ _
round_top (two o (tip a) (two e c d)) n t = top_one _ (raked (two e c d) _) _ _
round_top (two o (one d c) (tip b)) n t = top_one _ (raked (one d c) _) _ _
round_top (two o (two e c d) (tip b)) n t = top_one _ (raked (two e c d) _) _ _
round_top (two o (one d c) (one d' c')) n t = tt
round_top (two o (one d c) (two e' c' d')) n t = tt
round_top (two o (two e c d) (one d' c')) n t = tt
round_top (two o (two e c d) (two e' c' d')) n t = tt

-- as many rounds as nodes leave a single leaf: the last node made
small : (w : Work) (n : ℕ) → nodes w ≤ 1 → Top n w → (d : ℕ) × (w ≡ tip d) × (suc d ≡ n)
small (tip d) n h t = (d, refl, t)
small (one d c) n h t = absurd (omega (arith, nodes_pos c))
small (two o l r) n h t = absurd (omega (arith, nodes_pos l, nodes_pos r))

ends : (k : ℕ) (w : Work) (n : ℕ) → nodes w ≤ suc k → Top n w → (d : ℕ) × (remains k w n ≡ tip d) × (suc d ≡ n + length (all_made k w n))
ends zero w n h t = let e = small w n h t in (e.0, e.1, omega arith)
ends (suc k) w n h t =
    let e = ends k (round_leaves w n) (n + length (round_makes w n)) (fewer w n k h) (round_top w n t) in
    (e.0, e.1, omega (arith, e.2, length-append (round_makes w n) (all_made k (round_leaves w n) (n + length (round_makes w n)))))

planted_top : (f : Formula) → Top (leaves f) (planted f 0)
planted_top (leaf s) = refl
planted_top (node o l r) = tt

pub length-leaf_recs : (f : Formula) → leaves f ≡ length (leaf_recs f)
length-leaf_recs (leaf s) = refl
length-leaf_recs (node o l r) = ap₂ ◌+◌ (length-leaf_recs l) (length-leaf_recs r) ∙ sym (length-append (leaf_recs l) (leaf_recs r))

pub dwarf-all : (f : Formula) → dwarf f ≡ leaf_recs f ++ all_made (enough f) (planted f 0) (leaves f)
dwarf-all f = ap (λ q. leaf_recs f ++ q) (made_all (enough f) (planted f 0) (leaves f))

-- The rounds leave a single leaf, and its dwarf root is the last node.
pub root : (f : Formula) → (d : ℕ) × (remains (enough f) (planted f 0) (leaves f) ≡ tip d) × (suc d ≡ length (dwarf f))
root f =
    let w = planted f 0 in
    let e = ends (enough f) w (leaves f) (omega arith) (planted_top f) in
    (e.0, e.1, omega (arith, e.2, length-leaf_recs f, length-append (leaf_recs f) (all_made (enough f) w (leaves f)), ap length (dwarf-all f)))
