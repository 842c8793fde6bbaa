-- The leaves come first: the records of the formula's leaves, and after them records of no leaf.
use Prim.Native.Nat.{ℕ, zero, suc}
use mathlib.Core.Path.{◌≡◌, refl}
use mathlib.Core.Bool.{true, false}
use mathlib.Core.Option.{Option, none, some}
use Rattle.formula.specs.Formula.{Op, Formula, leaf, node}
use Rattle.contraction.specs.Records.{Rec, is_leaf}
use Rattle.contraction.specs.Rounds.{Work, tip, one, two, tip_of, rake_one, rake_two, rakes, raked, compresses, round_makes, round_leaves, leaf_recs}
use Rattle.contraction.specs.Terms.{Each}
use Rattle.contraction.proofs.Rounds.{all_made}
use Rattle.contraction.proofs.Worked.{each_append}

abbrev pub IsLeaf : ℕ → Rec → Type 0
IsLeaf n r = is_leaf r.kind ≡ true

abbrev pub NoLeaf : ℕ → Rec → Type 0
NoLeaf n r = is_leaf r.kind ≡ false

pub leaf_recs-leaf : (f : Formula) (n : ℕ) → Each IsLeaf n (leaf_recs f)
leaf_recs-leaf (leaf s) n = (refl, tt)
leaf_recs-leaf (node o l r) n = each_append IsLeaf (leaf_recs l) (leaf_recs r) n (leaf_recs-leaf l n) (leaf_recs-leaf r _)

one_none : (d : ℕ) (v : Option ℕ) (n : ℕ) → Each NoLeaf n (rake_one d v)
one_none d (some v) n = (refl, tt)
one_none d none n = tt

two_none : (o : Op) (a b : Option ℕ) (n : ℕ) → Each NoLeaf n (rake_two o a b)
two_none o none none n = tt
two_none o (some a) (some b) n = (refl, tt)
two_none o (some a) none n = (refl, tt)
two_none o none (some b) n = (refl, tt)

rakes-none : (w : Work) (n : ℕ) → Each NoLeaf n (rakes w)
rakes-none (tip d) n = tt
rakes-none (one d c) n = each_append NoLeaf (rakes c) _ n (rakes-none c n) (one_none d (tip_of c) _)
rakes-none (two o l r) n =
    each_append NoLeaf (rakes l) _ n (rakes-none l n) (each_append NoLeaf (rakes r) _ _ (rakes-none r _) (two_none o (tip_of l) (tip_of r) _))

compresses-none : (w : Work) (n : ℕ) → Each NoLeaf n (compresses w)
compresses-none (tip d) n = tt
compresses-none (one u (tip d)) n = tt
compresses-none (one u (one d c)) n = each_append NoLeaf (compresses c) _ n (compresses-none c n) (refl, tt)
compresses-none (one u (two o l r)) n = compresses-none (two o l r) n
compresses-none (two o l r) n = each_append NoLeaf (compresses l) _ n (compresses-none l n) (compresses-none r _)

pub made_none : (k : ℕ) (w : Work) (n m : ℕ) → Each NoLeaf m (all_made k w n)
made_none zero w n m = tt
made_none (suc k) w n m =
    each_append NoLeaf (round_makes w n) _ m
    (each_append NoLeaf (rakes w) _ m (rakes-none w m) (compresses-none (raked w n) _)) (made_none k (round_leaves w n) _ _)
