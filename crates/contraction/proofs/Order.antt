-- Every record of a dwarf tree stands over nodes with smaller numbers.
use Prim.Native.Nat.{ℕ, zero, suc, ◌+◌, ◌<◌, ◌≤◌}
use native.Mathlib.Nat.{zero-add}
use native.Mathlib.Omega.{arith}
use mathlib.Core.List.{[], ◌∷◌, ◌++◌}
use mathlib.Core.Option.{Option, none, some}
use lib.ListN.{length, length-append}
use Rattle.formula.specs.Formula.{Op, Formula, leaf, node, leaves}
use Rattle.contraction.specs.Records.{Side, left, right, Rec, leaf_rec, E_rec, R_rec, S_rec, C_rec}
use Rattle.contraction.specs.Rounds.{Work, tip, one, two, tip_of, rake_one, rake_two, rakes, left_one, left_two, raked}
use Rattle.contraction.specs.Rounds.{compresses, compressed, round_makes, round_leaves, planted, leaf_recs, enough, dwarf}
use Rattle.contraction.specs.Terms.{Each, ChildrenBelow}
use Rattle.contraction.proofs.Rounds.{all_made, dwarf-all, length-leaf_recs}
use Rattle.contraction.proofs.Worked.{each_append}

-- every dwarf root in the tree is below n
abbrev Below : ℕ → Work → Type 0
Below n (tip d) = d < n
Below n (one d c) = (d < n) × Below n c
Below n (two o l r) = Below n l × Below n r

below_mono : (w : Work) (n m : ℕ) → n ≤ m → Below n w → Below m w
below_mono (tip d) n m h b = omega arith
below_mono (one d c) n m h b = (omega arith, below_mono c n m h b.1)
below_mono (two o l r) n m h b = (below_mono l n m h b.0, below_mono r n m h b.1)

-- P holds at each kind of record that the rounds make, whose nodes stand below it
pub record Kinds (P : ℕ → Rec → Type 0) : Type 0 where
  pub at_leaf : (s n : ℕ) → P n (leaf_rec s)
  pub at_E : (o : Op) (a b n : ℕ) → a < n → b < n → P n (E_rec o a b)
  pub at_R : (side : Side) (o : Op) (a n : ℕ) → a < n → P n (R_rec side o a)
  pub at_S : (a b n : ℕ) → a < n → b < n → P n (S_rec a b)
  pub at_C : (a b n : ℕ) → a < n → b < n → P n (C_rec a b)

module _ (P : ℕ → Rec → Type 0) (ok : Kinds P) where
  one_each : (d : ℕ) (c : Work) (n m : ℕ) → d < n → Below n c → n ≤ m → Each P m (rake_one d (tip_of c))
  one_each d (tip v) n m hd b h = (ok.at_S d v m (omega arith) (omega arith), tt)
  one_each d (one e c) n m hd b h = tt
  one_each d (two o l r) n m hd b h = tt

  two_each : (o : Op) (l r : Work) (n m : ℕ) → Below n l → Below n r → n ≤ m → Each P m (rake_two o (tip_of l) (tip_of r))
  two_each o (tip a) (tip b) n m p q h = (ok.at_E o a b m (omega arith) (omega arith), tt)
  two_each o (tip a) (one d c) n m p q h = (ok.at_R left o a m (omega arith), tt)
  two_each o (tip a) (two e c d) n m p q h = (ok.at_R left o a m (omega arith), tt)
  two_each o (one d c) (tip b) n m p q h = (ok.at_R right o b m (omega arith), tt)
  two_each o (two e c d) (tip b) n m p q h = (ok.at_R right o b m (omega arith), tt)
  two_each o (one d c) (one d' c') n m p q h = tt
  two_each o (one d c) (two e' c' d') n m p q h = tt
  two_each o (two e c d) (one d' c') n m p q h = tt
  two_each o (two e c d) (two e' c' d') n m p q h = tt

  rakes_each : (w : Work) (n m : ℕ) → Below n w → n ≤ m → Each P m (rakes w)
  rakes_each (tip d) n m b h = tt
  rakes_each (one d c) n m b h =
      each_append P (rakes c) _ m (rakes_each c n m b.1 h) (one_each d c n _ b.0 b.1 (omega arith))
  rakes_each (two o l r) n m b h =
      each_append P (rakes l) _ m (rakes_each l n m b.0 h)
      (each_append P (rakes r) _ _ (rakes_each r n _ b.1 (omega arith)) (two_each o l r n _ b.0 b.1 (omega arith)))

  compresses_each : (w : Work) (n m : ℕ) → Below n w → n ≤ m → Each P m (compresses w)
  compresses_each (tip d) n m b h = tt
  compresses_each (one u (tip d)) n m b h = tt
  compresses_each (one u (one d c)) n m b h =
      each_append P (compresses c) _ m (compresses_each c n m b.1.1 h) (ok.at_C u d _ (omega arith) (omega arith), tt)
  compresses_each (one u (two o l r)) n m b h = compresses_each (two o l r) n m b.1 h
  compresses_each (two o l r) n m b h =
      each_append P (compresses l) _ m (compresses_each l n m b.0 h) (compresses_each r n _ b.1 (omega arith))

-- the roots stay below the next number
one_below : (d : ℕ) (v : Option ℕ) (c' : Work) (n m : ℕ) → d < n → Below n c' → n + length (rake_one d v) ≤ m → Below m (left_one d v c' n)
one_below d (some v) c' n m hd b h = omega arith
one_below d none c' n m hd b h = (omega arith, below_mono c' n m (omega arith) b)

two-below : (o : Op) (a b : Option ℕ) (l' r' : Work) (n m : ℕ) → Below n l' → Below n r' → n + length (rake_two o a b) ≤ m → Below m (left_two o a b l' r' n)
two-below o (some a) (some b) l' r' n m p q h = omega arith
two-below o (some a) none l' r' n m p q h = (omega arith, below_mono r' n m (omega arith) q)
two-below o none (some b) l' r' n m p q h = (omega arith, below_mono l' n m (omega arith) p)
two-below o none none l' r' n m p q h = (below_mono l' n m (omega arith) p, below_mono r' n m (omega arith) q)

raked-below : (w : Work) (n m : ℕ) → Below n w → n + length (rakes w) ≤ m → Below m (raked w n)
raked-below (tip d) n m b h = omega arith
raked-below (one d c) n m b h =
    one_below d (tip_of c) (raked c n) (n + length (rakes c)) m (omega arith) (raked-below c n _ b.1 (omega arith))
    (omega (arith, length-append (rakes c) (rake_one d (tip_of c))))
raked-below (two o l r) n m b h =
    let k = n + length (rakes l) in
    let rt = rake_two o (tip_of l) (tip_of r) in
    two-below o (tip_of l) (tip_of r) (raked l n) (raked r k) (k + length (rakes r)) m
    (raked-below l n _ b.0 (omega arith)) (raked-below r k _ (below_mono r n k (omega arith) b.1) (omega arith))
    (omega (arith, length-append (rakes l) (rakes r ++ rt), length-append (rakes r) rt))

compressed-below : (w : Work) (n m : ℕ) → Below n w → n + length (compresses w) ≤ m → Below m (compressed w n)
compressed-below (tip d) n m b h = omega arith
compressed-below (one u (tip d)) n m b h = omega arith
compressed-below (one u (one d c)) n m b h = (
  omega (arith, length-append (compresses c) (C_rec u d ∷ [])),
  compressed-below c n m b.1.1 (omega (arith, length-append (compresses c) (C_rec u d ∷ []))),
)
compressed-below (one u (two o l r)) n m b h = (omega arith, compressed-below (two o l r) n m b.1 h)
compressed-below (two o l r) n m b h =
    let s = length-append (compresses l) (compresses r) in (
      compressed-below l n m b.0 (omega arith),
      compressed-below r _ m (below_mono r n _ (omega arith) b.1) (omega arith),
    )

round_below : (w : Work) (n : ℕ) → Below n w → Below (n + length (round_makes w n)) (round_leaves w n)
round_below w n b =
    compressed-below (raked w n) (n + length (rakes w)) _ (raked-below w n _ b (omega arith))
    (omega (arith, length-append (rakes w) (compresses (raked w n))))

planted-below : (f : Formula) (n m : ℕ) → n + leaves f ≤ m → Below m (planted f n)
planted-below (leaf s) n m h = omega arith
planted-below (node o l r) n m h = (planted-below l n m (omega arith), planted-below r _ m (omega arith))

module _ (P : ℕ → Rec → Type 0) (ok : Kinds P) where
  made_each : (k : ℕ) (w : Work) (n : ℕ) → Below n w → Each P n (all_made k w n)
  made_each zero w n b = tt
  made_each (suc k) w n b =
      each_append P (round_makes w n) _ n
      (each_append P (rakes w) _ n (rakes_each P ok w n n b (omega arith))
      (compresses_each P ok (raked w n) (n + length (rakes w)) _ (raked-below w n _ b (omega arith)) (omega arith)))
      (made_each k (round_leaves w n) _ (round_below w n b))

  leaves_each : (f : Formula) (n : ℕ) → Each P n (leaf_recs f)
  leaves_each (leaf s) n = (ok.at_leaf s n, tt)
  leaves_each (node o l r) n = each_append P (leaf_recs l) _ n (leaves_each l n) (leaves_each r _)

  pub dwarf_each : (f : Formula) → Each P 0 (dwarf f)
  dwarf_each f =
      rw (dwarf-all f)
      (each_append P (leaf_recs f) _ 0 (leaves_each f 0)
      (rw (← (length-leaf_recs f), zero-add) (made_each (enough f) (planted f 0) (leaves f) (planted-below f 0 _ (omega arith)))))

-- Children have smaller numbers.
children-below : Kinds ChildrenBelow
children-below =
    record {
      at_leaf = λ s n. tt;
      at_E = λ o a b n ha hb. (ha, (hb, tt));
      at_R = λ side o a n ha. (ha, tt);
      at_S = λ a b n ha hb. (ha, (hb, tt));
      at_C = λ a b n ha hb. (ha, (hb, tt));
    }

pub children_smaller : (f : Formula) → Each ChildrenBelow 0 (dwarf f)
children_smaller f = dwarf_each ChildrenBelow children-below f
