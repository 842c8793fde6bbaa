-- How tall a dwarf tree can be: a round leaves at most four fifths of the nodes, and makes the tree at most two steps taller.
use Prim.Native.Nat.{ℕ, zero, suc, ◌+◌, ◌*◌, ◌/◌, ◌≤◌}
use native.Mathlib.Nat.{zero-add}
use native.Mathlib.Omega.{arith}
use mathlib.Core.Path.{◌≡◌, refl, subst}
use mathlib.Core.List.{List, [], ◌++◌}
use lib.ListN.{length, get_or}
use Rattle.formula.specs.Formula.{Op, Formula, leaf, node, leaves}
use Rattle.contraction.specs.Records.{Side, left, right, Rec, E_rec, R_rec}
use Rattle.contraction.specs.Rounds.{Work, tip, one, two, nodes, tip_of, rake_one, rake_two, rakes, left_one, left_two, raked}
use Rattle.contraction.specs.Rounds.{compresses, compressed, round_makes, round_leaves, rounds, planted, leaf_recs, enough, dwarf, rounds_of}
use Rattle.contraction.specs.Height.{path, height}
use Rattle.contraction.specs.Terms.{Many}
use Rattle.contraction.proofs.Counts.{four_fifths, nodes_pos}
use Rattle.contraction.proofs.Rounds.{all_made, remains, dwarf-all, length-leaf_recs, root}
use Rattle.contraction.proofs.Worked.{Good, good_left, good_right, last_is, length-worked}
use Rattle.contraction.proofs.Paths.{paths, paths_good}
use Rattle.contraction.proofs.Size.{planted-nodes, height-leaf}

-- ---- how many rounds

-- what j rounds leave of m nodes at most
abbrev fall : ℕ → ℕ → ℕ
fall zero m = m
fall (suc j) m = fall j (4 * m / 5)

rounds-tip : (k d n : ℕ) → rounds k (tip d) n ≡ 0
rounds-tip zero d n = refl
rounds-tip (suc k) d n = refl

rounds_small : (w : Work) (k n : ℕ) → nodes w ≤ 1 → rounds k w n ≡ 0
rounds_small (tip d) k n h = rounds-tip k d n
rounds_small (one d c) k n h = absurd (omega (arith, nodes_pos c))
rounds_small (two o l r) k n h = absurd (omega (arith, nodes_pos l))

few_rounds : (j k : ℕ) (w : Work) (n m : ℕ) → nodes w ≤ m → fall j m ≤ 1 → rounds k w n ≤ j
few_rounds zero k w n m h e = omega (arith, rounds_small w k n (omega arith))
few_rounds (suc j) zero w n m h e = omega arith
few_rounds (suc j) (suc k) (tip d) n m h e = omega arith
few_rounds (suc j) (suc k) (one d c) n m h e =
    let w = one d c in
    omega (arith, few_rounds j k (round_leaves w n) (n + length (round_makes w n)) (4 * m / 5) (omega (arith, four_fifths w n tt)) e)
few_rounds (suc j) (suc k) (two o l r) n m h e =
    let w = two o l r in
    omega (arith, few_rounds j k (round_leaves w n) (n + length (round_makes w n)) (4 * m / 5) (omega (arith, four_fifths w n tt)) e)

-- So 2047 nodes need at most 29 rounds.
pub twenty_nine : (f : Formula) → leaves f ≤ 1024 → rounds_of f ≤ 29
twenty_nine f h = few_rounds 29 (enough f) (planted f 0) (leaves f) 2047 (omega (arith, planted-nodes f 0)) (omega arith)

-- ---- how tall each round makes it

module _ (xs : List ℕ) where
  path-E : (o : Op) (a b t : ℕ) → get_or xs a 0 ≤ t → get_or xs b 0 ≤ t → path xs (E_rec o a b) ≤ suc t
  path-E o a b t h g = omega arith

  path-R : (side : Side) (o : Op) (a t : ℕ) → get_or xs a 0 ≤ t → path xs (R_rec side o a) ≤ suc t
  path-R side o a t h = omega arith

  abbrev Deep : ℕ → List Rec → Type 0
  Deep n rs = Good path xs n rs

  -- the longest path below a leaf's dwarf root has t steps at most, below a one-child node's u
  abbrev Low : ℕ → ℕ → Work → Type 0
  Low t u (tip d) = get_or xs d 0 ≤ t
  Low t u (one d c) = (get_or xs d 0 ≤ u) × Low t u c
  Low t u (two o l r) = Low t u l × Low t u r

  low_mono : (w : Work) (t u t' u' : ℕ) → t ≤ t' → u ≤ u' → Low t u w → Low t' u' w
  low_mono (tip d) t u t' u' h k b = omega arith
  low_mono (one d c) t u t' u' h k b = (omega arith, low_mono c t u t' u' h k b.1)
  low_mono (two o l r) t u t' u' h k b = (low_mono l t u t' u' h k b.0, low_mono r t u t' u' h k b.1)

  module _ (t u t' u' : ℕ) (tt' : suc t ≤ t') (ut' : suc u ≤ t') (uu' : u ≤ u') (tu' : suc t ≤ u') where
    one-low : (d : ℕ) (c c' : Work) (n : ℕ) → Deep n (rake_one d (tip_of c)) → get_or xs d 0 ≤ u → Low t u c → Low t' u' c' → Low t' u' (left_one d (tip_of c) c' n)
    one-low d (tip v) c' n g h b b' = omega (arith, g.0)
    one-low d (one e c) c' n g h b b' = (omega arith, b')
    one-low d (two o l r) c' n g h b b' = (omega arith, b')

    two-low : (o : Op) (l r l' r' : Work) (n : ℕ) → Deep n (rake_two o (tip_of l) (tip_of r)) → Low t u l → Low t u r
        → Low t' u' l' → Low t' u' r' → Low t' u' (left_two o (tip_of l) (tip_of r) l' r' n)
    two-low o (tip a) (tip b) l' r' n g p q p' q' = omega (arith, g.0, path-E o a b t p q)
    two-low o (tip a) (one d c) l' r' n g p q p' q' = (omega (arith, g.0, path-R left o a t p), q')
    two-low o (tip a) (two e c d) l' r' n g p q p' q' = (omega (arith, g.0, path-R left o a t p), q')
    two-low o (one d c) (tip b) l' r' n g p q p' q' = (omega (arith, g.0, path-R right o b t q), p')
    two-low o (two e c d) (tip b) l' r' n g p q p' q' = (omega (arith, g.0, path-R right o b t q), p')
    two-low o (one d c) (one f h) l' r' n g p q p' q' = (p', q')
    two-low o (one d c) (two e f h) l' r' n g p q p' q' = (p', q')
    two-low o (two e c d) (one f h) l' r' n g p q p' q' = (p', q')
    two-low o (two e c d) (two i f h) l' r' n g p q p' q' = (p', q')

    raked-low : (w : Work) (n : ℕ) → Deep n (rakes w) → Low t u w → Low t' u' (raked w n)
    raked-low (tip d) n g b = omega arith
    raked-low (one d c) n g b =
        one-low d c (raked c n) _ (good_right path xs (rakes c) _ n g) b.0 b.1 (raked-low c n (good_left path xs (rakes c) _ n g) b.1)
    raked-low (two o l r) n g b =
        let h = good_right path xs (rakes l) (rakes r ++ rake_two o (tip_of l) (tip_of r)) n g in
        two-low o l r (raked l n) (raked r _) _ (good_right path xs (rakes r) _ _ h) b.0 b.1
        (raked-low l n (good_left path xs (rakes l) _ n g) b.0) (raked-low r _ (good_left path xs (rakes r) _ _ h) b.1)

  compressed-low : (w : Work) (n t u v : ℕ) → suc u ≤ v → Deep n (compresses w) → Low t u w → Low t v (compressed w n)
  compressed-low (tip d) n t u v h g b = b
  compressed-low (one c (tip d)) n t u v h g b = (omega arith, b.1)
  compressed-low (one c (one d e)) n t u v h g b = (
    omega (arith, (good_right path xs (compresses e) _ n g).0),
    compressed-low e n t u v h (good_left path xs (compresses e) _ n g) b.1.1,
  )
  compressed-low (one c (two o l r)) n t u v h g b = (omega arith, compressed-low (two o l r) n t u v h g b.1)
  compressed-low (two o l r) n t u v h g b = (
    compressed-low l n t u v h (good_left path xs (compresses l) _ n g) b.0,
    compressed-low r _ t u v h (good_right path xs (compresses l) _ n g) b.1,
  )

  -- a round, with one-child nodes one step taller than leaves at most
  round_low : (w : Work) (n t : ℕ) → Deep n (round_makes w n) → Low t (suc t) w → Low (suc (suc t)) (suc (suc (suc t))) (round_leaves w n)
  round_low w n t g b =
      low_mono (round_leaves w n) _ _ _ _ (omega arith) (omega arith)
      (compressed-low (raked w n) _ _ (suc t) (suc (suc t)) (omega arith) (good_right path xs (rakes w) _ n g)
      (raked-low t (suc t) (suc (suc t)) (suc t) (omega arith) (omega arith) (omega arith) (omega arith) w n (good_left path xs (rakes w) _ n g) b))

  -- what k rounds leave, and what one more before them does
  abbrev After : ℕ → Type 0
  After k = (w : Work) (n t : ℕ) → Deep n (all_made k w n) → Low t (suc t) w → Low (t + 2 * rounds k w n) (suc (t + 2 * rounds k w n)) (remains k w n)

  more_low : (k : ℕ) → After k → (w : Work) (n t v : ℕ) → t + 2 * rounds k (round_leaves w n) (n + length (round_makes w n)) ≤ v → Deep n (all_made (suc k) w n) → Low t (suc t) (round_leaves w n)
      → Low v (suc v) (remains (suc k) w n)
  more_low k after w n t v h g b =
      let m = n + length (round_makes w n) in
      low_mono (remains k (round_leaves w n) m) _ _ _ _ h (omega arith) (after (round_leaves w n) m t (good_right path xs (round_makes w n) _ n g) b)

  made-low : (k : ℕ) → After k
  made-low zero w n t g b = low_mono w t (suc t) _ _ (omega arith) (omega arith) b
  made-low (suc k) (tip d) n t g b = more_low k (made-low k) (tip d) n t _ (omega (arith, rounds-tip k d (n + 0))) g b
  made-low (suc k) (one d c) n t g b = more_low k (made-low k) (one d c) n (suc (suc t)) _ (omega arith) g (round_low (one d c) n t (good_left path xs (round_makes (one d c) n) _ n g) b)
  made-low (suc k) (two o l r) n t g b = more_low k (made-low k) (two o l r) n (suc (suc t)) _ (omega arith) g (round_low (two o l r) n t (good_left path xs (round_makes (two o l r) n) _ n g) b)

  -- the first round finds leaves alone and no one-child node
  planted-low : (f : Formula) (n : ℕ) → Deep n (leaf_recs f) → Low 0 0 (planted f n)
  planted-low (leaf s) n g = omega (arith, g.0)
  planted-low (node o l r) n g = (
    planted-low l n (good_left path xs (leaf_recs l) _ n g),
    planted-low r _ (rw (← (length-leaf_recs l)) at (good_right path xs (leaf_recs l) _ n g)),
  )

  first-low : (w : Work) (n : ℕ) → Deep n (round_makes w n) → Low 0 0 w → Low 1 2 (round_leaves w n)
  first-low w n g b =
      compressed-low (raked w n) _ 1 1 2 (omega arith) (good_right path xs (rakes w) _ n g)
      (raked-low 0 0 1 1 (omega arith) (omega arith) (omega arith) (omega arith) w n (good_left path xs (rakes w) _ n g) b)

  all-low : (k : ℕ) (w : Work) (n t : ℕ) → Many w → 1 ≤ k → 2 * rounds k w n ≤ suc t → Deep n (all_made k w n) → Low 0 0 w → Low t (suc t) (remains k w n)
  all-low zero w n t m z h g b = absurd (omega arith)
  all-low (suc k) (tip d) n t m z h g b = absurd m
  all-low (suc k) (one d c) n t m z h g b = more_low k (made-low k) (one d c) n 1 t (omega arith) g (first-low (one d c) n (good_left path xs (round_makes (one d c) n) _ n g) b)
  all-low (suc k) (two o l r) n t m z h g b = more_low k (made-low k) (two o l r) n 1 t (omega arith) g (first-low (two o l r) n (good_left path xs (round_makes (two o l r) n) _ n g) b)

-- The height is at most twice the rounds less one, from one round on.
pub height-rounds : (f : Formula) (t : ℕ) → Many (planted f 0) → 2 * rounds_of f ≤ suc t → height (dwarf f) ≤ t
height-rounds f t m h =
    let xs = paths f in
    let g = subst (Good path xs 0) (dwarf-all f) (paths_good f) in
    let made = rw (← (length-leaf_recs f), zero-add) at (good_right path xs (leaf_recs f) _ 0 g) in
    let e = root f in
    let low : Low xs t (suc t) (tip e.0) =
    subst (Low xs t (suc t)) e.1 (all-low xs (enough f) (planted f 0) (leaves f) t m (nodes_pos (planted f 0)) h made (planted-low xs f 0 (good_left path xs (leaf_recs f) _ 0 g))) in
    omega (arith, low, last_is xs e.0 (omega (arith, e.2, length-worked path (dwarf f) [])))

-- So within the limits of a sheet no dwarf tree is taller than 57.
pub tall_57 : (f : Formula) → leaves f ≤ 1024 → height (dwarf f) ≤ 57
tall_57 (leaf s) h = omega (arith, height-leaf s)
tall_57 (node o l r) h = height-rounds (node o l r) 57 tt (omega (arith, twenty_nine (node o l r) h))
