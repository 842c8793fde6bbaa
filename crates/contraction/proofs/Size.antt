-- How many nodes a dwarf tree has.
use Prim.Native.Nat.{ℕ, zero, suc, ◌+◌, ◌*◌, ◌<◌, ◌≤◌}
use native.Mathlib.Omega.{arith}
use mathlib.Core.Path.{◌≡◌, refl, ap}
use mathlib.Core.List.{[], ◌∷◌, ◌++◌}
use mathlib.Core.Option.{Option, none, some}
use lib.ListN.{length, length-append}
use Rattle.formula.specs.Formula.{Op, Formula, leaf, node, leaves}
use Rattle.contraction.specs.Records.{C_rec}
use Rattle.contraction.specs.Rounds.{Work, tip, one, two, nodes, tip_of, rake_one, rake_two, rakes, left_one, left_two, raked}
use Rattle.contraction.specs.Rounds.{compresses, compressed, round_makes, round_leaves, planted, leaf_recs, dwarf}
use Rattle.contraction.specs.Height.{height}
use Rattle.contraction.specs.Terms.{Many}
use Rattle.contraction.proofs.Counts.{ones, twos}
use Rattle.contraction.proofs.Rounds.{all_made, dwarf-all, length-leaf_recs}

-- what the rounds may still make at most
abbrev due : Work → ℕ
due w = 2 * twos w + ones w

one-due : (d : ℕ) (v : Option ℕ) (c' : Work) (n : ℕ) → length (rake_one d v) + due (left_one d v c' n) ≤ 1 + due c'
one-due d (some v) c' n = omega arith
one-due d none c' n = omega arith

two-due : (o : Op) (a b : Option ℕ) (l' r' : Work) (n : ℕ) → length (rake_two o a b) + due (left_two o a b l' r' n) ≤ 2 + due l' + due r'
two-due o (some a) (some b) l' r' n = omega arith
two-due o (some a) none l' r' n = omega arith
two-due o none (some b) l' r' n = omega arith
two-due o none none l' r' n = omega arith

rake_due : (w : Work) (n : ℕ) → length (rakes w) + due (raked w n) ≤ due w
rake_due (tip d) n = omega arith
rake_due (one d c) n =
    let m = n + length (rakes c) in
    omega (arith, rake_due c n, one-due d (tip_of c) (raked c n) m, length-append (rakes c) (rake_one d (tip_of c)))
rake_due (two o l r) n =
    let k = n + length (rakes l) in
    let t = rake_two o (tip_of l) (tip_of r) in
    omega (
      arith,
      rake_due l n,
      rake_due r k,
      two-due o (tip_of l) (tip_of r) (raked l n) (raked r k) (k + length (rakes r)),
      length-append (rakes l) (rakes r ++ t),
      length-append (rakes r) t,
    )

-- the first round makes an E node, which takes a two-child node with one record
abbrev Strict : Work → ℕ → Type 0
Strict w m = Many w → 1 + length (rakes w) + due (raked w m) ≤ due w

plant_two : (o : Op) (f g : Formula) (n m : ℕ) → Strict (planted f n) m
    → Strict (planted g (n + leaves f)) (m + length (rakes (planted f n))) → Strict (planted (node o f g) n) m
plant_two o (leaf s) (leaf t) n m p q z = omega arith
plant_two o (leaf s) (node e f g) n m p q z =
    omega (arith, q tt, length-append (rakes (planted (node e f g) (n + 1))) (rake_two o (some n) none))
plant_two o (node e f g) (leaf t) n m p q z =
    omega (arith, p tt, length-append (rakes (planted (node e f g) n)) (rake_two o none (some (n + leaves (node e f g)))))
plant_two o (node e f g) (node c h i) n m p q z =
    let l = planted (node e f g) n in
    let r = planted (node c h i) (n + leaves (node e f g)) in
    omega (arith, p tt, q tt, length-append (rakes l) (rakes r ++ []), length-append (rakes r) [])

plant_due : (f : Formula) (n m : ℕ) → Strict (planted f n) m
plant_due (leaf s) n m z = absurd z
plant_due (node o f g) n m z = plant_two o f g n m (plant_due f n m) (plant_due g _ _) z

compress_ones : (w : Work) (n : ℕ) → length (compresses w) + ones (compressed w n) ≡ ones w
compress_ones (tip d) n = refl
compress_ones (one u (tip d)) n = refl
compress_ones (one u (one d c)) n = omega (arith, compress_ones c n, length-append (compresses c) (C_rec u d ∷ []))
compress_ones (one u (two o l r)) n = omega (arith, compress_ones (two o l r) n)
compress_ones (two o l r) n =
    omega (arith, compress_ones l n, compress_ones r (n + length (compresses l)), length-append (compresses l) (compresses r))

compress_twos : (w : Work) (n : ℕ) → twos (compressed w n) ≡ twos w
compress_twos (tip d) n = refl
compress_twos (one u (tip d)) n = refl
compress_twos (one u (one d c)) n = compress_twos c n
compress_twos (one u (two o l r)) n = compress_twos (two o l r) n
compress_twos (two o l r) n = omega (arith, compress_twos l n, compress_twos r (n + length (compresses l)))

round_due : (w : Work) (n : ℕ) → length (round_makes w n) + due (round_leaves w n) ≤ length (rakes w) + due (raked w n)
round_due w n =
    let m = n + length (rakes w) in
    omega (arith, length-append (rakes w) (compresses (raked w n)), compress_ones (raked w n) m, compress_twos (raked w n) m)

made-due : (k : ℕ) (w : Work) (n : ℕ) → length (all_made k w n) ≤ due w
made-due zero w n = omega arith
made-due (suc k) w n =
    let m = n + length (round_makes w n) in
    omega (arith, round_due w n, rake_due w n, made-due k (round_leaves w n) m, length-append (round_makes w n) (all_made k (round_leaves w n) m))

planted-ones : (f : Formula) (n : ℕ) → ones (planted f n) ≡ 0
planted-ones (leaf s) n = refl
planted-ones (node o l r) n = omega (arith, planted-ones l n, planted-ones r (n + leaves l))

planted-twos : (f : Formula) (n : ℕ) → suc (twos (planted f n)) ≡ leaves f
planted-twos (leaf s) n = refl
planted-twos (node o l r) n = omega (arith, planted-twos l n, planted-twos r (n + leaves l))

-- Dwarf nodes number at most 3 times the leaves less 3, from two leaves on.
pub dwarf-nodes : (o : Op) (f g : Formula) → length (dwarf (node o f g)) + 3 ≤ 3 * leaves (node o f g)
dwarf-nodes o f g =
    let h = node o f g in
    let w = planted h 0 in
    let n = leaves h in
    let k = nodes (planted f 0) + nodes (planted g (0 + leaves f)) in
    let m = n + length (round_makes w n) in
    omega (
      arith,
      ap length (dwarf-all h),
      length-append (leaf_recs h) (all_made (suc k) w n),
      length-leaf_recs h,
      length-append (round_makes w n) (all_made k (round_leaves w n) m),
      round_due w n,
      plant_due h 0 n tt,
      made-due k (round_leaves w n) m,
      planted-ones h 0,
      planted-twos h 0,
    )

pub planted-nodes : (f : Formula) (n : ℕ) → suc (nodes (planted f n)) ≡ 2 * leaves f
planted-nodes (leaf s) n = refl
planted-nodes (node o l r) n = omega (arith, planted-nodes l n, planted-nodes r (n + leaves l))

-- So the dwarf tree of a formula within a sheet's limits has fewer than 3072 nodes.
pub dwarf_few : (f : Formula) → leaves f ≤ 1024 → length (dwarf f) < 3072
dwarf_few (leaf s) h = omega arith
dwarf_few (node o l r) h = omega (arith, dwarf-nodes o l r)

-- A single node has height 0.
pub height-leaf : (s : ℕ) → height (dwarf (leaf s)) ≡ 0
height-leaf s = refl
