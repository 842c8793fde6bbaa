-- How many nodes each step leaves of those it found.
use Prim.Native.Nat.{ℕ, suc, ◌+◌, ◌*◌, ◌≤◌}
use native.Mathlib.Omega.{arith}
use mathlib.Core.Path.{◌≡◌, refl}
use mathlib.Core.List.{[], ◌∷◌}
use mathlib.Core.Option.{Option, none, some}
use lib.ListN.{length, length-append}
use Rattle.formula.specs.Formula.{Op}
use Rattle.contraction.specs.Records.{C_rec}
use Rattle.contraction.specs.Rounds.{Work, tip, one, two, nodes, tip_of, rakes, left_one, left_two, raked, compresses, compressed, round_leaves}
use Rattle.contraction.specs.Terms.{Many}

abbrev tips : Work → ℕ
tips (tip d) = 1
tips (one d c) = tips c
tips (two o l r) = tips l + tips r

abbrev pub ones : Work → ℕ
ones (tip d) = 0
ones (one d c) = suc (ones c)
ones (two o l r) = ones l + ones r

abbrev pub twos : Work → ℕ
twos (tip d) = 0
twos (one d c) = twos c
twos (two o l r) = suc (twos l + twos r)

tips-twos : (w : Work) → tips w ≡ suc (twos w)
tips-twos (tip d) = refl
tips-twos (one d c) = tips-twos c
tips-twos (two o l r) = omega (arith, tips-twos l, tips-twos r)

nodes_parts : (w : Work) → nodes w ≡ tips w + ones w + twos w
nodes_parts (tip d) = refl
nodes_parts (one d c) = omega (arith, nodes_parts c)
nodes_parts (two o l r) = omega (arith, nodes_parts l, nodes_parts r)

-- rake takes every leaf away
one-nodes : (d : ℕ) (c c' : Work) (n : ℕ) → (Many c → nodes c' + tips c ≡ nodes c)
    → nodes (left_one d (tip_of c) c' n) + tips c ≡ suc (nodes c)
one-nodes d (tip v) c' n h = refl
one-nodes d (one e c) c' n h = omega (arith, h tt)
one-nodes d (two o l r) c' n h = omega (arith, h tt)

two-nodes : (o : Op) (l r l' r' : Work) (n : ℕ) → (Many l → nodes l' + tips l ≡ nodes l) → (Many r → nodes r' + tips r ≡ nodes r)
    → nodes (left_two o (tip_of l) (tip_of r) l' r' n) + (tips l + tips r) ≡ suc (nodes l + nodes r)
two-nodes o (tip a) (tip b) l' r' n p q = refl
two-nodes o (tip a) (one d c) l' r' n p q = omega (arith, q tt)
two-nodes o (tip a) (two e c d) l' r' n p q = omega (arith, q tt)
two-nodes o (one d c) (tip b) l' r' n p q = omega (arith, p tt)
two-nodes o (two e c d) (tip b) l' r' n p q = omega (arith, p tt)
two-nodes o (one d c) (one d' c') l' r' n p q = omega (arith, p tt, q tt)
two-nodes o (one d c) (two e' c' d') l' r' n p q = omega (arith, p tt, q tt)
two-nodes o (two e c d) (one d' c') l' r' n p q = omega (arith, p tt, q tt)
two-nodes o (two e c d) (two e' c' d') l' r' n p q = omega (arith, p tt, q tt)

raked-nodes : (w : Work) (n : ℕ) → Many w → nodes (raked w n) + tips w ≡ nodes w
raked-nodes (tip d) n m = absurd m
raked-nodes (one d c) n m = one-nodes d c (raked c n) _ (raked-nodes c n)
raked-nodes (two o l r) n m = two-nodes o l r (raked l n) (raked r _) _ (raked-nodes l n) (raked-nodes r _)

-- and makes no two-child node
one-twos : (d : ℕ) (v : Option ℕ) (c' : Work) (n k : ℕ) → twos c' ≤ k → twos (left_one d v c' n) ≤ k
one-twos d (some v) c' n k h = omega arith
one-twos d none c' n k h = h

two-twos : (o : Op) (a b : Option ℕ) (l' r' : Work) (n k m : ℕ) → twos l' ≤ k → twos r' ≤ m → twos (left_two o a b l' r' n) ≤ suc (k + m)
two-twos o (some a) (some b) l' r' n k m p q = omega arith
two-twos o (some a) none l' r' n k m p q = omega arith
two-twos o none (some b) l' r' n k m p q = omega arith
two-twos o none none l' r' n k m p q = omega arith

raked-twos : (w : Work) (n : ℕ) → twos (raked w n) ≤ twos w
raked-twos (tip d) n = omega arith
raked-twos (one d c) n = one-twos d (tip_of c) (raked c n) _ (twos c) (raked-twos c n)
raked-twos (two o l r) n = two-twos o (tip_of l) (tip_of r) (raked l n) (raked r _) _ (twos l) (twos r) (raked-twos l n) (raked-twos r _)

-- compress takes a node away for each that it makes, and it makes many where the chains are long
pub compressed-nodes : (w : Work) (n : ℕ) → nodes (compressed w n) + length (compresses w) ≡ nodes w
compressed-nodes (tip d) n = refl
compressed-nodes (one u (tip d)) n = refl
compressed-nodes (one u (one d c)) n = omega (arith, compressed-nodes c n, length-append (compresses c) (C_rec u d ∷ []))
compressed-nodes (one u (two o l r)) n = omega (arith, compressed-nodes (two o l r) n)
compressed-nodes (two o l r) n =
    omega (arith, compressed-nodes l n, compressed-nodes r (n + length (compresses l)), length-append (compresses l) (compresses r))

compress_many : (w : Work) → ones w ≤ 2 * length (compresses w) + (tips w + twos w)
compress_many (tip d) = omega arith
compress_many (one u (tip d)) = omega arith
compress_many (one u (one d c)) = omega (arith, compress_many c, length-append (compresses c) (C_rec u d ∷ []))
compress_many (one u (two o l r)) = omega (arith, compress_many l, compress_many r, length-append (compresses l) (compresses r))
compress_many (two o l r) = omega (arith, compress_many l, compress_many r, length-append (compresses l) (compresses r))

-- So a round leaves at most four fifths of the nodes that it found, where it found more than one.
pub four_fifths : (w : Work) (n : ℕ) → Many w → 5 * nodes (round_leaves w n) ≤ 4 * nodes w
four_fifths w n m =
    omega (
      arith,
      raked-nodes w n m,
      raked-twos w n,
      tips-twos w,
      nodes_parts w,
      tips-twos (raked w n),
      nodes_parts (raked w n),
      compressed-nodes (raked w n) (n + length (rakes w)),
      compress_many (raked w n),
    )

pub nodes_pos : (w : Work) → 1 ≤ nodes w
nodes_pos (tip d) = omega arith
nodes_pos (one d c) = omega arith
nodes_pos (two o l r) = omega arith
