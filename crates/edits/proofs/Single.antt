-- Each operation of a formula has one node: of the E and R nodes as many stand at a position as operations stand there.
use Prim.Native.Nat.{ℕ, zero, suc, ◌+◌}
use native.Mathlib.Nat.{add-zero, zero-add}
use native.Mathlib.Omega.{arith}
use mathlib.Core.Path.{◌≡◌, refl, sym, ap, ◌∙◌}
use mathlib.Core.Bool.{Bool, true, cond, ◌&&◌}
use mathlib.Core.List.{List, [], ◌∷◌, ◌++◌}
use mathlib.Core.Option.{Option, none, some}
use lib.Dec.{eqb}
use lib.ListN.{length, get_or}
use Rattle.formula.specs.Formula.{Op, Formula, leaf, node, leaves}
use Rattle.contraction.specs.Records.{left as left_side, right as right_side, Rec, E_rec, R_rec, C_rec}
use Rattle.contraction.specs.Rounds.{Work, tip, one, two, tip_of, rake_one, rake_two, rakes, left_one, left_two, raked}
use Rattle.contraction.specs.Rounds.{compresses, compressed, round_makes, round_leaves, planted, leaf_recs, enough, dwarf}
use Rattle.contraction.specs.Terms.{Each}
use Rattle.edits.specs.Edits.{size}
use Rattle.edits.specs.Changes.{operations}
use Rattle.edits.specs.Spots.{Ups, LeafSpots, operates}
use Rattle.contraction.proofs.Rounds.{all_made, remains, dwarf-all, length-leaf_recs, root}
use Rattle.edits.proofs.Spots.{Spots, left, right, at, Sib, Here, here, rake_at, compress_at, round_sib, planted-at, planted_sib, Placed}

abbrev pub count : Bool → ℕ
count b = cond b 1 0

module _ (ups es : List ℕ) (q : ℕ) where
  -- how many of the records, numbered from n on, are E or R and stand at q
  abbrev pub standing : ℕ → List Rec → ℕ
  standing n [] = 0
  standing n (r ∷ rs) = count (operates r && eqb q (get_or es n 0)) + standing (suc n) rs

  standing-append : (rs qs : List Rec) (n : ℕ) → standing n (rs ++ qs) ≡ standing n rs + standing (n + length rs) qs
  standing-append [] qs n = ap (λ k. standing k qs) (sym (add-zero n)) ∙ sym (zero-add _)
  standing-append (r ∷ rs) qs n =
      let e : standing (suc n + length rs) qs ≡ standing (n + suc (length rs)) qs = ap (λ k. standing k qs) (omega arith) in
      omega (arith, standing-append rs qs (suc n), e)

  -- how many two-child nodes of the working tree stand at q
  abbrev twos-at : Work → ℕ
  twos-at (tip d) = 0
  twos-at (one d c) = twos-at c
  twos-at (two o l r) = count (eqb q (get_or ups (at ups es l) 0)) + (twos-at l + twos-at r)

  tip-none : (w : Work) (v : ℕ) → tip_of w ≡ some v → twos-at w ≡ 0
  tip-none (tip d) v e = refl
  tip-none (one d c) v e = cc
  tip-none (two o l r) v e = cc

  one-standing : (d : ℕ) (v : Option ℕ) (c' : Work) (n k : ℕ) → twos-at c' ≡ k → ((u : ℕ) → v ≡ some u → k ≡ 0)
      → standing n (rake_one d v) + twos-at (left_one d v c' n) ≡ k
  one-standing d (some v) c' n k e t = omega (arith, t v refl)
  one-standing d none c' n k e t = omega arith

  one_more : (r : Rec) (n x : ℕ) → operates r ≡ true → get_or es n 0 ≡ x → standing n (r ∷ []) ≡ count (eqb q x)
  one_more r n x o e = rw (o, e) (add-zero _)

  two-standing : (o : Op) (a b : Option ℕ) (l' r' : Work) (n x i j : ℕ) → Each (Here ups es (get_or ups x 0)) n (rake_two o a b)
      → at ups es l' ≡ x → twos-at l' ≡ i → twos-at r' ≡ j → ((v : ℕ) → a ≡ some v → i ≡ 0) → ((v : ℕ) → b ≡ some v → j ≡ 0)
      → standing n (rake_two o a b) + twos-at (left_two o a b l' r' n) ≡ count (eqb q (get_or ups x 0)) + (i + j)
  two-standing o (some a) (some b) l' r' n x i j h e p s u v =
      omega (arith, one_more (E_rec o a b) n _ refl h.0, u a refl, v b refl)
  two-standing o (some a) none l' r' n x i j h e p s u v =
      omega (arith, one_more (R_rec left_side o a) n _ refl h.0, u a refl)
  two-standing o none (some b) l' r' n x i j h e p s u v =
      omega (arith, one_more (R_rec right_side o b) n _ refl h.0, v b refl)
  two-standing o none none l' r' n x i j h e p s u v = rw (e, p, s) (zero-add _)

  -- the two-child nodes at q that rake leaves, and the nodes at q that it makes, are those that it found
  rake_twos : (w : Work) (n : ℕ) → Sib ups es w → Spots ups es n (rakes w) → standing n (rakes w) + twos-at (raked w n) ≡ twos-at w
  rake_twos (tip d) n s g = refl
  rake_twos (one d c) n s g =
      let t = rake_one d (tip_of c) in
      let m = n + length (rakes c) in
      let e = rake_twos c n s (left ups es (rakes c) t n g) in
      omega (
        arith,
        e,
        standing-append (rakes c) t n,
        one-standing d (tip_of c) (raked c n) m (twos-at (raked c n)) refl (λ u z. omega (arith, e, tip-none c u z)),
      )
  rake_twos (two o l r) n s g =
      let t = rake_two o (tip_of l) (tip_of r) in
      let k = n + length (rakes l) in
      let gl = left ups es (rakes l) (rakes r ++ t) n g in
      let gr = left ups es (rakes r) t k (right ups es (rakes l) (rakes r ++ t) n g) in
      let el = rake_twos l n s.1 gl in
      let er = rake_twos r k s.2 gr in
      omega (
        arith,
        el,
        er,
        standing-append (rakes l) (rakes r ++ t) n,
        standing-append (rakes r) t k,
        two-standing o (tip_of l) (tip_of r) (raked l n) (raked r k) (k + length (rakes r)) (at ups es l) (twos-at (raked l n)) (twos-at (raked r k))
            (here ups es o l r n s g) (rake_at ups es l n s.1 gl) refl refl
            (λ u z. omega (arith, el, tip-none l u z)) (λ u z. omega (arith, er, tip-none r u z)),
      )

  compress_twos : (w : Work) (n : ℕ) → Spots ups es n (compresses w) → standing n (compresses w) + twos-at (compressed w n) ≡ twos-at w
  compress_twos (tip d) n g = refl
  compress_twos (one u (tip d)) n g = refl
  compress_twos (one u (one d c)) n g =
      omega (arith, compress_twos c n (left ups es (compresses c) _ n g), standing-append (compresses c) (C_rec u d ∷ []) n)
  compress_twos (one u (two o l r)) n g = compress_twos (two o l r) n g
  compress_twos (two o l r) n g =
      let gl = left ups es (compresses l) (compresses r) n g in
      let k = n + length (compresses l) in
      omega (
        arith,
        compress_twos l n gl,
        compress_twos r k (right ups es (compresses l) (compresses r) n g),
        standing-append (compresses l) (compresses r) n,
        ap (λ z. count (eqb q (get_or ups z 0))) (compress_at ups es l n gl),
      )

  made-twos : (k : ℕ) (w : Work) (n : ℕ) → Sib ups es w → Spots ups es n (all_made k w n)
      → standing n (all_made k w n) + twos-at (remains k w n) ≡ twos-at w
  made-twos zero w n s g = omega arith
  made-twos (suc k) w n s g =
      let m = n + length (round_makes w n) in
      let z = compresses (raked w n) in
      let gw = left ups es (round_makes w n) (all_made k (round_leaves w n) m) n g in
      omega (
        arith,
        rake_twos w n s (left ups es (rakes w) z n gw),
        compress_twos (raked w n) (n + length (rakes w)) (right ups es (rakes w) z n gw),
        made-twos k (round_leaves w n) m (round_sib ups es w n s gw) (right ups es (round_makes w n) _ n g),
        standing-append (rakes w) z n,
        standing-append (round_makes w n) (all_made k (round_leaves w n) m) n,
      )

  planted-twos : (f : Formula) (p n : ℕ) → Ups ups p f → LeafSpots es p n f → twos-at (planted f n) ≡ operations q p f
  planted-twos (leaf s) p n u h = refl
  planted-twos (node o l r) p n u h =
      omega (
        arith,
        planted-twos l p n u.2 h.0,
        planted-twos r (p + size l) (n + leaves l) u.3 h.1,
        ap (λ z. count (eqb q z)) (planted-at ups es (node o l r) p n u h),
      )

  leaf_recs-standing : (f : Formula) (n : ℕ) → standing n (leaf_recs f) ≡ 0
  leaf_recs-standing (leaf s) n = refl
  leaf_recs-standing (node o l r) n = omega (arith, standing-append (leaf_recs l) (leaf_recs r) n, leaf_recs-standing l n, leaf_recs-standing r (n + length (leaf_recs l)))

  pub dwarf-standing : (f : Formula) → Placed ups es f → standing 0 (dwarf f) ≡ operations q 0 f
  dwarf-standing f p =
      let w = planted f 0 in
      let m = all_made (enough f) w (leaves f) in
      let e : standing (leaves f) m ≡ standing (0 + length (leaf_recs f)) m = ap (λ k. standing k m) (length-leaf_recs f ∙ sym (zero-add _)) in
      let z = root f in
      rw (dwarf-all f)
      (omega (
        arith,
        made-twos (enough f) w (leaves f) (planted_sib ups es f 0 0 p.over p.at_leaves) p.at_made,
        ap twos-at z.1,
        planted-twos f 0 0 p.over p.at_leaves,
        leaf_recs-standing f 0,
        standing-append (leaf_recs f) m 0,
        e,
      ))
