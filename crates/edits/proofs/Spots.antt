-- Which operation stands where changes no number, no first and no second: a record's kind follows the operation at which it was made.
-- `ups` and `es` are any lists that say which operation is over each operand and where each dwarf node stands.
use Prim.Native.Nat.{ℕ, zero, suc, ◌+◌}
use native.Mathlib.Nat.{add-zero, zero-add}
use native.Mathlib.Omega.{arith}
use mathlib.Core.Path.{◌≡◌, refl, sym, ap, ap₂, ◌∙◌}
use mathlib.Core.List.{List, [], ◌∷◌, ◌++◌}
use mathlib.Core.Option.{Option, none, some}
use lib.ListN.{length, get_or}
use Rattle.formula.specs.Formula.{Op, Formula, leaf, node, leaves}
use Rattle.contraction.specs.Records.{Rec, C_rec}
use Rattle.contraction.specs.Rounds.{Work, tip, one, two, nodes, tip_of, rake_one, rake_two, rakes, left_one, left_two, raked}
use Rattle.contraction.specs.Rounds.{compresses, compressed, round_makes, round_leaves, rounds, planted, leaf_recs, enough, dwarf, rounds_of}
use Rattle.contraction.specs.Terms.{Each}
use Rattle.edits.specs.Edits.{remade}
use Rattle.edits.specs.Changes.{reop}
use Rattle.edits.specs.Spots.{own, Ups, LeafSpots, spot}
use Rattle.contraction.proofs.Rounds.{all_made, dwarf-all, length-leaf_recs}
use Rattle.contraction.proofs.Worked.{Good, good_left, good_right}

module _ (ups es : List ℕ) where
  abbrev pub Spots : ℕ → List Rec → Type 0
  Spots n rs = Good (spot ups) es n rs

  pub left : (rs qs : List Rec) (n : ℕ) → Spots n (rs ++ qs) → Spots n rs
  left rs qs n g = good_left (spot ups) es rs qs n g

  pub right : (rs qs : List Rec) (n : ℕ) → Spots n (rs ++ qs) → Spots (n + length rs) qs
  right rs qs n g = good_right (spot ups) es rs qs n g

  -- where the root of a working tree stands, and that two siblings stand under one operation
  abbrev pub at : Work → ℕ
  at (tip d) = get_or es d 0
  at (one d c) = get_or es d 0
  at (two o l r) = get_or ups (at l) 0

  abbrev pub Sib : Work → Type 0
  Sib (tip d) = Unit {0}
  Sib (one d c) = Sib c
  Sib (two o l r) = (get_or ups (at r) 0 ≡ get_or ups (at l) 0) × Sib l × Sib r

  tip-at : (w : Work) (v : ℕ) → tip_of w ≡ some v → at w ≡ get_or es v 0
  tip-at (tip d) v e = ap (λ k. get_or es k 0) (cc)
  tip-at (one d c) v e = cc
  tip-at (two o l r) v e = cc

  -- rake: what it makes at a two-child node stands at that node's operation
  abbrev pub Here : ℕ → ℕ → Rec → Type 0
  Here x n r = get_or es n 0 ≡ x

  two_here : (o : Op) (a b : Option ℕ) (n x y : ℕ) → ((v : ℕ) → a ≡ some v → x ≡ get_or es v 0) → ((v : ℕ) → b ≡ some v → y ≡ get_or es v 0)
      → get_or ups y 0 ≡ get_or ups x 0 → Spots n (rake_two o a b) → Each (Here (get_or ups x 0)) n (rake_two o a b)
  two_here o (some a) (some b) n x y p q s g = (g.0 ∙ ap (λ k. get_or ups k 0) (sym (p a refl)), tt)
  two_here o (some a) none n x y p q s g = (g.0 ∙ ap (λ k. get_or ups k 0) (sym (p a refl)), tt)
  two_here o none (some b) n x y p q s g = (g.0 ∙ ap (λ k. get_or ups k 0) (sym (q b refl)) ∙ s, tt)
  two_here o none none n x y p q s g = tt

  one_at : (d : ℕ) (v : Option ℕ) (c' : Work) (n : ℕ) → Spots n (rake_one d v) → at (left_one d v c' n) ≡ get_or es d 0
  one_at d (some v) c' n g = g.0
  one_at d none c' n g = refl

  two_at : (o : Op) (a b : Option ℕ) (l' r' : Work) (n x : ℕ) → Each (Here (get_or ups x 0)) n (rake_two o a b) → at l' ≡ x
      → at (left_two o a b l' r' n) ≡ get_or ups x 0
  two_at o (some a) (some b) l' r' n x h p = h.0
  two_at o (some a) none l' r' n x h p = h.0
  two_at o none (some b) l' r' n x h p = h.0
  two_at o none none l' r' n x h p = ap (λ k. get_or ups k 0) p

  pub here : (o : Op) (l r : Work) (n : ℕ) → Sib (two o l r) → Spots n (rakes (two o l r))
      → Each (Here (get_or ups (at l) 0)) (n + length (rakes l) + length (rakes r)) (rake_two o (tip_of l) (tip_of r))
  here o l r n s g =
      two_here o (tip_of l) (tip_of r) _ (at l) (at r) (tip-at l) (tip-at r) s.0
      (right (rakes r) _ _ (right (rakes l) (rakes r ++ rake_two o (tip_of l) (tip_of r)) n g))

  pub rake_at : (w : Work) (n : ℕ) → Sib w → Spots n (rakes w) → at (raked w n) ≡ at w
  rake_at (tip d) n s g = refl
  rake_at (one d c) n s g = one_at d (tip_of c) (raked c n) _ (right (rakes c) _ n g)
  rake_at (two o l r) n s g =
      two_at o (tip_of l) (tip_of r) (raked l n) (raked r _) _ (at l) (here o l r n s g) (rake_at l n s.1 (left (rakes l) _ n g))

  one_sib : (d : ℕ) (v : Option ℕ) (c' : Work) (n : ℕ) → Sib c' → Sib (left_one d v c' n)
  one_sib d (some v) c' n s = tt
  one_sib d none c' n s = s

  two_sib : (o : Op) (a b : Option ℕ) (l' r' : Work) (n : ℕ) → get_or ups (at r') 0 ≡ get_or ups (at l') 0 → Sib l' → Sib r' → Sib (left_two o a b l' r' n)
  two_sib o (some a) (some b) l' r' n e p q = tt
  two_sib o (some a) none l' r' n e p q = q
  two_sib o none (some b) l' r' n e p q = p
  two_sib o none none l' r' n e p q = (e, p, q)

  rake_sib : (w : Work) (n : ℕ) → Sib w → Spots n (rakes w) → Sib (raked w n)
  rake_sib (tip d) n s g = tt
  rake_sib (one d c) n s g = one_sib d (tip_of c) (raked c n) _ (rake_sib c n s (left (rakes c) _ n g))
  rake_sib (two o l r) n s g =
      let gl = left (rakes l) (rakes r ++ rake_two o (tip_of l) (tip_of r)) n g in
      let gr = left (rakes r) _ _ (right (rakes l) (rakes r ++ rake_two o (tip_of l) (tip_of r)) n g) in
      let k = n + length (rakes l) in
      two_sib o (tip_of l) (tip_of r) (raked l n) (raked r k) _
      (ap (λ z. get_or ups z 0) (rake_at r k s.2 gr) ∙ s.0 ∙ ap (λ z. get_or ups z 0) (sym (rake_at l n s.1 gl)))
      (rake_sib l n s.1 gl) (rake_sib r k s.2 gr)

  -- compress
  pub compress_at : (w : Work) (n : ℕ) → Spots n (compresses w) → at (compressed w n) ≡ at w
  compress_at (tip d) n g = refl
  compress_at (one u (tip d)) n g = refl
  compress_at (one u (one d c)) n g = (right (compresses c) _ n g).0
  compress_at (one u (two o l r)) n g = refl
  compress_at (two o l r) n g = ap (λ z. get_or ups z 0) (compress_at l n (left (compresses l) _ n g))

  compress_sib : (w : Work) (n : ℕ) → Sib w → Spots n (compresses w) → Sib (compressed w n)
  compress_sib (tip d) n s g = tt
  compress_sib (one u (tip d)) n s g = tt
  compress_sib (one u (one d c)) n s g = compress_sib c n s (left (compresses c) _ n g)
  compress_sib (one u (two o l r)) n s g = compress_sib (two o l r) n s g
  compress_sib (two o l r) n s g =
      let gl = left (compresses l) (compresses r) n g in
      let gr = right (compresses l) (compresses r) n g in (
        ap (λ z. get_or ups z 0) (compress_at r _ gr) ∙ s.0 ∙ ap (λ z. get_or ups z 0) (sym (compress_at l n gl)),
        compress_sib l n s.1 gl,
        compress_sib r _ s.2 gr,
      )

  pub round_sib : (w : Work) (n : ℕ) → Sib w → Spots n (round_makes w n) → Sib (round_leaves w n)
  round_sib w n s g = compress_sib (raked w n) _ (rake_sib w n s (left (rakes w) _ n g)) (right (rakes w) _ n g)

  pub planted-at : (f : Formula) (p n : ℕ) → Ups ups p f → LeafSpots es p n f → at (planted f n) ≡ own p f
  planted-at (leaf s) p n u h = h
  planted-at (node o l r) p n u h = ap (λ z. get_or ups z 0) (planted-at l p n u.2 h.0) ∙ u.0

  pub planted_sib : (f : Formula) (p n : ℕ) → Ups ups p f → LeafSpots es p n f → Sib (planted f n)
  planted_sib (leaf s) p n u h = tt
  planted_sib (node o l r) p n u h = (
    ap (λ z. get_or ups z 0) (planted-at r _ _ u.3 h.1) ∙ u.1 ∙ sym (planted-at (node o l r) p n u h),
    planted_sib l p n u.2 h.0,
    planted_sib r _ _ u.3 h.1,
  )

  -- ---- The tree with each operation replaced by what g says of its position, and the records so changed
  module _ (g : ℕ → Op → Op) where
    abbrev re : Work → Work
    re (tip d) = tip d
    re (one d c) = one d (re c)
    re (two o l r) = two (g (get_or ups (at l) 0) o) (re l) (re r)

    abbrev pub fixed : ℕ → List Rec → List Rec
    fixed n [] = []
    fixed n (r ∷ rs) = reop (g (get_or es n 0)) r ∷ fixed (suc n) rs

    fixed-append : (rs qs : List Rec) (n : ℕ) → fixed n (rs ++ qs) ≡ fixed n rs ++ fixed (n + length rs) qs
    fixed-append [] qs n = ap (λ k. fixed k qs) (sym (add-zero n))
    fixed-append (r ∷ rs) qs n =
        ap (λ q. reop (g (get_or es n 0)) r ∷ q) (fixed-append rs qs (suc n) ∙ ap (λ k. fixed (suc n) rs ++ fixed k qs) (omega arith))

    pub length-fixed : (rs : List Rec) (n : ℕ) → length (fixed n rs) ≡ length rs
    length-fixed [] n = refl
    length-fixed (r ∷ rs) n = ap suc (length-fixed rs (suc n))

    tip_of-re : (w : Work) → tip_of (re w) ≡ tip_of w
    tip_of-re (tip d) = refl
    tip_of-re (one d c) = refl
    tip_of-re (two o l r) = refl

    one-fixed : (d : ℕ) (v : Option ℕ) (n : ℕ) → rake_one d v ≡ fixed n (rake_one d v)
    one-fixed d (some v) n = refl
    one-fixed d none n = refl

    two-fixed : (o : Op) (a b : Option ℕ) (n x : ℕ) → Each (Here x) n (rake_two o a b) → rake_two (g x o) a b ≡ fixed n (rake_two o a b)
    two-fixed o (some a) (some b) n x h = rw h.0
    two-fixed o (some a) none n x h = rw h.0
    two-fixed o none (some b) n x h = rw h.0
    two-fixed o none none n x h = refl

    rakes-re : (w : Work) (n : ℕ) → Sib w → Spots n (rakes w) → rakes (re w) ≡ fixed n (rakes w)
    rakes-re (tip d) n s h = refl
    rakes-re (one d c) n s h =
        rw (tip_of-re c, rakes-re c n s (left (rakes c) _ n h), fixed-append (rakes c) (rake_one d (tip_of c)) n)
        (ap (λ q. fixed n (rakes c) ++ q) (one-fixed d (tip_of c) _))
    rakes-re (two o l r) n s h =
        let t = rake_two o (tip_of l) (tip_of r) in
        let k = n + length (rakes l) in
        let hl = left (rakes l) (rakes r ++ t) n h in
        let hr = left (rakes r) t k (right (rakes l) (rakes r ++ t) n h) in
        rw (tip_of-re l, tip_of-re r, rakes-re l n s.1 hl, rakes-re r k s.2 hr, fixed-append (rakes l) (rakes r ++ t) n, fixed-append (rakes r) t k)
        (ap (λ q. fixed n (rakes l) ++ (fixed k (rakes r) ++ q)) (two-fixed o (tip_of l) (tip_of r) _ _ (here o l r n s h)))

    one-re : (d : ℕ) (v : Option ℕ) (c' : Work) (n : ℕ) → left_one d v (re c') n ≡ re (left_one d v c' n)
    one-re d (some v) c' n = refl
    one-re d none c' n = refl

    two-re : (o : Op) (a b : Option ℕ) (l' r' : Work) (n x : ℕ) → at l' ≡ x → left_two (g (get_or ups x 0) o) a b (re l') (re r') n ≡ re (left_two o a b l' r' n)
    two-re o (some a) (some b) l' r' n x e = refl
    two-re o (some a) none l' r' n x e = refl
    two-re o none (some b) l' r' n x e = refl
    two-re o none none l' r' n x e = rw e

    rakes-length : (w : Work) (n : ℕ) → Sib w → Spots n (rakes w) → length (rakes (re w)) ≡ length (rakes w)
    rakes-length w n s h = ap length (rakes-re w n s h) ∙ length-fixed (rakes w) n

    raked-re : (w : Work) (n : ℕ) → Sib w → Spots n (rakes w) → raked (re w) n ≡ re (raked w n)
    raked-re (tip d) n s h = refl
    raked-re (one d c) n s h =
        let hc = left (rakes c) (rake_one d (tip_of c)) n h in
        rw (tip_of-re c, raked-re c n s hc, rakes-length c n s hc) (one-re d (tip_of c) (raked c n) _)
    raked-re (two o l r) n s h =
        let t = rake_two o (tip_of l) (tip_of r) in
        let k = n + length (rakes l) in
        let hl = left (rakes l) (rakes r ++ t) n h in
        let hr = left (rakes r) t k (right (rakes l) (rakes r ++ t) n h) in
        rw (tip_of-re l, tip_of-re r, rakes-length l n s.1 hl, rakes-length r k s.2 hr, raked-re l n s.1 hl, raked-re r k s.2 hr)
        (two-re o (tip_of l) (tip_of r) (raked l n) (raked r k) _ (at l) (rake_at l n s.1 hl))

    compresses-re : (w : Work) → compresses (re w) ≡ compresses w
    compresses-re (tip d) = refl
    compresses-re (one u (tip d)) = refl
    compresses-re (one u (one d c)) = ap (λ q. q ++ (C_rec u d ∷ [])) (compresses-re c)
    compresses-re (one u (two o l r)) = compresses-re (two o l r)
    compresses-re (two o l r) = ap₂ ◌++◌ (compresses-re l) (compresses-re r)

    compresses-fixed : (w : Work) (n : ℕ) → fixed n (compresses w) ≡ compresses w
    compresses-fixed (tip d) n = refl
    compresses-fixed (one u (tip d)) n = refl
    compresses-fixed (one u (one d c)) n = fixed-append (compresses c) (C_rec u d ∷ []) n ∙ ap (λ q. q ++ (C_rec u d ∷ [])) (compresses-fixed c n)
    compresses-fixed (one u (two o l r)) n = compresses-fixed (two o l r) n
    compresses-fixed (two o l r) n = fixed-append (compresses l) (compresses r) n ∙ ap₂ ◌++◌ (compresses-fixed l n) (compresses-fixed r _)

    compressed-re : (w : Work) (n : ℕ) → Spots n (compresses w) → compressed (re w) n ≡ re (compressed w n)
    compressed-re (tip d) n h = refl
    compressed-re (one u (tip d)) n h = refl
    compressed-re (one u (one d c)) n h = rw (compresses-re c, compressed-re c n (left (compresses c) _ n h))
    compressed-re (one u (two o l r)) n h = ap (one u) (compressed-re (two o l r) n h)
    compressed-re (two o l r) n h =
        let hl = left (compresses l) (compresses r) n h in
        rw (compresses-re l, compressed-re l n hl, compressed-re r _ (right (compresses l) (compresses r) n h), compress_at l n hl)

    -- a round, and all rounds
    makes-re : (w : Work) (n : ℕ) → Sib w → Spots n (round_makes w n) → round_makes (re w) n ≡ fixed n (round_makes w n)
    makes-re w n s h =
        let hr = left (rakes w) (compresses (raked w n)) n h in
        rw (rakes-re w n s hr, raked-re w n s hr, compresses-re (raked w n), fixed-append (rakes w) (compresses (raked w n)) n)
        (ap (λ q. fixed n (rakes w) ++ q) (sym (compresses-fixed (raked w n) _)))

    leaves-re : (w : Work) (n : ℕ) → Sib w → Spots n (round_makes w n) → round_leaves (re w) n ≡ re (round_leaves w n)
    leaves-re w n s h =
        let hr = left (rakes w) (compresses (raked w n)) n h in
        rw (raked-re w n s hr, rakes-length w n s hr) (compressed-re (raked w n) _ (right (rakes w) _ n h))

    makes-length : (w : Work) (n : ℕ) → Sib w → Spots n (round_makes w n) → length (round_makes (re w) n) ≡ length (round_makes w n)
    makes-length w n s h = ap length (makes-re w n s h) ∙ length-fixed (round_makes w n) n

    pub all-re : (k : ℕ) (w : Work) (n : ℕ) → Sib w → Spots n (all_made k w n) → all_made k (re w) n ≡ fixed n (all_made k w n)
    all-re zero w n s h = refl
    all-re (suc k) w n s h =
        let m = n + length (round_makes w n) in
        let hw = left (round_makes w n) (all_made k (round_leaves w n) m) n h in
        rw (leaves-re w n s hw, makes-length w n s hw, makes-re w n s hw, fixed-append (round_makes w n) (all_made k (round_leaves w n) m) n)
        (ap (λ q. fixed n (round_makes w n) ++ q) (all-re k (round_leaves w n) m (round_sib w n s hw) (right (round_makes w n) _ n h)))

    next-re : (k : ℕ) (w : Work) (n : ℕ) → Sib w → Spots n (round_makes w n)
        → rounds k (re (round_leaves w n)) (n + length (round_makes w n)) ≡ rounds k (round_leaves w n) (n + length (round_makes w n))
        → rounds k (round_leaves (re w) n) (n + length (round_makes (re w) n)) ≡ rounds k (round_leaves w n) (n + length (round_makes w n))
    next-re k w n s h e = rw (leaves-re w n s h, makes-length w n s h) e

    rounds-re : (k : ℕ) (w : Work) (n : ℕ) → Sib w → Spots n (all_made k w n) → rounds k (re w) n ≡ rounds k w n
    rounds-re zero w n s h = refl
    rounds-re (suc k) w n s h =
        let m = n + length (round_makes w n) in
        let hw = left (round_makes w n) (all_made k (round_leaves w n) m) n h in
        go w n (next-re k w n s hw (rounds-re k (round_leaves w n) m (round_sib w n s hw) (right (round_makes w n) _ n h)))
      where
        go : (w : Work) (n : ℕ) → rounds k (round_leaves (re w) n) (n + length (round_makes (re w) n)) ≡ rounds k (round_leaves w n) (n + length (round_makes w n))
            → rounds (suc k) (re w) n ≡ rounds (suc k) w n
        go (tip d) n e = refl
        go (one d c) n e = ap suc e
        go (two o l r) n e = ap suc e

    nodes-re : (w : Work) → nodes (re w) ≡ nodes w
    nodes-re (tip d) = refl
    nodes-re (one d c) = ap suc (nodes-re c)
    nodes-re (two o l r) = omega (arith, nodes-re l, nodes-re r)

    pub leaves-remade : (f : Formula) (p : ℕ) → leaves (remade g p f) ≡ leaves f
    leaves-remade (leaf s) p = refl
    leaves-remade (node o l r) p = ap₂ ◌+◌ (leaves-remade l p) (leaves-remade r _)

    leaf_recs-remade : (f : Formula) (p : ℕ) → leaf_recs (remade g p f) ≡ leaf_recs f
    leaf_recs-remade (leaf s) p = refl
    leaf_recs-remade (node o l r) p = ap₂ ◌++◌ (leaf_recs-remade l p) (leaf_recs-remade r _)

    leaf_recs-fixed : (f : Formula) (n : ℕ) → fixed n (leaf_recs f) ≡ leaf_recs f
    leaf_recs-fixed (leaf s) n = refl
    leaf_recs-fixed (node o l r) n = fixed-append (leaf_recs l) (leaf_recs r) n ∙ ap₂ ◌++◌ (leaf_recs-fixed l n) (leaf_recs-fixed r _)

    planted-re : (f : Formula) (p n : ℕ) → Ups ups p f → LeafSpots es p n f → planted (remade g p f) n ≡ re (planted f n)
    planted-re (leaf s) p n u h = refl
    planted-re (node o l r) p n u h =
        rw (leaves-remade l p, planted-re l p n u.2 h.0, planted-re r _ _ u.3 h.1, planted-at (node o l r) p n u h)

-- The two lists say of the dwarf tree of f where everything stands.
pub record Placed (ups es : List ℕ) (f : Formula) : Type 0 where
  pub over : Ups ups 0 f
  pub at_leaves : LeafSpots es 0 0 f
  pub at_made : Spots ups es (leaves f) (all_made (enough f) (planted f 0) (leaves f))

module _ (ups es : List ℕ) (g : ℕ → Op → Op) (f : Formula) (p : Placed ups es f) where
  pub start : planted (remade g 0 f) 0 ≡ re ups es g (planted f 0)
  start = planted-re ups es g f 0 0 p.over p.at_leaves

  pub enough-same : enough (remade g 0 f) ≡ enough f
  enough-same = ap nodes start ∙ nodes-re ups es g (planted f 0)

  pub sib : Sib ups es (planted f 0)
  sib = planted_sib ups es f 0 0 p.over p.at_leaves

  -- The dwarf tree of a formula with other operations: each E and R has the kind of the operation where it stands, and nothing else changes.
  pub dwarf-remade : dwarf (remade g 0 f) ≡ fixed ups es g 0 (dwarf f)
  dwarf-remade =
      rw (
        dwarf-all (remade g 0 f),
        dwarf-all f,
        enough-same,
        start,
        leaves-remade ups es g f 0,
        leaf_recs-remade ups es g f 0,
        fixed-append ups es g (leaf_recs f) (all_made (enough f) (planted f 0) (leaves f)) 0,
        leaf_recs-fixed ups es g f 0,
        ← (length-leaf_recs f),
        zero-add (leaves f),
        all-re ups es g (enough f) (planted f 0) (leaves f) sib p.at_made,
      )

  pub rounds-remade : rounds_of (remade g 0 f) ≡ rounds_of f
  rounds-remade = rw (enough-same, start, leaves-remade ups es g f 0) (rounds-re ups es g (enough f) (planted f 0) (leaves f) sib p.at_made)
