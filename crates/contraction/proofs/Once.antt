-- A dwarf tree is a tree: every node but the last is a child of exactly one node.
use Prim.Native.Nat.{ℕ, zero, suc, ◌+◌, ◌<◌, ◌≤◌}
use native.Mathlib.Nat.{add-zero, zero-add}
use native.Mathlib.Omega.{arith}
use mathlib.Core.Path.{◌≡◌, refl, sym, ap, ap₂, ◌∙◌}
use mathlib.Core.Bool.{Bool, true, false, cond}
use mathlib.Core.List.{List, [], ◌∷◌, ◌++◌}
use mathlib.Core.Option.{some, some-injective, none-ne-some}
use lib.Dec.{eqb}
use borrow.Author.Tests.{eqb-true, eqb-false, eq-eqb, ne_eqb}
use lib.ListN.{length}
use Rattle.formula.specs.Formula.{Op, Formula, leaf, node, leaves}
use Rattle.formula.specs.States.{times}
use Rattle.contraction.specs.Records.{Side, left, right, Rec, E_rec, R_rec, S_rec, C_rec}
use Rattle.contraction.specs.Rounds.{Work, tip, one, two, tip_of, rake_one, rake_two, rakes, left_one, left_two, raked}
use Rattle.contraction.specs.Rounds.{compresses, compressed, round_makes, round_leaves, planted, leaf_recs, enough, dwarf}
use Rattle.contraction.specs.Terms.{refs, uses}
use Rattle.contraction.proofs.Rounds.{all_made, remains, dwarf-all, length-leaf_recs, root}

abbrev count : Bool → ℕ
count b = cond b 1 0

abbrev hit : ℕ → ℕ → ℕ
hit c d = count (eqb c d)

-- how often c is a root in the tree
abbrev occ : ℕ → Work → ℕ
occ c (tip d) = hit c d
occ c (one d w) = hit c d + occ c w
occ c (two o l r) = occ c l + occ c r

-- how often c is the number of one of the records, which are numbered from n on
abbrev born : ℕ → ℕ → List Rec → ℕ
born c n [] = 0
born c n (r ∷ rs) = hit c n + born c (suc n) rs

uses-append : (c : ℕ) (rs qs : List Rec) → uses c (rs ++ qs) ≡ uses c rs + uses c qs
uses-append c [] qs = omega arith
uses-append c (r ∷ rs) qs = omega (arith, uses-append c rs qs)

born-append : (c n : ℕ) (rs qs : List Rec) → born c n (rs ++ qs) ≡ born c n rs + born c (n + length rs) qs
born-append c n [] qs = ap (λ k. born c k qs) (sym (add-zero n)) ∙ sym (zero-add _)
born-append c n (r ∷ rs) qs =
    let e : born c (suc n + length rs) qs ≡ born c (n + suc (length rs)) qs = ap (λ k. born c k qs) (omega arith) in
    omega (arith, born-append c (suc n) rs qs, e)

born-none : (rs : List Rec) (c n : ℕ) → c < n → born c n rs ≡ 0
born-none [] c n h = refl
born-none (r ∷ rs) c n h = ap₂ ◌+◌ (ap count (ne_eqb c n (λ e. omega arith))) (born-none rs c (suc n) (omega arith))

born-le : (rs : List Rec) (c n : ℕ) → born c n rs ≤ 1
born-le [] c n = omega arith
born-le (r ∷ rs) c n = go (eqb c n) refl (born-le rs c (suc n))
  where
    go : (b : Bool) → eqb c n ≡ b → born c (suc n) rs ≤ 1 → hit c n + born c (suc n) rs ≤ 1
    go true e h = omega (arith, ap count e, born-none rs c (suc n) (omega (arith, eqb-true c n e)))
    go false e h = omega (arith, ap count e)

born_some : (rs : List Rec) (c n : ℕ) → n ≤ c → c < n + length rs → 1 ≤ born c n rs
born_some [] c n h k = absurd (omega arith)
born_some (r ∷ rs) c n h k = go (eqb c n) refl (born_some rs c (suc n))
  where
    go : (b : Bool) → eqb c n ≡ b → (suc n ≤ c → c < suc n + length rs → 1 ≤ born c (suc n) rs) → 1 ≤ hit c n + born c (suc n) rs
    go true e ih = omega (arith, ap count e)
    go false e ih =
        let past : suc n ≤ c = beyond (eqb-false c n e) in
        omega (arith, ih past (omega arith))
      where
        beyond : (c ≡ n → ⊥) → suc n ≤ c
        beyond z = omega arith

-- The steps. What a step makes refers to roots that go, and its own numbers are the roots that come
module _ (c : ℕ) where
  refs-E : (o : Op) (a b : ℕ) → refs c (E_rec o a b) ≡ hit c a + (hit c b + 0)
  unfolding times
  refs-E o a b = refl

  refs-R : (side : Side) (o : Op) (a : ℕ) → refs c (R_rec side o a) ≡ hit c a + 0
  unfolding times
  refs-R side o a = refl

  refs-S : (a b : ℕ) → refs c (S_rec a b) ≡ hit c a + (hit c b + 0)
  unfolding times
  refs-S a b = refl

  refs-C : (a b : ℕ) → refs c (C_rec a b) ≡ hit c a + (hit c b + 0)
  unfolding times
  refs-C a b = refl

  one-occ : (d : ℕ) (w w' : Work) (n : ℕ) (us bs : ℕ) → us + occ c w' ≡ occ c w + bs → ((v : ℕ) → tip_of w ≡ some v → occ c w' ≡ hit c v)
      → us + uses c (rake_one d (tip_of w)) + occ c (left_one d (tip_of w) w' n) ≡ hit c d + occ c w + (bs + born c n (rake_one d (tip_of w)))
  one-occ d (tip v) w' n us bs p t = omega (arith, t v refl, refs-S d v)
  one-occ d (one e w) w' n us bs p t = omega arith
  one-occ d (two o l r) w' n us bs p t = omega arith

  two-occ : (o : Op) (l r l' r' : Work) (n : ℕ) (us bs : ℕ) → us + (occ c l' + occ c r') ≡ occ c l + occ c r + bs
      → ((v : ℕ) → tip_of l ≡ some v → occ c l' ≡ hit c v) → ((v : ℕ) → tip_of r ≡ some v → occ c r' ≡ hit c v)
      → us + uses c (rake_two o (tip_of l) (tip_of r)) + occ c (left_two o (tip_of l) (tip_of r) l' r' n) ≡ occ c l + occ c r + (bs + born c n (rake_two o (tip_of l) (tip_of r)))
  two-occ o (tip a) (tip b) l' r' n us bs e p q = omega (arith, p a refl, q b refl, refs-E o a b)
  two-occ o (tip a) (one d w) l' r' n us bs e p q = omega (arith, p a refl, refs-R left o a)
  two-occ o (tip a) (two f w d) l' r' n us bs e p q = omega (arith, p a refl, refs-R left o a)
  two-occ o (one d w) (tip b) l' r' n us bs e p q = omega (arith, q b refl, refs-R right o b)
  two-occ o (two f w d) (tip b) l' r' n us bs e p q = omega (arith, q b refl, refs-R right o b)
  two-occ o (one d w) (one d' w') l' r' n us bs e p q = omega arith
  two-occ o (one d w) (two f w' d') l' r' n us bs e p q = omega arith
  two-occ o (two f w d) (one d' w') l' r' n us bs e p q = omega arith
  two-occ o (two f w d) (two f' w' d') l' r' n us bs e p q = omega arith

  -- rake leaves a leaf alone
  tip_stays : (w : Work) (n v : ℕ) → tip_of w ≡ some v → occ c (raked w n) ≡ hit c v
  tip_stays (tip d) n v e = ap (hit c) (some-injective d v e)
  tip_stays (one d w) n v e = absurd (none-ne-some v e)
  tip_stays (two o l r) n v e = absurd (none-ne-some v e)

  rake_occ : (w : Work) (n : ℕ) → uses c (rakes w) + occ c (raked w n) ≡ occ c w + born c n (rakes w)
  rake_occ (tip d) n = omega arith
  rake_occ (one d w) n =
      let m = n + length (rakes w) in
      let t = rake_one d (tip_of w) in
      omega (
        arith,
        one-occ d w (raked w n) m (uses c (rakes w)) (born c n (rakes w)) (rake_occ w n) (tip_stays w n),
        uses-append c (rakes w) t,
        born-append c n (rakes w) t,
      )
  rake_occ (two o l r) n =
      let k = n + length (rakes l) in
      let t = rake_two o (tip_of l) (tip_of r) in
      omega (
        arith,
        two-occ o l r (raked l n) (raked r k) (k + length (rakes r)) (uses c (rakes l) + uses c (rakes r)) (born c n (rakes l) + born c k (rakes r))
            (omega (arith, rake_occ l n, rake_occ r k)) (tip_stays l n) (tip_stays r k),
        uses-append c (rakes l) (rakes r ++ t),
        uses-append c (rakes r) t,
        born-append c n (rakes l) (rakes r ++ t),
        born-append c k (rakes r) t,
      )

  compress_occ : (w : Work) (n : ℕ) → uses c (compresses w) + occ c (compressed w n) ≡ occ c w + born c n (compresses w)
  compress_occ (tip d) n = omega arith
  compress_occ (one u (tip d)) n = omega arith
  compress_occ (one u (one d w)) n =
      omega (arith, compress_occ w n, uses-append c (compresses w) (C_rec u d ∷ []), born-append c n (compresses w) (C_rec u d ∷ []), refs-C u d)
  compress_occ (one u (two o l r)) n = omega (arith, compress_occ (two o l r) n)
  compress_occ (two o l r) n =
      let k = n + length (compresses l) in
      omega (arith, compress_occ l n, compress_occ r k, uses-append c (compresses l) (compresses r), born-append c n (compresses l) (compresses r))

  made-occ : (k : ℕ) (w : Work) (n : ℕ) → uses c (all_made k w n) + occ c (remains k w n) ≡ occ c w + born c n (all_made k w n)
  made-occ zero w n = omega arith
  made-occ (suc k) w n =
      let z = compresses (raked w n) in
      let w' = round_leaves w n in
      let m = n + length (round_makes w n) in
      omega (
        arith,
        rake_occ w n,
        compress_occ (raked w n) (n + length (rakes w)),
        made-occ k w' m,
        uses-append c (rakes w) z,
        born-append c n (rakes w) z,
        uses-append c (round_makes w n) (all_made k w' m),
        born-append c n (round_makes w n) (all_made k w' m),
      )

  planted-occ : (f : Formula) (n : ℕ) → occ c (planted f n) ≡ born c n (leaf_recs f)
  planted-occ (leaf s) n = omega arith
  planted-occ (node o l r) n =
      let e : born c (n + leaves l) (leaf_recs r) ≡ born c (n + length (leaf_recs l)) (leaf_recs r) =
      ap (λ k. born c (n + k) (leaf_recs r)) (length-leaf_recs l) in
      omega (arith, planted-occ l n, planted-occ r (n + leaves l), born-append c n (leaf_recs l) (leaf_recs r), e)

  leaf-uses : (f : Formula) → uses c (leaf_recs f) ≡ 0
  unfolding times
  leaf-uses (leaf s) = refl
  leaf-uses (node o l r) = omega (arith, uses-append c (leaf_recs l) (leaf_recs r), leaf-uses l, leaf-uses r)

  shared : (f : Formula) → uses c (dwarf f) + occ c (remains (enough f) (planted f 0) (leaves f)) ≡ born c 0 (dwarf f)
  shared f =
      let w = planted f 0 in
      let m = all_made (enough f) w (leaves f) in
      let e : born c (leaves f) m ≡ born c (0 + length (leaf_recs f)) m = ap (λ k. born c k m) (length-leaf_recs f ∙ sym (zero-add _)) in
      rw (dwarf-all f)
      (omega (arith, made-occ (enough f) w (leaves f), planted-occ f 0, leaf-uses f, uses-append c (leaf_recs f) m, born-append c 0 (leaf_recs f) m, e))

  pub at_most_one : (f : Formula) → uses c (dwarf f) ≤ 1
  at_most_one f = omega (arith, shared f, born-le (dwarf f) c 0)

-- Every node but the last is a child of exactly one node, and the last is a child of none.
pub child_of_one : (f : Formula) (c : ℕ) → suc c < length (dwarf f) → uses c (dwarf f) ≡ 1
child_of_one f c h =
    let e = root f in
    let apart : hit c e.0 ≡ 0 = ap count (ne_eqb c e.0 (λ q. omega (arith, e.2))) in
    omega (arith, shared c f, at_most_one c f, born_some (dwarf f) c 0 (omega arith) (omega arith), ap (occ c) e.1)

pub last_no_child : (f : Formula) (c : ℕ) → suc c ≡ length (dwarf f) → uses c (dwarf f) ≡ 0
last_no_child f c h =
    let e = root f in
    let same : hit c e.0 ≡ 1 = ap count (eq-eqb c e.0 (omega (arith, e.2))) in
    omega (arith, shared c f, born-le (dwarf f) c 0, ap (occ c) e.1)
