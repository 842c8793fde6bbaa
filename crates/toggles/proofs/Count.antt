-- A count is at most the leaves of its shape times the height; so a shape with no leaf counts 0.
use Prim.Native.Nat.{ℕ, zero, suc, ◌+◌, ◌-◌, ◌*◌, ◌<◌, ◌≤◌}
use native.Mathlib.Omega.{arith}
use mathlib.Core.Path.{◌≡◌, refl, sym, ap}
use mathlib.Core.Bool.{Bool, true, false, cond, ◌&&◌, or-true, false≢true}
use mathlib.Core.List.{List, [], ◌∷◌, ◌++◌}
use lib.Dec.{eqb}
use borrow.Author.Tests.{eqb-true, eqb-false, eq-eqb}
use lib.ListN.{length, get_or, set}
use lib.Seq.{get_or-set_other}
use Rattle.formula.specs.Formula.{Formula, leaf, node, leaves}
use Rattle.formula.specs.States.{outside, times}
use Rattle.contraction.specs.Records.{Rec, children, listed}
use Rattle.contraction.specs.Rounds.{dwarf, leaf_recs, enough, planted}
use Rattle.contraction.specs.Height.{path, height}
use Rattle.contraction.specs.Terms.{Each, refs, uses}
use Rattle.contraction.proofs.Worked.{Good}
use Rattle.contraction.proofs.Rounds.{all_made, dwarf-all}
use Rattle.contraction.proofs.Once.{at_most_one}
use Rattle.contraction.proofs.Leaves.{NoLeaf, made_none}
use Rattle.contraction.proofs.Paths.{path-over, paths, paths_good, path-height}
use Rattle.labels.specs.Labels.{bit, labels, is_of}
use Rattle.toggle_passes.specs.Reworking.{changed, reworked, rework}
use Rattle.toggle_passes.proofs.Reworking.{rework_skip, rework-here}
use Rattle.toggles.specs.Toggles.{flip, flip_leaves, toggle, toggle_each, toggle_run}
use Rattle.toggles.specs.Demand.{leaves_of}
use Rattle.labels.proofs.Links.{cases}

-- the leaves of shape s among records
abbrev leaves_in : ℕ → List Rec → ℕ
leaves_in s [] = 0
leaves_in s (r ∷ rs) = bit (is_of s r) + leaves_in s rs

-- What is left of the height above the changed nodes: each rework takes at least one step of it, and gives back what is left above the node.
module _ (hs : List ℕ) (H : ℕ) (old : List ℕ) where
  abbrev rest : List ℕ → List ℕ → ℕ
  rest ls [] = 0
  rest ls (c ∷ cs) = cond (eqb (get_or ls c 0) (get_or old c 0)) 0 (H - get_or hs c 0) + rest ls cs

  abbrev left : List ℕ → List Rec → ℕ
  left ls [] = 0
  left ls (r ∷ rs) = rest ls (children r) + left ls rs

  cond_most : (b : Bool) (n : ℕ) → cond b 0 n ≤ n
  cond_most true n = omega arith
  cond_most false n = omega arith

  -- a change at j is no matter to nodes other than j
  rest-none : (ls : List ℕ) (j v : ℕ) (cs : List ℕ) → times j cs ≡ 0 → rest (set ls j v) cs ≡ rest ls cs
  unfolding times
  rest-none ls j v [] e = refl
  rest-none ls j v (c ∷ cs) e = go (eqb j c) refl (rest-none ls j v cs)
    where
      go : (b : Bool) → eqb j c ≡ b → (times j cs ≡ 0 → rest (set ls j v) cs ≡ rest ls cs) → rest (set ls j v) (c ∷ cs) ≡ rest ls (c ∷ cs)
      go true q ih = absurd (omega (arith, rw q at e))
      go false q ih =
          let same : get_or (set ls j v) c 0 ≡ get_or ls c 0 = get_or-set_other ls j c v 0 (λ z. eqb-false j c q (sym z)) in
          rw (same, ih (omega (arith, rw q at e)))

  -- and adds at most what is left above j where it stands once
  rest_once : (ls : List ℕ) (j v : ℕ) (cs : List ℕ) → times j cs ≤ 1 → rest (set ls j v) cs ≤ rest ls cs + (H - get_or hs j 0)
  unfolding times
  rest_once ls j v [] e = omega arith
  rest_once ls j v (c ∷ cs) e = go (eqb j c) refl (rest_once ls j v cs)
    where
      go : (b : Bool) → eqb j c ≡ b → (times j cs ≤ 1 → rest (set ls j v) cs ≤ rest ls cs + (H - get_or hs j 0)) → rest (set ls j v) (c ∷ cs) ≤ rest ls (c ∷ cs) + (H - get_or hs j 0)
      go true q ih =
          omega (
            arith,
            rest-none ls j v cs (omega (arith, rw q at e)),
            cond_most (eqb (get_or (set ls j v) c 0) (get_or old c 0)) (H - get_or hs c 0),
            ap (λ (k : ℕ). H - get_or hs k 0) (eqb-true j c q),
          )
      go false q ih =
          let same : get_or (set ls j v) c 0 ≡ get_or ls c 0 = get_or-set_other ls j c v 0 (λ z. eqb-false j c q (sym z)) in
          rw same (omega (arith, ih (omega (arith, rw q at e))))

  left-none : (ls : List ℕ) (j v : ℕ) (rs : List Rec) → uses j rs ≡ 0 → left (set ls j v) rs ≡ left ls rs
  left-none ls j v [] e = refl
  left-none ls j v (r ∷ rs) e = omega (arith, rest-none ls j v (children r) (omega arith), left-none ls j v rs (omega arith))

  left_once : (ls : List ℕ) (j v : ℕ) (rs : List Rec) → uses j rs ≤ 1 → left (set ls j v) rs ≤ left ls rs + (H - get_or hs j 0)
  left_once ls j v [] e = omega arith
  left_once ls j v (r ∷ rs) e = go (refs j r) refl (left_once ls j v rs)
    where
      go : (n : ℕ) → refs j r ≡ n → (uses j rs ≤ 1 → left (set ls j v) rs ≤ left ls rs + (H - get_or hs j 0)) → left (set ls j v) (r ∷ rs) ≤ left ls (r ∷ rs) + (H - get_or hs j 0)
      go zero q ih = omega (arith, rest-none ls j v (children r) q, ih (omega arith))
      go (suc n) q ih = omega (arith, rest_once ls j v (children r) (omega arith), left-none ls j v rs (omega arith))

  -- a changed child is a step further down
  rest_some : (ls : List ℕ) (p : ℕ) (cs : List ℕ) → ((c : ℕ) → listed c cs ≡ true → suc (get_or hs c 0) ≤ p) → p ≤ H → changed old ls cs ≡ true → suc (H - p) ≤ rest ls cs
  rest_some ls p [] deep top e = absurd (false≢true e)
  rest_some ls p (c ∷ cs) deep top e = go (eqb (get_or ls c 0) (get_or old c 0)) refl (rest_some ls p cs (λ d o. deep d (rw o (or-true (eqb d c)))) top)
    where
      go : (b : Bool) → eqb (get_or ls c 0) (get_or old c 0) ≡ b → (changed old ls cs ≡ true → suc (H - p) ≤ rest ls cs) → suc (H - p) ≤ rest ls (c ∷ cs)
      go true q ih = rw q (omega (arith, ih (rw q at e)))
      go false q ih = rw q (omega (arith, deep c (rw (eq-eqb c c refl))))

  rework-left : (rs : List Rec) (j : ℕ) (ls : List ℕ) → Good path hs j rs → ((i : ℕ) → i < j + length rs → get_or hs i 0 ≤ H) → ((d : ℕ) → uses d rs ≤ 1)
      → (rework old rs j ls).count ≤ left ls rs
  rework-left [] j ls g top once = omega arith
  rework-left (r ∷ rs) j ls g top once = go (λ ms. rework-left rs (suc j) ms g.1 (λ i h. top i (omega arith)) (λ d. omega (arith, once d)))
    where
      v : ℕ
      v = reworked ls r

      go : ((ms : List ℕ) → (rework old rs (suc j) ms).count ≤ left ms rs) → (rework old (r ∷ rs) j ls).count ≤ left ls (r ∷ rs)
      go ih =
          cases (changed old ls (children r))
          (λ e.
          omega (
            arith,
            ap (λ st. st.count) (rework-here old r rs j ls e),
            ih (set ls j v),
            left_once ls j v rs (omega (arith, once j)),
            rest_some ls (path hs r) (children r) (λ c o. path-over hs r c o) (omega (arith, g.0, top j (omega arith))) e,
            g.0,
          ))
          (λ e. omega (arith, ap (λ st. st.count) (rework_skip old r rs j ls e), ih ls))

  -- each leaf that is flipped adds at most the height
  flips_left : (s : ℕ) (all rs : List Rec) (i : ℕ) (ls : List ℕ) → ((d : ℕ) → uses d all ≤ 1) → left (flip_leaves s rs i ls) all ≤ left ls all + leaves_in s rs * H
  flips_left s all [] i ls once = omega arith
  flips_left s all (r ∷ rs) i ls once = go (is_of s r) refl (λ ms. flips_left s all rs (suc i) ms once)
    where
      go : (b : Bool) → is_of s r ≡ b → ((ms : List ℕ) → left (flip_leaves s rs (suc i) ms) all ≤ left ms all + leaves_in s rs * H)
          → left (flip_leaves s (r ∷ rs) i ls) all ≤ left ls all + leaves_in s (r ∷ rs) * H
      go true e ih = rw e (omega (arith, ih (set ls i (flip (get_or ls i 0))), left_once ls i (flip (get_or ls i 0)) all (once i)))
      go false e ih = rw e (omega (arith, ih ls))

rest-same : (hs : List ℕ) (H : ℕ) (ls cs : List ℕ) → rest hs H ls ls cs ≡ 0
rest-same hs H ls [] = refl
rest-same hs H ls (c ∷ cs) = rw (eq-eqb (get_or ls c 0) (get_or ls c 0) refl) (omega (arith, rest-same hs H ls cs))

left-same : (hs : List ℕ) (H : ℕ) (ls : List ℕ) (rs : List Rec) → left hs H ls ls rs ≡ 0
left-same hs H ls [] = refl
left-same hs H ls (r ∷ rs) = omega (arith, rest-same hs H ls (children r), left-same hs H ls rs)

-- those are the formula's leaves of the shape
leaves_in-append : (s : ℕ) (rs qs : List Rec) → leaves_in s (rs ++ qs) ≡ leaves_in s rs + leaves_in s qs
leaves_in-append s [] qs = omega arith
leaves_in-append s (r ∷ rs) qs = omega (arith, leaves_in-append s rs qs)

leaves_in-none : (s : ℕ) (rs : List Rec) (n : ℕ) → Each NoLeaf n rs → leaves_in s rs ≡ 0
leaves_in-none s [] n e = refl
leaves_in-none s (r ∷ rs) n e =
    let z : bit (is_of s r) ≡ 0 = ap (λ b. bit (b && eqb r.first s)) e.0 in
    omega (arith, leaves_in-none s rs (suc n) e.1)

bit-cond : (b : Bool) → bit b ≡ cond b 1 0
bit-cond true = refl
bit-cond false = refl

leaves_in-leaves : (s : ℕ) (f : Formula) → leaves_in s (leaf_recs f) ≡ leaves_of s f
leaves_in-leaves s (leaf t) = omega (arith, bit-cond (eqb t s))
leaves_in-leaves s (node o l r) = omega (arith, leaves_in-append s (leaf_recs l) (leaf_recs r), leaves_in-leaves s l, leaves_in-leaves s r)

leaves_in-dwarf : (s : ℕ) (f : Formula) → leaves_in s (dwarf f) ≡ leaves_of s f
leaves_in-dwarf s f =
    let m = all_made (enough f) (planted f 0) (leaves f) in
    rw (dwarf-all f) (omega (arith, leaves_in-append s (leaf_recs f) m, leaves_in-leaves s f, leaves_in-none s m 0 (made_none (enough f) (planted f 0) (leaves f) 0)))

pub toggle_bound : (f : Formula) (s : ℕ) (ls : List ℕ) → (toggle (dwarf f) s ls).count ≤ leaves_of s f * height (dwarf f)
toggle_bound f s ls =
    let rs = dwarf f in
    let H = height rs in
    omega (
      arith,
      rework-left (paths f) H ls rs 0 (flip_leaves s rs 0 ls) (paths_good f) (λ k p. path-height f k (omega arith)) (λ d. at_most_one d f),
      flips_left (paths f) H ls s rs rs 0 ls (λ d. at_most_one d f),
      left-same (paths f) H ls rs,
      ap (λ n. n * H) (leaves_in-dwarf s f),
    )

-- each count of a run
bound_from : (f : Formula) (ls ss : List ℕ) (i : ℕ) → i < length ss → get_or (toggle_each (dwarf f) ls ss).counts i 0 ≤ leaves_of (get_or ss i 0) f * height (dwarf f)
bound_from f ls [] i h = absurd (omega arith)
bound_from f ls (s ∷ ss) zero h = toggle_bound f s ls
bound_from f ls (s ∷ ss) (suc i) h = bound_from f (toggle (dwarf f) s ls).labels ss i (omega arith)

pub count_bound : (f : Formula) (ss : List ℕ) (i : ℕ) → i < length ss → get_or (toggle_run f ss).counts i 0 ≤ leaves_of (get_or ss i 0) f * height (dwarf f)
count_bound f ss i h = bound_from f (labels outside (dwarf f)) ss i h

pub no_leaf_no-count : (f : Formula) (ss : List ℕ) (i : ℕ) → i < length ss → leaves_of (get_or ss i 0) f ≡ 0 → get_or (toggle_run f ss).counts i 0 ≡ 0
no_leaf_no-count f ss i h e = omega (arith, rw e at (count_bound f ss i h))
