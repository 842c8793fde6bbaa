-- Laws of the longest path by the kind of a record, and of one record more.
use Prim.Native.Nat.{ℕ, ◌+◌, ◌≤◌, ◌<◌, max}
use native.Mathlib.Nat.{max-zero}
use native.Mathlib.Numerals.{add-one}
use native.Mathlib.Omega.{arith}
use mathlib.Core.Path.{◌≡◌, refl, sym, ap, ◌∙◌}
use mathlib.Core.Bool.{Bool, true, false}
use mathlib.Core.List.{List, [], ◌∷◌, ◌++◌}
use borrow.Author.Tests.{ltb-true, ltb-false}
use lib.Dec.{ltb}
use lib.ListN.{length, get_or, set, take, length-append, get_or-append}
use lib.Seq.{take-suc-set, get_or-append_seam}
use Rattle.contraction.specs.Records.{Rec}
use Rattle.contraction.specs.Height.{worked, last, path, height}
use Rattle.contraction.proofs.Worked.{worked_snoc}
use Rattle.contraction.proofs.EntryLaws.{below_none, below-E, below-R, below_rest, recs-next}
use Rattle.contraction.specs.Entries.{entry, entries, rec_of, rec_at}
use Rattle.contraction.specs.declared.Records.{Records}
use Rattle.tree_tokens.specs.Tokens.{recs_in}
use Rattle.tree_height.specs.Paths.{Low}

-- ---- by kind: what the calls of each arm come to
module _ (xs : List ℕ) (k f s : ℕ) where
  abbrev r : Rec
  r = rec_of (entry k f s)

  pub path_leaf : k ≡ 0 → 0 ≡ path xs r
  path_leaf h = rw (below_none k f s h)

  module _ {v : ℕ} where
    pub path_E : (k ≡ 0 → ⊥) → k < 5 → v ≡ max (get_or xs f 0 + 1) (get_or xs s 0 + 1) → v ≡ path xs r
    path_E z h e = e ∙ rw (below-E k f s z h, add-one (get_or xs f 0), add-one, max-zero)

    pub path_R : 5 ≤ k → k < 13 → v ≡ get_or xs f 0 + 1 → v ≡ path xs r
    path_R l h e = e ∙ rw (below-R k f s l h, add-one, max-zero)

    pub path_pair : 13 ≤ k → v ≡ max (get_or xs f 0 + 1) (get_or xs s 0 + 1) → v ≡ path xs r
    path_pair l e = e ∙ rw (below_rest k f s l, add-one (get_or xs f 0), add-one, max-zero)

-- ---- one record more
last_snoc : (xs : List ℕ) (x : ℕ) → last (xs ++ (x ∷ [])) ≡ x
last_snoc [] x = refl
last_snoc (y ∷ []) x = refl
last_snoc (y ∷ z ∷ ys) x = last_snoc (z ∷ ys) x

-- the paths of the first i nodes are worked out, and the last of them is the height so far
pub record PathsAt (rs : Records) (paths : List ℕ) (tall i : ℕ) : Type 0 where
  pub low : Low (take i paths)
  pub paths_are : take i paths ≡ worked path [] (recs_in rs i)
  pub tall_is : tall ≡ height (recs_in rs i)

low_snoc : (xs : List ℕ) (v : ℕ) → Low xs → v ≤ length xs + 1 → Low (xs ++ (v ∷ []))
low_snoc xs v low b = record { short = λ j l. go j l (ltb j (length xs)) refl }
  where
    go : (j : ℕ) → j < length (xs ++ (v ∷ [])) → (t : Bool) → ltb j (length xs) ≡ t → get_or (xs ++ (v ∷ [])) j 0 ≤ j + 1
    go j l true e = let h = ltb-true j _ e in rw (get_or-append xs (v ∷ []) 0 j h) (low.short j h)
    go j l false e = let q : j ≡ length xs = omega (arith, length-append xs (v ∷ []), ltb-false j _ e) in rw (q, get_or-append_seam xs v [] 0) b

module _ {rs : Records} {paths : List ℕ} where
  pub paths_start : PathsAt rs paths 0 0
  unfolding entries
  paths_start = record { low = record { short = λ j h. absurd (omega arith) }; paths_are = refl; tall_is = refl }

  module _ {tall i : ℕ} (so_far : PathsAt rs paths tall i) where
    module _ {v : ℕ} (h : i < length paths) (is : v ≡ path (take i paths) (rec_at rs.kinds rs.firsts rs.seconds i)) (short : v ≤ length (take i paths) + 1) where
      worked_more : worked path [] (recs_in rs (i + 1)) ≡ take i paths ++ (v ∷ [])
      worked_more = ap (worked path []) (recs-next rs.kinds rs.firsts rs.seconds i) ∙ worked_snoc path (recs_in rs i) (rec_at rs.kinds rs.firsts rs.seconds i) [] ∙ rw (← so_far.paths_are, ← is)

      taken_more : take (i + 1) (set paths i v) ≡ take i paths ++ (v ∷ [])
      taken_more = rw (add-one) (take-suc-set paths i v h)

      pub paths_more : PathsAt rs (set paths i v) v (i + 1)
      paths_more =
          record {
            low = rw taken_more (low_snoc (take i paths) v so_far.low short);
            paths_are = taken_more ∙ sym worked_more;
            tall_is = sym (ap last worked_more ∙ last_snoc (take i paths) v);
          }
