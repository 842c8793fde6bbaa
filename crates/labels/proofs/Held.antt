-- Arrays that hold a dwarf tree: their records are the tree's, and they have the shape that the passes and walks rely on.
use Prim.Native.Nat.{ℕ, zero, suc, ◌+◌, ◌-◌, ◌<◌, ◌≤◌}
use native.Mathlib.Nat.{zero-add, add-zero, suc-add, add-suc}
use native.Mathlib.Omega.{arith}
use mathlib.Core.Path.{◌≡◌, refl, sym, ap, ◌∙◌}
use mathlib.Core.Bool.{true}
use mathlib.Core.List.{List, [], ◌∷◌, ◌++◌, map}
use lib.ListN.{length, get_or, take, length-append, get_or-append, get_or-map}
use lib.Seq.{get_or-take, get_or-append-add}
use Rattle.formula.specs.Formula.{Formula, leaf, node, Over, leaves as leaves_of}
use Rattle.contraction.specs.Records.{leaf as leaf_kind, number, Rec, is_leaf, over}
use Rattle.contraction.specs.Rounds.{dwarf, leaf_recs, enough, planted}
use Rattle.contraction.proofs.Worked.{each_append}
use Rattle.contraction.proofs.Rounds.{all_made, dwarf-all, length-leaf_recs, root}
use Rattle.contraction.proofs.Order.{children_smaller}
use Rattle.contraction.proofs.Once.{at_most_one}
use Rattle.contraction.proofs.Over.{over_below, over-refs}
use Rattle.contraction.proofs.Leaves.{IsLeaf, NoLeaf, leaf_recs-leaf, made_none}
use Rattle.contraction.proofs.Size.{dwarf_few}
use Rattle.labels.specs.Arrays.{Holds}
use Rattle.contraction.specs.Entries.{entries, kind_at, rec_at, recs}
use Rattle.contraction.specs.Terms.{Each, ChildrenBelow, uses}
use Rattle.contraction.proofs.EntryLaws.{record_entry}
use Rattle.labels.specs.Linked.{Shaped}

-- record i of a list, where there is one
abbrev blank : Rec
blank = record { kind = leaf_kind; first = 0; second = 0 }

abbrev at : List Rec → ℕ → Rec
at rs i = get_or rs i blank

each_at : (P : ℕ → Rec → Type 0) (rs : List Rec) (n i : ℕ) → Each P n rs → i < length rs → P (n + i) (at rs i)
each_at P [] n i e h = absurd (omega arith)
each_at P (r ∷ rs) n zero e h = rw (add-zero n) e.0
each_at P (r ∷ rs) n (suc i) e h = rw (add-suc n i, ← (suc-add n i)) (each_at P rs (suc n) i e.1 (omega arith))

-- one field of the records, from the array that holds it
field_at : (f : Rec → ℕ) → f blank ≡ 0 → (rs : List Rec) (xs : List ℕ) (n i : ℕ) → take n xs ≡ map f rs → i < n → get_or xs i 0 ≡ f (at rs i)
field_at f z rs xs n i e h = sym (get_or-take n xs i 0 h) ∙ ap (λ l. get_or l i 0) e ∙ ap (get_or (map f rs) i) (sym z) ∙ get_or-map f rs i blank

recs-at : (ks fs ss : List ℕ) (rs : List Rec) (i : ℕ) → ((k : ℕ) → k < length rs → rec_at ks fs ss (i + k) ≡ at rs k) → recs ks fs ss i (length rs) ≡ rs
unfolding entries
recs-at ks fs ss [] i e = refl
recs-at ks fs ss (r ∷ rs) i e =
    let here : rec_at ks fs ss i ≡ r = ap (rec_at ks fs ss) (sym (add-zero i)) ∙ e 0 (omega arith) in
    let later = recs-at ks fs ss rs (suc i) (λ k h. rw (suc-add i k, ← (add-suc i k)) (e (suc k) (omega arith))) in
    rw (here, later)

module _ (ks fs ss : List ℕ) (leaves nodes : ℕ) (f : Formula) (h : Holds ks fs ss leaves nodes f) where
  rec_at_lem : (i : ℕ) → i < nodes → rec_at ks fs ss i ≡ at (dwarf f) i
  rec_at_lem i l =
      rw (
        field_at (λ (r : Rec). number r.kind) refl (dwarf f) ks nodes i h.kinds_are l,
        field_at (λ (r : Rec). r.first) refl (dwarf f) fs nodes i h.firsts_are l,
        field_at (λ (r : Rec). r.second) refl (dwarf f) ss nodes i h.seconds_are l,
      )
      (record_entry (at (dwarf f) i))

  pub held_records : recs ks fs ss 0 nodes ≡ dwarf f
  held_records =
      ap (recs ks fs ss 0) h.nodes_are
      ∙ recs-at ks fs ss (dwarf f) 0 (λ k l. ap (rec_at ks fs ss) (zero-add k) ∙ rec_at_lem k (omega (arith, h.nodes_are)))

module _ (f : Formula) where
  made : List Rec
  made = all_made (enough f) (planted f 0) (leaves_of f)

  nodes_split : length (dwarf f) ≡ leaves_of f + length made
  unfolding made
  nodes_split = ap length (dwarf-all f) ∙ length-append (leaf_recs f) made ∙ rw (length-leaf_recs f)

  leaf-at : (i : ℕ) → i < leaves_of f → at (dwarf f) i ≡ at (leaf_recs f) i
  unfolding made
  leaf-at i l = rw (dwarf-all f) (get_or-append (leaf_recs f) made blank i (omega (arith, length-leaf_recs f)))

  inner_at : (i : ℕ) → leaves_of f ≤ i → at (dwarf f) i ≡ at made (i - leaves_of f)
  unfolding made
  inner_at i l =
      let e : i ≡ length (leaf_recs f) + (i - leaves_of f) = omega (arith, length-leaf_recs f) in
      rw (dwarf-all f) (ap (at (leaf_recs f ++ made)) e ∙ get_or-append-add (leaf_recs f) made (i - leaves_of f) blank)

abbrev Named : ℕ → Rec → Type 0
Named n r = r.first < 256

leaf_recs-named : (f : Formula) (n : ℕ) → Over 256 f → Each Named n (leaf_recs f)
leaf_recs-named (leaf s) n o = (o, tt)
leaf_recs-named (node op l r) n o = each_append Named (leaf_recs l) (leaf_recs r) n (leaf_recs-named l n o.0) (leaf_recs-named r _ o.1)

-- a node that two records stand over is used twice
uses-at : (rs : List Rec) (c i : ℕ) → i < length rs → over c (at rs i) ≡ true → 1 ≤ uses c rs
uses-at [] c i h e = absurd (omega arith)
uses-at (r ∷ rs) c zero h e = omega (arith, over-refs r c e)
uses-at (r ∷ rs) c (suc i) h e = omega (arith, uses-at rs c i (omega arith) e)

used_once : (rs : List Rec) (c i k : ℕ) → uses c rs ≤ 1 → i < length rs → k < length rs → over c (at rs i) ≡ true → over c (at rs k) ≡ true → i ≡ k
used_once [] c i k u h l d e = absurd (omega arith)
used_once (r ∷ rs) c zero zero u h l d e = refl
used_once (r ∷ rs) c zero (suc k) u h l d e = absurd (omega (arith, over-refs r c d, uses-at rs c k (omega arith) e))
used_once (r ∷ rs) c (suc i) zero u h l d e = absurd (omega (arith, over-refs r c e, uses-at rs c i (omega arith) d))
used_once (r ∷ rs) c (suc i) (suc k) u h l d e = ap suc (used_once rs c i k (omega arith) (omega arith) (omega arith) d e)

module _ (ks fs ss : List ℕ) (leaves nodes : ℕ) (f : Formula) (h : Holds ks fs ss leaves nodes f) where
  kind_is : (i : ℕ) → i < nodes → is_leaf (kind_at (get_or ks i 0)) ≡ is_leaf (at (dwarf f) i).kind
  kind_is i l = ap (λ (r : Rec). is_leaf r.kind) (rec_at_lem ks fs ss leaves nodes f h i l)

  pub held_shaped : Shaped ks fs ss leaves nodes
  unfolding made
  held_shaped =
      let split = nodes_split f in
      let within : leaves ≤ nodes = omega (arith, h.leaves_are, h.nodes_are) in
      record {
        few = omega (arith, h.few, h.leaves_are);
        within = within;
        some = omega (arith, h.nodes_are, (root f).2);
        room = omega (arith, h.nodes_are, dwarf_few f h.few);
        leaf = λ i l.
            kind_is i (omega arith) ∙ ap (λ (r : Rec). is_leaf r.kind) (leaf-at f i (omega (arith, h.leaves_are)))
            ∙ each_at IsLeaf (leaf_recs f) 0 i (leaf_recs-leaf f 0) (omega (arith, h.leaves_are, length-leaf_recs f));
        inner = λ i b l.
            kind_is i l ∙ ap (λ (r : Rec). is_leaf r.kind) (inner_at f i (omega (arith, h.leaves_are)))
            ∙ each_at NoLeaf (made f) 0 (i - leaves_of f) (made_none (enough f) (planted f 0) (leaves_of f) 0) (omega (arith, h.leaves_are, h.nodes_are));
        named = λ i l.
            let e = ap (λ (r : Rec). r.first) (rec_at_lem ks fs ss leaves nodes f h i (omega arith) ∙ leaf-at f i (omega (arith, h.leaves_are))) in
            omega (arith, each_at Named (leaf_recs f) 0 i (leaf_recs-named f 0 h.named) (omega (arith, h.leaves_are, length-leaf_recs f)));
        below = λ i c l o.
            over_below (at (dwarf f) i) i c (rw (zero-add i) at (each_at ChildrenBelow (dwarf f) 0 i (children_smaller f) (omega (arith, h.nodes_are))))
            (sym (ap (over c) (rec_at_lem ks fs ss leaves nodes f h i l)) ∙ o);
        once = λ c i k l m o p.
            used_once (dwarf f) c i k (at_most_one c f) (omega (arith, h.nodes_are)) (omega (arith, h.nodes_are))
            (sym (ap (over c) (rec_at_lem ks fs ss leaves nodes f h i l)) ∙ o) (sym (ap (over c) (rec_at_lem ks fs ss leaves nodes f h k m)) ∙ p);
      }
