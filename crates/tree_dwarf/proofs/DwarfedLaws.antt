-- Laws of what is built: the sizes of a plan, and the records once all rounds are done.
use Prim.Native.Nat.{ℕ, zero, suc, ◌*◌, ◌≤◌, ◌<◌}
use native.Mathlib.Numerals.{add-one}
use native.Mathlib.Omega.{arith}
use mathlib.Core.Path.{◌≡◌, refl, sym, ap, ap₂, ◌∙◌}
use mathlib.Core.List.{List, [], ◌∷◌, ◌++◌, map, map-append}
use lib.ListN.{length, get_or, take, length-append, length-map}
use lib.Seq.{take-suc}
use Rattle.formula.specs.Formula.{Formula, leaves}
use Rattle.formula.proofs.Laws.{length-postfix}
use Rattle.contraction.specs.Records.{number, Rec}
use Rattle.contraction.specs.Rounds.{nodes, made, rounds, planted, leaf_recs, enough, dwarf}
use Rattle.contraction.specs.Height.{height}
use Rattle.contraction.proofs.Rounds.{length-leaf_recs}
use Rattle.contraction.specs.Entries.{Entry, entry_at, entries, entry_of, rec_of}
use Rattle.contraction.specs.declared.Records.{Records}
use Rattle.tree_tokens.specs.Tokens.{entries_in, recs_in, Long, Leaves}
use Rattle.contraction.proofs.EntryLaws.{records_entries, entries-append, entries_next, length-entries}
use Rattle.tree_dwarf.specs.Dwarfed.{Plans, Planned, Dwarfed}
use Rattle.tree_dwarf.specs.Building.{PlantedTo, Rooted, Contracted, ContractedTo, Bounded}
use Rattle.tree_dwarf.specs.declared.Figures.{Figures}
use Rattle.tree_dwarf.proofs.RoundLaws.{leaves-next}

-- n codes are those of (n + 1) / 2 leaves
plans_leaves : (f : Formula) (codes : List ℕ) → Plans f codes → suc (length codes) ≡ 2 * leaves f
plans_leaves f codes p = omega (arith, ap length p.codes_are, length-postfix f)

-- a part of each entry is what one array holds
map-entries : (part : Entry → ℕ) (l ks fs ss : List ℕ) → ((i : ℕ) → part (entry_at ks fs ss i) ≡ get_or l i 0) → (n : ℕ) → n ≤ length l
    → take n l ≡ map part (entries ks fs ss 0 n)
unfolding entries
map-entries part l ks fs ss at zero h = refl
map-entries part l ks fs ss at (suc n) h =
    take-suc l n 0 (omega arith) ∙ ap (λ z. z ++ (get_or l n 0 ∷ [])) (map-entries part l ks fs ss at n (omega arith))
    ∙ ap (λ z. map part (entries ks fs ss 0 n) ++ (z ∷ [])) (sym (at n))
    ∙ sym (map-append part (entries ks fs ss 0 n) (entry_at ks fs ss n ∷ [])) ∙ ap (map part) (sym (entries_next ks fs ss n))
    ∙ ap (λ k. map part (entries ks fs ss 0 k)) (add-one n)

-- and a part of each record is the same part of its entry
part-entries : (part : Entry → ℕ) (of : Rec → ℕ) → ((r : Rec) → part (entry_of r) ≡ of r) → (rs : List Rec) → map part (map entry_of rs) ≡ map of rs
part-entries part of same [] = refl
part-entries part of same (r ∷ rs) = ap₂ ◌∷◌ (same r) (part-entries part of same rs)

-- leaves numbered, all rounds done, and the height worked out
module _ (f : Formula) (n : ℕ) {a : List ℕ} {rs : Records} (count : ℕ) (started : Leaves (planted f 0) [] (leaf_recs f) a rs (record { at = n; next = count })) where
  count-leaves : count ≡ leaves f
  count-leaves = omega (arith, leaves-next started, length-leaf_recs f)

  module _ (rs' : Records) (b : Figures) (end : Contracted (planted f 0) count (entries_in rs count) (entries_in rs' b.nodes) b.rounds)
      (long : Long rs') (few : b.nodes ≤ 3072) (first : b.leaves ≡ count) (high : b.height ≡ height (recs_in rs' b.nodes)) where
    entries-dwarf : entries_in rs' b.nodes ≡ map entry_of (dwarf f)
    entries-dwarf =
        end.records ∙ ap (λ z. z ++ map entry_of (made (nodes (planted f 0)) (planted f 0) count)) started.records
        ∙ entries-append [] (leaf_recs f) (made (nodes (planted f 0)) (planted f 0) count)
        ∙ ap (λ z. map entry_of (leaf_recs f ++ made (nodes (planted f 0)) (planted f 0) z)) count-leaves

    list_is : (part : Entry → ℕ) (of : Rec → ℕ) → ((r : Rec) → part (entry_of r) ≡ of r) → (l : List ℕ) → length l ≡ 3072
        → ((i : ℕ) → part (entry_at rs'.kinds rs'.firsts rs'.seconds i) ≡ get_or l i 0) → take b.nodes l ≡ map of (dwarf f)
    list_is part of same l wide at =
        map-entries part l rs'.kinds rs'.firsts rs'.seconds at b.nodes (omega arith) ∙ ap (map part) entries-dwarf ∙ part-entries part of same (dwarf f)

    dwarfed : Dwarfed f rs' b
    dwarfed = record {
      leaves_are = first ∙ count-leaves;
      nodes_are = sym (length-entries rs'.kinds rs'.firsts rs'.seconds b.nodes 0) ∙ ap length entries-dwarf ∙ length-map (dwarf f) entry_of;
      rounds_are = end.rounds_are ∙ ap (λ z. rounds (nodes (planted f 0)) (planted f 0) z) count-leaves;
      height_is = high ∙ ap (λ es. height (map rec_of es)) entries-dwarf ∙ ap height (records_entries (dwarf f));
      kinds_are = list_is (λ (e : Entry). e.kind) (λ (r : Rec). number r.kind) (λ r. refl) rs'.kinds long.kinds (λ i. refl);
      firsts_are = list_is (λ (e : Entry). e.first) (λ (r : Rec). r.first) (λ r. refl) rs'.firsts long.firsts (λ i. refl);
      seconds_are = list_is (λ (e : Entry). e.second) (λ (r : Rec). r.second) (λ r. refl) rs'.seconds long.seconds (λ i. refl);
    }

-- ---- what the calls of building come to
pub planted_rooted : {codes a : List ℕ} {rs : Records} {count : ℕ} → PlantedTo codes a rs count → Planned codes → length codes < 2048 → Rooted a (record { at = length codes; next = count })
planted_rooted {codes} {count = count} plan some few =
    let f = some.formula in
    let l = plan.leaves f some.plans in
    record {
      few = omega arith;
      room = omega (arith, plans_leaves f codes some.plans, count-leaves f (length codes) count l);
      tree = planted f 0;
      is = l.tree;
    }

pub built : {codes : List ℕ} {count : ℕ} {a : List ℕ} {rs rs' : Records} {total many : ℕ} {b : Figures} → PlantedTo codes a rs count
    → ContractedTo a (record { at = length codes; next = count }) rs rs' total many → Long rs'
    → b.leaves ≡ count → b.nodes ≡ total → b.rounds ≡ many → b.height ≡ height (recs_in rs' b.nodes) → (f : Formula) → Plans f codes → Dwarfed f rs' b
built {codes} {count} {rs = rs} {rs'} {b = b} plan end long first all rounds high f p =
    let l = plan.leaves f p in
    let ended : Contracted (planted f 0) count (entries_in rs count) (entries_in rs' b.nodes) b.rounds = rw (all, rounds) (end.contracted (planted f 0) l.tree) in
    dwarfed f (length codes) count l rs' b ended long (omega (arith, end.few)) first high

-- so the numbers stay within the arrays
pub dwarfed_bounded : {codes : List ℕ} {rs : Records} {b : Figures} → ((f : Formula) → Plans f codes → Dwarfed f rs b) → Planned codes → length codes < 2048 → b.nodes ≤ 3072 → Bounded b
dwarfed_bounded {codes} all some few total =
    let f = some.formula in
    let d = all f some.plans in
    record {
      leaves_few = omega (arith, plans_leaves f codes some.plans, d.leaves_are);
      leaves_first = omega (arith, d.leaves_are, d.nodes_are, length-leaf_recs f, length-append (leaf_recs f) (made (enough f) (planted f 0) (leaves f)));
      nodes_few = total;
    }
