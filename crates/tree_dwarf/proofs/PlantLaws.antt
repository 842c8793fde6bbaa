-- The codes of a formula, taken one by one, come to its planted tree and the records of its leaves.
use Prim.Native.Nat.{ℕ, ◌+◌, ◌≤◌, ◌<◌}
use native.Mathlib.Numerals.{add-one}
use native.Mathlib.Omega.{arith}
use mathlib.Core.Path.{◌≡◌, refl, sym, ap, ◌∙◌}
use mathlib.Core.List.{List, [], ◌∷◌, ◌++◌, map, foldl, foldl-append, append_assoc}
use borrow.Author.Tests.{lt-ltb, le-ltb}
use lib.ListN.{length, get_or, take}
use lib.Seq.{take-suc, take-length}
use Rattle.formula.specs.Formula.{Op, union, intersection, difference, exclusive, index, code, Formula, leaf, node, leaves, postfix, Over}
use Rattle.contraction.specs.Rounds.{planted, leaf_recs}
use Rattle.contraction.specs.Entries.{Entry, entry, entries, entry_of}
use Rattle.contraction.specs.declared.Records.{Records}
use Rattle.contraction.proofs.EntryLaws.{entries-append}
use Rattle.tree_tokens.specs.Tokens.{Token, double, flat, decode, toks, entries_in}
use Rattle.tree_tokens.proofs.TokensLaws.{decode-bare, decode-double}
use Rattle.tree_dwarf.specs.Building.{Planting, copied, plant_code, planting_in, planting_start, PlantedTo}

-- ---- one code
pub plant_leaf : (ts ts' : List ℕ) (rs rs' : Records) (i c next : ℕ) → toks ts' (i + 1) ≡ toks ts i ++ (decode next ∷ [])
    → entries_in rs' (next + 1) ≡ entries_in rs next ++ (entry 0 c 65535 ∷ []) → c < 0xFFF0 → next < 3072
    → planting_in ts' (i + 1) rs' (next + 1) ≡ plant_code (planting_in ts i rs next) c
plant_leaf ts ts' rs rs' i c next e q h b = rw (e, q, lt-ltb c 0xFFF0 h, decode-bare next (omega arith))

pub plant_operation : (ts ts' : List ℕ) (rs : Records) (i c next : ℕ) → toks ts' (i + 1) ≡ toks ts i ++ (decode c ∷ []) → 0xFFF0 ≤ c
    → planting_in ts' (i + 1) rs next ≡ plant_code (planting_in ts i rs next) c
plant_operation ts ts' rs i c next e h = rw (e, decode-double c h, le-ltb c 0xFFF0 h)

-- ---- a formula
same : {a b : List Token} {c d : List Entry} {n m : ℕ} → a ≡ b → c ≡ d → n ≡ m
    → ◌≡◌ {A = Planting} (record { out = a; made = c; next = n }) (record { out = b; made = d; next = m })
same p q e = rw (p, q, e)

plant_code_lem : (o : Op) (σ : Planting) → plant_code σ (code o) ≡ copied (index o) σ
plant_code_lem union σ = refl
plant_code_lem intersection σ = refl
plant_code_lem difference σ = refl
plant_code_lem exclusive σ = refl

abbrev done : Formula → Planting → Planting
done f σ = record { out = σ.out ++ flat (planted f σ.next); made = σ.made ++ map entry_of (leaf_recs f); next = σ.next + leaves f }

plant_node : (o : Op) (l r : Formula) (σ : Planting) → plant_code (done r (done l σ)) (code o) ≡ done (node o l r) σ
plant_node o l r σ =
    let fl = flat (planted l σ.next) in
    let fr = flat (planted r (σ.next + leaves l)) in
    plant_code_lem o (done r (done l σ))
    ∙ same (append_assoc (σ.out ++ fl) fr (double (index o) ∷ []) ∙ append_assoc σ.out fl _) (entries-append σ.made (leaf_recs l) (leaf_recs r)) (omega arith)

plant_formula : (f : Formula) → Over 256 f → (σ : Planting) → foldl plant_code σ (postfix f) ≡ done f σ
plant_formula (leaf s) h σ = rw (lt-ltb s 0xFFF0 (omega arith))
plant_formula (node o l r) h σ = rw (foldl-append, foldl-append, plant_formula l h.0 σ, plant_formula r h.1) (plant_node o l r σ)

module _ (f : Formula) (over : Over 256 f) {cs : List ℕ} {σ : Planting} (e : cs ≡ postfix f) (ran : σ ≡ foldl plant_code (record { out = []; made = []; next = 0 }) cs) where
  ran_done : σ ≡ done f (record { out = []; made = []; next = 0 })
  ran_done = (rw e at ran) ∙ plant_formula f over _

  planted_tree : σ.out ≡ flat (planted f 0)
  planted_tree = ap (λ (s : Planting). s.out) ran_done

  planted_records : σ.made ≡ map entry_of (leaf_recs f)
  planted_records = ap (λ (s : Planting). s.made) ran_done

-- ---- the loop: the first i codes are planted
pub record PlantingAt (codes a : List ℕ) (rs : Records) (next i : ℕ) : Type 0 where
  pub most : next ≤ i
  pub is : planting_in a i rs next ≡ foldl plant_code planting_start (take i codes)

plant_next : (σ₀ : Planting) (l : List ℕ) (i : ℕ) {σ r : Planting} → r ≡ plant_code σ (get_or l i 0) → σ ≡ foldl plant_code σ₀ (take i l) → i < length l → r ≡ foldl plant_code σ₀ (take (i + 1) l)
plant_next σ₀ l i q e h = q ∙ ap (λ (s : Planting). plant_code s (get_or l i 0)) e ∙ rw (add-one i, take-suc l i 0 h) (sym (foldl-append plant_code σ₀ (take i l) (get_or l i 0 ∷ [])))

module _ {codes a : List ℕ} {rs : Records} where
  pub planting_start_lem : PlantingAt codes a rs 0 0
  unfolding entries
  planting_start_lem = record { most = omega arith; is = refl }

  module _ {next i : ℕ} (now : PlantingAt codes a rs next i) where
    pub planting_more : {a' : List ℕ} {rs' : Records} {r : ℕ} → i < length codes
        → planting_in a' (i + 1) rs' r ≡ plant_code (planting_in a i rs next) (get_or codes i 0) → r ≤ next + 1 → PlantingAt codes a' rs' r (i + 1)
    planting_more h step one = record { most = omega (arith, now.most); is = plant_next planting_start codes i step now.is h }

    pub planting_end : length codes ≤ i → i ≤ length codes → PlantedTo codes a rs next
    planting_end h few =
        let end : i ≡ length codes = omega arith in
        let all : take (length codes) codes ≡ codes = take-length codes in
        let ran = rw (end, all) at now.is in
        record { leaves = λ f p. record { tree = planted_tree f p.over p.codes_are ran; records = planted_records f p.over p.codes_are ran } }
