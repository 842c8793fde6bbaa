-- The longest paths down: a node's is longer than its children's, and none is longer than the root's, which is the height.
use Prim.Native.Nat.{ℕ, zero, suc, ◌+◌, ◌<◌, ◌≤◌, max}
use native.Mathlib.Omega.{arith}
use mathlib.Core.Path.{◌≡◌, refl, ap, ap₂}
use mathlib.Core.Bool.{Bool, true, false, false≢true}
use mathlib.Core.List.{List, [], ◌∷◌}
use lib.Dec.{eqb}
use borrow.Author.Tests.{eqb-true, eqb-false}
use lib.ListN.{length, get_or}
use Rattle.formula.specs.Formula.{Formula}
use Rattle.contraction.specs.Records.{Rec, children, listed, over}
use Rattle.contraction.specs.Rounds.{dwarf}
use Rattle.contraction.specs.Height.{worked, longest, path, height}
use Rattle.contraction.specs.Terms.{Each, AllBelow, ChildrenBelow, refs, uses}
use Rattle.contraction.proofs.Worked.{Good, Steady, worked_good, last_is, length-worked}
use Rattle.contraction.proofs.Rounds.{root}
use Rattle.contraction.proofs.Order.{children_smaller}
use Rattle.contraction.proofs.Once.{child_of_one}
use Rattle.contraction.proofs.Over.{over_below, refs-over}

longest-listed : (xs cs : List ℕ) (c : ℕ) → listed c cs ≡ true → suc (get_or xs c 0) ≤ longest xs cs
longest-listed xs [] c e = absurd (false≢true e)
longest-listed xs (d ∷ ds) c e = go (eqb c d) refl (longest-listed xs ds c)
  where
    go : (t : Bool) → eqb c d ≡ t → (listed c ds ≡ true → suc (get_or xs c 0) ≤ longest xs ds) → suc (get_or xs c 0) ≤ longest xs (d ∷ ds)
    go true q ih = omega (arith, ap (λ (k : ℕ). get_or xs k 0) (eqb-true c d q))
    go false q ih = omega (arith, ih (rw q at e))

pub path-over : (xs : List ℕ) (r : Rec) (c : ℕ) → over c r ≡ true → suc (get_or xs c 0) ≤ path xs r
path-over xs r c e = longest-listed xs (children r) c e

longest_steady : (cs : List ℕ) (n : ℕ) (xs ys : List ℕ) → AllBelow n cs → ((i : ℕ) → i < n → get_or xs i 0 ≡ get_or ys i 0) → longest xs cs ≡ longest ys cs
longest_steady [] n xs ys b h = refl
longest_steady (c ∷ cs) n xs ys b h = ap₂ (λ x y. max (suc x) y) (h c b.0) (longest_steady cs n xs ys b.1 h)

path_steady : (rs : List Rec) (n : ℕ) → Each ChildrenBelow n rs → Each (Steady path) n rs
path_steady [] n b = tt
path_steady (r ∷ rs) n b = ((λ xs ys h. longest_steady (children r) n xs ys b.0 h), path_steady rs (suc n) b.1)

abbrev pub paths : Formula → List ℕ
paths f = worked path [] (dwarf f)

pub paths_good : (f : Formula) → Good path (paths f) 0 (dwarf f)
paths_good f = worked_good path (dwarf f) [] 0 refl (path_steady (dwarf f) 0 (children_smaller f))

-- a node that is used has a parent, and its path is longer
parent : (xs : List ℕ) (rs : List Rec) (n c : ℕ) → Each ChildrenBelow n rs → Good path xs n rs → 1 ≤ uses c rs
    → (k : ℕ) × (c < k) × (k < n + length rs) × (suc (get_or xs c 0) ≤ get_or xs k 0)
parent xs [] n c b g u = absurd (omega arith)
parent xs (r ∷ rs) n c b g u = go (refs c r) refl (parent xs rs (suc n) c b.1 g.1)
  where
    go : (x : ℕ) → refs c r ≡ x → (1 ≤ uses c rs → (k : ℕ) × (c < k) × (k < suc n + length rs) × (suc (get_or xs c 0) ≤ get_or xs k 0))
        → (k : ℕ) × (c < k) × (k < n + length (r ∷ rs)) × (suc (get_or xs c 0) ≤ get_or xs k 0)
    go zero e ih = let p = ih (omega arith) in (p.0, p.1, omega (arith, p.2), p.3)
    go (suc x) e ih =
        let o : over c r ≡ true = refs-over r c (omega arith) in
        (n, over_below r n c b.0 o, omega arith, omega (arith, path-over xs r c o, g.0))

-- so no path is longer than the root's: m bounds the steps up to it
upwards : (f : Formula) (m c d : ℕ) → suc d ≡ length (dwarf f) → c ≤ d → d ≤ c + m → get_or (paths f) c 0 ≤ get_or (paths f) d 0
upwards f zero c d e h k = omega (arith, ap (λ (i : ℕ). get_or (paths f) i 0) (same h k))
  where
    same : c ≤ d → d ≤ c + 0 → c ≡ d
    same p q = omega arith
upwards f (suc m) c d e h k = go (eqb c d) refl (upwards f m)
  where
    go : (b : Bool) → eqb c d ≡ b → ((c' d' : ℕ) → suc d' ≡ length (dwarf f) → c' ≤ d' → d' ≤ c' + m → get_or (paths f) c' 0 ≤ get_or (paths f) d' 0)
        → get_or (paths f) c 0 ≤ get_or (paths f) d 0
    go true q ih = omega (arith, ap (λ (i : ℕ). get_or (paths f) i 0) (eqb-true c d q))
    go false q ih =
        let lt : c < d = less (eqb-false c d q) in
        let p = parent (paths f) (dwarf f) 0 c (children_smaller f) (paths_good f) (omega (arith, child_of_one f c (omega arith))) in
        omega (arith, p.3, ih p.0 d e (omega (arith, p.2)) (omega (arith, p.1)))
      where
        less : (c ≡ d → ⊥) → c < d
        less z = omega arith

pub path-height : (f : Formula) (c : ℕ) → c < length (dwarf f) → get_or (paths f) c 0 ≤ height (dwarf f)
path-height f c h =
    let e = root f in
    omega (
      arith,
      upwards f e.0 c e.0 e.2 (omega (arith, e.2)) (omega arith),
      last_is (paths f) e.0 (omega (arith, e.2, length-worked path (dwarf f) [])),
    )
