-- Codes that are too few for the formulas to come.
use Prim.Native.Nat.{ℕ, zero, suc, ◌+◌, ◌*◌, ◌/◌, ◌%◌, ◌≤◌, ◌<◌}
use native.Mathlib.Omega.{arith}
use mathlib.Core.Path.{◌≡◌, refl, sym, ap, ◌∙◌}
use mathlib.Core.Bool.{Bool, true, false, ◌||◌}
use mathlib.Core.List.{List, [], ◌∷◌, ◌++◌, append_assoc}
use mathlib.Core.Option.{Option, none, some}
use lib.ListN.{length, drop, length-append, length-drop, drop_of_length-le}
use lib.Dec.{ltb}
use borrow.Author.Tests.{ltb-true, ltb-false, lt-ltb, le-ltb}
use Rattle.outcome.specs.Outcome.{refused}
use Rattle.formula.specs.Formula.{Op, first_operation, code, Formula, leaf, node, prefix, Over}
use Rattle.formula.specs.Codes.{is_operation, op_of, operation}
use Rattle.formula.proofs.Codes.{code-operation}
use Rattle.sheet.specs.Sheet.{two_bytes_at, codes_of, all_first}
use Rattle.sheet.proofs.CodesFirst.{first_leaf, first-operation, first_unknown}
use Rattle.sheet_codes.proofs.CodeSteps.{codes_more}
use Rattle.sheet_descent.specs.Descent.{short_at}

-- ---- a code's operation

pub none_other : (c : ℕ) → is_operation c ≡ false → operation c ≡ none
none_other c h = rw h

pub some_operation : (c : ℕ) → is_operation c ≡ true → (o : Op) × (operation c ≡ some o)
some_operation c h = (op_of c, rw h)

-- ---- short_at: one code more

module _ (n tag at c : ℕ) (cs : List ℕ) where
  short-leaf : c < n → short_at n tag at (c ∷ cs) ≡ short_at n tag (at + 2) cs
  unfolding short_at
  short-leaf h = rw (lt-ltb c n h, short_at)

  pub short-operation : (o : Op) → n ≤ c → operation c ≡ some o → short_at n tag at (c ∷ cs) ≡ short_at n tag (at + 2) cs
  unfolding short_at
  short-operation o h e = rw (le-ltb c n h, short_at, e)

  pub short_unknown : n ≤ c → operation c ≡ none → short_at n tag at (c ∷ cs) ≡ at
  unfolding short_at
  short_unknown h e = rw (le-ltb c n h, short_at, e)

-- A formula's codes are known.
pub short-prefix : (n : ℕ) → n ≤ first_operation → (tag : ℕ) (f : Formula) (at : ℕ) (cs : List ℕ) → Over n f → short_at n tag at (prefix f ++ cs) ≡ short_at n tag (at + 2 * length (prefix f)) cs
short-prefix n few tag (leaf s) at cs o = short-leaf n tag at s cs o
short-prefix n few tag (node p l r) at cs o =
    let high : n ≤ code p = omega arith in
    let e : at + 2 + 2 * length (prefix l) + 2 * length (prefix r) ≡ at + 2 * length (code p ∷ (prefix l ++ prefix r)) = simp length-append (omega arith) in
    short-operation n tag at (code p) ((prefix l ++ prefix r) ++ cs) p high (code-operation p)
    ∙ ap (short_at n tag (at + 2)) (append_assoc (prefix l) (prefix r) cs)
    ∙ short-prefix n few tag l (at + 2) (prefix r ++ cs) o.0
    ∙ short-prefix n few tag r (at + 2 + 2 * length (prefix l)) cs o.1
    ∙ ap (λ (q : ℕ). short_at n tag q cs) e

-- ---- fewer known codes than formulas to come: each code is at most one formula less

-- Of codes from i up to `end`: where the known ones among them end, and that 7 stands there, or at the tag, if they are too few.
record Few (n tag i end : ℕ) (cs : List ℕ) : Type 0 where
  from : i ≤ short_at n end i cs
  within : short_at n end i cs ≤ end
  refuses : (k : ℕ) → short_at n end i cs ≤ i + 2 * k → all_first n tag i cs (suc k) ≡ refused 7 (short_at n tag i cs)

module _ (n tag i end c : ℕ) (cs : List ℕ) (room : i ≤ end) (ih : Few n tag (i + 2) end cs) where
  leaf_refuses : c < n → (k : ℕ) → short_at n end i (c ∷ cs) ≤ i + 2 * k → all_first n tag i (c ∷ cs) (suc k) ≡ refused 7 (short_at n tag i (c ∷ cs))
  leaf_refuses l zero near = absurd (omega (arith, near, short-leaf n end i c cs l, ih.from))
  leaf_refuses l (suc k) near = first_leaf n tag i c cs (suc k) l ∙ rw (short-leaf n tag i c cs l, ih.refuses k (omega (arith, near, short-leaf n end i c cs l)))

  few_operation : (p : Option Op) → operation c ≡ p → n ≤ c → Few n tag i end (c ∷ cs)
  few_operation none e l =
      let here = short_unknown n end i c cs l e in
      record {
        from = omega (arith, here);
        within = omega (arith, here, room);
        refuses = λ k near. first_unknown n tag i c cs k l e ∙ rw (short_unknown n tag i c cs l e);
      }
  few_operation (some o) e l =
      let on = short-operation n end i c cs o l e in
      record {
        from = omega (arith, on, ih.from);
        within = omega (arith, on, ih.within);
        refuses = λ k near. first-operation n tag i c cs k o l e ∙ rw (short-operation n tag i c cs o l e, ih.refuses (suc k) (omega (arith, near, on)));
      }

  few_code : (b : Bool) → ltb c n ≡ b → Few n tag i end (c ∷ cs)
  few_code true q =
      let l = ltb-true c n q in
      let on = short-leaf n end i c cs l in
      record { from = omega (arith, on, ih.from); within = omega (arith, on, ih.within); refuses = leaf_refuses l }
  few_code false q = few_operation (operation c) refl (ltb-false c n q)

few_codes : (cs : List ℕ) (n tag i end : ℕ) → i + 2 * length cs ≤ end → Few n tag i end cs
unfolding all_first short_at
few_codes [] n tag i end h = record { from = omega (arith, h); within = omega arith; refuses = λ k near. refl }
few_codes (c ∷ cs) n tag i end h = few_code n tag i end c cs (omega (arith, h)) (few_codes cs n tag (i + 2) end (omega (arith, h))) (ltb c n) refl

codes_half : (p : List ℕ) → 2 * length (codes_of p) ≤ length p
unfolding codes_of
codes_half [] = omega arith
codes_half (h ∷ []) = omega arith
codes_half (h ∷ l ∷ p) = omega (arith, codes_half p)

pub few_bytes : (p : List ℕ) (n tag i at k : ℕ) → length p ≤ at + 2 * k → all_first n tag i (codes_of (drop at p)) (suc k) ≡ refused 7 (short_at n tag i (codes_of (drop at p)))
few_bytes p n tag i at k h =
    let cs = codes_of (drop at p) in
    let few = few_codes cs n tag i (i + 2 * length cs) (omega arith) in
    few.refuses k (omega (arith, few.within, h, codes_half (drop at p), length-drop at p))

-- The first unknown code, if codes up to it are too few.
pub unknown_met : (cs : List ℕ) (n tag i q k : ℕ) → ((t : ℕ) → short_at n t i cs ≡ q) → q ≤ i + 2 * k → all_first n tag i cs (suc k) ≡ refused 7 q
unknown_met cs n tag i q k there near =
    let end : ℕ = i + 2 * length cs in
    (few_codes cs n tag i end (omega arith)).refuses k (omega (arith, near, there end)) ∙ ap (refused 7) (there tag)

-- ---- short_at: the codes after i of them decide

module _ (n tag first : ℕ) (p : List ℕ) where
  module _ (i : ℕ) (inv : short_at n tag first (codes_of p) ≡ short_at n tag (first + 2 * i) (codes_of (drop (2 * i) p))) where
    module _ (more : i < length p / 2) (c : ℕ) (is : c ≡ two_bytes_at p (2 * i)) (r : Bool) (known : r ≡ (ltb c n || is_operation c)) where
      codes-on : short_at n tag first (codes_of p) ≡ short_at n tag (first + 2 * i) (c ∷ codes_of (drop (2 * (i + 1)) p))
      codes-on =
          let h : 2 * i + 1 < length p = omega arith in
          let next : 2 * (i + 1) ≡ 2 * i + 2 = omega arith in
          inv ∙ rw (codes_more p (2 * i) h, ← is, next)

      on-by : (a b : Bool) → ltb c n ≡ a → is_operation c ≡ b → true ≡ (a || b) → short_at n tag (first + 2 * i) (c ∷ codes_of (drop (2 * (i + 1)) p)) ≡ short_at n tag (first + 2 * (i + 1)) (codes_of (drop (2 * (i + 1)) p))
      on-by true b q e h = let next : first + 2 * (i + 1) ≡ first + 2 * i + 2 = omega arith in rw next (short-leaf n tag (first + 2 * i) c _ (ltb-true c n q))
      on-by false true q e h =
          let next : first + 2 * (i + 1) ≡ first + 2 * i + 2 = omega arith in
          let o = some_operation c e in
          rw next (short-operation n tag (first + 2 * i) c _ o.0 (ltb-false c n q) o.1)
      on-by false false q e h = let z : ◌≡◌ {A = ℕ} 0 1 = cc in absurd (omega arith)

      pub short-on : r ≡ true → short_at n tag first (codes_of p) ≡ short_at n tag (first + 2 * (i + 1)) (codes_of (drop (2 * (i + 1)) p))
      short-on h = codes-on ∙ on-by (ltb c n) (is_operation c) refl refl (sym h ∙ known)

      unknown_by : (a b : Bool) → ltb c n ≡ a → is_operation c ≡ b → false ≡ (a || b) → short_at n tag (first + 2 * i) (c ∷ codes_of (drop (2 * (i + 1)) p)) ≡ first + 2 * i
      unknown_by true b q e h = let z : ◌≡◌ {A = ℕ} 0 1 = cc in absurd (omega arith)
      unknown_by false true q e h = let z : ◌≡◌ {A = ℕ} 0 1 = cc in absurd (omega arith)
      unknown_by false false q e h = short_unknown n tag (first + 2 * i) c _ (ltb-false c n q) (none_other c e)

      pub short-unknown : r ≡ false → first + 2 * i ≡ short_at n tag first (codes_of p)
      short-unknown h = sym (codes-on ∙ unknown_by (ltb c n) (is_operation c) refl refl (sym h ∙ known))

    pub short-ends : length p % 2 ≡ 0 → length p / 2 ≤ i → tag ≡ short_at n tag first (codes_of p)
    unfolding short_at codes_of
    short-ends even h = let k : length p ≤ 2 * i = omega arith in sym (inv ∙ rw (drop_of_length-le p k))
