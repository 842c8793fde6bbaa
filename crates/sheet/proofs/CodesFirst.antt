-- Codes with the operation first are judged good exactly if they are some formula's, over the names; and so in either edition.
use Prim.Native.Nat.{ℕ, zero, suc, ◌+◌, ◌*◌, ◌≤◌, ◌<◌}
use native.Mathlib.Omega.{arith}
use mathlib.Core.Path.{◌≡◌, refl, sym, ap, ◌∙◌}
use mathlib.Core.Bool.{Bool, true, false, cond}
use mathlib.Core.List.{List, [], ◌∷◌, ◌++◌, append_assoc, append-nil}
use mathlib.Core.Option.{Option, none, some}
use lib.ListN.{length, length-append}
use lib.Dec.{ltb, eqb}
use borrow.Author.Tests.{ltb-true, ltb-false, lt-ltb, le-ltb}
use Rattle.outcome.specs.Outcome.{Outcome, given, refused, unfit, ◌>>=◌, part}
use Rattle.formula.specs.Formula.{Op, first_operation, code, Formula, leaf, node, postfix, prefix, Over}
use Rattle.formula.proofs.Laws.{length-prefix}
use Rattle.formula.specs.Codes.{operation}
use Rattle.formula.proofs.Codes.{operation_which, operation-code, code-operation}
use Rattle.sheet.specs.Sheet.{joined_first, one_first, all_first, only_one, formula_of, formula_first, formula_in, codes_in}
use Rattle.outcome.proofs.Questions.{bind_given, given-same, part-given}
use Rattle.sheet.proofs.Codes.{only-given, formula_of-postfix, postfix-formula_of}

-- ---- allFirst: one code more

module _ (n tag at c : ℕ) (cs : List ℕ) (k : ℕ) where
  pub first_leaf : c < n → all_first n tag at (c ∷ cs) (suc k) ≡ part (λ fs. leaf c ∷ fs) (all_first n tag (at + 2) cs k)
  unfolding all_first
  first_leaf h = rw (lt-ltb c n h, one_first)

  pub first-operation : (o : Op) → n ≤ c → operation c ≡ some o → all_first n tag at (c ∷ cs) (suc k) ≡ (all_first n tag (at + 2) cs (suc (suc k)) >>= joined_first at o)
  unfolding all_first
  first-operation o h e = rw (le-ltb c n h, one_first, e)

  pub first_unknown : n ≤ c → operation c ≡ none → all_first n tag at (c ∷ cs) (suc k) ≡ refused 7 at
  unfolding all_first
  first_unknown h e = rw (le-ltb c n h, one_first, e)

-- ---- prefix: the codes of a formula are one formula less to come

after_two : (at : ℕ) (o : Op) (l r : Formula) (x : Outcome (List Formula)) → (part (λ fs. l ∷ fs) (part (λ fs. r ∷ fs) x) >>= joined_first at o) ≡ part (λ fs. node o l r ∷ fs) x
after_two at o l r (given fs) = refl
after_two at o l r (refused i p) = refl
after_two at o l r (unfit i p) = refl

module _ (n : ℕ) (few : n ≤ first_operation) (tag : ℕ) where
  pub first-prefix : (f : Formula) (at : ℕ) (cs : List ℕ) (k : ℕ) → Over n f
      → all_first n tag at (prefix f ++ cs) (suc k) ≡ part (λ fs. f ∷ fs) (all_first n tag (at + 2 * length (prefix f)) cs k)
  first-prefix (leaf s) at cs k o = first_leaf n tag at s cs k o
  first-prefix (node p l r) at cs k o =
      let high : n ≤ code p = omega arith in
      let e : at + 2 + 2 * length (prefix l) + 2 * length (prefix r) ≡ at + 2 * length (code p ∷ (prefix l ++ prefix r)) = simp length-append (omega arith) in
      first-operation n tag at (code p) ((prefix l ++ prefix r) ++ cs) k p high (code-operation p)
      ∙ ap (λ (xs : List ℕ). all_first n tag (at + 2) xs (suc (suc k)) >>= joined_first at p) (append_assoc (prefix l) (prefix r) cs)
      ∙ ap (λ (x : Outcome (List Formula)). x >>= joined_first at p)
      (first-prefix l (at + 2) (prefix r ++ cs) (suc k) o.0 ∙ ap (part (λ fs. l ∷ fs)) (first-prefix r (at + 2 + 2 * length (prefix l)) cs k o.1))
      ∙ after_two at p l r (all_first n tag (at + 2 + 2 * length (prefix l) + 2 * length (prefix r)) cs k)
      ∙ ap (λ (q : ℕ). part (λ fs. node p l r ∷ fs) (all_first n tag q cs k)) e

  -- The codes of a formula over the names are judged good, and give it.
  prefix-formula_first : (f : Formula) (first : ℕ) → Over n f → formula_first n tag first (prefix f) ≡ given f
  unfolding formula_first all_first
  prefix-formula_first f first o =
      let e : all_first n tag first (prefix f) 1 ≡ given (f ∷ []) = rw (← append-nil (prefix f)) (first-prefix f first [] 0 o) in
      rw e

-- ---- the formulas that follow, operation first, are the codes

-- Their codes, and that each of them is over the names.
abbrev prefixes : List Formula → List ℕ
prefixes [] = []
prefixes (f ∷ fs) = prefix f ++ prefixes fs

abbrev AllOver : ℕ → List Formula → Type 0
AllOver n [] = Unit {0}
AllOver n (f ∷ fs) = Over n f × AllOver n fs

record Following (n k : ℕ) (cs : List ℕ) (fs : List Formula) : Type 0 where
  many : length fs ≡ k
  codes : prefixes fs ≡ cs
  over : AllOver n fs

joined_following : (n at c k : ℕ) (o : Op) (cs : List ℕ) (gs fs : List Formula) → c ≡ code o → Following n (suc (suc k)) cs gs → joined_first at o gs ≡ given fs → Following n (suc k) (c ∷ cs) fs
joined_following n at c k o cs [] fs e f h = let z : ◌≡◌ {A = ℕ} 0 1 = cc in absurd (omega arith)
joined_following n at c k o cs (l ∷ []) fs e f h = let z : ◌≡◌ {A = ℕ} 0 1 = cc in absurd (omega arith)
joined_following n at c k o cs (l ∷ r ∷ gs) fs e f h =
    let is : node o l r ∷ gs ≡ fs = given-same _ _ h in
    let many : suc (suc (length gs)) ≡ suc (suc k) = f.many in
    let codes : prefix l ++ (prefix r ++ prefixes gs) ≡ cs = f.codes in
    let it : Following n (suc k) (c ∷ cs) (node o l r ∷ gs) =
    record {
      many = omega (arith, many);
      codes = rw (e, ← codes) (ap (λ (xs : List ℕ). code o ∷ xs) (append_assoc (prefix l) (prefix r) (prefixes gs)));
      over = ((f.over.0, f.over.1.0), f.over.1.1);
    } in
    rw is at it

module _ (n tag at c : ℕ) (cs : List ℕ) (k : ℕ) (fs : List Formula) (h : all_first n tag at (c ∷ cs) (suc k) ≡ given fs)
    (ih : (j : ℕ) (gs : List Formula) → all_first n tag (at + 2) cs j ≡ given gs → Following n j cs gs) where
  by_leaf : c < n → Following n (suc k) (c ∷ cs) fs
  by_leaf l =
      let g = part-given (λ gs. leaf c ∷ gs) (all_first n tag (at + 2) cs k) fs (sym h ∙ first_leaf n tag at c cs k l) in
      let f = ih k g.0 g.1 in
      let it : Following n (suc k) (c ∷ cs) (leaf c ∷ g.0) =
      record { many = ap suc f.many; codes = ap (λ (xs : List ℕ). c ∷ xs) f.codes; over = (l, f.over) } in
      rw g.2 at it

  by_operation : (p : Option Op) → operation c ≡ p → n ≤ c → Following n (suc k) (c ∷ cs) fs
  by_operation none e l =
      let g : refused 7 at ≡ given fs = sym (first_unknown n tag at c cs k l e) ∙ h in
      let z : ◌≡◌ {A = ℕ} 0 1 = cc g in
      absurd (omega arith)
  by_operation (some o) e l =
      let b = bind_given (all_first n tag (at + 2) cs (suc (suc k))) (joined_first at o) fs (sym (first-operation n tag at c cs k o l e) ∙ h) in
      joined_following n at c k o cs b.0 fs (operation-code c o (operation_which c) e) (ih (suc (suc k)) b.0 b.1) b.2

  by_code : (b : Bool) → ltb c n ≡ b → Following n (suc k) (c ∷ cs) fs
  by_code true q = by_leaf (ltb-true c n q)
  by_code false q = by_operation (operation c) refl (ltb-false c n q)

following : (cs : List ℕ) (n tag at k : ℕ) (fs : List Formula) → all_first n tag at cs k ≡ given fs → Following n k cs fs
unfolding all_first
following [] n tag at zero fs h =
    let e : [] ≡ fs = given-same _ _ h in
    let it : Following n 0 [] [] = record { many = refl; codes = refl; over = tt } in
    rw e at it
following [] n tag at (suc k) fs h = let z : ◌≡◌ {A = ℕ} 0 1 = cc in absurd (omega arith)
following (c ∷ cs) n tag at zero fs h = let z : ◌≡◌ {A = ℕ} 0 1 = cc in absurd (omega arith)
following (c ∷ cs) n tag at (suc k) fs h = by_code n tag at c cs k fs h (λ j gs. following cs n tag (at + 2) j gs) (ltb c n) refl

-- Codes judged good are those of the formula that they give, over the names.
formula_first-prefix : (n tag first : ℕ) (cs : List ℕ) (f : Formula) → formula_first n tag first cs ≡ given f → (prefix f ≡ cs) × Over n f
unfolding formula_first
formula_first-prefix n tag first cs f h =
    let b = bind_given (all_first n tag first cs 1) (only_one tag) f h in
    let e = only-given tag b.0 f b.2 in
    let g : Following n 1 cs (f ∷ []) = rw e at (following cs n tag first 1 b.0 b.1) in
    (sym (append-nil (prefix f)) ∙ g.codes, g.over.0)

-- ---- in either edition

many_by : (f : Formula) (b : Bool) → length (cond b (postfix f) (prefix f)) ≡ length (postfix f)
many_by f true = refl
many_by f false = length-prefix f

-- As many codes in either.
pub length-codes_in : (edition : ℕ) (f : Formula) → length (codes_in edition f) ≡ length (postfix f)
length-codes_in edition f = many_by f (eqb edition 1)

in_by : (n tag first : ℕ) (cs : List ℕ) (f : Formula) (b : Bool) → cond b (formula_of n tag first cs) (formula_first n tag first cs) ≡ given f → (cond b (postfix f) (prefix f) ≡ cs) × Over n f
in_by n tag first cs f true h = formula_of-postfix n tag first cs f h
in_by n tag first cs f false h = formula_first-prefix n tag first cs f h

pub formula_in-codes : (edition n tag first : ℕ) (cs : List ℕ) (f : Formula) → formula_in edition n tag first cs ≡ given f → (codes_in edition f ≡ cs) × Over n f
unfolding formula_in
formula_in-codes edition n tag first cs f h = in_by n tag first cs f (eqb edition 1) h

by_in : (n : ℕ) → n ≤ first_operation → (tag first : ℕ) (f : Formula) → Over n f → (b : Bool)
    → cond b (formula_of n tag first (cond b (postfix f) (prefix f))) (formula_first n tag first (cond b (postfix f) (prefix f))) ≡ given f
by_in n few tag first f o true = postfix-formula_of n few f tag first o
by_in n few tag first f o false = prefix-formula_first n few tag f first o

pub codes_in-formula : (edition n : ℕ) → n ≤ first_operation → (tag first : ℕ) (f : Formula) → Over n f → formula_in edition n tag first (codes_in edition f) ≡ given f
unfolding formula_in
codes_in-formula edition n few tag first f o = by_in n few tag first f o (eqb edition 1)
