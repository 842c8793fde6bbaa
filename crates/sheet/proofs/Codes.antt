-- Codes are judged good exactly if they are some formula's, in postfix order, over the names.
use Prim.Native.Nat.{ℕ, ◌+◌, ◌*◌, ◌≤◌}
use native.Mathlib.Omega.{arith}
use mathlib.Core.Path.{◌≡◌, refl, sym, ◌∙◌}
use mathlib.Core.Bool.{Bool, true, false, cond}
use mathlib.Core.List.{List, [], ◌∷◌, ◌++◌, append_assoc, append-nil}
use mathlib.Core.Option.{Option, none, some}
use lib.ListN.{length, length-append}
use lib.Dec.{ltb}
use borrow.Author.Tests.{ltb-true, lt-ltb, le-ltb}
use Rattle.outcome.specs.Outcome.{given}
use Rattle.formula.specs.Formula.{Op, first_operation, code, Formula, leaf, node, postfix, Over}
use Rattle.formula.specs.Codes.{operation}
use Rattle.formula.proofs.Codes.{operation_which, operation-code, code-operation}
use Rattle.sheet.specs.Sheet.{codes_of, joined, one_code, all_codes, only_one, formula_of}
use Rattle.outcome.proofs.Questions.{bind_given, given-same}

-- ---- allCodes: the operands that wait, in postfix order, are the codes judged so far

-- The codes of the operands that wait, and that each of them is over the names.
abbrev postfixes : List Formula → List ℕ
postfixes [] = []
postfixes (f ∷ fs) = postfixes fs ++ postfix f

abbrev AllOver : ℕ → List Formula → Type 0
AllOver n [] = Unit {0}
AllOver n (f ∷ fs) = Over n f × AllOver n fs

record Grown (n : ℕ) (fs gs : List Formula) (cs : List ℕ) : Type 0 where
  codes : postfixes gs ≡ postfixes fs ++ cs
  over : AllOver n gs

joined_grown : (n at c : ℕ) (p : Option Op) (fs gs : List Formula) → operation c ≡ p → AllOver n fs → joined at p fs ≡ given gs → Grown n fs gs (c ∷ [])
joined_grown n at c none fs gs q all h = let z : ◌≡◌ {A = ℕ} 0 1 = cc in absurd (omega arith)
joined_grown n at c (some o) [] gs q all h = let z : ◌≡◌ {A = ℕ} 0 1 = cc in absurd (omega arith)
joined_grown n at c (some o) (r ∷ []) gs q all h = let z : ◌≡◌ {A = ℕ} 0 1 = cc in absurd (omega arith)
joined_grown n at c (some o) (r ∷ l ∷ fs) gs q all h =
    let e : node o l r ∷ fs ≡ gs = given-same _ _ h in
    let it : Grown n (r ∷ l ∷ fs) (node o l r ∷ fs) (c ∷ []) =
    record { codes = rw (operation-code c o (operation_which c) q) (simp append_assoc); over = ((all.1.0, all.0), all.1.1) } in
    rw e at it

code_grown : (n at c : ℕ) (fs gs : List Formula) (b : Bool) → ltb c n ≡ b → AllOver n fs → cond b (given (leaf c ∷ fs)) (joined at (operation c) fs) ≡ given gs → Grown n fs gs (c ∷ [])
code_grown n at c fs gs true q all h =
    let e : leaf c ∷ fs ≡ gs = given-same _ _ h in
    let it : Grown n fs (leaf c ∷ fs) (c ∷ []) = record { codes = refl; over = (ltb-true c n q, all) } in
    rw e at it
code_grown n at c fs gs false q all h = joined_grown n at c (operation c) fs gs refl all h

codes_grown : (cs : List ℕ) (n at : ℕ) (fs gs : List Formula) → AllOver n fs → all_codes n at cs fs ≡ given gs → Grown n fs gs cs
unfolding all_codes
codes_grown [] n at fs gs all h =
    let e : fs ≡ gs = given-same _ _ h in
    let it : Grown n fs fs [] = record { codes = sym (append-nil (postfixes fs)); over = all } in
    rw (← e) it
codes_grown (c ∷ cs) n at fs gs all h =
    let b = bind_given (one_code n at c fs) (all_codes n (at + 2) cs) gs h in
    let hs = b.0 in
    let one = code_grown n at c fs hs (ltb c n) refl all b.1 in
    let rest = codes_grown cs n (at + 2) hs gs one.over b.2 in
    record { codes = rest.codes ∙ rw one.codes (simp append_assoc); over = rest.over }

pub only-given : (tag : ℕ) (fs : List Formula) (f : Formula) → only_one tag fs ≡ given f → fs ≡ f ∷ []
only-given tag [] f h = let z : ◌≡◌ {A = ℕ} 0 1 = cc in absurd (omega arith)
only-given tag (g ∷ []) f h = rw (given-same _ _ h)
only-given tag (g ∷ k ∷ fs) f h = let z : ◌≡◌ {A = ℕ} 0 1 = cc in absurd (omega arith)

-- Codes judged good are those of the formula that they give, over the names.
pub formula_of-postfix : (n tag first : ℕ) (cs : List ℕ) (f : Formula) → formula_of n tag first cs ≡ given f → (postfix f ≡ cs) × Over n f
unfolding formula_of
formula_of-postfix n tag first cs f h =
    let b = bind_given (all_codes n first cs []) (only_one tag) f h in
    let e = only-given tag b.0 f b.2 in
    let g : Grown n [] (f ∷ []) cs = rw e at (codes_grown cs n first [] b.0 tt b.1) in
    (g.codes, g.over.0)

-- ---- postfix: the codes of a formula leave it as one more operand

module _ (n : ℕ) (few : n ≤ first_operation) where
  code-high : (o : Op) → ltb (code o) n ≡ false
  code-high o = le-ltb (code o) n (omega arith)

  codes-postfix : (f : Formula) (at : ℕ) (cs : List ℕ) (fs : List Formula) → Over n f
      → all_codes n at (postfix f ++ cs) fs ≡ all_codes n (at + 2 * length (postfix f)) cs (f ∷ fs)
  unfolding all_codes
  codes-postfix (leaf s) at cs fs o = rw (lt-ltb s n o)
  codes-postfix (node p l r) at cs fs o =
      let e : at + 2 * length (postfix l) + 2 * length (postfix r) + 2 ≡ at + 2 * length (postfix l ++ (postfix r ++ (code p ∷ []))) =
      simp length-append (omega arith) in
      let a : (postfix l ++ (postfix r ++ (code p ∷ []))) ++ cs ≡ postfix l ++ (postfix r ++ (code p ∷ cs)) = simp append_assoc in
      rw a (codes-postfix l at (postfix r ++ (code p ∷ cs)) fs o.0
      ∙ codes-postfix r (at + 2 * length (postfix l)) (code p ∷ cs) (l ∷ fs) o.1
      ∙ rw (code-high p, code-operation p, e))

  -- The codes of a formula over the names are judged good, and give it.
  pub postfix-formula_of : (f : Formula) (tag first : ℕ) → Over n f → formula_of n tag first (postfix f) ≡ given f
  unfolding formula_of all_codes
  postfix-formula_of f tag first o =
      let e : all_codes n first (postfix f) [] ≡ given (f ∷ []) = rw (← append-nil (postfix f)) (codes-postfix f first [] [] o) in
      rw e

-- ---- codes_of: two bytes a code

pub length-codes_of : (x : List ℕ) → 2 * length (codes_of x) ≤ length x
unfolding codes_of
length-codes_of [] = omega arith
length-codes_of (h ∷ []) = omega arith
length-codes_of (h ∷ l ∷ x) = omega (arith, length-codes_of x)
