-- A field that is given: each question of its tag was answered yes.
use Prim.Native.Nat.{ℕ, ◌+◌, ◌%◌, ◌≤◌, ◌<◌}
use native.Mathlib.Omega.{arith}
use mathlib.Core.Path.{◌≡◌, refl}
use mathlib.Core.Bool.{Bool, true, false, cond, not}
use mathlib.Core.List.{List}
use mathlib.Core.Logic.{◌⊎◌, inl, inr}
use lib.ListN.{length, get_or}
use lib.Dec.{ltb, leb, eqb}
use borrow.Author.Tests.{leb-true, ltb-true, ltb-false, eqb-true, not-true}
use Rattle.outcome.specs.Outcome.{given, refused, need, ◌>>◌}
use Rattle.formula.specs.Formula.{Formula}
use Rattle.sheet.specs.Sheet.{Setting, unaided, Field, name_field, formula_field, end_field, most_names, longest_name, longest_formula, two_bytes_at, length_at, past_at, bytes_at, all_good, taken, codes_of, formula_in, formula_tag, header, name_at, formula_at, field_at, fitting_at}
use Rattle.outcome.proofs.Questions.{need-given, bind_given}

pub record IsHeader (last : ℕ) (s : List ℕ) (ed : ℕ) : Type 0 where
  pub tag : get_or s 0 0 ≡ 1
  pub two : length_at s 0 ≡ 2
  pub inside : 5 ≤ length s
  pub least : 1 ≤ two_bytes_at s 3
  pub most : two_bytes_at s 3 ≤ last
  pub is : given (two_bytes_at s 3) ≡ given ed

pub header-given : (last : ℕ) (s : List ℕ) (ed : ℕ) → header last s ≡ given ed → IsHeader last s ed
unfolding header
header-given last s ed h =
    let h1 = need-given (ltb 0 (length s)) 1 (length s) _ _ h in
    let h2 = need-given (eqb (get_or s 0 0) 1) 2 0 _ _ h1.1 in
    let h3 = need-given (leb 3 (length s)) 1 (length s) _ _ h2.1 in
    let h4 = need-given (eqb (length_at s 0) 2) 3 0 _ _ h3.1 in
    let h5 = need-given (leb 5 (length s)) 1 (length s) _ _ h4.1 in
    let h6 = need-given (leb 1 (two_bytes_at s 3)) 3 0 _ _ h5.1 in
    let h7 = need-given (leb (two_bytes_at s 3) last) 3 0 _ _ h6.1 in
    record { tag = eqb-true _ _ h2.0; two = eqb-true _ _ h4.0; inside = leb-true _ _ h5.0; least = leb-true _ _ h6.0; most = leb-true _ _ h7.0; is = h7.1 }

module _ (w : Setting) (s : List ℕ) (at : ℕ) (ns : List (List ℕ)) (v : Field) where
  pub record IsName : Type 0 where
    pub room : length w.fittings + length ns < most_names
    pub some : 1 ≤ length_at s at
    pub few : length_at s at ≤ longest_name
    pub inside : past_at s at ≤ length s
    pub good : all_good (bytes_at s at) ≡ true
    pub free : taken ns (bytes_at s at) ≡ false
    pub new : taken w.fittings (bytes_at s at) ≡ false
    pub is : given (name_field (bytes_at s at) (past_at s at)) ≡ given v

  pub record IsFormula : Type 0 where
    pub tagged : get_or s at 0 ≡ formula_tag w.edition
    pub some : 0 < length ns
    pub short : length_at s at ≤ longest_formula
    pub long : 1 ≤ length_at s at
    pub even : length_at s at % 2 ≡ 0
    pub inside : past_at s at ≤ length s
    pub formula : Formula
    pub good : formula_in w.edition (length w.fittings + length ns) at (at + 3) (codes_of (bytes_at s at)) ≡ given formula
    pub is : given (formula_field formula (at + 3) (past_at s at)) ≡ given v

  pub name-given : name_at w s at ns ≡ given v → IsName
  unfolding name_at
  name-given h =
      let h1 = need-given (ltb (length w.fittings + length ns) most_names) 6 at _ _ h in
      let h2 = need-given (leb (at + 3) (length s)) 1 (length s) _ _ h1.1 in
      let h3 = need-given (leb 1 (length_at s at)) 4 at _ _ h2.1 in
      let h4 = need-given (leb (length_at s at) longest_name) 4 at _ _ h3.1 in
      let h5 = need-given (leb (past_at s at) (length s)) 1 (length s) _ _ h4.1 in
      let h6 = need-given (all_good (bytes_at s at)) 4 at _ _ h5.1 in
      let h7 = need-given (not (taken ns (bytes_at s at))) 5 at _ _ h6.1 in
      let h8 = need-given (not (taken w.fittings (bytes_at s at))) 17 at _ _ h7.1 in
      record {
        room = ltb-true _ _ h1.0;
        some = leb-true _ _ h3.0;
        few = leb-true _ _ h4.0;
        inside = leb-true _ _ h5.0;
        good = h6.0;
        free = not-true _ h7.0;
        new = not-true _ h8.0;
        is = h8.1;
      }

  pub formula-given : get_or s at 0 ≡ formula_tag w.edition → formula_at w s at ns ≡ given v → IsFormula
  unfolding formula_at
  formula-given tag h =
      let h1 = need-given (ltb 0 (length ns)) 2 at _ _ h in
      let h2 = need-given (leb (at + 3) (length s)) 1 (length s) _ _ h1.1 in
      let h3 = need-given (leb (length_at s at) longest_formula) 6 at _ _ h2.1 in
      let h4 = need-given (leb 1 (length_at s at)) 7 at _ _ h3.1 in
      let h5 = need-given (eqb (length_at s at % 2) 0) 7 at _ _ h4.1 in
      let h6 = need-given (leb (past_at s at) (length s)) 1 (length s) _ _ h5.1 in
      let h7 = bind_given (formula_in w.edition (length w.fittings + length ns) at (at + 3) (codes_of (bytes_at s at))) (λ f. given (formula_field f (at + 3) (past_at s at))) v h6.1 in
      record {
        tagged = tag;
        some = ltb-true _ _ h1.0;
        short = leb-true _ _ h3.0;
        long = leb-true _ _ h4.0;
        even = eqb-true _ _ h5.0;
        inside = leb-true _ _ h6.0;
        formula = h7.0;
        good = h7.1;
        is = h7.2;
      }

  by_tag : (b d : Bool) → eqb (get_or s at 0) (formula_tag w.edition) ≡ d → cond b (name_at w s at ns) (cond d (formula_at w s at ns) (refused 2 at)) ≡ given v → IsName ⊎ IsFormula
  by_tag true d q h = inl (name-given h)
  by_tag false true q h = inr (formula-given (eqb-true _ _ q) h)
  by_tag false false q h = let z : ◌≡◌ {A = ℕ} 0 1 = cc in absurd (omega arith)

  pub field-given : field_at w s at ns false ≡ given v → IsName ⊎ IsFormula
  unfolding field_at
  field-given h = by_tag (eqb (get_or s at 0) 2) (eqb (get_or s at 0) (formula_tag w.edition)) refl (need-given (ltb at (length s)) 1 (length s) _ _ h).1

  pub end_given : field_at w s at ns true ≡ given v → (length s ≤ at) × (given end_field ≡ given v)
  unfolding field_at
  end_given h = let e = need-given (leb (length s) at) 2 at _ _ h in (leb-true _ _ e.0, e.1)

-- ---- a field of a fittings sheet: a name, or the end after a name

module _ (s : List ℕ) (at : ℕ) (ns : List (List ℕ)) (v : Field) where
  pub record IsEnd : Type 0 where
    pub some : 0 < length ns
    pub ends : length s ≤ at
    pub is : given end_field ≡ given v

  by_fitting : (b d : Bool) → ltb at (length s) ≡ b → cond b (cond d (name_at unaided s at ns) (refused 2 at)) (need (ltb 0 (length ns)) 1 (length s) >> given end_field) ≡ given v
      → IsName unaided s at ns v ⊎ IsEnd
  by_fitting true true q h = inl (name-given unaided s at ns v h)
  by_fitting true false q h = let z : ◌≡◌ {A = ℕ} 0 1 = cc in absurd (omega arith)
  by_fitting false d q h =
      let e = need-given (ltb 0 (length ns)) 1 (length s) _ _ h in
      inr (record { some = ltb-true _ _ e.0; ends = ltb-false _ _ q; is = e.1 })

  pub fitting_given : fitting_at s at ns ≡ given v → IsName unaided s at ns v ⊎ IsEnd
  unfolding fitting_at
  fitting_given h = by_fitting (ltb at (length s)) (eqb (get_or s at 0) 2) refl h
