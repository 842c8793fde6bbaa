-- Sheets that are read have what is guaranteed: one induction over the fields of each.
use Prim.Native.Nat.{ℕ, zero, suc, ◌+◌, ◌-◌, ◌*◌, ◌≤◌, ◌<◌}
use native.Mathlib.Omega.{arith}
use native.Mathlib.Numerals.{add-one}
use mathlib.Core.Path.{◌≡◌, refl, sym, ap, ◌∙◌}
use mathlib.Core.Bool.{true, false}
use mathlib.Core.List.{List, [], ◌∷◌, ◌++◌, append-nil, append_assoc}
use mathlib.Core.Logic.{◌⊎◌, inl, inr}
use lib.ListN.{length, get_or, length-append}
use Rattle.outcome.specs.Outcome.{Outcome, given, of_fittings}
use Rattle.formula.specs.Formula.{Formula, postfix}
use Rattle.formula.proofs.Laws.{length-postfix}
use Rattle.sheet.specs.Sheet.{Sheets, alone, beside, Sheet, Setting, unaided, Field, name_field, formula_field, end_field, most_names, two_bytes_at, length_at, past_at, bytes_at, taken, codes_of, field_at, onward, fields, header, own, fitting_at, onward_fitting, fitting_fields, fitting_names, reading}
use Rattle.sheet.specs.Walk.{walk_end, walk_names}
use Rattle.sheet.specs.Guaranteed.{GoodName, GoodNames, Own, Fitted, Guaranteed}
use Rattle.outcome.proofs.Questions.{then_given, bind_given, given-same, fittings-given}
use Rattle.sheet.proofs.Codes.{length-codes_of}
use Rattle.sheet.proofs.CodesFirst.{formula_in-codes, length-codes_in}
use Rattle.sheet.proofs.Names.{all_good-at, taken-append, GoodNames-none, GoodNames_more, walk_names_more, walk_end_more, bytes-between, length-bytes_at}
use Rattle.sheet.proofs.Fields.{IsHeader, IsName, IsFormula, IsEnd, header-given, field-given, end_given, fitting_given}

-- The names ns were read from offset 5 on, after the fittings' names, and the next field stands at `at`.
record Passed (w : Setting) (s : List ℕ) (at : ℕ) (ns : List (List ℕ)) : Type 0 where
  names_are : ns ≡ walk_names s 5 (length ns)
  here : at ≡ walk_end s 5 (length ns)
  near : at ≤ 5 + 35 * length ns
  good : GoodNames (w.fittings ++ ns)

passed_none : (w : Setting) (s : List ℕ) → GoodNames w.fittings → Passed w s 5 []
unfolding walk_names walk_end
passed_none w s g = record { names_are = refl; here = refl; near = omega arith; good = rw (append-nil w.fittings) g }

-- ---- a name more

good_name : (w : Setting) (s : List ℕ) (at : ℕ) (ns : List (List ℕ)) (v : Field) → IsName w s at ns v → GoodName (bytes_at s at)
good_name w s at ns v i =
    let l = length-bytes_at s at i.inside in
    record {
      some = omega (arith, l, i.some);
      few = omega (arith, l, i.few);
      low = λ k h. (all_good-at (bytes_at s at) i.good k h).0;
      high = λ k h. (all_good-at (bytes_at s at) i.good k h).1;
    }

passed_name : (w : Setting) (s : List ℕ) (at : ℕ) (ns : List (List ℕ)) (v : Field) → Passed w s at ns → IsName w s at ns v → Passed w s (past_at s at) (ns ++ (bytes_at s at ∷ []))
unfolding past_at
passed_name w s at ns v p i =
    let len : length (ns ++ (bytes_at s at ∷ [])) ≡ suc (length ns) = length-append ns (bytes_at s at ∷ []) ∙ add-one (length ns) in
    let free : taken (w.fittings ++ ns) (bytes_at s at) ≡ false = taken-append w.fittings ns (bytes_at s at) ∙ rw (i.new, i.free) in
    let room : length (w.fittings ++ ns) < most_names = omega (arith, length-append w.fittings ns, i.room) in
    record {
      names_are = rw (len, walk_names_more s 5 (length ns), ← p.here, ← p.names_are);
      here = rw (len, walk_end_more s 5 (length ns), ← p.here);
      near = omega (arith, len, p.near, i.few);
      good = rw (← append_assoc w.fittings ns (bytes_at s at ∷ [])) (GoodNames_more (w.fittings ++ ns) (bytes_at s at) p.good (good_name w s at ns v i) free room);
    }

after-name : (w : Setting) (s : List ℕ) (at : ℕ) (ns : List (List ℕ)) (x : List ℕ) (e : ℕ) → Passed w s at ns → IsName w s at ns (name_field x e) → Passed w s e (ns ++ (x ∷ []))
after-name w s at ns x e p i =
    let h = i.is in
    let a : bytes_at s at ≡ x = cc h in
    let b : past_at s at ≡ e = cc h in
    rw (a, b) at (passed_name w s at ns (name_field x e) p i)

-- ---- the formula

-- The header said edition 1 or 2.
record Headed (w : Setting) (s : List ℕ) : Type 0 where
  least : 1 ≤ w.edition
  most : w.edition ≤ 2
  said : get_or s 4 0 ≡ w.edition

formula-own : (w : Setting) (s : List ℕ) (at : ℕ) (ns : List (List ℕ)) (v : Field) (p : Passed w s at ns) (i : IsFormula w s at ns v) → length s ≤ past_at s at
    → Headed w s → Own w.fittings s (record { edition = w.edition; names = w.fittings ++ ns; formula = i.formula; first = at + 3; past = past_at s at })
unfolding past_at
formula-own w s at ns v p i e hd =
    let c = formula_in-codes w.edition (length w.fittings + length ns) at (at + 3) (codes_of (bytes_at s at)) i.formula i.good in
    let l = length-bytes_at s at i.inside in
    let many : length (postfix i.formula) ≡ length (codes_of (bytes_at s at)) = sym (length-codes_in w.edition i.formula) ∙ ap length c.0 in
    let m : 2 * length (postfix i.formula) ≤ length_at s at = rw (many, ← l) (length-codes_of (bytes_at s at)) in
    let tag : at + 3 - 3 ≡ at = omega arith in
    let d : (at + 3 + length_at s at) - (at + 3) ≡ length_at s at = omega arith in
    let joined = length-append w.fittings ns in
    record {
      least_edition = hd.least;
      most_edition = hd.most;
      said = hd.said;
      owned = length ns;
      some_names = i.some;
      good_names = p.good;
      over = rw joined c.1;
      few_leaves = omega (arith, length-postfix i.formula);
      few_codes = omega arith;
      tagged = rw tag i.tagged;
      codes_are = rw (bytes-between s at (past_at s at) refl) (sym c.0);
      some_bytes = omega arith;
      few_bytes = omega arith;
      even = rw d i.even;
      ends = omega arith;
      few_in_all = omega (arith, p.near, p.good.few, joined);
      names_are = ap (λ (ms : List (List ℕ)). w.fittings ++ ms) p.names_are;
      follows = ap (λ (n : ℕ). n + 3) p.here;
    }

-- ---- field by field

module _ (w : Setting) (s : List ℕ) (at : ℕ) (ns : List (List ℕ)) (r : Sheet) (p : Passed w s at ns) (hd : Headed w s) where
  after-field : (x : List ℕ) (e : ℕ) → IsName w s at ns (name_field x e) ⊎ IsFormula w s at ns (name_field x e) → Passed w s e (ns ++ (x ∷ []))
  after-field x e (inl i) = after-name w s at ns x e p i
  after-field x e (inr i) = let h = i.is in let z : ◌≡◌ {A = ℕ} 0 1 = cc h in absurd (omega arith)

  after-formula : (f : Formula) (a e : ℕ) → IsName w s at ns (formula_field f a e) ⊎ IsFormula w s at ns (formula_field f a e) → length s ≤ e
      → Own w.fittings s (record { edition = w.edition; names = w.fittings ++ ns; formula = f; first = a; past = e })
  after-formula f a e (inl i) l = let h = i.is in let z : ◌≡◌ {A = ℕ} 0 1 = cc h in absurd (omega arith)
  after-formula f a e (inr i) l =
      let h = i.is in
      let x : i.formula ≡ f = cc h in
      let y : at + 3 ≡ a = cc h in
      let z : past_at s at ≡ e = cc h in
      rw (x, y, z) at (formula-own w s at ns (formula_field f a e) p i (rw z l) hd)

  -- `on` reads the fields after this one
  after : (on : ℕ → List (List ℕ) → Outcome Sheet) → ((e : ℕ) (ms : List (List ℕ)) → Passed w s e ms → on e ms ≡ given r → Own w.fittings s r)
      → (v : Field) → field_at w s at ns false ≡ given v → onward w on s ns v ≡ given r → Own w.fittings s r
  after on ih (name_field x e) q h = ih e (ns ++ (x ∷ [])) (after-field x e (field-given w s at ns (name_field x e) q)) h
  after on ih (formula_field f a e) q h =
      let b = then_given (field_at w s e ns true) (given (record { edition = w.edition; names = w.fittings ++ ns; formula = f; first = a; past = e })) r h in
      let y : record { edition = w.edition; names = w.fittings ++ ns; formula = f; first = a; past = e } ≡ r = given-same _ _ b.2 in
      rw y at (after-formula f a e (field-given w s at ns (formula_field f a e) q) (end_given w s e ns b.0 b.1).0)
  after on ih end_field q h = let z : ◌≡◌ {A = ℕ} 0 1 = cc in absurd (omega arith)

fields-own : (w : Setting) (k : ℕ) (s : List ℕ) (at : ℕ) (ns : List (List ℕ)) (r : Sheet) → Headed w s → Passed w s at ns → fields w k s at ns ≡ given r → Own w.fittings s r
unfolding fields
fields-own w zero s at ns r hd p h = let z : ◌≡◌ {A = ℕ} 0 1 = cc in absurd (omega arith)
fields-own w (suc k) s at ns r hd p h =
    let b = bind_given (field_at w s at ns false) (onward w (fields w k s) s ns) r h in
    after w s at ns r p hd (fields w k s) (λ e ms. fields-own w k s e ms r hd) b.0 b.1 b.2

headed : (fs : List (List ℕ)) (s : List ℕ) (said : ℕ) → IsHeader 2 s said → Headed (record { fittings = fs; edition = said }) s
headed fs s said i =
    let h = i.is in
    let e : two_bytes_at s 3 ≡ said = cc h in
    let low = i.least in
    let high = i.most in
    record { least = omega (arith, e, low); most = omega (arith, e, high); said = omega (arith, e, high) }

pub own_guaranteed : (fs : List (List ℕ)) (s : List ℕ) (r : Sheet) → GoodNames fs → own fs s ≡ given r → Own fs s r
unfolding own
own_guaranteed fs s r g h =
    let b = bind_given (header 2 s) (λ said. fields (record { fittings = fs; edition = said }) (most_names + 1) s 5 []) r h in
    let w : Setting = record { fittings = fs; edition = b.0 } in
    fields-own w (most_names + 1) s 5 [] r (headed fs s b.0 (header-given 2 s b.0 b.1)) (passed_none w s g) b.2

-- ---- the fittings sheet

module _ (s : List ℕ) (at : ℕ) (ns rs : List (List ℕ)) (p : Passed unaided s at ns) where
  fitting_end : (v : Field) → at ≤ length s → IsEnd s at ns v → Fitted s ns
  fitting_end v inside i =
      record { some_names = i.some; good_names = p.good; names_are = p.names_are; ends = sym p.here ∙ omega (arith, inside, i.ends) }

  after_fitting : (on : ℕ → List (List ℕ) → Outcome (List (List ℕ))) → ((e : ℕ) (ms : List (List ℕ)) → Passed unaided s e ms → e ≤ length s → on e ms ≡ given rs → Fitted s rs) → at ≤ length s
      → (v : Field) → IsName unaided s at ns v ⊎ IsEnd s at ns v → onward_fitting on at ns v ≡ given rs → Fitted s rs
  after_fitting on ih inside (name_field x e) (inl i) h =
      let k = i.is in
      let b : past_at s at ≡ e = cc k in
      ih e (ns ++ (x ∷ [])) (after-name unaided s at ns x e p i) (rw b at i.inside) h
  after_fitting on ih inside (name_field x e) (inr i) h = let k = i.is in let z : ◌≡◌ {A = ℕ} 0 1 = cc k in absurd (omega arith)
  after_fitting on ih inside (formula_field f a e) i h = let z : ◌≡◌ {A = ℕ} 0 1 = cc in absurd (omega arith)
  after_fitting on ih inside end_field (inl i) h = let k = i.is in let z : ◌≡◌ {A = ℕ} 0 1 = cc k in absurd (omega arith)
  after_fitting on ih inside end_field (inr i) h = let e : ns ≡ rs = given-same _ _ h in rw e at (fitting_end end_field inside i)

fittings_fitted : (k : ℕ) (s : List ℕ) (at : ℕ) (ns rs : List (List ℕ)) → Passed unaided s at ns → at ≤ length s → fitting_fields k s at ns ≡ given rs → Fitted s rs
unfolding fitting_fields
fittings_fitted zero s at ns rs p inside h = let z : ◌≡◌ {A = ℕ} 0 1 = cc in absurd (omega arith)
fittings_fitted (suc k) s at ns rs p inside h =
    let b = bind_given (fitting_at s at ns) (onward_fitting (fitting_fields k s) at ns) rs h in
    after_fitting s at ns rs p (fitting_fields k s) (λ e ms. fittings_fitted k s e ms rs) inside b.0 (fitting_given s at ns b.0 b.1) b.2

pub fitted : (s : List ℕ) (names : List (List ℕ)) → fitting_names s ≡ given names → Fitted s names
unfolding fitting_names
fitted s names h =
    let b = then_given (header 1 s) (fitting_fields (most_names + 1) s 5 []) names h in
    fittings_fitted (most_names + 1) s 5 [] names (passed_none unaided s GoodNames-none) (header-given 1 s b.0 b.1).inside b.2

-- ---- the sheets of a call

pub guaranteed : (c : Sheets) (r : Sheet) → reading c ≡ given r → Guaranteed c r
unfolding reading
guaranteed (alone s) r h = record { fittings = []; fitted = refl; own = own_guaranteed [] s r GoodNames-none h }
guaranteed (beside f s) r h =
    let b = bind_given (of_fittings (fitting_names f)) (λ names. own names s) r h in
    let g = fitted f b.0 (fittings-given (fitting_names f) b.0 b.1) in
    record { fittings = b.0; fitted = g; own = own_guaranteed b.0 s r g.good_names b.2 }
