-- A moved sheet is read as the same names and the same formula, in the other edition; and its bytes, moved again, are the same.
use Prim.Native.Nat.{ℕ, zero, suc, ◌+◌, ◌-◌, ◌*◌, ◌/◌, ◌%◌, ◌≤◌, ◌<◌}
use native.Mathlib.Omega.{arith}
use mathlib.Core.Path.{◌≡◌, refl, sym, ap, ◌∙◌}
use mathlib.Core.Bool.{Bool, true, false, cond}
use mathlib.Core.List.{List, [], ◌∷◌, ◌++◌}
use mathlib.Core.Logic.{◌⊎◌, inl, inr}
use lib.ListN.{length, get_or, take, drop, set, length-set, length-take, length-append, length-drop, take-append-drop, get_or-append}
use lib.Seq.{get_or-take, get_or-drop, get_or-set_same, get_or-set_other, length-take-le, drop_at, take_at, take_all, ext_get_or}
use lib.Dec.{ltb, eqb}
use borrow.Author.Tests.{le-leb, lt-ltb, ltb-true, eq-eqb, ne_eqb, eqb-true, eqb-false}
use Rattle.outcome.specs.Outcome.{given, refused, ◌>>◌, ◌>>=◌, of_fittings}
use Rattle.outcome.proofs.Questions.{need-given, then_given, bind_given, given-same, fittings-given}
use Rattle.formula.specs.Formula.{first_operation, Formula, postfix, Over}
use Rattle.sheet.specs.Sheet.{Sheets, alone, beside, own_sheet, Sheet, Setting, Field, name_field, formula_field, end_field, two_bytes_at, length_at, past_at, bytes_at, between, codes_of, codes_in, formula_tag, header, name_at, formula_at, field_at, onward, fields, own, fitting_names, reading}
use Rattle.sheet.specs.Guaranteed.{Own, GoodNames}
use Rattle.sheet.proofs.CodesFirst.{codes_in-formula, length-codes_in}
use Rattle.sheet.proofs.Names.{GoodNames-none, walk_on}
use Rattle.sheet.proofs.Fields.{IsName, IsFormula, header-given, name-given, formula-given, field-given, end_given}
use Rattle.sheet.proofs.Guaranteed.{own_guaranteed, fitted, guaranteed}
use Rattle.sheet_laying.specs.Bytes.{code_bytes}
use Rattle.sheet_laying.proofs.Putting.{length-code_bytes}
use Rattle.job_move.specs.Moving.{other, moved}
use Rattle.job_move.specs.Journey.{moved_in, in_edition, Bytes}
use Rattle.sheet_laying.proofs.CodeBytes.{codes_long}

-- ---- two bytes a code, there and back

codes-bytes : (cs : List ℕ) → codes_of (code_bytes cs) ≡ cs
unfolding codes_of code_bytes
codes-bytes [] = refl
codes-bytes (c ∷ cs) = let e : c / 256 * 256 + c % 256 ≡ c = omega arith in rw (e, codes-bytes cs)

-- ---- two sheets of one length that agree from offset 5 up to m

pub record Agree (s t : List ℕ) (m : ℕ) : Type 0 where
  pub long : length t ≡ length s
  pub low : (i : ℕ) → 5 ≤ i → i < m → get_or t i 0 ≡ get_or s i 0

module _ (s t : List ℕ) (m : ℕ) (same : Agree s t m) (short : m ≤ length s) where
  part-agree : (a n : ℕ) → 5 ≤ a → a + n ≤ m → take n (drop a t) ≡ take n (drop a s)
  part-agree a n h k =
      let ls : n ≤ length (drop a s) = rw length-drop (omega arith) in
      let lt : n ≤ length (drop a t) = rw (length-drop, same.long) (omega arith) in
      let es : length (take n (drop a s)) ≡ n = length-take-le n (drop a s) ls in
      let et : length (take n (drop a t)) ≡ n = length-take-le n (drop a t) lt in
      ext_get_or 0 (take n (drop a t)) (take n (drop a s)) (et ∙ sym es)
      (λ i l.
      let q : i < n = omega (arith, et, l) in
      get_or-take n (drop a t) i 0 q ∙ get_or-drop a t i 0 ∙ same.low (a + i) (omega arith) (omega arith) ∙ sym (get_or-drop a s i 0) ∙ sym (get_or-take n (drop a s) i 0 q))

  module _ (at : ℕ) (five : 5 ≤ at) (inside : past_at s at ≤ m) where
    len_agree : length_at t at ≡ length_at s at
    unfolding length_at past_at
    len_agree =
        let a : get_or t (at + 1) 0 ≡ get_or s (at + 1) 0 = same.low (at + 1) (omega arith) (omega arith) in
        let b : get_or t (at + 1 + 1) 0 ≡ get_or s (at + 1 + 1) 0 = same.low (at + 1 + 1) (omega arith) (omega arith) in
        rw (a, b)

    pub past-agree : past_at t at ≡ past_at s at
    unfolding past_at
    past-agree = rw len_agree

    bytes-agree : bytes_at t at ≡ bytes_at s at
    unfolding bytes_at past_at
    bytes-agree = rw len_agree (part-agree (at + 3) (length_at s at) (omega arith) (omega arith))

    name_agree : (w : Setting) (to : ℕ) (ns : List (List ℕ)) → name_at (record { fittings = w.fittings; edition = to }) t at ns ≡ name_at w s at ns
    unfolding name_at
    name_agree w to ns = rw (same.long, len_agree, past-agree, bytes-agree)

-- ---- a name's field, by its tag

record Named (w : Setting) (s : List ℕ) (at : ℕ) (ns : List (List ℕ)) (v : Field) : Type 0 where
  more : at < length s
  tag : get_or s at 0 ≡ 2
  is : name_at w s at ns ≡ given v

module _ (w : Setting) (s : List ℕ) (at : ℕ) (ns : List (List ℕ)) (x : List ℕ) (e : ℕ) where
  no_formula : IsFormula w s at ns (name_field x e) → ⊥
  no_formula i = let h = i.is in let z : ◌≡◌ {A = ℕ} 0 1 = cc h in omega arith

  named_by : at < length s → (b d : Bool) → eqb (get_or s at 0) 2 ≡ b → eqb (get_or s at 0) (formula_tag w.edition) ≡ d
      → cond b (name_at w s at ns) (cond d (formula_at w s at ns) (refused 2 at)) ≡ given (name_field x e) → Named w s at ns (name_field x e)
  named_by more true d q p h = record { more = more; tag = eqb-true _ _ q; is = h }
  named_by more false true q p h = absurd (no_formula (formula-given w s at ns (name_field x e) (eqb-true _ _ p) h))
  named_by more false false q p h = let z : ◌≡◌ {A = ℕ} 0 1 = cc in absurd (omega arith)

  named : field_at w s at ns false ≡ given (name_field x e) → Named w s at ns (name_field x e)
  unfolding field_at
  named h =
      let q = need-given (ltb at (length s)) 1 (length s) _ _ h in
      named_by (ltb-true _ _ q.0) (eqb (get_or s at 0) 2) (eqb (get_or s at 0) (formula_tag w.edition)) refl refl q.1

  named_past : Named w s at ns (name_field x e) → (e ≡ past_at s at) × (at + 4 ≤ e)
  unfolding past_at
  named_past n =
      let i = name-given w s at ns (name_field x e) n.is in
      let h = i.is in
      let p : past_at s at ≡ e = cc h in
      (sym p, omega (arith, p, i.some))

-- ---- the fields after an offset, and where the formula stands

abbrev sheet_of : Setting → List (List ℕ) → Formula → ℕ → ℕ → Sheet
sheet_of w ns f a e = record { edition = w.edition; names = w.fittings ++ ns; formula = f; first = a; past = e }

module _ (w : Setting) (s : List ℕ) (ns : List (List ℕ)) (f : Formula) (a e : ℕ) (r : Sheet) where
  closed : (field_at w s e ns true >> given (sheet_of w ns f a e)) ≡ given r → (length s ≤ e) × (sheet_of w ns f a e ≡ r)
  closed h =
      let b = then_given (field_at w s e ns true) (given (sheet_of w ns f a e)) r h in
      ((end_given w s e ns b.0 b.1).0, given-same _ _ b.2)

  is_formula : (at : ℕ) → field_at w s at ns false ≡ given (formula_field f a e) → IsFormula w s at ns (formula_field f a e)
  is_formula at q = by (field-given w s at ns (formula_field f a e) q)
    where
      by : IsName w s at ns (formula_field f a e) ⊎ IsFormula w s at ns (formula_field f a e) → IsFormula w s at ns (formula_field f a e)
      by (inl i) = let h = i.is in let z : ◌≡◌ {A = ℕ} 0 1 = cc h in absurd (omega arith)
      by (inr i) = i

rises_by : (w : Setting) (k : ℕ) (s : List ℕ) (at : ℕ) (ns : List (List ℕ)) (r : Sheet) → ((e : ℕ) (ms : List (List ℕ)) → fields w k s e ms ≡ given r → e + 3 ≤ r.first)
    → (v : Field) → field_at w s at ns false ≡ given v → onward w (fields w k s) s ns v ≡ given r → at + 3 ≤ r.first
rises_by w k s at ns r ih (name_field x e) q h = omega (arith, ih e (ns ++ (x ∷ [])) h, (named_past w s at ns x e (named w s at ns x e q)).1)
rises_by w k s at ns r ih (formula_field f a e) q h =
    let c = closed w s ns f a e r h in
    let i = (is_formula w s ns f a e r at q).is in
    let p : at + 3 ≡ a = cc i in
    let z : a ≡ r.first = ap (λ (x : Sheet). x.first) c.1 in
    omega (arith, p, z)
rises_by w k s at ns r ih end_field q h = let z : ◌≡◌ {A = ℕ} 0 1 = cc in absurd (omega arith)

rises : (w : Setting) (k : ℕ) (s : List ℕ) (at : ℕ) (ns : List (List ℕ)) (r : Sheet) → fields w k s at ns ≡ given r → at + 3 ≤ r.first
unfolding fields
rises w zero s at ns r h = let z : ◌≡◌ {A = ℕ} 0 1 = cc in absurd (omega arith)
rises w (suc k) s at ns r h =
    let b = bind_given (field_at w s at ns false) (onward w (fields w k s) s ns) r h in
    rises_by w k s at ns r (λ e ms. rises w k s e ms r) b.0 b.1 b.2

-- the formula ends where its field does
past_by : (w : Setting) (k : ℕ) (s : List ℕ) (at : ℕ) (ns : List (List ℕ)) (r : Sheet) → ((e : ℕ) (ms : List (List ℕ)) → fields w k s e ms ≡ given r → r.past ≡ past_at s (r.first - 3))
    → (v : Field) → field_at w s at ns false ≡ given v → onward w (fields w k s) s ns v ≡ given r → r.past ≡ past_at s (r.first - 3)
past_by w k s at ns r ih (name_field x e) q h = ih e (ns ++ (x ∷ [])) h
past_by w k s at ns r ih (formula_field f a e) q h =
    let c = closed w s ns f a e r h in
    let i = (is_formula w s ns f a e r at q).is in
    let p : at + 3 ≡ a = cc i in
    let pe : past_at s at ≡ e = cc i in
    let za : a ≡ r.first = ap (λ (x : Sheet). x.first) c.1 in
    let ze : e ≡ r.past = ap (λ (x : Sheet). x.past) c.1 in
    let here : at ≡ r.first - 3 = omega (arith, p, za) in
    sym (sym (ap (past_at s) here) ∙ pe ∙ ze)
past_by w k s at ns r ih end_field q h = let z : ◌≡◌ {A = ℕ} 0 1 = cc in absurd (omega arith)

field_past : (w : Setting) (k : ℕ) (s : List ℕ) (at : ℕ) (ns : List (List ℕ)) (r : Sheet) → fields w k s at ns ≡ given r → r.past ≡ past_at s (r.first - 3)
unfolding fields
field_past w zero s at ns r h = let z : ◌≡◌ {A = ℕ} 0 1 = cc in absurd (omega arith)
field_past w (suc k) s at ns r h =
    let b = bind_given (field_at w s at ns false) (onward w (fields w k s) s ns) r h in
    past_by w k s at ns r (λ e ms. field_past w k s e ms r) b.0 b.1 b.2

-- ---- a sheet t that reads as s does but for the formula's field, which stands at m in edition `to`

pub record Like (s t : List ℕ) (m to : ℕ) (f : Formula) : Type 0 where
  pub agree : Agree s t m
  pub inside : m ≤ length s
  pub tag : get_or t m 0 ≡ formula_tag to
  pub high : 1 ≤ to
  pub len : length_at t m ≡ length_at s m
  pub codes_are : codes_of (bytes_at t m) ≡ codes_in to f

-- what is read of it: the same names, and a formula f over them in the same place
abbrev read_as : ℕ → Formula → Sheet → Sheet
read_as to f r = record { edition = to; names = r.names; formula = f; first = r.first; past = r.past }

module _ (w : Setting) (s t : List ℕ) (to m : ℕ) (r : Sheet) (first : r.first ≡ m + 3) (f' : Formula) (over' : Over (length r.names) f') (like : Like s t m to f') (g : Own w.fittings s r) where
  abbrev w' : Setting
  w' = record { fittings = w.fittings; edition = to }

  -- the formula's field of t, from that of s
  formula-moves : (ns : List (List ℕ)) (v : Field) → IsFormula w s m ns v → r.names ≡ w.fittings ++ ns → field_at w' t m ns false ≡ given (formula_field f' (m + 3) (past_at s m))
  unfolding field_at formula_at past_at
  formula-moves ns v i names =
      let all : length r.names ≡ length w.fittings + length ns = ap length names ∙ length-append w.fittings ns in
      let few : length w.fittings + length ns ≤ first_operation = omega (arith, all, g.good_names.few) in
      let over = rw all at over' in
      let unlike : formula_tag to ≡ 2 → ⊥ = λ e. omega (arith, like.high, e) in
      let past : m + 3 + length_at s m ≤ length s = i.inside in
      rw (
        like.agree.long,
        lt-ltb m (length s) (omega (arith, past)),
        like.tag,
        ne_eqb (formula_tag to) 2 unlike,
        eq-eqb (formula_tag to) (formula_tag to) refl,
        lt-ltb 0 (length ns) i.some,
        le-leb (m + 3) (length s) (omega (arith, past)),
        like.len,
        le-leb (length_at s m) 4094 i.short,
        le-leb 1 (length_at s m) i.long,
        eq-eqb (length_at s m % 2) 0 i.even,
        le-leb (m + 3 + length_at s m) (length s) past,
        like.codes_are,
        codes_in-formula to (length w.fittings + length ns) few m (m + 3) f' over,
      )

  end_moves : (ns : List (List ℕ)) (e : ℕ) → length s ≤ e → field_at w' t e ns true ≡ given end_field
  unfolding field_at
  end_moves ns e h = rw (like.agree.long, le-leb (length s) e h)

  name-moves : (k : ℕ) (at : ℕ) (ns : List (List ℕ)) (x : List ℕ) (e : ℕ) → 5 ≤ at → e ≤ m → Named w s at ns (name_field x e) → field_at w' t at ns false ≡ given (name_field x e)
  unfolding field_at
  name-moves k at ns x e five below n =
      let p = named_past w s at ns x e n in
      let here : get_or t at 0 ≡ get_or s at 0 = like.agree.low at five (omega (arith, p.1)) in
      let is-two : get_or t at 0 ≡ 2 = here ∙ n.tag in
      let past : past_at s at ≤ m = omega (arith, p.0) in
      rw (like.agree.long, lt-ltb at (length s) n.more, eq-eqb (get_or t at 0) 2 is-two) (name_agree s t m like.agree like.inside at five past w to ns ∙ n.is)

  move_by : (k : ℕ) (at : ℕ) (ns : List (List ℕ)) → 5 ≤ at
      → ((e : ℕ) (ms : List (List ℕ)) → 5 ≤ e → fields w k s e ms ≡ given r → fields w' k t e ms ≡ given (read_as to f' r))
      → (v : Field) → field_at w s at ns false ≡ given v → onward w (fields w k s) s ns v ≡ given r
      → (field_at w' t at ns false >>= onward w' (fields w' k t) t ns) ≡ given (read_as to f' r)
  move_by k at ns five ih (name_field x e) q h =
      let n = named w s at ns x e q in
      let p = named_past w s at ns x e n in
      let below : e ≤ m = omega (arith, rises w k s e (ns ++ (x ∷ [])) r h, first) in
      rw (name-moves k at ns x e five below n) (ih e (ns ++ (x ∷ [])) (omega (arith, p.1)) h)
  move_by k at ns five ih (formula_field f a e) q h =
      let c = closed w s ns f a e r h in
      let i = is_formula w s ns f a e r at q in
      let j = i.is in
      let p : at + 3 ≡ a = cc j in
      let pe : past_at s at ≡ e = cc j in
      let za : a ≡ r.first = ap (λ (x : Sheet). x.first) c.1 in
      let ze : e ≡ r.past = ap (λ (x : Sheet). x.past) c.1 in
      let zn : w.fittings ++ ns ≡ r.names = ap (λ (x : Sheet). x.names) c.1 in
      let here : at ≡ m = omega (arith, p, za, first) in
      let i' : IsFormula w s m ns (formula_field f a e) = rw here at i in
      let past : past_at s m ≡ r.past = rw here at (pe ∙ ze) in
      let Three : m + 3 ≡ r.first = sym first in
      let moved-field = formula-moves ns (formula_field f a e) i' (sym zn) in
      rw (here, moved-field, Three, past, end_moves ns r.past (omega (arith, ze, c.0)), zn)
  move_by k at ns five ih end_field q h = let z : ◌≡◌ {A = ℕ} 0 1 = cc in absurd (omega arith)

  fields_move : (k : ℕ) (at : ℕ) (ns : List (List ℕ)) → 5 ≤ at → fields w k s at ns ≡ given r → fields w' k t at ns ≡ given (read_as to f' r)
  unfolding fields
  fields_move zero at ns five h = let z : ◌≡◌ {A = ℕ} 0 1 = cc in absurd (omega arith)
  fields_move (suc k) at ns five h =
      let b = bind_given (field_at w s at ns false) (onward w (fields w k s) s ns) r h in
      move_by k at ns five (fields_move k) b.0 b.1 b.2

-- ---- the moved sheet

module _ (fs : List (List ℕ)) (s : List ℕ) (r : Sheet) (g : Own fs s r) where
  abbrev to : ℕ
  to = other r.edition

  abbrev m : ℕ
  m = r.first - 3

  abbrev front : List ℕ
  front = take r.first s

  abbrev heads : List ℕ
  heads = set (set front 4 to) m (formula_tag to)

  abbrev bytes : List ℕ
  bytes = code_bytes (codes_in to r.formula)

  eight : 8 ≤ r.first
  eight = omega (arith, g.follows, walk_on s 5 g.owned)

  within : r.first ≤ length s
  within = omega (arith, g.ends, g.some_bytes)

  front_long : length front ≡ r.first
  front_long = length-take-le r.first s within

  heads_long : length heads ≡ r.first
  heads_long = length-set (set front 4 to) m (formula_tag to) ∙ length-set front 4 to ∙ front_long

  formula_long : length (between s r.first r.past) ≡ r.past - r.first
  formula_long = length-take (r.past - r.first) (drop r.first s) ∙ rw (length-drop r.first s, g.ends) (omega arith)

  bytes_long : length bytes ≡ r.past - r.first
  bytes_long =
      let e = codes_long (between s r.first r.past) (rw formula_long g.even) in
      let c : length (codes_of (between s r.first r.past)) ≡ length (postfix r.formula) = ap length g.codes_are ∙ length-codes_in r.edition r.formula in
      let b = length-code_bytes (codes_in to r.formula) in
      let d = length-codes_in to r.formula in
      omega (arith, e, c, b, d, formula_long)

  moved_is : moved s r ≡ heads ++ bytes
  unfolding moved
  moved_is = refl

  pub moved_long : length (moved s r) ≡ length s
  moved_long = ap length moved_is ∙ length-append heads bytes ∙ omega (arith, heads_long, bytes_long, g.ends, within)

  moved-low : (i : ℕ) → i < r.first → get_or (moved s r) i 0 ≡ get_or heads i 0
  moved-low i h = ap (λ (l : List ℕ). get_or l i 0) moved_is ∙ get_or-append heads bytes 0 i (omega (arith, heads_long))

  moved_same : (i : ℕ) → i < r.first → (i ≡ 4 → ⊥) → (i ≡ m → ⊥) → get_or (moved s r) i 0 ≡ get_or s i 0
  moved_same i h a b = moved-low i h ∙ get_or-set_other (set front 4 to) m i (formula_tag to) 0 b ∙ get_or-set_other front 4 i to 0 a ∙ get_or-take r.first s i 0 h

  moved_four : get_or (moved s r) 4 0 ≡ to
  moved_four =
      let apart : 4 ≡ m → ⊥ = λ e. omega (arith, e, eight) in
      moved-low 4 (omega (arith, eight)) ∙ get_or-set_other (set front 4 to) m 4 (formula_tag to) 0 apart ∙ get_or-set_same front 4 to 0 (omega (arith, front_long, eight))

  moved_tag : get_or (moved s r) m 0 ≡ formula_tag to
  moved_tag = moved-low m (omega (arith, eight)) ∙ get_or-set_same (set front 4 to) m (formula_tag to) 0 (omega (arith, length-set front 4 to, front_long, eight))

  moved-after : drop r.first (moved s r) ≡ bytes
  moved-after = ap (drop r.first) moved_is ∙ drop_at heads bytes r.first heads_long

  -- the codes that stand in the moved sheet's bytes
  pub codes-written : codes_of (drop r.first (moved s r)) ≡ codes_in to r.formula
  codes-written = ap codes_of moved-after ∙ codes-bytes (codes_in to r.formula)

  first_three : r.first ≡ m + 3
  first_three = omega (arith, eight)

  -- the length that stands in the formula's field
  said_long : (at : ℕ) → at ≡ m → r.past ≡ past_at s at → length_at s at ≡ r.past - r.first
  unfolding past_at
  said_long at e p = omega (arith, e, p, first_three)

  moved_len : length_at (moved s r) m ≡ length_at s m
  unfolding length_at
  moved_len =
      let a = moved_same (m + 1) (omega (arith, eight)) (λ e. omega (arith, e, eight)) (λ e. omega (arith, e)) in
      let b = moved_same (m + 1 + 1) (omega (arith, eight)) (λ e. omega (arith, e, eight)) (λ e. omega (arith, e)) in
      rw (a, b)

  moved-bytes : length_at s m ≡ r.past - r.first → bytes_at (moved s r) m ≡ bytes
  unfolding bytes_at
  moved-bytes e = rw (moved_len, ← first_three, moved-after, e, ← bytes_long) (take_all (length bytes) bytes (omega arith))

  pub moved-agree : Agree s (moved s r) m
  moved-agree = record { long = moved_long; low = λ i l h. moved_same i (omega (arith, h, eight)) (λ q. omega (arith, q, l)) (λ q. omega (arith, q, h)) }

  moved_like : length_at s m ≡ r.past - r.first → Like s (moved s r) m to r.formula
  moved_like e =
      record {
        agree = moved-agree;
        inside = omega (arith, within);
        tag = moved_tag;
        high = omega (arith, g.most_edition);
        len = moved_len;
        codes_are = ap codes_of (moved-bytes e) ∙ codes-bytes (codes_in to r.formula);
      }

  header-moves : header 2 s ≡ given r.edition → header 2 (moved s r) ≡ given to
  unfolding header length_at
  header-moves h =
      let i = header-given 2 s r.edition h in
      let two : two_bytes_at s 1 ≡ 2 = i.two in
      let zero_at = moved_same 0 (omega (arith, eight)) (λ e. omega (arith, e)) (λ e. omega (arith, e, eight)) in
      let one_at = moved_same 1 (omega (arith, eight)) (λ e. omega (arith, e)) (λ e. omega (arith, e, eight)) in
      let two_at = moved_same 2 (omega (arith, eight)) (λ e. omega (arith, e)) (λ e. omega (arith, e, eight)) in
      let three-at = moved_same 3 (omega (arith, eight)) (λ e. omega (arith, e)) (λ e. omega (arith, e, eight)) in
      let low : two_bytes_at s 3 ≤ 2 = i.most in
      let said : two_bytes_at (moved s r) 3 ≡ to = rw (three-at, moved_four) (omega (arith, low)) in
      rw (
        moved_long,
        lt-ltb 0 (length s) (omega (arith, i.inside)),
        zero_at,
        eq-eqb (get_or s 0 0) 1 i.tag,
        le-leb 3 (length s) (omega (arith, i.inside)),
        one_at,
        two_at,
        eq-eqb (two_bytes_at s 1) 2 two,
        le-leb 5 (length s) i.inside,
        said,
        le-leb 1 to (omega (arith, g.most_edition)),
        le-leb to 2 (omega (arith, g.least_edition)),
      )

-- ---- there

module _ (fs : List (List ℕ)) (s : List ℕ) (r : Sheet) (good : GoodNames fs) (h : own fs s ≡ given r) where
  owned : Own fs s r
  owned = own_guaranteed fs s r good h

  -- its header says the edition, and its formula's field is as long as the formula
  reads : (said : ℕ) × (header 2 s ≡ given said) × (fields (record { fittings = fs; edition = said }) 257 s 5 [] ≡ given r)
  unfolding own
  reads = bind_given (header 2 s) (λ said. fields (record { fittings = fs; edition = said }) 257 s 5 []) r h

  pub said_edition : header 2 s ≡ given r.edition
  said_edition =
      let i = header-given 2 s reads.0 reads.1 in
      let j = i.is in
      let two : two_bytes_at s 3 ≡ reads.0 = cc j in
      let low : two_bytes_at s 3 ≤ 2 = i.most in
      let said : reads.0 ≡ r.edition = omega (arith, two, low, owned.said) in
      reads.1 ∙ ap given said

  pub field_long : length_at s (r.first - 3) ≡ r.past - r.first
  field_long = said_long fs s r owned (r.first - 3) refl (field_past (record { fittings = fs; edition = reads.0 }) 257 s 5 [] r reads.2)

  -- a sheet like it, with a header of its own
  pub own_like : (t : List ℕ) (to : ℕ) (f : Formula) → header 2 t ≡ given to → Over (length r.names) f → Like s t (r.first - 3) to f → own fs t ≡ given (read_as to f r)
  unfolding own
  own_like t to f head over like =
      rw head (fields_move (record { fittings = fs; edition = reads.0 }) s t to (r.first - 3) r (first_three fs s r owned) f over like owned 257 5 [] (omega arith) reads.2)

  own-moves : own fs (moved s r) ≡ given (in_edition (other r.edition) r)
  own-moves =
      own_like (moved s r) (other r.edition) r.formula (header-moves fs s r owned said_edition) owned.over (moved_like fs s r owned field_long)

-- A moved sheet is read: the same names, the same formula at the same place, the other edition.
pub reading-moves : (c : Sheets) (r : Sheet) → reading c ≡ given r → reading (moved_in c r) ≡ given (in_edition (other r.edition) r)
unfolding reading
reading-moves (alone s) r h = own-moves [] s r GoodNames-none h
reading-moves (beside f s) r h =
    let b = bind_given (of_fittings (fitting_names f)) (λ names. own names s) r h in
    let g = fitted f b.0 (fittings-given (fitting_names f) b.0 b.1) in
    rw b.1 (own-moves b.0 s r g.good_names b.2)

-- ---- and back

bytes-codes : (p : List ℕ) → ((i : ℕ) → get_or p i 0 < 256) → length p % 2 ≡ 0 → code_bytes (codes_of p) ≡ p
unfolding codes_of code_bytes
bytes-codes [] small even = refl
bytes-codes (h ∷ []) small even = absurd (omega (arith, even))
bytes-codes (h ∷ l ∷ p) small even =
    let a : l < 256 = small 1 in
    let x : (h * 256 + l) / 256 ≡ h = omega (arith, a) in
    let y : (h * 256 + l) % 256 ≡ l = omega (arith, a) in
    let rest = bytes-codes p (λ i. small (suc (suc i))) (omega (arith, even)) in
    rw (x, y, rest)

module _ (fs : List (List ℕ)) (s : List ℕ) (r : Sheet) (g : Own fs s r) (b : Bytes s) where
  back_edition : other (other r.edition) ≡ r.edition
  back_edition = omega (arith, g.least_edition, g.most_edition)

  formula-bytes : between s r.first r.past ≡ drop r.first s
  formula-bytes = take_all (r.past - r.first) (drop r.first s) (omega (arith, length-drop r.first s, g.ends))

  back_codes : code_bytes (codes_in r.edition r.formula) ≡ drop r.first s
  back_codes =
      let even : length (drop r.first s) % 2 ≡ 0 = rw (← formula-bytes, formula_long fs s r g) g.even in
      ap code_bytes (sym g.codes_are) ∙ ap (λ (p : List ℕ). code_bytes (codes_of p)) formula-bytes
      ∙ bytes-codes (drop r.first s) (λ i. rw (get_or-drop r.first s i 0) (b.small (r.first + i))) even

  heads_back : (i : ℕ) (x y : Bool) → eqb i 4 ≡ x → eqb i (r.first - 3) ≡ y → i < r.first
      → get_or (set (set (heads fs s r g) 4 r.edition) (r.first - 3) (formula_tag r.edition)) i 0 ≡ get_or s i 0
  heads_back i x true p q h =
      let e : i ≡ r.first - 3 = eqb-true _ _ q in
      rw e (get_or-set_same (set (heads fs s r g) 4 r.edition) (r.first - 3) (formula_tag r.edition) 0 (omega (arith, length-set (heads fs s r g) 4 r.edition, heads_long fs s r g, eight fs s r g)) ∙ sym g.tagged)
  heads_back i true false p q h =
      let e : i ≡ 4 = eqb-true _ _ p in
      let ne : i ≡ r.first - 3 → ⊥ = eqb-false _ _ q in
      get_or-set_other (set (heads fs s r g) 4 r.edition) (r.first - 3) i (formula_tag r.edition) 0 ne
      ∙ rw e (get_or-set_same (heads fs s r g) 4 r.edition 0 (omega (arith, heads_long fs s r g, eight fs s r g)) ∙ sym g.said)
  heads_back i false false p q h =
      let a : i ≡ 4 → ⊥ = eqb-false _ _ p in
      let ne : i ≡ r.first - 3 → ⊥ = eqb-false _ _ q in
      get_or-set_other (set (heads fs s r g) 4 r.edition) (r.first - 3) i (formula_tag r.edition) 0 ne
      ∙ get_or-set_other (heads fs s r g) 4 i r.edition 0 a
      ∙ sym (moved-low fs s r g i h)
      ∙ moved_same fs s r g i h a ne

  front_back : set (set (heads fs s r g) 4 r.edition) (r.first - 3) (formula_tag r.edition) ≡ take r.first s
  front_back =
      let long : length (set (set (heads fs s r g) 4 r.edition) (r.first - 3) (formula_tag r.edition)) ≡ r.first =
      length-set (set (heads fs s r g) 4 r.edition) (r.first - 3) (formula_tag r.edition) ∙ length-set (heads fs s r g) 4 r.edition ∙ heads_long fs s r g in
      ext_get_or 0 (set (set (heads fs s r g) 4 r.edition) (r.first - 3) (formula_tag r.edition)) (take r.first s) (long ∙ sym (front_long fs s r g))
      (λ i h. heads_back i (eqb i 4) (eqb i (r.first - 3)) refl refl (omega (arith, h, long)) ∙ sym (get_or-take r.first s i 0 (omega (arith, h, long))))

  moved_front : take r.first (moved s r) ≡ heads fs s r g
  moved_front = ap (take r.first) (moved_is fs s r g) ∙ take_at (heads fs s r g) (bytes fs s r g) r.first (heads_long fs s r g)

  there_and_back : moved (moved s r) (in_edition (other r.edition) r) ≡ s
  unfolding moved
  there_and_back =
      rw (moved_front, back_edition, front_back, back_codes) (take-append-drop r.first s)

-- A moved sheet's bytes, moved again, are the sheet's.
pub bytes_back : (c : Sheets) (r : Sheet) → reading c ≡ given r → Bytes (own_sheet c) → moved (moved (own_sheet c) r) (in_edition (other r.edition) r) ≡ own_sheet c
bytes_back c r h b = let g = guaranteed c r h in there_and_back g.fittings (own_sheet c) r g.own b
