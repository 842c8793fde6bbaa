-- A prefix of a customer's sheet: a proper one of a sheet that is read is refused 1 at its own length; one of 13,063 bytes gives what the sheet gives.
use Prim.Native.Nat.{ℕ, zero, suc, ◌+◌, ◌*◌, ◌%◌, ◌≤◌, ◌<◌}
use native.Mathlib.Omega.{arith}
use mathlib.Core.Path.{◌≡◌, refl, ◌∙◌}
use mathlib.Core.Bool.{Bool, true, false, cond}
use mathlib.Core.List.{List, [], ◌∷◌, ◌++◌}
use mathlib.Core.Logic.{◌⊎◌, inl, inr}
use lib.ListN.{length, get_or, take, drop, length-append}
use lib.Seq.{length-take-le, get_or-take, take-take, take_all}
use lib.Dec.{ltb, leb, eqb}
use borrow.Author.Tests.{leb-true, leb-false, ltb-true, ltb-false, le-leb, lt-leb, lt-ltb}
use Rattle.outcome.specs.Outcome.{Outcome, given, refused, unfit, need, ◌>>◌, ◌>>=◌}
use Rattle.formula.specs.Formula.{Formula}
use Rattle.sheet.specs.Sheet.{Sheet, Setting, Field, name_field, formula_field, end_field, most_names, longest_name, longest_formula, two_bytes_at, length_at, past_at, bytes_at, formula_tag, header, name_at, formula_at, field_at, onward, fields, own}
use Rattle.sheet.specs.Guaranteed.{most_bytes}
use Rattle.outcome.proofs.Questions.{then_given, bind_given}
use Rattle.sheet.proofs.Fields.{IsName, IsFormula, field-given, end_given}

-- What a prefix of k bytes gives, o', beside what the sheet gives, o: 1 at its length, which is below m, or the same.
data Cut {A : Type 0} (k m : ℕ) (o o' : Outcome A) : Type 0 where
  short : k < m → o' ≡ refused 1 k → Cut k m o o'
  whole : o' ≡ o → Cut k m o o'

-- ---- a question more: one that asks the same of both, or one for the sheet's length

module _ {A : Type 0} (k m : ℕ) (o o' : Outcome A) where
  cut-same : (b : Bool) (i p : ℕ) → (b ≡ true → Cut k m o o') → Cut k m (need b i p >> o) (need b i p >> o')
  cut-same true i p c = c refl
  cut-same false i p c = whole refl

  module _ (n : ℕ) (in_sheet : k ≤ n) (e : ℕ) where
    leb_by : (b : Bool) → leb e k ≡ b → e ≤ m → (e ≤ k → Cut k m o o') → Cut k m (need (leb e n) 1 n >> o) (need b 1 k >> o')
    leb_by true q near c = let h : e ≤ k = leb-true e k q in let g : e ≤ n = omega arith in rw (le-leb e n g) (c h)
    leb_by false q near c = let h : k < e = leb-false e k q in short (omega arith) refl

    cut-leb : e ≤ m → (e ≤ k → Cut k m o o') → Cut k m (need (leb e n) 1 n >> o) (need (leb e k) 1 k >> o')
    cut-leb near c = leb_by (leb e k) refl near c

    ltb_by : (b : Bool) → ltb e k ≡ b → e < m → (e < k → Cut k m o o') → Cut k m (need (ltb e n) 1 n >> o) (need b 1 k >> o')
    ltb_by true q near c = let h : e < k = ltb-true e k q in let g : e < n = omega arith in rw (lt-ltb e n g) (c h)
    ltb_by false q near c = let h : k ≤ e = ltb-false e k q in short (omega arith) refl

    cut-ltb : e < m → (e < k → Cut k m o o') → Cut k m (need (ltb e n) 1 n >> o) (need (ltb e k) 1 k >> o')
    cut-ltb near c = ltb_by (ltb e k) refl near c

cut-cond : {A : Type 0} (k m : ℕ) (b : Bool) (o p o' p' : Outcome A) → Cut k m o o' → Cut k m p p' → Cut k m (cond b o p) (cond b o' p')
cut-cond k m true o p o' p' c d = c
cut-cond k m false o p o' p' c d = d

-- ---- a field of a prefix

cut-part : (a n k : ℕ) (s : List ℕ) → a + n ≤ k → take n (drop a (take k s)) ≡ take n (drop a s)
cut-part zero n k s h = take-take n k s (omega arith)
cut-part (suc a) n zero s h = absurd (omega arith)
cut-part (suc a) n (suc k) [] h = refl
cut-part (suc a) n (suc k) (x ∷ s) h = cut-part a n k s (omega arith)

past_near : (s : List ℕ) (at n : ℕ) → length_at s at ≤ n → past_at s at ≤ at + 3 + n
unfolding past_at
past_near s at n h = omega arith

-- No question for the field at an offset asks for more bytes than up to here.
abbrev reach : ℕ → ℕ
reach at = at + 3 + longest_formula

module _ (w : Setting) (s : List ℕ) (k : ℕ) where
  cut-two : (at : ℕ) → at + 2 ≤ k → two_bytes_at (take k s) at ≡ two_bytes_at s at
  cut-two at h =
      let a : at < k = omega arith in
      let b : at + 1 < k = omega arith in
      rw (get_or-take k s at 0 a, get_or-take k s (at + 1) 0 b)

  cut-length : (at : ℕ) → at + 3 ≤ k → length_at (take k s) at ≡ length_at s at
  unfolding length_at
  cut-length at h = cut-two (at + 1) (omega arith)

  cut-past : (at : ℕ) → at + 3 ≤ k → past_at (take k s) at ≡ past_at s at
  unfolding past_at
  cut-past at h = rw (cut-length at h)

  cut-bytes : (at : ℕ) → at + 3 ≤ k → past_at s at ≤ k → bytes_at (take k s) at ≡ bytes_at s at
  unfolding past_at bytes_at
  cut-bytes at h g = rw (cut-length at h) (cut-part (at + 3) (length_at s at) k s g)

  module _ (in_sheet : k ≤ length s) where
    cut-header : Cut k 5 (header 2 s) (header 2 (take k s))
    unfolding header
    cut-header =
        rw (length-take-le k s in_sheet)
        (cut-ltb k 5 _ _ (length s) in_sheet 0 (omega arith) (λ h.
        rw (get_or-take k s 0 0 h)
        (cut-same k 5 _ _ (eqb (get_or s 0 0) 1) 2 0 (λ q1.
        cut-leb k 5 _ _ (length s) in_sheet 3 (omega arith) (λ h3.
        rw (cut-length 0 h3)
        (cut-same k 5 _ _ (eqb (length_at s 0) 2) 3 0 (λ q2.
        cut-leb k 5 _ _ (length s) in_sheet 5 (omega arith) (λ h5.
        rw (cut-two 3 h5) (whole refl)))))))))

    cut-name : (at : ℕ) (ns : List (List ℕ)) → Cut k (reach at) (name_at w s at ns) (name_at w (take k s) at ns)
    unfolding name_at
    cut-name at ns =
        rw (length-take-le k s in_sheet)
        (cut-same k (reach at) _ _ (ltb (length w.fittings + length ns) most_names) 6 at (λ q1.
        cut-leb k (reach at) _ _ (length s) in_sheet (at + 3) (omega arith) (λ h.
        rw (cut-length at h, cut-past at h)
        (cut-same k (reach at) _ _ (leb 1 (length_at s at)) 4 at (λ q2.
        cut-same k (reach at) _ _ (leb (length_at s at) longest_name) 4 at (λ q3.
        cut-leb k (reach at) _ _ (length s) in_sheet (past_at s at) (omega (arith, past_near s at longest_name (leb-true _ _ q3))) (λ g.
        rw (cut-bytes at h g) (whole refl))))))))

    cut-formula : (at : ℕ) (ns : List (List ℕ)) → Cut k (reach at) (formula_at w s at ns) (formula_at w (take k s) at ns)
    unfolding formula_at
    cut-formula at ns =
        rw (length-take-le k s in_sheet)
        (cut-same k (reach at) _ _ (ltb 0 (length ns)) 2 at (λ q1.
        cut-leb k (reach at) _ _ (length s) in_sheet (at + 3) (omega arith) (λ h.
        rw (cut-length at h, cut-past at h)
        (cut-same k (reach at) _ _ (leb (length_at s at) longest_formula) 6 at (λ q2.
        cut-same k (reach at) _ _ (leb 1 (length_at s at)) 7 at (λ q3.
        cut-same k (reach at) _ _ (eqb (length_at s at % 2) 0) 7 at (λ q4.
        cut-leb k (reach at) _ _ (length s) in_sheet (past_at s at) (past_near s at longest_formula (leb-true _ _ q2)) (λ g.
        rw (cut-bytes at h g) (whole refl)))))))))

    cut_field : (at : ℕ) (ns : List (List ℕ)) → Cut k (reach at) (field_at w s at ns false) (field_at w (take k s) at ns false)
    unfolding field_at
    cut_field at ns =
        rw (length-take-le k s in_sheet)
        (cut-ltb k (reach at) _ _ (length s) in_sheet at (omega arith) (λ h.
        rw (get_or-take k s at 0 h)
        (cut-cond k (reach at) (eqb (get_or s at 0) 2) _ _ _ _ (cut-name at ns)
        (cut-cond k (reach at) (eqb (get_or s at 0) (formula_tag w.edition)) _ _ _ _ (cut-formula at ns) (whole refl)))))

-- ---- a proper prefix of a sheet that is read

module _ (w : Setting) (s : List ℕ) (k : ℕ) (proper : k < length s) (r : Sheet) where
  in_sheet : k ≤ length s
  in_sheet = omega arith

  -- the formula would end within the prefix, and so before the sheet's end
  not_all : (f : Formula) (at a e : ℕ) (ns : List (List ℕ)) → length s ≤ e
      → IsName w (take k s) at ns (formula_field f a e) ⊎ IsFormula w (take k s) at ns (formula_field f a e) → ⊥
  not_all f at a e ns l (inl i) = let h = i.is in let z : ◌≡◌ {A = ℕ} 0 1 = cc h in omega arith
  not_all f at a e ns l (inr i) =
      let h = i.is in
      let q : past_at (take k s) at ≡ e = cc h in
      omega (arith, q, l, i.inside, length-take-le k s in_sheet)

  module _ (on on' : ℕ → List (List ℕ) → Outcome Sheet) (ih : (e : ℕ) (ms : List (List ℕ)) → on e ms ≡ given r → on' e ms ≡ refused 1 k)
      (at : ℕ) (ns : List (List ℕ)) where
    after-whole : (v : Field) → field_at w (take k s) at ns false ≡ given v → onward w on s ns v ≡ given r → onward w on' (take k s) ns v ≡ refused 1 k
    after-whole (name_field x e) q h = ih e (ns ++ (x ∷ [])) h
    after-whole (formula_field f a e) q h =
        let b = then_given (field_at w s e ns true) (given (record { edition = w.edition; names = w.fittings ++ ns; formula = f; first = a; past = e })) r h in
        absurd (not_all f at a e ns (end_given w s e ns b.0 b.1).0 (field-given w (take k s) at ns (formula_field f a e) q))
    after-whole end_field q h = let z : ◌≡◌ {A = ℕ} 0 1 = cc in absurd (omega arith)

    after-cut : (v : Field) → field_at w s at ns false ≡ given v → onward w on s ns v ≡ given r → Cut k (reach at) (field_at w s at ns false) (field_at w (take k s) at ns false)
        → (field_at w (take k s) at ns false >>= onward w on' (take k s) ns) ≡ refused 1 k
    after-cut v q h (short l c) = rw c
    after-cut v q h (whole c) = rw (c, q) (after-whole v (c ∙ q) h)

  fields-cut : (n : ℕ) (at : ℕ) (ns : List (List ℕ)) → fields w n s at ns ≡ given r → fields w n (take k s) at ns ≡ refused 1 k
  unfolding fields
  fields-cut zero at ns h = let z : ◌≡◌ {A = ℕ} 0 1 = cc in absurd (omega arith)
  fields-cut (suc n) at ns h =
      let b = bind_given (field_at w s at ns false) (onward w (fields w n s) s ns) r h in
      after-cut (fields w n s) (fields w n (take k s)) (fields-cut n) at ns b.0 b.1 b.2 (cut_field w s k in_sheet at ns)

-- The fields after a header that said an edition, beside the fittings' names.
abbrev after-header : List (List ℕ) → List ℕ → ℕ → Outcome Sheet
after-header fs s said = fields (record { fittings = fs; edition = said }) (most_names + 1) s 5 []

module _ (fs : List (List ℕ)) (s : List ℕ) (k : ℕ) (proper : k < length s) (r : Sheet) where
  header-cut : (said : ℕ) → header 2 s ≡ given said → after-header fs s said ≡ given r → Cut k 5 (header 2 s) (header 2 (take k s))
      → (header 2 (take k s) >>= after-header fs (take k s)) ≡ refused 1 k
  header-cut said q h (short l c) = rw c
  header-cut said q h (whole c) = rw (c, q) (fields-cut (record { fittings = fs; edition = said }) s k proper r (most_names + 1) 5 [] h)

  pub prefix-refused : own fs s ≡ given r → own fs (take k s) ≡ refused 1 k
  unfolding own
  prefix-refused h =
      let b = bind_given (header 2 s) (after-header fs s) r h in
      header-cut b.0 b.1 b.2 (cut-header (record { fittings = fs; edition = b.0 }) s k (omega arith))

-- ---- a prefix of 13,063 bytes at least

module _ (w : Setting) (s : List ℕ) (k : ℕ) (in_sheet : k ≤ length s) (enough : most_bytes < k) where
  field-same : (at : ℕ) (ns : List (List ℕ)) → at ≤ 5 + 35 * most_names → Cut k (reach at) (field_at w s at ns false) (field_at w (take k s) at ns false)
      → field_at w (take k s) at ns false ≡ field_at w s at ns false
  field-same at ns near (short l c) = absurd (omega arith)
  field-same at ns near (whole c) = c

  -- after a formula that ends before byte 13,063 there are further bytes in both
  end_same : (e : ℕ) (ns : List (List ℕ)) → e ≤ most_bytes → field_at w (take k s) e ns true ≡ field_at w s e ns true
  unfolding field_at
  end_same e ns near = rw (length-take-le k s in_sheet, lt-leb (length s) e (omega arith), lt-leb k e (omega arith))

  module _ (on on' : ℕ → List (List ℕ) → Outcome Sheet)
      (ih : (e : ℕ) (ms : List (List ℕ)) → e ≤ 5 + 35 * length ms → length ms ≤ most_names → on' e ms ≡ on e ms)
      (at : ℕ) (ns : List (List ℕ)) (near : at ≤ 5 + 35 * length ns) (few : length ns ≤ most_names) where
    onward-same : (v : Field) → IsName w s at ns v ⊎ IsFormula w s at ns v → onward w on' (take k s) ns v ≡ onward w on s ns v
    unfolding past_at
    onward-same (name_field x e) (inl i) =
        let h = i.is in
        let q : past_at s at ≡ e = cc h in
        let len = length-append ns (x ∷ []) in
        ih e (ns ++ (x ∷ [])) (omega (arith, q, len, near, i.few)) (omega (arith, len, i.room))
    onward-same (name_field x e) (inr i) = let h = i.is in let z : ◌≡◌ {A = ℕ} 0 1 = cc h in absurd (omega arith)
    onward-same (formula_field f a e) (inl i) = let h = i.is in let z : ◌≡◌ {A = ℕ} 0 1 = cc h in absurd (omega arith)
    onward-same (formula_field f a e) (inr i) =
        let h = i.is in
        let q : past_at s at ≡ e = cc h in
        rw (end_same e ns (omega (arith, q, near, few, i.short)))
    onward-same end_field (inl i) = let h = i.is in let z : ◌≡◌ {A = ℕ} 0 1 = cc h in absurd (omega arith)
    onward-same end_field (inr i) = let h = i.is in let z : ◌≡◌ {A = ℕ} 0 1 = cc h in absurd (omega arith)

    after_same : (o : Outcome Field) → field_at w s at ns false ≡ o → (o >>= onward w on' (take k s) ns) ≡ (o >>= onward w on s ns)
    after_same (given v) q = onward-same v (field-given w s at ns v q)
    after_same (refused i p) q = refl
    after_same (unfit i p) q = refl

  fields-same : (n : ℕ) (at : ℕ) (ns : List (List ℕ)) → at ≤ 5 + 35 * length ns → length ns ≤ most_names → fields w n (take k s) at ns ≡ fields w n s at ns
  unfolding fields
  fields-same zero at ns near few = refl
  fields-same (suc n) at ns near few =
      rw (field-same at ns (omega arith) (cut_field w s k in_sheet at ns))
      (after_same (fields w n s) (fields w n (take k s)) (fields-same n) at ns near few (field_at w s at ns false) refl)

module _ (fs : List (List ℕ)) (s : List ℕ) (k : ℕ) (in_sheet : k ≤ length s) (enough : most_bytes < k) where
  header-same : Cut k 5 (header 2 s) (header 2 (take k s)) → header 2 (take k s) ≡ header 2 s
  header-same (short l c) = absurd (omega arith)
  header-same (whole c) = c

  after-header-same : (o : Outcome ℕ) → (o >>= after-header fs (take k s)) ≡ (o >>= after-header fs s)
  after-header-same (given said) = fields-same (record { fittings = fs; edition = said }) s k in_sheet enough (most_names + 1) 5 [] (omega arith) (omega arith)
  after-header-same (refused i p) = refl
  after-header-same (unfit i p) = refl

  cut-own : own fs (take k s) ≡ own fs s
  unfolding own
  cut-own = rw (header-same (cut-header (record { fittings = fs; edition = 1 }) s k in_sheet)) (after-header-same (header 2 s))

either_way : (fs : List (List ℕ)) (s : List ℕ) (k : ℕ) → most_bytes < k → (b : Bool) → leb k (length s) ≡ b → own fs (take k s) ≡ own fs s
either_way fs s k enough true q = cut-own fs s k (leb-true _ _ q) enough
either_way fs s k enough false q = let h : length s < k = leb-false _ _ q in rw (take_all k s (omega arith))

pub prefix-enough : (fs : List (List ℕ)) (s : List ℕ) (k : ℕ) → most_bytes < k → own fs (take k s) ≡ own fs s
prefix-enough fs s k enough = either_way fs s k enough (leb k (length s)) refl
