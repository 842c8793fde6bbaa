-- Start rows: whether a shape is inside, and the next row with one.
use Prim.Native.Nat.{ℕ, zero, suc, ◌+◌, ◌-◌, ◌*◌, ◌<◌, ◌≤◌, max}
use native.Mathlib.Nat.{not-suc-le-zero, mul-le-mul_right}
use native.Mathlib.Omega.{arith}
use mathlib.Core.Path.{◌≡◌, refl, sym, ◌∙◌}
use mathlib.Core.Bool.{Bool, true, false, not, ◌&&◌, ◌||◌, false≢true, true≢false}
use mathlib.Core.List.{List}
use borrow.Author.Tests.{eqb-true, eqb-false, eq-eqb, lt-ltb, ltb-true, ltb-false}
use lib.Dec.{eqb, ltb}
use lib.ListN.{get_or, length, drop, take, length-drop}
use lib.Seq.{get_or-drop, get_or-take, length-take-le}
use Rattle.formula.specs.States.{State}
use Rattle.lines.specs.Lines.{start_state}
use Rattle.lines.specs.Columns.{any_inside}
use Rattle.line_columns.specs.Planning.{NextInside, WholeRows, RowThere, Occupied}

any_none : (n : ℕ) (state : State) → ((s : ℕ) → s < n → state s ≡ false) → any_inside n state ≡ false
unfolding any_inside
any_none zero state h = refl
any_none (suc n) state h = rw (h n (omega arith)) (any_none n state (λ s k. h s (omega arith)))

any_some : (n : ℕ) (state : State) (s : ℕ) → s < n → state s ≡ true → any_inside n state ≡ true
unfolding any_inside
any_some zero state s h e = absurd (not-suc-le-zero h)
any_some (suc n) state s h e = by (ltb s n) refl (λ k. any_some n state s k e)
  where
    or_yes : (b : Bool) → (b || true) ≡ true
    or_yes true = refl
    or_yes false = refl

    by : (t : Bool) → ltb s n ≡ t → (s < n → any_inside n state ≡ true) → (state n || any_inside n state) ≡ true
    by true k ih = rw (ih (ltb-true s n k)) (or_yes (state n))
    by false k ih = let same : s ≡ n = omega (arith, ltb-false s n k) in rw (← same, e)

-- of the first i bytes of a row m is the greatest, or 0
pub record Greatest (row : List ℕ) (i m : ℕ) : Type 0 where
  pub none : m ≡ 0 → (s : ℕ) → s < i → get_or row s 0 ≡ 0
  pub some : (m ≡ 0 → ⊥) → (s : ℕ) × (s < i) × (get_or row s 0 ≡ 0 → ⊥)

pub greatest_none : (row : List ℕ) → Greatest row 0 0
greatest_none row = record { none = λ e s h. absurd (omega arith); some = λ n. absurd (n refl) }

pub greatest_more : {row : List ℕ} {i m m' : ℕ} → Greatest row i m → m' ≡ max m (get_or row i 0) → Greatest row (i + 1) m'
greatest_more {row} {i} {m} {m'} g e = record { none = none; some = some }
  where
    none : m' ≡ 0 → (s : ℕ) → s < i + 1 → get_or row s 0 ≡ 0
    none z s h = by (ltb s i) refl
      where
        by : (t : Bool) → ltb s i ≡ t → get_or row s 0 ≡ 0
        by true k = g.none (omega arith) s (ltb-true s i k)
        by false k = let same : s ≡ i = omega (arith, ltb-false s i k) in rw same (omega arith)

    some : (m' ≡ 0 → ⊥) → (s : ℕ) × (s < i + 1) × (get_or row s 0 ≡ 0 → ⊥)
    some n = by (eqb (get_or row i 0) 0) refl
      where
        by : (t : Bool) → eqb (get_or row i 0) 0 ≡ t → (s : ℕ) × (s < i + 1) × (get_or row s 0 ≡ 0 → ⊥)
        by true k = let f = g.some (λ z. n (omega (arith, eqb-true (get_or row i 0) 0 k))) in (f.0, omega (arith, f.1), f.2)
        by false k = (i, omega arith, eqb-false (get_or row i 0) 0 k)

pub occupied : (row : List ℕ) (i m : ℕ) → Greatest row i m → i ≡ length row → Occupied row (not (eqb m 0))
occupied row i m g l = by (eqb m 0) refl
  where
    by : (t : Bool) → eqb m 0 ≡ t → Occupied row (not t)
    by true e = record { yes = λ h. absurd (false≢true h); no = λ h s k. g.none (eqb-true m 0 e) s (omega arith) }
    by false e = record { yes = λ h. let f = g.some (eqb-false m 0 e) in (f.0, omega (arith, f.1), f.2); no = λ h. absurd (true≢false h) }

module _ (names : ℕ) (rows : List ℕ) (q : ℕ) (there : RowThere names rows q) where
  abbrev row : List ℕ
  row = take (q * names + names - q * names) (drop (q * names) rows)

  byte : (s : ℕ) → s < names → get_or row s 0 ≡ get_or rows (q * names + s) 0
  byte s h = get_or-take (q * names + names - q * names) (drop (q * names) rows) s 0 (omega arith) ∙ get_or-drop (q * names) rows s 0

  long : length row ≡ names
  long = omega (arith, length-take-le (q * names + names - q * names) (drop (q * names) rows) (omega (arith, length-drop (q * names) rows, there.fits)))

  pub row_inside : (r : Bool) → Occupied (take (q * names + names - q * names) (drop (q * names) rows)) r → r ≡ any_inside names (start_state names rows q)
  row_inside true o =
      let f = o.yes refl in
      let h : f.0 < names = omega (arith, f.1, long) in
      let one : get_or rows (q * names + f.0) 0 ≡ 1 = omega (arith, there.bytes (q * names + f.0), some f.0 h f.2) in
      sym (any_some names (start_state names rows q) f.0 h (rw (lt-ltb f.0 names h, eq-eqb (get_or rows (q * names + f.0) 0) 1 one)))
    where
      some : (s : ℕ) → s < names → (get_or row s 0 ≡ 0 → ⊥) → 0 < get_or rows (q * names + s) 0
      some s h ne = positive (get_or rows (q * names + s) 0) (λ z. ne (byte s h ∙ z))
        where
          positive : (n : ℕ) → (n ≡ 0 → ⊥) → 0 < n
          positive n h = omega (arith, h)
  row_inside false o = sym (any_none names (start_state names rows q) off)
    where
      and_no : (b : Bool) → (b && false) ≡ false
      and_no true = refl
      and_no false = refl

      off : (s : ℕ) → s < names → start_state names rows q s ≡ false
      off s h =
          let none : get_or rows (q * names + s) 0 ≡ 0 = sym (byte s h) ∙ o.no refl s (omega (arith, long)) in
          rw none (and_no (ltb s names))

-- ---- the next row

-- of count rows, those from r to q have no shape inside
pub record Passed (names : ℕ) (rows : List ℕ) (count r q : ℕ) : Type 0 where
  pub from : r ≤ q
  pub row : q ≤ count
  pub none : (l : ℕ) → r ≤ l → l < q → any_inside names (start_state names rows l) ≡ false

module _ (names : ℕ) (rows : List ℕ) (count : ℕ) (whole : WholeRows names rows count) where
  pub row_there : (q : ℕ) → q < count → RowThere names rows q
  row_there q h =
      let more : (q + 1) * names ≤ count * names = mul-le-mul_right names (omega arith) in
      let same : (q + 1) * names ≡ q * names + names = omega arith in
      record { fits = omega (arith, whole.whole); bytes = whole.bytes }

  pub passed_none : (r : ℕ) → r ≤ count → Passed names rows count r r
  passed_none r h = record { from = omega arith; row = h; none = λ l a b. absurd (omega arith) }

  pub passed_more : (r q : ℕ) (b : Bool) → Passed names rows count r q → q < count → b ≡ any_inside names (start_state names rows q) → b ≡ false → Passed names rows count r (q + 1)
  passed_more r q b p h e z = record { from = omega (arith, p.from); row = omega arith; none = none }
    where
      none : (l : ℕ) → r ≤ l → l < q + 1 → any_inside names (start_state names rows l) ≡ false
      none l a k = by (ltb l q) refl
        where
          by : (t : Bool) → ltb l q ≡ t → any_inside names (start_state names rows l) ≡ false
          by true j = p.none l a (ltb-true l q j)
          by false j = let same : l ≡ q = omega (arith, ltb-false l q j) in rw same (sym e ∙ z)

  pub next_found : (r q : ℕ) (b : Bool) → Passed names rows count r q → q < count → b ≡ any_inside names (start_state names rows q) → b ≡ true → NextInside names rows r q
  next_found r q b p h e z = record { from = p.from; row = omega (arith, whole.are); none = p.none; inside = λ k. sym e ∙ z }

  pub next_none : (r q : ℕ) → Passed names rows count r q → count ≤ q → NextInside names rows r count
  next_none r q p h =
      let z : count ≡ q = omega (arith, p.row) in
      record { from = omega (arith, p.from); row = omega (arith, whole.are); none = λ l a k. p.none l a (omega arith); inside = λ k. absurd (omega (arith, whole.are)) }
