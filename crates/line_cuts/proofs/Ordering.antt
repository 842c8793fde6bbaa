-- 10, 15 and 11 of the parts' crossings, and of the whole's.
use Prim.Native.Nat.{ℕ, suc, ◌+◌, ◌<◌, ◌≤◌}
use native.Mathlib.Omega.{arith}
use mathlib.Core.Path.{◌≡◌, refl, sym, ap, ◌∙◌}
use mathlib.Core.Bool.{Bool, true, false, not}
use mathlib.Core.List.{List, [], ◌∷◌, ◌++◌, map}
use mathlib.Core.Option.{Option, none, some}
use borrow.Author.Tests.{ne_eqb, le-ltb, lt-leb}
use lib.Dec.{ltb}
use lib.ListN.{length}
use Rattle.outcome.specs.Outcome.{Outcome, given, need, ◌>>◌}
use Rattle.lines.specs.Lines.{Crossing, falls, strays, ordered}
use Rattle.line_cuts.specs.Places.{later}
use Rattle.line_cuts.proofs.Raised.{raise, raise_before, strays_raised, falls_raised, Under}

-- ---- questions in order

-- one crossing's questions, and the rest
abbrev pub asked : Bool → Bool → Bool → ℕ → Outcome (Unit {0}) → Outcome (Unit {0})
asked a b c i rest = need a 10 i >> (need b 15 i >> (need c 11 i >> rest))

asked_then : (a b c : Bool) (i : ℕ) (u v : Outcome (Unit {0})) → asked a b c i (u >> v) ≡ (asked a b c i u >> v)
asked_then true true true i u v = refl
asked_then true true false i u v = refl
asked_then true false c i u v = refl
asked_then false b c i u v = refl

asked-later : (n : ℕ) (a b c : Bool) (i : ℕ) (u : Outcome (Unit {0})) → asked a b c (n + i) (later n u) ≡ later n (asked a b c i u)
asked-later n true true true i u = refl
asked-later n true true false i u = refl
asked-later n true false c i u = refl
asked-later n false b c i u = refl

-- ---- one list after another

abbrev pub last_of : Option Crossing → List Crossing → Option Crossing
last_of x [] = x
last_of x (y ∷ ys) = last_of (some y) ys

module _ (names rows : ℕ) where
  pub ordered_nil : (x : Option Crossing) (i : ℕ) → ordered names rows x i [] ≡ given tt
  unfolding ordered
  ordered_nil x i = refl

  pub ordered_cons : (x : Option Crossing) (i : ℕ) (y : Crossing) (ys : List Crossing)
      → ordered names rows x i (y ∷ ys) ≡ asked (ltb y.shape names) (not (strays rows y)) (not (falls x y)) i (ordered names rows (some y) (i + 1) ys)
  unfolding ordered
  ordered_cons x i y ys = refl

  pub ordered-append : (xs ys : List Crossing) (x : Option Crossing) (i : ℕ) → ordered names rows x i (xs ++ ys) ≡ (ordered names rows x i xs >> ordered names rows (last_of x xs) (i + length xs) ys)
  ordered-append [] ys x i = let e : i + 0 ≡ i = omega arith in rw (ordered_nil x i, e)
  ordered-append (y ∷ xs) ys x i =
      let e : i + suc (length xs) ≡ i + 1 + length xs = omega arith in
      rw (ordered_cons x i y (xs ++ ys), ordered_cons x i y xs, e, ordered-append xs ys (some y) (i + 1))
      (asked_then (ltb y.shape names) (not (strays rows y)) (not (falls x y)) i (ordered names rows (some y) (i + 1) xs) (ordered names rows (last_of (some y) xs) (i + 1 + length xs) ys))

-- the first part's lines have a row in the part as in the whole
pub ordered-first : (names r rows : ℕ) → r ≤ rows → (xs : List Crossing) → Under r xs → (x : Option Crossing) (i : ℕ) → ordered names rows x i xs ≡ ordered names r x i xs
ordered-first names r rows h [] u x i = ordered_nil names rows x i ∙ sym (ordered_nil names r x i)
ordered-first names r rows h (y ∷ xs) u x i =
    let k : y.line < r = u.0 in
    rw (ordered_cons names rows x i y xs, ordered_cons names r x i y xs, ordered-first names r rows h xs u.1 (some y) (i + 1), lt-leb rows y.line (omega arith), lt-leb r y.line k)

-- the second part's, numbered from 0 and placed from 0
ordered_raised : (names r rows n : ℕ) (ys : List Crossing) (x : Option Crossing) (i : ℕ) → ordered names (r + rows) (raise_before r x) (n + i) (map (raise r) ys) ≡ later n (ordered names rows x i ys)
ordered_raised names r rows n [] x i = rw (ordered_nil names (r + rows) (raise_before r x) (n + i), ordered_nil names rows x i)
ordered_raised names r rows n (y ∷ ys) x i =
    let e : n + i + 1 ≡ n + (i + 1) = omega arith in
    rw (
      ordered_cons names (r + rows) (raise_before r x) (n + i) (raise r y) (map (raise r) ys),
      ordered_cons names rows x i y ys,
      e,
      ordered_raised names r rows n ys (some y) (i + 1),
      strays_raised r rows y,
      falls_raised r x y,
    )
    (asked-later n (ltb y.shape names) (not (strays rows y)) (not (falls x y)) i (ordered names rows (some y) (i + 1) ys))

abbrev pub UnderOne : ℕ → Option Crossing → Type 0
UnderOne r none = Unit {0}
UnderOne r (some x) = x.line < r

pub last_under : (r : ℕ) (xs : List Crossing) → Under r xs → (x : Option Crossing) → UnderOne r x → UnderOne r (last_of x xs)
last_under r [] u x h = h
last_under r (y ∷ xs) u x h = last_under r xs u.1 (some y) u.0

-- after a crossing of an earlier line none falls
ordered_anew : (names r rows i : ℕ) (ys : List Crossing) (x : Option Crossing) → UnderOne r x → ordered names rows x i (map (raise r) ys) ≡ ordered names rows none i (map (raise r) ys)
ordered_anew names r rows i [] x h = ordered_nil names rows x i ∙ sym (ordered_nil names rows none i)
ordered_anew names r rows i (y ∷ ys) x h =
    ordered_cons names rows x i (raise r y) (map (raise r) ys)
    ∙ ap (λ (t : Bool). asked (ltb y.shape names) (not (strays rows (raise r y))) (not t) i (ordered names rows (some (raise r y)) (i + 1) (map (raise r) ys))) (none-falls x h)
    ∙ sym (ordered_cons names rows none i (raise r y) (map (raise r) ys))
  where
    none-falls : (x : Option Crossing) → UnderOne r x → falls x (raise r y) ≡ false
    none-falls none h = refl
    none-falls (some x) h = rw (le-ltb (r + y.line) x.line (omega arith), ne_eqb (r + y.line) x.line (λ q. omega arith))

pub ordered-together : (names r rows : ℕ) (xs ys : List Crossing) → Under r xs
    → ordered names (r + rows) none 0 (xs ++ map (raise r) ys) ≡ (ordered names r none 0 xs >> later (length xs) (ordered names rows none 0 ys))
ordered-together names r rows xs ys u =
    let e : 0 + length xs ≡ length xs + 0 = omega arith in
    ordered-append names (r + rows) xs (map (raise r) ys) none 0
    ∙ rw (
      ordered-first names r (r + rows) (omega arith) xs u none 0,
      ordered_anew names r (r + rows) (0 + length xs) ys (last_of none xs) (last_under r xs u none tt),
      e,
      ordered_raised names r rows (length xs) ys none 0,
    )
