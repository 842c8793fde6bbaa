-- An order gone through turn by turn: the turns of each foundry so far.
use Prim.Native.Nat.{ℕ, zero, suc, ◌+◌, ◌<◌, ◌≤◌}
use native.Mathlib.Numerals.{add-one}
use native.Mathlib.Omega.{arith}
use mathlib.Core.Path.{◌≡◌, refl, ◌∙◌}
use mathlib.Core.Bool.{Bool, true, false, ◌&&◌, false≢true}
use mathlib.Core.List.{List, [], ◌∷◌, ◌++◌}
use lib.Dec.{eqb, leb}
use borrow.Author.Tests.{le-leb, lt-leb}
use lib.ListN.{length, get_or, take}
use lib.Seq.{take-suc}
use Rattle.order_mixing.specs.Order.{named, turns, mixes}
use Rattle.order_mixing.specs.Turns.{Counting}

-- one turn more
turns-here : (n x : ℕ) (xs : List ℕ) → eqb x n ≡ true → turns n (x ∷ xs) ≡ suc (turns n xs)
turns-here n x xs e = rw (e, turns)

turns-past : (n x : ℕ) (xs : List ℕ) → eqb x n ≡ false → turns n (x ∷ xs) ≡ turns n xs
turns-past n x xs e = rw (e, turns)

module _ (n x : ℕ) where
  turns_snoc : (xs : List ℕ) → turns n (xs ++ (x ∷ [])) ≡ turns n xs + turns n (x ∷ [])
  turns_snoc [] = omega arith
  turns_snoc (y ∷ ys) = go (turns_snoc ys) (eqb y n) refl
    where
      go : turns n (ys ++ (x ∷ [])) ≡ turns n ys + turns n (x ∷ []) → (b : Bool) → eqb y n ≡ b → turns n (y ∷ (ys ++ (x ∷ []))) ≡ turns n (y ∷ ys) + turns n (x ∷ [])
      go ih true e = turns-here n y (ys ++ (x ∷ [])) e ∙ omega (arith, turns-here n y ys e)
      go ih false e = turns-past n y (ys ++ (x ∷ [])) e ∙ omega (arith, turns-past n y ys e)

named_snoc : (x : ℕ) (xs : List ℕ) → x ≤ 1 → named xs ≡ true → named (xs ++ (x ∷ [])) ≡ true
named_snoc x [] h e = rw (le-leb x 1 h)
named_snoc x (y ∷ ys) h e = go (named_snoc x ys h) (leb y 1) refl
  where
    go : (named ys ≡ true → named (ys ++ (x ∷ [])) ≡ true) → (b : Bool) → leb y 1 ≡ b → (leb y 1 && named (ys ++ (x ∷ []))) ≡ true
    go ih true q = rw q (ih (rw q at e))
    go ih false q = absurd (false≢true (rw q at e))

named_not : (xs : List ℕ) (i : ℕ) → i < length xs → 1 < get_or xs i 0 → named xs ≡ false
named_not [] i h l = absurd (omega arith)
named_not (x ∷ xs) zero h l = rw (lt-leb x 1 l)
named_not (x ∷ xs) (suc i) h l = rw (named_not xs i (omega arith) l) (none (leb x 1))
  where
    none : (b : Bool) → (b && false) ≡ false
    none true = refl
    none false = refl

-- the turns of one entry
first_of : (x : ℕ) → x ≤ 1 → turns 0 (x ∷ []) + x ≡ 1
first_of zero h = refl
first_of (suc zero) h = refl
first_of (suc (suc x)) h = absurd (omega arith)

second_of : (x : ℕ) → x ≤ 1 → turns 1 (x ∷ []) ≡ x
second_of zero h = refl
second_of (suc zero) h = refl
second_of (suc (suc x)) h = absurd (omega arith)

pub counting_start : (order : List ℕ) → Counting order 0 0
counting_start order = record { within = omega arith; all_named = refl; second_is = refl; first_is = refl }

pub counting_more : {order : List ℕ} {i s w x : ℕ} → Counting order i s → i < length order → x ≡ get_or order i 0 → x ≤ 1 → w ≡ x → Counting order (i + 1) (s + w)
counting_more {order} {i} {s} {w} {x} g h e small is =
    let more : take (i + 1) order ≡ take i order ++ (x ∷ []) = rw (add-one i, e) (take-suc order i 0 h) in
    record {
      within = omega arith;
      all_named = rw more (named_snoc x (take i order) small g.all_named);
      second_is = rw more (omega (arith, turns_snoc 1 x (take i order), g.second_is, second_of x small, is));
      first_is = rw more (omega (arith, turns_snoc 0 x (take i order), g.first_is, first_of x small, is));
    }

-- an entry that names neither
pub neither : (order : List ℕ) (first second : ℕ) {i x most : ℕ} → i < length order → x ≡ get_or order i 0 → most < x → 0 < most → false ≡ mixes order first second
neither order first second {i} {x} h e l some = rw (named_not order i h (omega (arith, e)))
