-- What the shapes of one line give: which refusals there are, and what is given.
use Prim.Native.Nat.{ℕ, ◌+◌, ◌<◌}
use native.Mathlib.Omega.{arith}
use mathlib.Core.Path.{◌≡◌}
use mathlib.Core.Bool.{Bool, true, false}
use mathlib.Core.List.{List, [], ◌∷◌}
use mathlib.Core.Logic.{◌⊎◌, inl, inr}
use lib.Dec.{leb}
use lib.ListN.{length}
use Rattle.outcome.specs.Outcome.{Outcome, given, refused, unfit, need, room, ◌>>◌}
use Rattle.outcome.specs.Numbered.{Numbered}
use Rattle.outcome.proofs.Questions.{then_given, given-same}
use Rattle.outcome.proofs.NumberedLaws.{given-numbered, asks, room-asks, need-numbered, then_numbered}
use Rattle.cross_cuts.specs.Cuts.{Cut, sound, start_row, line_crossings, faultless, line_room, answered}

-- ---- no refusal has number 0

faultless-numbered : (number i : ℕ) (cuts : List Cut) → 0 < number → Numbered (faultless number i cuts)
unfolding faultless
faultless-numbered number i [] some = given-numbered tt
faultless-numbered number i (c ∷ cuts) some = asks (sound c) number i (faultless number (i + 1) cuts) some (faultless-numbered number (i + 1) cuts some)

room-numbered : (cuts : List Cut) (a b c : ℕ) → Numbered (line_room cuts a b c)
room-numbered cuts a b c =
    let n = length (start_row cuts) in
    let m = length (line_crossings cuts) in
    room-asks n a (room m b >> room m c) (room-asks m b (room m c) (need-numbered (leb m c) 9 m (omega arith)))

pub answered-numbered : (number : ℕ) (cuts : List Cut) (a b c : ℕ) → 0 < number → Numbered (answered number cuts a b c)
unfolding answered
answered-numbered number cuts a b c some =
    then_numbered (faultless number 0 cuts) (line_room cuts a b c >> given cuts) (faultless-numbered number 0 cuts some)
    (then_numbered (line_room cuts a b c) (given cuts) (room-numbered cuts a b c) (given-numbered cuts))

-- ---- a refusal is 9 or the shapes' own number
refused-same : {A : Type 0} (k p i q : ℕ) → ◌≡◌ {A = Outcome A} (refused k p) (refused i q) → i ≡ k
refused-same k p i q e = cc

-- a question that refuses does so with its own number, or the rest refuses
pub need-refused : {A : Type 0} (b : Bool) (k p : ℕ) (o : Outcome A) (i q : ℕ) → (need b k p >> o) ≡ refused i q → (i ≡ k) ⊎ (o ≡ refused i q)
need-refused true k p o i q e = inr e
need-refused false k p o i q e = inl (refused-same k p i q e)

then_refused : {A B : Type 0} (q : Outcome A) (o : Outcome B) (k p : ℕ) → (q >> o) ≡ refused k p → (q ≡ refused k p) ⊎ (o ≡ refused k p)
then_refused (given a) o k p e = inr e
then_refused (refused i r) o k p e =
    let a : i ≡ k = cc in
    let b : r ≡ p = cc in
    inl (rw (a, b))
then_refused (unfit i r) o k p e = let z : ◌≡◌ {A = ℕ} 0 1 = cc in absurd (omega arith)

faultless-refused : (number i : ℕ) (cuts : List Cut) (k p : ℕ) → faultless number i cuts ≡ refused k p → k ≡ number
unfolding faultless
faultless-refused number i [] k p e = let z : ◌≡◌ {A = ℕ} 0 1 = cc in absurd (omega arith)
faultless-refused number i (c ∷ cuts) k p e = by (need-refused (sound c) number i (faultless number (i + 1) cuts) k p e) (faultless-refused number (i + 1) cuts k p)
  where
    by : (k ≡ number) ⊎ (faultless number (i + 1) cuts ≡ refused k p) → (faultless number (i + 1) cuts ≡ refused k p → k ≡ number) → k ≡ number
    by (inl a) rest = a
    by (inr b) rest = rest b

never_given : {A : Type 0} (v : A) (k p : ℕ) → given v ≡ refused k p → ⊥
never_given v k p e = let z : ◌≡◌ {A = ℕ} 0 1 = cc in omega arith

room-refused : (cuts : List Cut) (a b c k p : ℕ) → line_room cuts a b c ≡ refused k p → k ≡ 9
room-refused cuts a b c k p e = first (need-refused (leb n a) 9 n (room m b >> room m c) k p e)
  where
    n : ℕ
    n = length (start_row cuts)

    m : ℕ
    m = length (line_crossings cuts)

    last : (t : Bool) → need t 9 m ≡ refused k p → k ≡ 9
    last true f = absurd (never_given tt k p f)
    last false f = refused-same {A = Unit {0}} 9 m k p f

    second : (k ≡ 9) ⊎ (room m c ≡ refused k p) → k ≡ 9
    second (inl f) = f
    second (inr f) = last (leb m c) f

    first : (k ≡ 9) ⊎ ((room m b >> room m c) ≡ refused k p) → k ≡ 9
    first (inl f) = f
    first (inr f) = second (need-refused (leb m b) 9 m (room m c) k p f)

pub answered-refused : (number : ℕ) (cuts : List Cut) (a b c k p : ℕ) → answered number cuts a b c ≡ refused k p → (k ≡ number) ⊎ (k ≡ 9)
unfolding answered
answered-refused number cuts a b c k p e = by (then_refused (faultless number 0 cuts) (line_room cuts a b c >> given cuts) k p e)
  where
    rest : (line_room cuts a b c ≡ refused k p) ⊎ (given cuts ≡ refused k p) → (k ≡ number) ⊎ (k ≡ 9)
    rest (inl f) = inr (room-refused cuts a b c k p f)
    rest (inr f) = absurd (never_given cuts k p f)

    by : (faultless number 0 cuts ≡ refused k p) ⊎ ((line_room cuts a b c >> given cuts) ≡ refused k p) → (k ≡ number) ⊎ (k ≡ 9)
    by (inl f) = inl (faultless-refused number 0 cuts k p f)
    by (inr f) = rest (then_refused (line_room cuts a b c) (given cuts) k p f)

-- ---- what is given
pub answered-given : (number : ℕ) (cuts : List Cut) (a b c : ℕ) (v : List Cut) → answered number cuts a b c ≡ given v → cuts ≡ v
unfolding answered
answered-given number cuts a b c v e =
    let f = then_given (faultless number 0 cuts) (line_room cuts a b c >> given cuts) v e in
    let g = then_given (line_room cuts a b c) (given cuts) v f.2 in
    given-same cuts v g.2
