-- The rule at each kind of record: what each label means, and that it hangs on the labels of the children alone.
use Prim.Native.Nat.{ℕ}
use mathlib.Core.Path.{◌≡◌, refl, sym, ap, ap₂}
use mathlib.Core.Bool.{Bool, true, false, or-true, true≢false, false≢true}
use mathlib.Core.List.{List, [], ◌∷◌}
use lib.Dec.{eqb}
use borrow.Author.Tests.{eq-eqb}
use lib.ListN.{get_or}
use Rattle.formula.specs.Formula.{Op, meaning}
use Rattle.formula.specs.States.{State, outside}
use Rattle.contraction.specs.Records.{Side, Kind, leaf, E, R, S, C, Rec, is_leaf, below, listed, over}
use Rattle.labels.specs.Labels.{bit, on, pair, pick, applied, raked, rule, label}

pub on_bit : (b : Bool) → on (bit b) ≡ b
on_bit true = refl
on_bit false = refl

-- a pair made of what f gives at 1 and at 0 is f
pick-pair : (f : Bool → Bool) (v : Bool) → pick (pair (f true) (f false)) v ≡ f v
pick-pair f v = go (f true) (f false) v refl refl
  where
    go : (a b v : Bool) → f true ≡ a → f false ≡ b → pick (pair a b) v ≡ f v
    go true true true p q = sym p
    go true true false p q = sym q
    go true false true p q = sym p
    go true false false p q = sym q
    go false true true p q = sym p
    go false true false p q = sym q
    go false false true p q = sym p
    go false false false p q = sym q

-- what each kind of label means
module _ (s : Bool) (x y : ℕ) where
  pub E_means : (o : Op) → on (rule (E o) s x y) ≡ meaning o (on x) (on y)
  E_means o = on_bit (meaning o (on x) (on y))

  pub R_means : (side : Side) (o : Op) (u : Bool) → pick (rule (R side o) s x y) u ≡ applied side o (on x) u
  R_means side o u = pick-pair (applied side o (on x)) u

  pub S_means : on (rule S s x y) ≡ pick x (on y)
  S_means = on_bit (pick x (on y))

  pub C_means : (u : Bool) → pick (rule C s x y) u ≡ pick x (pick y u)
  C_means u = pick-pair (λ w. pick x (pick y w)) u

-- a leaf's label is the state of its shape, and no other node asks for a state
rule-leaf : (k : Kind) (s : Bool) (x y : ℕ) → is_leaf k ≡ true → rule k s x y ≡ bit s
rule-leaf leaf s x y e = refl
rule-leaf (E o) s x y e = absurd (false≢true e)
rule-leaf (R side o) s x y e = absurd (false≢true e)
rule-leaf S s x y e = absurd (false≢true e)
rule-leaf C s x y e = absurd (false≢true e)

rule_inner : (k : Kind) (s t : Bool) (x y : ℕ) → is_leaf k ≡ false → rule k s x y ≡ rule k t x y
rule_inner leaf s t x y e = absurd (true≢false e)
rule_inner (E o) s t x y e = refl
rule_inner (R side o) s t x y e = refl
rule_inner S s t x y e = refl
rule_inner C s t x y e = refl

pub label-leaf : (state : State) (ls : List ℕ) (r : Rec) → is_leaf r.kind ≡ true → label state ls r ≡ bit (state r.first)
label-leaf state ls r e = rule-leaf r.kind (state r.first) (get_or ls r.first 0) (get_or ls r.second 0) e

pub label_inner : (state : State) (ls : List ℕ) (r : Rec) → is_leaf r.kind ≡ false → label state ls r ≡ label outside ls r
label_inner state ls r e = rule_inner r.kind (state r.first) false (get_or ls r.first 0) (get_or ls r.second 0) e

pub listed_here : (c : ℕ) (cs : List ℕ) → listed c (c ∷ cs) ≡ true
listed_here c cs = rw (eq-eqb c c refl)

listed_next : (c d : ℕ) (cs : List ℕ) → listed c (d ∷ c ∷ cs) ≡ true
listed_next c d cs = rw (listed_here c cs) (or-true (eqb c d))

-- the labels of first and second matter where they are children
rule_local : (k : Kind) (s : Bool) (a b x y x' y' : ℕ) → (listed a (below k a b) ≡ true → x ≡ x') → (listed b (below k a b) ≡ true → y ≡ y')
    → rule k s x y ≡ rule k s x' y'
rule_local leaf s a b x y x' y' p q = refl
rule_local (E o) s a b x y x' y' p q = ap₂ (rule (E o) s) (p (listed_here a (b ∷ []))) (q (listed_next b a []))
rule_local (R side o) s a b x y x' y' p q = ap (λ z. raked side o (on z)) (p (listed_here a []))
rule_local S s a b x y x' y' p q = ap₂ (rule S s) (p (listed_here a (b ∷ []))) (q (listed_next b a []))
rule_local C s a b x y x' y' p q = ap₂ (rule C s) (p (listed_here a (b ∷ []))) (q (listed_next b a []))

pub label_local : (state : State) (r : Rec) (xs ys : List ℕ) → ((c : ℕ) → over c r ≡ true → get_or xs c 0 ≡ get_or ys c 0) → label state xs r ≡ label state ys r
label_local state r xs ys h =
    rule_local r.kind (state r.first) r.first r.second (get_or xs r.first 0) (get_or xs r.second 0) (get_or ys r.first 0) (get_or ys r.second 0)
    (h r.first) (h r.second)
