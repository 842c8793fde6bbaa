-- What each way through a function by kinds comes to: the rule and the children over each range of kinds, as a `match` over the ranges meets it.
use Prim.Native.Nat.{ℕ, zero, suc, ◌-◌, ◌/◌, ◌%◌, ◌<◌, ◌≤◌}
use native.Mathlib.Omega.{arith}
use mathlib.Core.Path.{◌≡◌, refl, sym, ap, ◌∙◌}
use mathlib.Core.Bool.{Bool, true, false, not, beq}
use mathlib.Core.List.{List, [], ◌∷◌}
use mir.Val.{bool_byte}
use lib.Dec.{eqb}
use lib.ListN.{get_or, set}
use borrow.Author.Tests.{ne_eqb}
use Rattle.formula.specs.Formula.{Op, exclusive, meaning, op_at}
use Rattle.formula.specs.States.{outside}
use Rattle.formula.proofs.Laws.{op_at-exclusive}
use Rattle.contraction.specs.Records.{Side, left, right, children}
use Rattle.contraction.specs.Entries.{entry, kind_at, rec_of, rec_at}
use Rattle.contraction.proofs.EntryLaws.{kind_at-leaf, kind_at-E, kind_at-left, kind_at-right, kind_at-S, kind_at-C, below_none, below-E, below-R, below_rest}
use Rattle.labels.specs.Labels.{bit, on, pair, pick, applied, raked, rule, label}
use Rattle.labels.specs.Linked.{adopted}

on_test : (x : ℕ) → not (eqb x 0) ≡ on x
on_test zero = refl
on_test (suc x) = ap not (ne_eqb (suc x) 0 (λ e. omega arith))

bit_test : (b : Bool) → bool_byte b ≡ bit b
bit_test true = refl
bit_test false = refl

-- an operation that is none of the first three
pub meaning_rest : (o : ℕ) (a b : Bool) → (o ≡ 0 → ⊥) → (o ≡ 1 → ⊥) → (o ≡ 2 → ⊥) → not (beq a b) ≡ meaning (op_at o) a b
meaning_rest o a b n₀ n₁ n₂ = rw (op_at-exclusive o (omega arith)) (differ a b)
  where
    differ : (a b : Bool) → not (beq a b) ≡ meaning exclusive a b
    differ true true = refl
    differ true false = refl
    differ false true = refl
    differ false false = refl

-- a label by kind: what the calls of each arm come to
module _ (k : ℕ) (s : Bool) (x y : ℕ) {r : ℕ} where
  pub arm_leaf : k ≡ 0 → r ≡ bool_byte s → r ≡ rule (kind_at k) s x y
  arm_leaf h e = rw (kind_at-leaf k h) (e ∙ bit_test s)

  pub arm_E : {m : Bool} → (k ≡ 0 → ⊥) → k < 5 → m ≡ meaning (op_at (k - 1)) (not (eqb x 0)) (not (eqb y 0)) → r ≡ bool_byte m → r ≡ rule (kind_at k) s x y
  arm_E {m} n h u e = rw (kind_at-E k n h) (e ∙ bit_test m ∙ rw (u, on_test x, on_test y))

  pub arm_left : 5 ≤ k → k < 9 → r ≡ raked left (op_at (k - 5)) (not (eqb x 0)) → r ≡ rule (kind_at k) s x y
  arm_left l h e = rw (kind_at-left k l h) (e ∙ rw (on_test x))

  pub arm_right : 9 ≤ k → k < 13 → r ≡ raked right (op_at (k - 9)) (not (eqb x 0)) → r ≡ rule (kind_at k) s x y
  arm_right l h e = rw (kind_at-right k l h) (e ∙ rw (on_test x))

  pub arm_S : {v : Bool} → k ≡ 13 → v ≡ pick x (not (eqb y 0)) → r ≡ bool_byte v → r ≡ rule (kind_at k) s x y
  arm_S {v} h q e = rw (kind_at-S k h) (e ∙ bit_test v ∙ rw (q, on_test y))

  pub arm_rest : 13 ≤ k → (k ≡ 13 → ⊥) → r ≡ pair (pick x (pick y true)) (pick x (pick y false)) → r ≡ rule (kind_at k) s x y
  arm_rest l n e = rw (kind_at-C k l n) e

-- the children by kind, entered in a list of parents
pub adopt_none : (k a b j : ℕ) (ps : List ℕ) → k ≡ 0 → ps ≡ adopted j (children (rec_of (entry k a b))) ps
adopt_none k a b j ps e = rw (below_none k a b e)

module _ (k a b j : ℕ) (ps : List ℕ) {qs : List ℕ} where
  pub adopt_R : 5 ≤ k → k < 13 → qs ≡ set ps a j → qs ≡ adopted j (children (rec_of (entry k a b))) ps
  adopt_R l h e = e ∙ rw (below-R k a b l h)

  pub adopt_E : (k ≡ 0 → ⊥) → k < 5 → qs ≡ adopted j (a ∷ b ∷ []) ps → qs ≡ adopted j (children (rec_of (entry k a b))) ps
  adopt_E n h e = e ∙ rw (below-E k a b n h)

  pub adopt_rest : 13 ≤ k → qs ≡ adopted j (a ∷ b ∷ []) ps → qs ≡ adopted j (children (rec_of (entry k a b))) ps
  adopt_rest l e = e ∙ rw (below_rest k a b l)
