-- The last label is the formula's value, for every formula and every state of the shapes.
use Prim.Native.Nat.{ℕ, zero, suc, ◌+◌}
use native.Mathlib.Nat.{zero-add}
use mathlib.Core.Path.{◌≡◌, sym, ap, ◌∙◌, subst}
use mathlib.Core.Bool.{Bool, true, false}
use mathlib.Core.List.{List, ◌++◌}
use mathlib.Core.Option.{Option, none, some}
use lib.ListN.{get_or}
use Rattle.formula.specs.Formula.{Op, meaning, Formula, leaf, node, inside, leaves}
use Rattle.formula.specs.States.{State}
use Rattle.contraction.specs.Rounds.{Work, tip, one, two, tip_of, rake_one, rake_two, rakes, left_one, left_two, raked}
use Rattle.contraction.specs.Rounds.{compressed, round_makes, round_leaves, planted, leaf_recs, enough, dwarf}
use Rattle.contraction.specs.Height.{last}
use Rattle.contraction.proofs.Worked.{last_is}
use Rattle.contraction.proofs.Rounds.{all_made, remains, dwarf-all, length-leaf_recs, root}
use Rattle.labels.specs.Labels.{bit, on, pick, labels}
use Rattle.labels.proofs.Afresh.{labels_good, length-labels}
use Rattle.labels.proofs.Value.{val, Lab, lab_left, lab_right, made_value, planted_value}

-- a number that is a bit
abbrev IsBit : ℕ → Type 0
IsBit x = x ≡ bit (on x)

is_bit : (x : ℕ) (b : Bool) → x ≡ bit b → IsBit x
is_bit x true p = p ∙ ap (λ y. bit (on y)) (sym p)
is_bit x false p = p ∙ ap (λ y. bit (on y)) (sym p)

module _ (state : State) (ls : List ℕ) where
  -- the leaves of the working tree carry bits
  abbrev Bits : Work → Type 0
  Bits (tip d) = IsBit (get_or ls d 0)
  Bits (one d c) = Bits c
  Bits (two o l r) = Bits l × Bits r

  one-bits : (d : ℕ) (v : Option ℕ) (c' : Work) (n : ℕ) → Lab state ls n (rake_one d v) → Bits c' → Bits (left_one d v c' n)
  one-bits d (some v) c' n g b = is_bit (get_or ls n 0) (pick (get_or ls d 0) (on (get_or ls v 0))) g.0
  one-bits d none c' n g b = b

  two-bits : (o : Op) (a b : Option ℕ) (l' r' : Work) (n : ℕ) → Lab state ls n (rake_two o a b) → Bits l' → Bits r' → Bits (left_two o a b l' r' n)
  two-bits o (some a) (some b) l' r' n g p q =
      is_bit (get_or ls n 0) (meaning o (on (get_or ls a 0)) (on (get_or ls b 0))) g.0
  two-bits o (some a) none l' r' n g p q = q
  two-bits o none (some b) l' r' n g p q = p
  two-bits o none none l' r' n g p q = (p, q)

  raked-bits : (w : Work) (n : ℕ) → Lab state ls n (rakes w) → Bits w → Bits (raked w n)
  raked-bits (tip d) n g b = b
  raked-bits (one d c) n g b =
      one-bits d (tip_of c) (raked c n) _ (lab_right state ls (rakes c) _ n g) (raked-bits c n (lab_left state ls (rakes c) _ n g) b)
  raked-bits (two o l r) n g b =
      let h = lab_right state ls (rakes l) (rakes r ++ rake_two o (tip_of l) (tip_of r)) n g in
      two-bits o (tip_of l) (tip_of r) (raked l n) (raked r _) _ (lab_right state ls (rakes r) _ _ h)
      (raked-bits l n (lab_left state ls (rakes l) _ n g) b.0) (raked-bits r _ (lab_left state ls (rakes r) _ _ h) b.1)

  compressed-bits : (w : Work) (n : ℕ) → Bits w → Bits (compressed w n)
  compressed-bits (tip d) n b = b
  compressed-bits (one u (tip d)) n b = b
  compressed-bits (one u (one d c)) n b = compressed-bits c n b
  compressed-bits (one u (two o l r)) n b = compressed-bits (two o l r) n b
  compressed-bits (two o l r) n b = (compressed-bits l n b.0, compressed-bits r _ b.1)

  made_bits : (k : ℕ) (w : Work) (n : ℕ) → Lab state ls n (all_made k w n) → Bits w → Bits (remains k w n)
  made_bits zero w n g b = b
  made_bits (suc k) w n g b =
      made_bits k (round_leaves w n) _ (lab_right state ls (round_makes w n) _ n g)
      (compressed-bits (raked w n) _ (raked-bits w n (lab_left state ls (rakes w) _ n (lab_left state ls (round_makes w n) _ n g)) b))

  planted-bits : (f : Formula) (n : ℕ) → Lab state ls n (leaf_recs f) → Bits (planted f n)
  planted-bits (leaf s) n g = is_bit (get_or ls n 0) (state s) g.0
  planted-bits (node o l r) n g = (
    planted-bits l n (lab_left state ls (leaf_recs l) _ n g),
    planted-bits r _ (rw (← (length-leaf_recs l)) at (lab_right state ls (leaf_recs l) _ n g)),
  )

-- what is right for the dwarf tree is so for its leaves, and for what the rounds make
split : (f : Formula) (state : State) (ls : List ℕ) → Lab state ls 0 (dwarf f)
    → Lab state ls 0 (leaf_recs f) × Lab state ls (leaves f) (all_made (enough f) (planted f 0) (leaves f))
split f state ls g =
    let h = rw (dwarf-all f) at g in
    (lab_left state ls (leaf_recs f) _ 0 h, rw (zero-add, ← (length-leaf_recs f)) at (lab_right state ls (leaf_recs f) _ 0 h))

pub root_label : (f : Formula) (state : State) → last (labels state (dwarf f)) ≡ bit (inside f state)
root_label f state =
    let w = planted f 0 in
    let ls = labels state (dwarf f) in
    let g = split f state ls (labels_good f state) in
    let e = root f in
    let worth : val ls (tip e.0) ≡ inside f state =
    subst (λ v. val ls v ≡ inside f state) e.1 (made_value state ls (enough f) w (leaves f) g.1 ∙ planted_value state ls f 0 g.0) in
    let bits : IsBit (get_or ls e.0 0) =
    subst (Bits state ls) e.1 (made_bits state ls (enough f) w (leaves f) g.1 (planted-bits state ls f 0 g.0)) in
    last_is ls e.0 (length-labels state (dwarf f) ∙ sym e.2) ∙ bits ∙ ap bit worth
