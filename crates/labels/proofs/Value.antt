-- A round does not change what the working tree is worth, where the labels are those of the records.
use Prim.Native.Nat.{ℕ, zero, suc, ◌+◌}
use mathlib.Core.Path.{◌≡◌, refl, ap, ap₂, ◌∙◌}
use mathlib.Core.Bool.{Bool}
use mathlib.Core.List.{List, ◌++◌}
use lib.ListN.{length, get_or}
use Rattle.formula.specs.Formula.{Op, meaning, Formula, leaf, node, inside}
use Rattle.formula.specs.States.{State}
use Rattle.contraction.specs.Records.{left, right, Rec, absent}
use Rattle.contraction.specs.Rounds.{Work, tip, one, two, tip_of, rake_one, rake_two, rakes, left_one, left_two, raked}
use Rattle.contraction.specs.Rounds.{compresses, compressed, round_makes, round_leaves, planted, leaf_recs}
use Rattle.contraction.proofs.Worked.{Good, good_left, good_right}
use Rattle.contraction.proofs.Rounds.{all_made, remains, length-leaf_recs}
use Rattle.labels.specs.Labels.{on, pick, label}
use Rattle.labels.proofs.Rules.{on_bit, E_means, R_means, S_means, C_means}

-- what the working tree is worth under the labels ls
abbrev pub val : List ℕ → Work → Bool
val ls (tip d) = on (get_or ls d 0)
val ls (one d c) = pick (get_or ls d 0) (val ls c)
val ls (two o l r) = meaning o (val ls l) (val ls r)

module _ (state : State) (ls : List ℕ) where
  abbrev pub Lab : ℕ → List Rec → Type 0
  Lab n rs = Good (label state) ls n rs

  pub lab_left : (rs qs : List Rec) (n : ℕ) → Lab n (rs ++ qs) → Lab n rs
  lab_left rs qs n g = good_left (label state) ls rs qs n g

  pub lab_right : (rs qs : List Rec) (n : ℕ) → Lab n (rs ++ qs) → Lab (n + length rs) qs
  lab_right rs qs n g = good_right (label state) ls rs qs n g

  one-val : (d : ℕ) (c c' : Work) (n : ℕ) → val ls c' ≡ val ls c → Lab n (rake_one d (tip_of c))
      → val ls (left_one d (tip_of c) c' n) ≡ pick (get_or ls d 0) (val ls c)
  one-val d (tip v) c' n p g = ap on g.0 ∙ S_means (state d) (get_or ls d 0) (get_or ls v 0)
  one-val d (one e c) c' n p g = ap (pick (get_or ls d 0)) p
  one-val d (two o l r) c' n p g = ap (pick (get_or ls d 0)) p

  two-val : (o : Op) (l r l' r' : Work) (n : ℕ) → val ls l' ≡ val ls l → val ls r' ≡ val ls r → Lab n (rake_two o (tip_of l) (tip_of r))
      → val ls (left_two o (tip_of l) (tip_of r) l' r' n) ≡ meaning o (val ls l) (val ls r)
  two-val o (tip a) (tip b) l' r' n p q g = ap on g.0 ∙ E_means (state a) (get_or ls a 0) (get_or ls b 0) o
  two-val o (tip a) (one d c) l' r' n p q g = ap₂ pick g.0 q ∙ R_means (state a) (get_or ls a 0) (get_or ls absent 0) left o (val ls (one d c))
  two-val o (tip a) (two e c d) l' r' n p q g = ap₂ pick g.0 q ∙ R_means (state a) (get_or ls a 0) (get_or ls absent 0) left o (val ls (two e c d))
  two-val o (one d c) (tip b) l' r' n p q g = ap₂ pick g.0 p ∙ R_means (state b) (get_or ls b 0) (get_or ls absent 0) right o (val ls (one d c))
  two-val o (two e c d) (tip b) l' r' n p q g = ap₂ pick g.0 p ∙ R_means (state b) (get_or ls b 0) (get_or ls absent 0) right o (val ls (two e c d))
  two-val o (one d c) (one d' c') l' r' n p q g = ap₂ (meaning o) p q
  two-val o (one d c) (two e c' d') l' r' n p q g = ap₂ (meaning o) p q
  two-val o (two e c d) (one d' c') l' r' n p q g = ap₂ (meaning o) p q
  two-val o (two e c d) (two e' c' d') l' r' n p q g = ap₂ (meaning o) p q

  rake_value : (w : Work) (n : ℕ) → Lab n (rakes w) → val ls (raked w n) ≡ val ls w
  rake_value (tip d) n g = refl
  rake_value (one d c) n g =
      one-val d c _ _ (rake_value c n (lab_left (rakes c) _ n g)) (lab_right (rakes c) _ n g)
  rake_value (two o l r) n g =
      let h = lab_right (rakes l) (rakes r ++ rake_two o (tip_of l) (tip_of r)) n g in
      two-val o l r _ _ _ (rake_value l n (lab_left (rakes l) _ n g)) (rake_value r _ (lab_left (rakes r) _ _ h)) (lab_right (rakes r) _ _ h)

  compress_value : (w : Work) (n : ℕ) → Lab n (compresses w) → val ls (compressed w n) ≡ val ls w
  compress_value (tip d) n g = refl
  compress_value (one u (tip d)) n g = refl
  compress_value (one u (one d c)) n g =
      ap₂ pick (lab_right (compresses c) _ n g).0 (compress_value c n (lab_left (compresses c) _ n g))
      ∙ C_means (state u) (get_or ls u 0) (get_or ls d 0) (val ls c)
  compress_value (one u (two o l r)) n g = ap (pick (get_or ls u 0)) (compress_value (two o l r) n g)
  compress_value (two o l r) n g =
      ap₂ (meaning o) (compress_value l n (lab_left (compresses l) _ n g)) (compress_value r _ (lab_right (compresses l) _ n g))

  round_value : (w : Work) (n : ℕ) → Lab n (round_makes w n) → val ls (round_leaves w n) ≡ val ls w
  round_value w n g =
      compress_value (raked w n) _ (lab_right (rakes w) _ n g) ∙ rake_value w n (lab_left (rakes w) _ n g)

  pub made_value : (k : ℕ) (w : Work) (n : ℕ) → Lab n (all_made k w n) → val ls (remains k w n) ≡ val ls w
  made_value zero w n g = refl
  made_value (suc k) w n g =
      made_value k (round_leaves w n) _ (lab_right (round_makes w n) _ n g) ∙ round_value w n (lab_left (round_makes w n) _ n g)

  pub planted_value : (f : Formula) (n : ℕ) → Lab n (leaf_recs f) → val ls (planted f n) ≡ inside f state
  planted_value (leaf s) n g = ap on g.0 ∙ on_bit (state s)
  planted_value (node o l r) n g =
      ap₂ (meaning o) (planted_value l n (lab_left (leaf_recs l) _ n g))
      (planted_value r _ (rw (← (length-leaf_recs l)) at (lab_right (leaf_recs l) _ n g)))
