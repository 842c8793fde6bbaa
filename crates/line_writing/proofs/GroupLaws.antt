-- What changes at a position is what the crossings of its group flip.
use Prim.Native.Nat.{ℕ, zero, suc, ◌+◌, ◌-◌, ◌≤◌, ◌<◌}
use native.Mathlib.Decide.{dec_lt}
use native.Mathlib.Nat.{not-suc-le-zero, le_of_suc-le-suc}
use native.Mathlib.Omega.{arith}
use mathlib.Core.Path.{◌≡◌, refl, sym, ap, ◌∙◌}
use mathlib.Core.Bool.{Bool, true, false, not, cond, ◌&&◌, ◌||◌, beq, true≢false, false≢true}
use mathlib.Core.List.{List, [], ◌∷◌, ◌++◌}
use mathlib.Core.Logic.{◌⊎◌, inl, inr}
use borrow.Author.Tests.{eq-eqb, ne_eqb, eqb-true}
use lib.Dec.{eqb}
use lib.IntN.{ℤ, pos}
use lib.ListN.{length, get_or, take, drop, replicate, length-take}
use lib.Seq.{drop-cons, get_or-take, get_or-drop, take-length}
use lib.Signed.{lt_z, le_z}
use Rattle.formula.specs.States.{State, outside, flipped}
use Rattle.formula.specs.Flips.{after}
use Rattle.formula.proofs.States.{after-changed_by, after-append}
use Rattle.lines.specs.Lines.{LineLists, line_lists, Crossing, crossings, bits, ordered, judged, crossed, short_of, as_far_as, state_before, state_at, lowest_from, shape_at}
use Rattle.lines.specs.Right.{LowestChanged}
use Rattle.lines.specs.AtIndex.{item, group_ends_at, Accepted}
use Rattle.lines.proofs.Keys.{yes_le_k, lt_z_not, lt→no, lt→le, le_z_self, lt_le, le_lt}
use Rattle.lines.proofs.Items.{accepted_positions, accepted_shapes, accepted-named, accepted_rises}
use Rattle.lines.proofs.Lowest.{lowest_is}
use Rattle.lines.proofs.Crossings.{crossed_in, crossed_out}
use Rattle.line_writing.specs.Groups.{state_of, aside, GroupStart, FirstThere, GroupEnd, GroupShape, FewShapes, Least, Tallied}
use Rattle.line_writing.proofs.TallyLaws.{none_inside, least_lowest}

-- ---- the crossings that pass a test, by their index

-- the lists less their first entries
module _ (test : Crossing → Bool) where
  none_pass : (ls : List ℕ) (ps : List ℤ) (ss : List ℕ) → length ps ≡ length ls → length ss ≡ length ls → ((j : ℕ) → j < length ls → test (item ls ps ss j) ≡ false) → crossed test (crossings ls ps ss) ≡ []
  unfolding crossed
  none_pass [] ps ss e f h = refl
  none_pass (l ∷ ls) [] ss e f h = refl
  none_pass (l ∷ ls) (p ∷ ps) [] e f h = refl
  none_pass (l ∷ ls) (p ∷ ps) (s ∷ ss) e f h =
      crossed_out test (record { line = l; at = p; shape = s }) (crossings ls ps ss) (h 0 (omega arith))
      ∙ none_pass ls ps ss (omega arith) (omega arith) (λ j k. h (suc j) (omega arith))

  -- the first n pass, and no other
  first_pass : (n : ℕ) (ls : List ℕ) (ps : List ℤ) (ss : List ℕ) → length ps ≡ length ls → length ss ≡ length ls → n ≤ length ls
      → ((j : ℕ) → j < n → test (item ls ps ss j) ≡ true) → ((j : ℕ) → n ≤ j → j < length ls → test (item ls ps ss j) ≡ false) → crossed test (crossings ls ps ss) ≡ take n ss
  unfolding crossed
  first_pass zero ls ps ss e f h yes-to no-from = none_pass ls ps ss e f (λ j k. no-from j (omega arith) k)
  first_pass (suc n) [] ps ss e f h yes-to no-from = absurd (not-suc-le-zero h)
  first_pass (suc n) (l ∷ ls) [] ss e f h yes-to no-from = let z : ⊥ = omega arith in absurd z
  first_pass (suc n) (l ∷ ls) (p ∷ ps) [] e f h yes-to no-from = let z : ⊥ = omega arith in absurd z
  first_pass (suc n) (l ∷ ls) (p ∷ ps) (s ∷ ss) e f h yes-to no-from =
      crossed_in test (record { line = l; at = p; shape = s }) (crossings ls ps ss) (yes-to 0 (omega arith))
      ∙ ap (λ (r : List ℕ). s ∷ r) (first_pass n ls ps ss (omega arith) (omega arith) (le_of_suc-le-suc h) (λ j k. yes-to (suc j) (omega arith)) (λ j lo hi. no-from (suc j) (omega arith) (omega arith)))

-- two tests that agree up to g; from there to e only one passes, and then none does
more_pass : (t u : Crossing → Bool) (g n : ℕ) (ls : List ℕ) (ps : List ℤ) (ss : List ℕ) → length ps ≡ length ls → length ss ≡ length ls → g + n ≤ length ls
    → ((j : ℕ) → j < g → t (item ls ps ss j) ≡ u (item ls ps ss j))
    → ((j : ℕ) → g ≤ j → j < g + n → (t (item ls ps ss j) ≡ true) × (u (item ls ps ss j) ≡ false))
    → ((j : ℕ) → g + n ≤ j → j < length ls → (t (item ls ps ss j) ≡ false) × (u (item ls ps ss j) ≡ false))
    → crossed t (crossings ls ps ss) ≡ crossed u (crossings ls ps ss) ++ take n (drop g ss)
more_pass t u zero n ls ps ss e f h same one none =
    first_pass t n ls ps ss e f (omega arith) (λ j k. (one j (omega arith) (omega arith)).0) (λ j lo hi. (none j (omega arith) hi).0)
    ∙ ap (λ (r : List ℕ). r ++ take n ss) (sym (none_pass u ls ps ss e f (λ j k. by j k (dec_lt j n))))
  where
    by : (j : ℕ) → j < length ls → Dec (j < n) → u (item ls ps ss j) ≡ false
    by j k (yes q) = (one j (omega arith) (omega arith)).1
    by j k (no q) = (none j (omega arith) k).1
more_pass t u (suc g) n [] ps ss e f h same one none = let z : ⊥ = omega arith in absurd z
more_pass t u (suc g) n (l ∷ ls) [] ss e f h same one none = let z : ⊥ = omega arith in absurd z
more_pass t u (suc g) n (l ∷ ls) (p ∷ ps) [] e f h same one none = let z : ⊥ = omega arith in absurd z
more_pass t u (suc g) n (l ∷ ls) (p ∷ ps) (s ∷ ss) e f h same one none =
    by (u x) refl (more_pass t u g n ls ps ss (omega arith) (omega arith) (omega arith) (λ j k. same (suc j) (omega arith)) (λ j lo hi. one (suc j) (omega arith) (omega arith)) (λ j lo hi. none (suc j) (omega arith) (omega arith)))
  where
    x : Crossing
    x = record { line = l; at = p; shape = s }

    by : (b : Bool) → u x ≡ b → crossed t (crossings ls ps ss) ≡ crossed u (crossings ls ps ss) ++ take n (drop g ss) → crossed t (x ∷ crossings ls ps ss) ≡ crossed u (x ∷ crossings ls ps ss) ++ take n (drop g ss)
    by true q ih = crossed_in t x (crossings ls ps ss) (same 0 (omega arith) ∙ q) ∙ ap (λ (r : List ℕ). s ∷ r) ih ∙ ap (λ (r : List ℕ). r ++ take n (drop g ss)) (sym (crossed_in u x (crossings ls ps ss) q))
    by false q ih = crossed_out t x (crossings ls ps ss) (same 0 (omega arith) ∙ q) ∙ ih ∙ ap (λ (r : List ℕ). r ++ take n (drop g ss)) (sym (crossed_out u x (crossings ls ps ss) q))

-- ---- the order of accepted lists

or_right : (a b : Bool) → a ≡ true → (not a || b) ≡ true → b ≡ true
or_right true b e h = h
or_right false b e h = absurd (false≢true e)

module _ (names : ℕ) (c : LineLists) (up : Accepted names c) where
  abbrev L : ℕ → ℕ
  L j = get_or c.lines j 0

  abbrev P : ℕ → ℤ
  P j = get_or c.positions j (pos 0)

  -- of one line: what stands later lies no earlier
  lines_rise : (j k : ℕ) → j ≤ k → k < length c.lines → L j ≤ L k
  lines_rise j k lo hi = by (yes_le_k (L j) (P j) (L k) (P k) (accepted_rises up j k lo hi))
    where
      by : (L j < L k) ⊎ ((L j ≡ L k) × (le_z (P j) (P k) ≡ true)) → L j ≤ L k
      by (inl h) = omega arith
      by (inr h) = omega arith

  places_rise : (j k : ℕ) → j ≤ k → k < length c.lines → L k ≤ L j → le_z (P j) (P k) ≡ true
  places_rise j k lo hi same = by (yes_le_k (L j) (P j) (L k) (P k) (accepted_rises up j k lo hi))
    where
      by : (L j < L k) ⊎ ((L j ≡ L k) × (le_z (P j) (P k) ≡ true)) → le_z (P j) (P k) ≡ true
      by (inl h) = absurd (omega arith)
      by (inr h) = h.1

  module _ (i : ℕ) (inside : i < length c.lines) where
    abbrev X : ℕ → Crossing
    X j = item c.lines c.positions c.shapes j

    module _ (g : ℕ) (start : GroupStart c.lines c.positions i g) where
      early : (j : ℕ) → j < g → as_far_as (L i) (P i) (X j) ≡ short_of (L i) (P i) (X j)
      early j h = by (eqb (L j) (L i)) refl
        where
          by : (b : Bool) → eqb (L j) (L i) ≡ b → (eqb (L j) (L i) && le_z (P j) (P i)) ≡ (eqb (L j) (L i) && lt_z (P j) (P i))
          by false q = rw q
          by true q =
              let e : L j ≡ L i = eqb-true (L j) (L i) q in
              let w : g - 1 ≤ i = omega (arith, start.within) in
              let a : L j ≤ L (g - 1) = lines_rise j (g - 1) (omega arith) (omega arith) in
              let b : L (g - 1) ≤ L i = lines_rise (g - 1) i w inside in
              let same : L (g - 1) ≡ L i = omega arith in
              let short : lt_z (P (g - 1)) (P i) ≡ true = or_right (eqb (L (g - 1)) (L i)) _ (eq-eqb (L (g - 1)) (L i) same) (start.first (omega arith)) in
              let low : lt_z (P j) (P i) ≡ true = le_lt (P j) (P (g - 1)) (P i) (places_rise j (g - 1) (omega arith) (omega arith) (omega arith)) short in
              rw (q, low, lt→le (P j) (P i) low)

      here : (j : ℕ) → g ≤ j → j ≤ i → (as_far_as (L i) (P i) (X j) ≡ true) × (short_of (L i) (P i) (X j) ≡ false)
      here j lo hi = by (eqb (L j) (L i)) refl (lt_z (P j) (P i)) refl
        where
          by : (b : Bool) → eqb (L j) (L i) ≡ b → (t : Bool) → lt_z (P j) (P i) ≡ t → ((eqb (L j) (L i) && le_z (P j) (P i)) ≡ true) × ((eqb (L j) (L i) && lt_z (P j) (P i)) ≡ false)
          by false q t u = absurd (true≢false (rw q at (start.together j lo hi)))
          by true q true u = absurd (true≢false (rw (q, u) at (start.together j lo hi)))
          by true q false u = (rw (q, places_rise j i hi inside (omega (arith, eqb-true (L j) (L i) q))), rw (q, u))

    late : group_ends_at c.lines c.positions i ≡ true → (j : ℕ) → i < j → j < length c.lines → (as_far_as (L i) (P i) (X j) ≡ false) × (short_of (L i) (P i) (X j) ≡ false)
    late ends j lo hi = by (eqb (L j) (L i)) refl
      where
        next : (not (eqb (L (i + 1)) (L i)) || lt_z (P i) (P (i + 1))) ≡ true
        next = rw (ne_eqb (i + 1) (length c.lines) (omega arith)) at ends

        by : (b : Bool) → eqb (L j) (L i) ≡ b → ((eqb (L j) (L i) && le_z (P j) (P i)) ≡ false) × ((eqb (L j) (L i) && lt_z (P j) (P i)) ≡ false)
        by false q = (rw q, rw q)
        by true q =
            let e : L j ≡ L i = eqb-true (L j) (L i) q in
            let a : L i ≤ L (i + 1) = lines_rise i (i + 1) (omega arith) (omega arith) in
            let b : L (i + 1) ≤ L j = lines_rise (i + 1) j (omega arith) hi in
            let same : L (i + 1) ≡ L i = omega arith in
            let past : lt_z (P i) (P (i + 1)) ≡ true = or_right (eqb (L (i + 1)) (L i)) _ (eq-eqb (L (i + 1)) (L i) same) next in
            let far : lt_z (P i) (P j) ≡ true = lt_le (P i) (P (i + 1)) (P j) past (places_rise (i + 1) j (omega arith) hi (omega arith)) in
            (rw (q, lt→no (P i) (P j) far), rw (q, lt_z_not (P j) (P i), lt→le (P i) (P j) far))

-- ---- the states before and after

beq_not : (a x : Bool) → beq a (not x) ≡ not (beq a x)
beq_not true true = refl
beq_not true false = refl
beq_not false true = refl
beq_not false false = refl

-- whether a state differs from what it was hangs on the shapes flipped alone
flipped-alike : (ss : List ℕ) (p q : State) (t : ℕ) (a b : Bool) → beq a (p t) ≡ beq b (q t) → beq a (after p ss t) ≡ beq b (after q ss t)
unfolding after
flipped-alike [] p q t a b e = e
flipped-alike (s ∷ ss) p q t a b e = flipped-alike ss (flipped s p) (flipped s q) t a b (by (eqb t s))
  where
    by : (u : Bool) → beq a (cond u (not (p t)) (p t)) ≡ beq b (cond u (not (q t)) (q t))
    by true = beq_not a (p t) ∙ ap not e ∙ sym (beq_not b (q t))
    by false = e

beq_self : (a : Bool) → beq a a ≡ true
beq_self true = refl
beq_self false = refl

lowest_same : (k n : ℕ) (a b p q : State) → ((t : ℕ) → beq (a t) (b t) ≡ beq (p t) (q t)) → lowest_from k n a b ≡ lowest_from k n p q
unfolding lowest_from
lowest_same zero n a b p q h = refl
lowest_same (suc k) n a b p q h = by (beq (a n) (b n)) (beq (p n) (q n)) (h n) (lowest_same k (suc n) a b p q h)
  where
    by : (u v : Bool) → u ≡ v → lowest_from k (suc n) a b ≡ lowest_from k (suc n) p q
        → ◌≡◌ {A = ℕ} (elim u [ true ↦ lowest_from k (suc n) a b | false ↦ n ]) (elim v [ true ↦ lowest_from k (suc n) p q | false ↦ n ])
    by true true e ih = ih
    by true false e ih = absurd (true≢false e)
    by false true e ih = absurd (false≢true e)
    by false false e ih = refl

pub group_end : (names : ℕ) (rows ls : List ℕ) (ps : List ℤ) (ss : List ℕ) (i : ℕ) → Accepted names (line_lists rows ls ps ss) → i < length ls → group_ends_at ls ps i ≡ true → GroupEnd ls ps ss i
group_end names rows ls ps ss i up h ends = record { inside = h; ends = ends; names = names; rows = rows; accepted = up }

pub group_positions : {ls : List ℕ} {ps : List ℤ} {ss : List ℕ} {i : ℕ} → GroupEnd ls ps ss i → length ps ≡ length ls
group_positions end = accepted_positions end.accepted

pub group-placed : {ls : List ℕ} {ps : List ℤ} {ss : List ℕ} {i : ℕ} → GroupEnd ls ps ss i → i < length ps
group-placed end = omega (arith, accepted_positions end.accepted, end.inside)

pub group_shaped : {ls : List ℕ} {ps : List ℤ} {ss : List ℕ} {i : ℕ} → GroupEnd ls ps ss i → i < length ss
group_shaped end = omega (arith, accepted_shapes end.accepted, end.inside)

pub group-within : {ls : List ℕ} {ps : List ℤ} {ss : List ℕ} {i : ℕ} → GroupEnd ls ps ss i → i + 1 ≤ length ss
group-within end = omega (arith, group_shaped end)

-- there are such lists
two-at_five : GroupEnd (0 ∷ 0 ∷ []) (pos 5 ∷ pos 5 ∷ []) (1 ∷ 0 ∷ []) 1
unfolding judged ordered bits
two-at_five =
    let c : LineLists = line_lists (1 ∷ 0 ∷ []) (0 ∷ 0 ∷ []) (pos 5 ∷ pos 5 ∷ []) (1 ∷ 0 ∷ []) in
    group_end 2 c.rows c.lines c.positions c.shapes 1 (record { some = omega arith; few = omega arith; judged_so = refl }) (omega arith) refl

module _ {ls : List ℕ} {ps : List ℤ} {ss : List ℕ} {i g : ℕ} (end : GroupEnd ls ps ss i) (begun : GroupStart ls ps i g) where
  abbrev xs : List Crossing
  xs = crossings ls ps ss

  abbrev l : ℕ
  l = get_or ls i 0

  abbrev p : ℤ
  p = get_or ps i (pos 0)

  abbrev group : List ℕ
  group = take (i + 1 - g) (drop g ss)

  group_few : (j : ℕ) → j < length ls → get_or ss j 0 < 256
  group_few j h = omega (arith, accepted-named end.accepted j h, end.accepted.few)

  crossed-group : crossed (as_far_as l p) xs ≡ crossed (short_of l p) xs ++ group
  crossed-group =
      let names : ℕ = end.names in
      let c : LineLists = line_lists end.rows ls ps ss in
      let up = end.accepted in
      let top : g + (i + 1 - g) ≡ i + 1 = omega (arith, begun.within) in
      more_pass (as_far_as l p) (short_of l p) g (i + 1 - g) ls ps ss (accepted_positions up) (accepted_shapes up) (omega (arith, end.inside))
      (early names c up i end.inside g begun) (λ j lo hi. here names c up i end.inside g begun j lo (omega arith)) (λ j lo hi. late names c up i end.inside end.ends j (omega arith) hi)

  -- what is inside at the line's start makes no difference
  group_lowest : (start : ℕ → State) → shape_at start xs l p ≡ lowest_from 256 0 outside (after outside group)
  unfolding shape_at
  group_lowest start = lowest_same 256 0 before beyond outside (after outside group) (λ t. ap (beq (before t)) (now t) ∙ flipped-alike group before outside t (before t) false (beq_self (before t)))
    where
      before : State
      before = state_before start xs l p

      beyond : State
      beyond = state_at start xs l p

      now : (t : ℕ) → beyond t ≡ after before group t
      now t =
          ap (λ (u : State). u t) (sym (after-changed_by (crossed (as_far_as l p) xs) (start l))) ∙ ap (λ (us : List ℕ). after (start l) us t) crossed-group
          ∙ after-append (crossed (short_of l p) xs) group (start l) t ∙ ap (λ (u : State). after u group t) (after-changed_by (crossed (short_of l p) xs) (start l))

  group-one : g ≡ i → GroupShape ls ps ss i (get_or ss g 0)
  unfolding after
  group-one same = record {
    is = λ start. sym (group_lowest start ∙ ap (λ (us : List ℕ). lowest_from 256 0 outside (after outside us)) only
        ∙ lowest_is outside (after outside (s ∷ [])) s (omega (arith, group_few i end.inside, ap (λ (k : ℕ). get_or ss k 0) same)) alone);
  }
    where
      s : ℕ
      s = get_or ss g 0

      only : group ≡ s ∷ []
      only =
          let one : i + 1 - g ≡ 1 = omega arith in
          rw (one, drop-cons ss g 0 (omega (arith, accepted_shapes end.accepted, end.inside)))

      alone : LowestChanged outside (after outside (s ∷ [])) s
      alone = record { changed = λ q. false≢true (q ∙ ap (λ (b : Bool). cond b true false) (eq-eqb s s refl)); lowest = λ t h. rw (ne_eqb t s (omega arith)) }

  pub few_group : FewShapes group
  few_group = record { few = λ j h. by j (omega (arith, length-take (i + 1 - g) (drop g ss), h)) }
    where
      by : (j : ℕ) → j < i + 1 - g → get_or group j 0 < 256
      by j h = rw (get_or-take (i + 1 - g) (drop g ss) j 0 h, get_or-drop g ss j 0) (group_few (g + j) (omega (arith, end.inside, begun.within)))

  pub group_many : {odd : List Bool} {r : ℕ} → Tallied group (length group) (replicate 256 false) odd → Least group (length group) (state_of odd) r → GroupShape ls ps ss i r
  group_many {odd} t least = record { is = λ start. sym (group_lowest start ∙ ap (lowest_from 256 0 outside) (sym states) ∙ least_lowest states few_group least) }
    where
      states : state_of odd ≡ after outside group
      states = t.states ∙ rw (none_inside 256, take-length group)

-- ---- back to the first of a group

-- crossings g to i act together
pub record Back (ls : List ℕ) (ps : List ℤ) (i g : ℕ) : Type 0 where
  pub within : g ≤ i
  pub together : (k : ℕ) → g ≤ k → k ≤ i → aside ls ps k i ≡ false

pub back_start : {ls : List ℕ} {ps : List ℤ} {i : ℕ} → Back ls ps i i
back_start {ls} {ps} {i} = record { within = omega arith; together = λ k lo hi. let z : k ≡ i = omega arith in rw (z, eq-eqb (get_or ls i 0) (get_or ls i 0) refl, lt_z_not (get_or ps i (pos 0)) (get_or ps i (pos 0)), le_z_self (get_or ps i (pos 0))) }

aside_line : (ls : List ℕ) (ps : List ℤ) (k i : ℕ) → (get_or ls k 0 ≡ get_or ls i 0 → ⊥) → aside ls ps k i ≡ true
aside_line ls ps k i h = rw (ne_eqb _ _ h)

aside_place : (ls : List ℕ) (ps : List ℤ) (k i : ℕ) → get_or ls k 0 ≡ get_or ls i 0 → aside ls ps k i ≡ lt_z (get_or ps k (pos 0)) (get_or ps i (pos 0))
aside_place ls ps k i same = rw (eq-eqb _ _ same)

module _ {ls : List ℕ} {ps : List ℤ} {i : ℕ} where
  pub back_end : Back ls ps i 0 → GroupStart ls ps i 0
  back_end b = record { within = b.within; together = b.together; first = λ k. absurd (omega arith) }

  module _ (h : ℕ) (b : Back ls ps i (h + 1)) where
    before : h + 1 - 1 ≡ h
    before = omega arith

    pub back_line : (get_or ls h 0 ≡ get_or ls i 0 → ⊥) → GroupStart ls ps i (h + 1)
    back_line apart = record { within = b.within; together = b.together; first = λ k. rw before (aside_line ls ps h i apart) }

    pub back_place : get_or ls h 0 ≡ get_or ls i 0 → lt_z (get_or ps h (pos 0)) (get_or ps i (pos 0)) ≡ true → GroupStart ls ps i (h + 1)
    back_place same short = record { within = b.within; together = b.together; first = λ k. rw before (aside_place ls ps h i same ∙ short) }

    pub back_on : get_or ls h 0 ≡ get_or ls i 0 → lt_z (get_or ps h (pos 0)) (get_or ps i (pos 0)) ≡ false → Back ls ps i h
    back_on same short = record { within = omega (arith, b.within); together = λ k lo hi. by k lo hi (dec_lt h k) }
      where
        by : (k : ℕ) → h ≤ k → k ≤ i → Dec (h < k) → aside ls ps k i ≡ false
        by k lo hi (yes q) = b.together k (omega arith) hi
        by k lo hi (no q) = let z : k ≡ h = omega arith in rw z (aside_place ls ps h i same ∙ short)

-- ---- the first at its position

pub group-alone : {ls : List ℕ} {ps : List ℤ} {ss : List ℕ} {i : ℕ} {r : Bool} → GroupEnd ls ps ss i → FirstThere ls ps i r → r ≡ true → GroupShape ls ps ss i (get_or ss i 0)
group-alone end there h = group-one end (there.first h) refl

back_here : {ls : List ℕ} {ps : List ℤ} {i : ℕ} → 0 < i → Back ls ps i (i - 1 + 1)
back_here {ls} {ps} {i} some = let z : i - 1 + 1 ≡ i = omega arith in rw z back_start

pub first_of-all : {ls : List ℕ} {ps : List ℤ} {i : ℕ} → i ≡ 0 → FirstThere ls ps i true
first_of-all {ls} {ps} h = record { first = λ z. rw h (back_end back_start) }

pub first_of-line : {ls : List ℕ} {ps : List ℤ} {i : ℕ} → (i ≡ 0 → ⊥) → (get_or ls (i - 1) 0 ≡ get_or ls i 0 → ⊥) → FirstThere ls ps i true
first_of-line {ls} {ps} {i} n h = record { first = λ z. let e : i - 1 + 1 ≡ i = omega arith in let b : Back ls ps i (i - 1 + 1) = back_here (omega arith) in rw e at (back_line (i - 1) b h) }

pub first_by_place : {ls : List ℕ} {ps : List ℤ} {i : ℕ} → (i ≡ 0 → ⊥) → get_or ls (i - 1) 0 ≡ get_or ls i 0 → {short : Bool} → short ≡ lt_z (get_or ps (i - 1) (pos 0)) (get_or ps i (pos 0)) → FirstThere ls ps i short
first_by_place {ls} {ps} {i} n same is = record { first = λ h. let e : i - 1 + 1 ≡ i = omega arith in let b : Back ls ps i (i - 1 + 1) = back_here (omega arith) in rw e at (back_place (i - 1) b same (sym is ∙ h)) }
