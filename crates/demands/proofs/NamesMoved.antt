-- The names of a moved sheet are the same bytes, and stand where they stood: document 02, K10.
use Prim.Native.Nat.{ℕ, zero, suc, ◌-◌, ◌<◌, ◌≤◌}
use native.Mathlib.Omega.{arith}
use mathlib.Core.Path.{◌≡◌, refl, sym, ap, ◌∙◌}
use mathlib.Core.Bool.{Bool, true, false, cond}
use mathlib.Core.List.{List, [], ◌∷◌, map, map-append}
use lib.Dec.{ltb}
use lib.ListN.{length}
use borrow.Author.Tests.{ltb-true, ltb-false}
use Rattle.outcome.specs.Outcome.{Outcome, given, need, ◌>>=◌, ◌>>◌, of_fittings}
use Rattle.outcome.proofs.Questions.{bind_given, fittings-given}
use Rattle.sheet.specs.Sheet.{Sheets, alone, beside, Sheet, past_at, own, fitting_names, reading}
use Rattle.sheet.specs.Walk.{walk_end}
use Rattle.sheet.specs.Guaranteed.{Own}
use Rattle.sheet.proofs.Names.{GoodNames-none, walk_on}
use Rattle.sheet.proofs.Guaranteed.{own_guaranteed, fitted}
use Rattle.job_move.specs.Moving.{moved}
use Rattle.job_move.specs.Journey.{moved_in}
use Rattle.job_move.proofs.Journey.{Agree, past-agree, moved-agree, reading-moves}
use Rattle.job_name.specs.Naming.{naming, Stand, field_in, stand_of, placing}
use Rattle.job_name.specs.Within.{length_given, fitted_among}
use Rattle.job_name.proofs.Placing.{asked_place, own-all}
use Rattle.job_names.specs.Names.{numbers_below, placing_all, giving_all, naming_all}
use Rattle.job_names.proofs.Giving.{asked-all}

-- ---- the walk over the names

walk_mono : (s : List ℕ) (at n k : ℕ) → n ≤ k → walk_end s at n ≤ walk_end s at k
unfolding walk_end
walk_mono s at zero k h = walk_on s at k
walk_mono s at (suc n) zero h = absurd (omega arith)
walk_mono s at (suc n) (suc k) h = walk_mono s (past_at s at) n k (omega arith)

past-high : (s : List ℕ) (at : ℕ) → 5 ≤ at → 5 ≤ past_at s at
unfolding past_at
past-high s at h = omega arith

module _ (s t : List ℕ) (m : ℕ) (same : Agree s t m) (short : m ≤ length s) where
  walk_agree : (n at : ℕ) → 5 ≤ at → walk_end s at n ≤ m → walk_end t at n ≡ walk_end s at n
  unfolding walk_end
  walk_agree zero at five h = refl
  walk_agree (suc n) at five h =
      let on : past_at s at ≤ m = omega (arith, walk_on s (past_at s at) n, h) in
      rw (past-agree s t m same short at five on) (walk_agree n (past_at s at) (past-high s at five) h)

-- ---- a name of the customer's sheet

module _ (fs : List (List ℕ)) (s : List ℕ) (r : Sheet) (g : Own fs s r) where
  field_stays : (n : ℕ) → n < g.owned → field_in 2 (moved s r) n ≡ field_in 2 s n
  field_stays n h =
      let last : walk_end s 5 (suc n) ≤ r.first - 3 = omega (arith, g.follows, walk_mono s 5 (suc n) g.owned (omega arith)) in
      let first : walk_end s 5 n ≤ r.first - 3 = omega (arith, walk_mono s 5 n (suc n) (omega arith), last) in
      let short : r.first - 3 ≤ length s = omega (arith, g.ends, g.some_bytes) in
      let agree = moved-agree fs s r g in
      rw (walk_agree s (moved s r) (r.first - 3) agree short n 5 (omega arith) first, walk_agree s (moved s r) (r.first - 3) agree short (suc n) 5 (omega arith) last)

-- ---- of the sheets of a call

fitted_same : (c : Sheets) (r : Sheet) → fitted_among (moved_in c r) ≡ fitted_among c
fitted_same (alone s) r = refl
fitted_same (beside f s) r = refl

stand_stays : (c : Sheets) (r : Sheet) → reading c ≡ given r → (k : ℕ) → k < length r.names → stand_of (moved_in c r) (fitted_among c) k ≡ stand_of c (fitted_among c) k
unfolding reading
stand_stays (alone s) r h k l =
    let g = own_guaranteed [] s r GoodNames-none h in
    field_stays [] s r g k (omega (arith, l, own-all [] s r g))
stand_stays (beside f s) r h k l =
    let b = bind_given (of_fittings (fitting_names f)) (λ names. own names s) r h in
    let named = fittings-given (fitting_names f) b.0 b.1 in
    let g = own_guaranteed b.0 s r (fitted f b.0 named).good_names b.2 in
    let m : length_given (fitting_names f) ≡ length b.0 = ap length_given named in
    by b.0 g (length_given (fitting_names f)) m (ltb k (length_given (fitting_names f))) refl
  where
    by : (fs : List (List ℕ)) (g : Own fs s r) (m : ℕ) → m ≡ length fs → (b : Bool) → ltb k m ≡ b
        → cond b (field_in 1 f k) (field_in 2 (moved s r) (k - m)) ≡ cond b (field_in 1 f k) (field_in 2 s (k - m))
    by fs g m e true q = refl
    by fs g m e false q = field_stays fs s r g (k - m) (omega (arith, l, own-all fs s r g, e, ltb-false k m q))

map_same : (f g : ℕ → Stand) (n : ℕ) → ((k : ℕ) → k < n → f k ≡ g k) → map f (numbers_below n) ≡ map g (numbers_below n)
unfolding numbers_below
map_same f g zero h = refl
map_same f g (suc n) h =
    rw (map-append f (numbers_below n) (n ∷ []), map-append g (numbers_below n) (n ∷ []), map_same f g n (λ k l. h k (omega arith)), h n (omega arith))

module _ (c : Sheets) (r : Sheet) (read : reading c ≡ given r) where
  pub name-moved : (k : ℕ) → naming (moved_in c r) k ≡ naming c k
  unfolding naming
  name-moved k = rw (reading-moves c r read, read)

  pub place_moved : (k : ℕ) → placing (moved_in c r) k ≡ placing c k
  place_moved k = there ∙ by (ltb k (length r.names)) refl ∙ sym here
    where
      by : (b : Bool) → ltb k (length r.names) ≡ b
          → (need b 10 0 >> given (stand_of (moved_in c r) (fitted_among c) k)) ≡ (need b 10 0 >> given (stand_of c (fitted_among c) k))
      by true e = ap given (stand_stays c r read k (ltb-true k (length r.names) e))
      by false e = refl

      there : placing (moved_in c r) k ≡ (need (ltb k (length r.names)) 10 0 >> given (stand_of (moved_in c r) (fitted_among c) k))
      there = asked_place (moved_in c r) k ∙ rw (reading-moves c r read, fitted_same c r)

      here : placing c k ≡ (need (ltb k (length r.names)) 10 0 >> given (stand_of c (fitted_among c) k))
      here = asked_place c k ∙ rw read

  all_moved : placing_all (moved_in c r) ≡ placing_all c
  all_moved = there ∙ ap given (map_same (stand_of (moved_in c r) (fitted_among c)) (stand_of c (fitted_among c)) (length r.names) (stand_stays c r read)) ∙ sym here
    where
      there : placing_all (moved_in c r) ≡ given (map (stand_of (moved_in c r) (fitted_among c)) (numbers_below (length r.names)))
      there = asked-all (moved_in c r) ∙ rw (reading-moves c r read, fitted_same c r)

      here : placing_all c ≡ given (map (stand_of c (fitted_among c)) (numbers_below (length r.names)))
      here = asked-all c ∙ rw read

  pub names-moved : (sheets firsts pasts : ℕ) → naming_all (moved_in c r) sheets firsts pasts ≡ naming_all c sheets firsts pasts
  unfolding naming_all
  names-moved sheets firsts pasts = ap (λ (o : Outcome (List Stand)). o >>= λ stands. giving_all stands sheets firsts pasts) all_moved
