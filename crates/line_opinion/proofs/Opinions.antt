-- The opinion on their list means what document 02 says, and no other does.
use mathlib.Core.Path.{◌≡◌, refl, sym, ap, ◌∙◌, subst}
use mathlib.Core.Bool.{Bool, true, false, ◌&&◌, ◌||◌, true≢false, false≢true}
use mathlib.Core.List.{List, [], ◌∷◌, ◌++◌, map}
use Prim.Native.Nat.{ℕ, zero, suc, ◌+◌, ◌≤◌, ◌<◌}
use native.Mathlib.Omega.{arith}
use native.Mathlib.Decide.{dec_lt}
use borrow.Author.Tests.{eq-eqb, ne_eqb, eqb-true, le-ltb}
use lib.IntN.{ℤ}
use lib.ListN.{take}
use lib.Dec.{ltb, eqb}
use lib.Signed.{lt_z, le_z}
use Rattle.lines.specs.Lines.{Wall}
use Rattle.lines.specs.Right.{Rising, Next}
use Rattle.lines.proofs.Keys.{antisym, lt→no, no→lt, lt→le, lt_trans, le_z_self}
use Rattle.line_opinion.specs.Judging.{Entry, bare, same_place, keeps, After, Orderly, touches, join, joined, RightFor, Opinion, right, wrong_at, fits, beyond, opinion_from, opinion}
use Rattle.line_opinion.specs.Meaning.{Begins, WrongAt, Means}

-- ---- entries in rising order that never touch, as our walls are

abbrev apart : Entry → Entry → Bool
apart w v = ltb w.line v.line || (eqb w.line v.line && lt_z w.end v.start)

abbrev Clear : Entry → List Entry → Type 0
Clear w [] = Unit {0}
Clear w (v ∷ vs) = apart w v ≡ true

abbrev Clearly : List Entry → Type 0
Clearly [] = Unit {0}
Clearly (w ∷ ws) = (lt_z w.start w.end ≡ true) × (Clear w ws × Clearly ws)

clear_walls : (w : Wall) (ws : List Wall) → Next w ws → Clear (bare w) (map bare ws)
clear_walls w [] n = tt
clear_walls w (v ∷ ws) n = n

rising_clearly : (ws : List Wall) → Rising ws → Clearly (map bare ws)
rising_clearly [] r = tt
rising_clearly (w ∷ ws) r = (r.0, (clear_walls w ws r.1.0, rising_clearly ws r.1.1))

-- ---- positions

and_both : (a b : Bool) → (a && b) ≡ true → (a ≡ true) × (b ≡ true)
and_both true b e = (refl, e)
and_both false b e = absurd (false≢true e)

pub same-same : (a b : ℤ) → same_place a b ≡ true → a ≡ b
same-same a b e = let h = and_both (le_z a b) (le_z b a) e in antisym a b h.0 h.1

same_self : (a : ℤ) → same_place a a ≡ true
same_self a = rw (le_z_self a)

-- ---- walls

same-wall : (v w : Entry) → v.line ≡ w.line → v.start ≡ w.start → v.end ≡ w.end → v ≡ w
same-wall v w a b c = λ i. record { line = a i; start = b i; end = c i }

head : (v w : Entry) (vs ws : List Entry) → ◌≡◌ {A = List Entry} (v ∷ vs) (w ∷ ws) → v ≡ w
head v w vs ws e = cc

tail : (v w : Entry) (vs ws : List Entry) → ◌≡◌ {A = List Entry} (v ∷ vs) (w ∷ ws) → vs ≡ ws
tail v w vs ws e = cc

cons_nil {ℓ} : {X : Type ℓ} (v : Entry) (vs : List Entry) → ◌≡◌ {A = List Entry} (v ∷ vs) [] → X
cons_nil v vs e = let z : ◌≡◌ {A = ℕ} 0 1 = cc in let b : ⊥ = omega arith in absurd b

-- w with what it is joined to
abbrev longer : Entry → Entry → Entry
longer w u = record { line = w.line; start = w.start; end = u.end }

joins : (w u : Entry) (us : List Entry) → touches w u ≡ true → join w (u ∷ us) ≡ longer w u ∷ us
joins w u us t = rw t

stays : (w u : Entry) (us : List Entry) → touches w u ≡ false → join w (u ∷ us) ≡ w ∷ u ∷ us
stays w u us t = rw t

joined_cons : (w : Entry) (ws : List Entry) → joined (w ∷ ws) ≡ join w (joined ws)
unfolding joined
joined_cons w ws = refl

joined_nil : joined [] ≡ []
unfolding joined
joined_nil = refl

-- the three ways in which w stands before a joined list
module _ {ℓ} (X : Type ℓ) (w : Entry) (us : List Entry) (v : Entry) (vs : List Entry) (e : join w us ≡ v ∷ vs)
    (alone : us ≡ [] → v ≡ w → vs ≡ [] → X)
    (touching : (u : Entry) → us ≡ u ∷ vs → touches w u ≡ true → v ≡ longer w u → X)
    (clear : (u : Entry) (us' : List Entry) → us ≡ u ∷ us' → touches w u ≡ false → v ≡ w → vs ≡ us → X) where
  ways : X
  ways = go us refl
    where
      go : (l : List Entry) → us ≡ l → X
      go [] q = let f : w ∷ [] ≡ v ∷ vs = (rw q at e) in alone q (sym (head w v [] vs f)) (sym (tail w v [] vs f))
      go (u ∷ us') q = by (touches w u) refl
        where
          g : join w (u ∷ us') ≡ v ∷ vs
          g = rw q at e

          by : (t : Bool) → touches w u ≡ t → X
          by true t =
              let f : longer w u ∷ us' ≡ v ∷ vs = sym (joins w u us' t) ∙ g in
              touching u (q ∙ ap (λ (l : List Entry). u ∷ l) (tail (longer w u) v us' vs f)) t (sym (head (longer w u) v us' vs f))
          by false t =
              let f : w ∷ u ∷ us' ≡ v ∷ vs = sym (stays w u us' t) ∙ g in
              clear u us' q t (sym (head w v (u ∷ us') vs f)) (sym (tail w v (u ∷ us') vs f) ∙ sym q)

-- the first of a joined list begins where the first entry does
heads : (w : Entry) (ws : List Entry) (u : Entry) (us : List Entry) → joined (w ∷ ws) ≡ u ∷ us → (u.line ≡ w.line) × (u.start ≡ w.start)
heads w ws u us e =
    ways ((u.line ≡ w.line) × (u.start ≡ w.start)) w (joined ws) u us (sym (joined_cons w ws) ∙ e)
    (λ a b c. (ap (λ (x : Entry). x.line) b, ap (λ (x : Entry). x.start) b))
    (λ x a t b. (ap (λ (x : Entry). x.line) b, ap (λ (x : Entry). x.start) b))
    (λ x xs a t b c. (ap (λ (x : Entry). x.line) b, ap (λ (x : Entry). x.start) b))

never_nil : (w : Entry) (us : List Entry) → join w us ≡ [] → ⊥
never_nil w [] e = cons_nil w [] e
never_nil w (u ∷ us) e = by (touches w u) refl
  where
    by : (t : Bool) → touches w u ≡ t → ⊥
    by true t = cons_nil (longer w u) us (sym (joins w u us t) ∙ e)
    by false t = cons_nil w (u ∷ us) (sym (stays w u us t) ∙ e)

-- and is of positive length
grown : (ws : List Entry) (u : Entry) (us : List Entry) → Orderly ws → joined ws ≡ u ∷ us → lt_z u.start u.end ≡ true
grown [] u us l e = cons_nil u us (sym e ∙ joined_nil)
grown (w ∷ ws) u us l e = by (grown ws)
  where
    by : ((u : Entry) (us : List Entry) → Orderly ws → joined ws ≡ u ∷ us → lt_z u.start u.end ≡ true) → lt_z u.start u.end ≡ true
    by ih =
        ways (lt_z u.start u.end ≡ true) w (joined ws) u us (sym (joined_cons w ws) ∙ e)
        (λ a b c. rw b l.0)
        (λ x a t b. rw b (lt_trans w.start w.end x.end l.0 (rw (same-same w.end x.start (and_both (eqb w.line x.line) (same_place w.end x.start) t).1) (ih x us l.1.1 a))))
        (λ x xs a t b c. rw b l.0)

-- ---- one entry

fits_self : (w : Entry) → lt_z w.start w.end ≡ true → fits w w ≡ true
fits_self w h = rw (eq-eqb w.line w.line refl, le_z_self w.start, h, le_z_self w.end)

beyond_self : (w : Entry) (vs : List Entry) → beyond w w vs ≡ vs
beyond_self w vs = rw (le_z_self w.end)

abbrev Forth : Entry → List Entry → Entry → List Entry → Type 0
Forth v vs w ws = (fits v w ≡ true) × RightFor (beyond v w vs) ws

forth : (v : Entry) (vs : List Entry) (w : Entry) (ws : List Entry) → RightFor (v ∷ vs) (w ∷ ws) → Forth v vs w ws
forth v vs w ws r =
    ways (Forth v vs w ws) w (joined ws) v vs (sym (joined_cons w ws) ∙ r.same)
    (λ a b c. all b (a ∙ sym c))
    (λ u a t b. some u a (and_both (eqb w.line u.line) (same_place w.end u.start) t) b)
    (λ u us a t b c. all b (sym c))
  where
    all : v ≡ w → joined ws ≡ vs → Forth v vs w ws
    all b c = rw b (fits_self w r.orderly.0, record { orderly = r.orderly.1.1; same = c ∙ sym (beyond_self w vs) })

    some : (u : Entry) → joined ws ≡ u ∷ vs → (eqb w.line u.line ≡ true) × (same_place w.end u.start ≡ true) → v ≡ longer w u → Forth v vs w ws
    some u a t b =
        let m : w.end ≡ u.start = same-same w.end u.start t.1 in
        let h : lt_z w.end u.end ≡ true = rw m (grown ws u vs r.orderly.1.1 a) in
        let k : u ≡ record { line = w.line; start = w.end; end = u.end } = same-wall u _ (sym (eqb-true _ _ t.0)) (sym m) refl in
        rw b (
          rw (eq-eqb w.line w.line refl, le_z_self w.start, r.orderly.0, lt→le w.end u.end h),
          record { orderly = r.orderly.1.1; same = a ∙ ap (λ (x : Entry). x ∷ vs) k ∙ sym (rest h) },
        )
      where
        rest : lt_z w.end u.end ≡ true → beyond (longer w u) w vs ≡ record { line = w.line; start = w.end; end = u.end } ∷ vs
        rest h = rw (lt→no w.end u.end h)

record Fitted (v w : Entry) : Type 0 where
  line : w.line ≡ v.line
  start : w.start ≡ v.start
  long : lt_z w.start w.end ≡ true
  within : le_z w.end v.end ≡ true

fitted : (v w : Entry) → fits v w ≡ true → Fitted v w
fitted v w e =
    let a = and_both (eqb w.line v.line && same_place w.start v.start && lt_z w.start w.end) (le_z w.end v.end) e in
    let b = and_both (eqb w.line v.line && same_place w.start v.start) (lt_z w.start w.end) a.0 in
    let c = and_both (eqb w.line v.line) (same_place w.start v.start) b.0 in
    record { line = eqb-true _ _ c.0; start = same-same w.start v.start c.1; long = b.1; within = a.1 }

apart-keeps : (w v : Entry) → apart w v ≡ true → keeps w v ≡ true
apart-keeps w v e = by (ltb w.line v.line) refl (eqb w.line v.line) refl
  where
    by : (a : Bool) → ltb w.line v.line ≡ a → (b : Bool) → eqb w.line v.line ≡ b → keeps w v ≡ true
    by true a b c = rw a
    by false a true c = rw (a, c) (lt→le w.end v.start (rw (a, c) at e))
    by false a false c = absurd (false≢true (rw (a, c) at e))

apart_clear : (w v : Entry) → apart w v ≡ true → touches w v ≡ false
apart_clear w v e = by (dec_lt w.line v.line) (eqb w.line v.line) refl
  where
    by : Dec (w.line < v.line) → (b : Bool) → eqb w.line v.line ≡ b → touches w v ≡ false
    by d false c = rw c
    by (yes h) true c = rw (ne_eqb w.line v.line (omega arith))
    by (no h) true c =
        let k : lt_z w.end v.start ≡ true = rw (le-ltb w.line v.line (omega arith), c) at e in
        rw (c, lt→le w.end v.start k, lt→no w.end v.start k)

-- an entry before a list whose join is known
module _ (w : Entry) where
  keeps-first : (ws us : List Entry) → joined ws ≡ us → After w us → After w ws
  keeps-first [] us e a = tt
  keeps-first (x ∷ xs) [] e a = absurd (never_nil x (joined xs) (sym (joined_cons x xs) ∙ e))
  keeps-first (x ∷ xs) (u ∷ us) e a =
      let h = heads x xs u us e in
      rw (sym h.0, sym h.1) a

  rising-after : (vs : List Entry) → Clear w vs → After w vs
  rising-after [] n = tt
  rising-after (v ∷ vs) n = apart-keeps w v n

  rising-join : (vs : List Entry) → Clear w vs → join w vs ≡ w ∷ vs
  rising-join [] n = refl
  rising-join (v ∷ vs) n = stays w v vs (apart_clear w v n)

back : (v : Entry) (vs : List Entry) (w : Entry) (ws : List Entry) → Clearly (v ∷ vs) → fits v w ≡ true → RightFor (beyond v w vs) ws → RightFor (v ∷ vs) (w ∷ ws)
back v vs w ws ri e r = by (le_z v.end w.end) refl
  where
    f : Fitted v w
    f = fitted v w e

    by : (t : Bool) → le_z v.end w.end ≡ t → RightFor (v ∷ vs) (w ∷ ws)
    by true t =
        let m : v ≡ w = same-wall v w (sym f.line) (sym f.start) (antisym v.end w.end t f.within) in
        let j : joined ws ≡ vs = r.same ∙ rw t in
        let n : Clear w vs = subst (λ (x : Entry). Clear x vs) m ri.1.0 in
        record {
          orderly = (f.long, (keeps-first w ws vs j (rising-after w vs n), r.orderly));
          same = joined_cons w ws ∙ ap (join w) j ∙ rising-join w vs n ∙ ap (λ (x : Entry). x ∷ vs) (sym m);
        }
    by false t =
        let u : Entry = record { line = v.line; start = w.end; end = v.end } in
        let j : joined ws ≡ u ∷ vs = r.same ∙ rw t in
        let q : touches w u ≡ true = rw (eq-eqb w.line v.line f.line) (same_self w.end) in
        let k : keeps w u ≡ true = rw (le-ltb w.line v.line (omega (arith, f.line)), eq-eqb w.line v.line f.line) (le_z_self w.end) in
        record {
          orderly = (f.long, (keeps-first w ws (u ∷ vs) j k, r.orderly));
          same = joined_cons w ws ∙ ap (join w) j ∙ joins w u vs q ∙ ap (λ (x : Entry). x ∷ vs) (same-wall (longer w u) v f.line f.start refl);
        }

still : (v : Entry) (vs : List Entry) (w : Entry) → Clearly (v ∷ vs) → fits v w ≡ true → Clearly (beyond v w vs)
still v vs w ri e = by (le_z v.end w.end) refl
  where
    same_next : (vs : List Entry) → Clear v vs → Clear (record { line = v.line; start = w.end; end = v.end }) vs
    same_next [] n = tt
    same_next (x ∷ xs) n = n

    by : (t : Bool) → le_z v.end w.end ≡ t → Clearly (beyond v w vs)
    by true t = rw t ri.1.1
    by false t = rw t (no→lt w.end v.end t, (same_next vs ri.1.0, ri.1.1))

-- ---- a list of walls that rise and never touch is right for itself

orderly_of : (ws : List Entry) → Clearly ws → Orderly ws
orderly_of [] r = tt
orderly_of (w ∷ ws) r = (r.0, (rising-after w ws r.1.0, orderly_of ws r.1.1))

joined_of : (ws : List Entry) → Clearly ws → joined ws ≡ ws
joined_of [] r = joined_nil
joined_of (w ∷ ws) r = joined_cons w ws ∙ ap (join w) (joined_of ws r.1.1) ∙ rising-join w ws r.1.0

own : (ws : List Entry) → Clearly ws → RightFor ws ws
own ws r = record { orderly = orderly_of ws r; same = joined_of ws r }

begin : (ws : List Entry) → Clearly ws → Begins ws []
begin ws r = record { rest = ws; is_right = own ws r }

-- ---- the judgement

pub opinion-none : (i : ℕ) → opinion_from i [] [] ≡ right
unfolding opinion_from
opinion-none i = refl

pub opinion_lack : (i : ℕ) (v : Entry) (vs : List Entry) → opinion_from i (v ∷ vs) [] ≡ wrong_at i
unfolding opinion_from
opinion_lack i v vs = refl

pub opinion_more : (i : ℕ) (w : Entry) (ws : List Entry) → opinion_from i [] (w ∷ ws) ≡ wrong_at i
unfolding opinion_from
opinion_more i w ws = refl

pub opinion-on : (i : ℕ) (v w : Entry) (vs ws : List Entry) → fits v w ≡ true → opinion_from i (v ∷ vs) (w ∷ ws) ≡ opinion_from (i + 1) (beyond v w vs) ws
unfolding opinion_from
opinion-on i v w vs ws e = rw (e, opinion_from)

pub opinion-off : (i : ℕ) (v w : Entry) (vs ws : List Entry) → fits v w ≡ false → opinion_from i (v ∷ vs) (w ∷ ws) ≡ wrong_at i
unfolding opinion_from
opinion-off i v w vs ws e = rw (e, opinion_from)

record At (i : ℕ) (ours theirs : List Entry) (k : ℕ) : Type 0 where
  place : ℕ
  there : k ≡ i + place
  wrong : WrongAt ours theirs place

abbrev From : ℕ → List Entry → List Entry → Opinion → Type 0
From i ours theirs right = RightFor ours theirs
From i ours theirs (wrong_at k) = At i ours theirs k

-- nothing right has these entries: they are wrong at once
at_once : (i : ℕ) (ours : List Entry) (w : Entry) (ws : List Entry) → Clearly ours → ((xs : List Entry) → RightFor ours (w ∷ xs) → ⊥) → At i ours (w ∷ ws) i
at_once i ours w ws r h = record {
  place = 0;
  there = omega arith;
  wrong = record {
    wrong = h ws;
    within = omega arith;
    before = λ j k. let z : j ≡ 0 = omega arith in rw z (begin ours r);
    after = λ k b. h b.rest b.is_right;
  };
}

one_on : (i : ℕ) (v w : Entry) (vs ws : List Entry) → Clearly (v ∷ vs) → fits v w ≡ true → (r : Opinion) → From (i + 1) (beyond v w vs) ws r → From i (v ∷ vs) (w ∷ ws) r
one_on i v w vs ws ri e right f = back v vs w ws ri e f
one_on i v w vs ws ri e (wrong_at k) f = record {
  place = suc f.place;
  there = omega (arith, f.there);
  wrong = record {
    wrong = λ r. f.wrong.wrong (forth v vs w ws r).1;
    within = omega (arith, f.wrong.within);
    before = so;
    after = λ h b. f.wrong.after (omega arith) (record { rest = b.rest; is_right = (forth v vs w (take (suc f.place) ws ++ b.rest) b.is_right).1 });
  };
}
  where
    so : (j : ℕ) → j ≤ suc f.place → Begins (v ∷ vs) (take j (w ∷ ws))
    so zero h = begin (v ∷ vs) ri
    so (suc j) h =
        let b = f.wrong.before j (omega arith) in
        record { rest = b.rest; is_right = back v vs w (take j ws ++ b.rest) ri e b.is_right }

from : (theirs : List Entry) (i : ℕ) (ours : List Entry) → Clearly ours → From i ours theirs (opinion_from i ours theirs)
from [] i [] r = rw (opinion-none i) (record { orderly = tt; same = joined_nil })
from [] i (v ∷ vs) r = rw (opinion_lack i v vs) (record {
  place = 0;
  there = omega arith;
  wrong = record {
    wrong = λ q. cons_nil v vs (sym q.same ∙ joined_nil);
    within = omega arith;
    before = λ j k. let z : j ≡ 0 = omega arith in rw z (begin (v ∷ vs) r);
    after = λ h b. let z : ⊥ = omega arith in z;
  };
})
from (w ∷ ws) i [] r = rw (opinion_more i w ws) (at_once i [] w ws r (λ xs q. never_nil w (joined xs) (sym (joined_cons w xs) ∙ q.same)))
from (w ∷ ws) i (v ∷ vs) r = by (fits v w) refl (from ws (i + 1) (beyond v w vs))
  where
    by : (t : Bool) → fits v w ≡ t → (Clearly (beyond v w vs) → From (i + 1) (beyond v w vs) ws (opinion_from (i + 1) (beyond v w vs) ws)) → From i (v ∷ vs) (w ∷ ws) (opinion_from i (v ∷ vs) (w ∷ ws))
    by true e ih = rw (opinion-on i v w vs ws e) (one_on i v w vs ws r e (opinion_from (i + 1) (beyond v w vs) ws) (ih (still v vs w r e)))
    by false e ih = rw (opinion-off i v w vs ws e) (at_once i (v ∷ vs) w ws r (λ xs q. true≢false (sym (forth v vs w xs q).0 ∙ e)))

means : (ours theirs : List Entry) → Clearly ours → Means ours theirs (opinion_from 0 ours theirs)
means ours theirs r = by (opinion_from 0 ours theirs) (from theirs 0 ours r)
  where
    by : (j : Opinion) → From 0 ours theirs j → Means ours theirs j
    by right f = f
    by (wrong_at k) f = let e : f.place ≡ k = omega (arith, f.there) in rw (← e) f.wrong

-- What the opinion says of our walls and their list is so.
pub opinion_means : (ours : List Wall) (theirs : List Entry) → Rising ours → Means (map bare ours) theirs (opinion ours theirs)
opinion_means ours theirs r = means (map bare ours) theirs (rising_clearly ours r)

-- Nothing else is.
pub one-opinion : (ours theirs : List Entry) (a b : Opinion) → Means ours theirs a → Means ours theirs b → a ≡ b
one-opinion ours theirs right right x y = refl
one-opinion ours theirs right (wrong_at k) x y = absurd (y.wrong x)
one-opinion ours theirs (wrong_at k) right x y = absurd (x.wrong y)
one-opinion ours theirs (wrong_at k) (wrong_at m) x y = by (dec_lt k m) (dec_lt m k)
  where
    by : Dec (k < m) → Dec (m < k) → wrong_at k ≡ wrong_at m
    by (yes h) d = absurd (x.after (omega (arith, y.within)) (y.before (suc k) (omega arith)))
    by (no h) (yes d) = absurd (y.after (omega (arith, x.within)) (x.before (suc m) (omega arith)))
    by (no h) (no d) = ap wrong_at (omega arith)
