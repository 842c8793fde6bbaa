-- What an answer stands for: bytes that are there, and the name's.
use Prim.Native.Nat.{ℕ, suc, ◌+◌, ◌-◌, ◌≤◌, ◌<◌}
use native.Mathlib.Omega.{arith}
use mathlib.Core.Path.{◌≡◌, refl, sym, ap, ◌∙◌}
use mathlib.Core.Bool.{Bool, true, false, cond}
use mathlib.Core.List.{List, []}
use mathlib.Core.Logic.{◌⊎◌, inl, inr}
use lib.Dec.{ltb}
use lib.ListN.{length}
use borrow.Author.Tests.{ltb-true, ltb-false}
use Rattle.outcome.specs.Outcome.{Outcome, given, refused, unfit, need, ◌>>=◌, ◌>>◌, part}
use Rattle.outcome.proofs.Questions.{need-given, bind_given, given-same}
use Rattle.sheet.specs.Sheet.{alone, beside, sheets_of, Sheet, between, length_at, past_at, own, fitting_names, reading}
use Rattle.sheet.specs.Walk.{walk_end}
use Rattle.sheet.specs.Guaranteed.{Own}
use Rattle.sheet.proofs.Guaranteed.{own_guaranteed, fitted}
use Rattle.sheet.proofs.Names.{GoodNames-none, walk_end_more}
use Rattle.job_name.specs.Naming.{naming, Stand, stand, field_in, stand_of, placing, bytes_of}
use Rattle.job_name.specs.Named.{placed_of, bytes_given}
use Rattle.job_name.specs.Within.{Within, StandsIn, part_of}
use Rattle.std.specs.Prelude.{Result, Ok, Err}
use Rattle.outcome.specs.declared.Refusal.{Refusal}
use Rattle.outcome.specs.declared.Refusal.TheVariants as refusal
use Rattle.job_name.specs.declared.Place.{Place}
use Rattle.job_name.specs.declared.Place.TheVariants as place
use Rattle.job_name.proofs.Walking.{walk_rises}
use Rattle.job_name.proofs.Bytes.{name_stands}
use Rattle.job_name.proofs.Placing.{own_end, own-all}

-- the n-th name of so many that are there
within : (s : List ℕ) (n m : ℕ) → n < m → walk_end s 5 m ≤ length s → Within s (walk_end s 5 n + 3) (walk_end s 5 (suc n))
unfolding past_at
within s n m h inside =
    record {
      ordered = let e : walk_end s 5 (suc n) ≡ walk_end s 5 n + 3 + length_at s (walk_end s 5 n) = walk_end_more s 5 n in omega (arith, e);
      inside = omega (arith, walk_rises s 5 (suc n) m (omega arith), inside);
    }

-- ---- what is given, by the sheets

record OwnStand (s : List ℕ) (v : Stand) : Type 0 where
  number : ℕ
  is : v ≡ field_in 2 s number
  there : Within s (walk_end s 5 number + 3) (walk_end s 5 (suc number))

record FittingStand (f : List ℕ) (v : Stand) : Type 0 where
  number : ℕ
  is : v ≡ field_in 1 f number
  there : Within f (walk_end f 5 number + 3) (walk_end f 5 (suc number))

alone-given : (s : List ℕ) (k : ℕ) (v : Stand) → placing (alone s) k ≡ given v → OwnStand s v
unfolding placing reading
alone-given s k v h =
    let b = bind_given (own [] s) (λ (r : Sheet). need (ltb k (length r.names)) 10 0 >> given (field_in 2 s k)) v h in
    let n = need-given (ltb k (length b.0.names)) 10 0 (given (field_in 2 s k)) v b.2 in
    let g = own_guaranteed [] s b.0 GoodNames-none b.1 in
    record {
      number = k;
      is = sym (given-same _ _ n.1);
      there = within s k g.owned (omega (arith, ltb-true k (length b.0.names) n.0, own-all [] s b.0 g)) (own_end [] s b.0 g);
    }

module _ (f s : List ℕ) (k : ℕ) (fs : List (List ℕ)) (named : fitting_names f ≡ given fs) (r : Sheet) (is : own fs s ≡ given r)
    (below : k < length r.names) where
  by_number : (b : Bool) → ltb k (length fs) ≡ b → (v : Stand) → cond b (field_in 1 f k) (field_in 2 s (k - length fs)) ≡ v → FittingStand f v ⊎ OwnStand s v
  by_number true q v e =
      let g = fitted f fs named in
      inl (record { number = k; is = sym e; there = within f k (length fs) (ltb-true _ _ q) (omega (arith, g.ends)) })
  by_number false q v e =
      let g = own_guaranteed fs s r (fitted f fs named).good_names is in
      let l = own-all fs s r g in
      inr (record { number = k - length fs; is = sym e; there = within s (k - length fs) g.owned (omega (arith, ltb-false k (length fs) q, below, l)) (own_end fs s r g) })

pair-given : (f s : List ℕ) (k : ℕ) (v : Stand) (o : Outcome (List (List ℕ))) → fitting_names f ≡ o → placing (beside f s) k ≡ given v → FittingStand f v ⊎ OwnStand s v
unfolding placing reading
pair-given f s k v (given fs) e h =
    let g : (own fs s >>= λ (r : Sheet). need (ltb k (length r.names)) 10 0 >> given (stand_of (beside f s) (length fs) k)) ≡ given v = rw e at h in
    let b = bind_given (own fs s) (λ (r : Sheet). need (ltb k (length r.names)) 10 0 >> given (stand_of (beside f s) (length fs) k)) v g in
    let n = need-given (ltb k (length b.0.names)) 10 0 (given (stand_of (beside f s) (length fs) k)) v b.2 in
    by_number f s k fs e b.0 b.1 (ltb-true _ _ n.0) (ltb k (length fs)) refl v (given-same _ _ n.1)
pair-given f s k v (refused i q) e h = let g : ◌≡◌ {A = Outcome Stand} (unfit i q) (given v) = rw e at h in let z : ◌≡◌ {A = ℕ} 0 1 = cc in absurd (omega arith)
pair-given f s k v (unfit i q) e h = let g : ◌≡◌ {A = Outcome Stand} (unfit i q) (given v) = rw e at h in let z : ◌≡◌ {A = ℕ} 0 1 = cc in absurd (omega arith)

-- ---- by the answer

own_fitting : (f s : List ℕ) (a e : ℕ) → OwnStand s (stand 1 a e) → Within f a e
own_fitting f s a e o = let h = o.is in let d : ◌≡◌ {A = ℕ} 1 2 = cc h in absurd (omega arith)

own-own : (s : List ℕ) (a e : ℕ) → OwnStand s (stand 2 a e) → Within s a e
own-own s a e o = let h = o.is in let x : walk_end s 5 o.number + 3 ≡ a = cc h in let y : walk_end s 5 (suc o.number) ≡ e = cc h in rw (x, y) at o.there

either_fitting : (f s : List ℕ) (a e : ℕ) → FittingStand f (stand 1 a e) ⊎ OwnStand s (stand 1 a e) → Within f a e
either_fitting f s a e (inl o) = let h = o.is in let x : walk_end f 5 o.number + 3 ≡ a = cc h in let y : walk_end f 5 (suc o.number) ≡ e = cc h in rw (x, y) at o.there
either_fitting f s a e (inr o) = own_fitting f s a e o

either_own : (f s : List ℕ) (a e : ℕ) → FittingStand f (stand 2 a e) ⊎ OwnStand s (stand 2 a e) → Within s a e
either_own f s a e (inl o) = let h = o.is in let d : ◌≡◌ {A = ℕ} 2 1 = cc h in absurd (omega arith)
either_own f s a e (inr o) = own-own s a e o

pub stands_in : (b : Bool) (f s : List ℕ) (k : ℕ) (r : Result Place Refusal) → placed_of r ≡ placing (sheets_of b f s) k → StandsIn f s r
stands_in true f s k (Ok (place.Fitting a e)) h = either_fitting f s a e (pair-given f s k (stand 1 a e) (fitting_names f) refl (sym h))
stands_in true f s k (Ok (place.Own a e)) h = either_own f s a e (pair-given f s k (stand 2 a e) (fitting_names f) refl (sym h))
stands_in true f s k (Err e) h = tt
stands_in false f s k (Ok (place.Fitting a e)) h = own_fitting f s a e (alone-given s k (stand 1 a e) (sym h))
stands_in false f s k (Ok (place.Own a e)) h = own-own s a e (alone-given s k (stand 2 a e) (sym h))
stands_in false f s k (Err e) h = tt

-- the bytes of the part are the name's
part_bytes : (b : Bool) (f s : List ℕ) (r : Result Place Refusal) → StandsIn f s r → (k : ℕ) → placed_of r ≡ placing (sheets_of b f s) k → part_of f s r ≡ bytes_given (part (bytes_of (sheets_of b f s)) (placed_of r))
part_bytes true f s (Ok (place.Fitting a e)) i k h = refl
part_bytes true f s (Ok (place.Own a e)) i k h = refl
part_bytes true f s (Err (refusal.Refused n)) i k h = refl
part_bytes true f s (Err (refusal.Unfit n)) i k h = refl
part_bytes false f s (Ok (place.Fitting a e)) i k h = let o = alone-given s k (stand 1 a e) (sym h) in let g = o.is in let d : ◌≡◌ {A = ℕ} 1 2 = cc g in absurd (omega arith)
part_bytes false f s (Ok (place.Own a e)) i k h = refl
part_bytes false f s (Err (refusal.Refused n)) i k h = refl
part_bytes false f s (Err (refusal.Unfit n)) i k h = refl

pub name-given : (b : Bool) (f s : List ℕ) (k : ℕ) (r : Result Place Refusal) → placed_of r ≡ placing (sheets_of b f s) k → (x : List ℕ) → x ≡ part_of f s r → x ≡ bytes_given (naming (sheets_of b f s) k)
name-given b f s k r h x is =
    is ∙ part_bytes b f s r (stands_in b f s k r h) k h ∙ ap (λ (o : Outcome Stand). bytes_given (part (bytes_of (sheets_of b f s)) o)) h
    ∙ ap bytes_given (sym (name_stands (sheets_of b f s) k))

-- ---- the part itself, by the answer

module _ (f s : List ℕ) (r : Result Place Refusal) (i : StandsIn f s r) (v : Place) (ok : r ≡ Ok v) (a e : ℕ) where
  fitting_there : v ≡ place.Fitting a e → Within f a e
  fitting_there is = rw (ok, is) at i

  own_there : v ≡ place.Own a e → Within s a e
  own_there is = rw (ok, is) at i

  pub fitting_ordered : v ≡ place.Fitting a e → a ≤ e
  fitting_ordered is = (fitting_there is).ordered

  pub fitting_inside : v ≡ place.Fitting a e → e ≤ length f
  fitting_inside is = (fitting_there is).inside

  pub fitting_part : v ≡ place.Fitting a e → between f a e ≡ part_of f s r
  fitting_part is = rw (ok, is)

  pub own-ordered : v ≡ place.Own a e → a ≤ e
  own-ordered is = (own_there is).ordered

  pub own-inside : v ≡ place.Own a e → e ≤ length s
  own-inside is = (own_there is).inside

  pub own-part : v ≡ place.Own a e → between s a e ≡ part_of f s r
  own-part is = rw (ok, is)
