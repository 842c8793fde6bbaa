-- Each of all names stands where asking for it alone says.
use Prim.Native.Nat.{ℕ, zero, suc, ◌≤◌, ◌<◌}
use native.Mathlib.Omega.{arith}
use mathlib.Core.Path.{◌≡◌, refl, sym, ap, ◌∙◌}
use mathlib.Core.Bool.{Bool, true, false}
use mathlib.Core.List.{List, [], ◌∷◌, ◌++◌, map, map-append}
use lib.ListN.{length, get_or, length-map, get_or-append}
use lib.Seq.{get_or_at}
use lib.Dec.{ltb}
use borrow.Author.Tests.{lt-ltb, le-ltb, ltb-true, ltb-false}
use Rattle.outcome.specs.Outcome.{given, refused}
use Rattle.outcome.proofs.Questions.{bind_given, given-same}
use Rattle.sheet.specs.Sheet.{Sheets, Sheet, reading}
use Rattle.job_name.specs.Naming.{Stand, stand, stand_of, placing}
use Rattle.job_name.specs.Within.{fitted_among}
use Rattle.job_name.proofs.Placing.{asked_place}
use Rattle.job_names.specs.Names.{numbers_below, placing_all}
use Rattle.job_names.proofs.Listing.{numbers-length}
use Rattle.job_names.proofs.Giving.{asked-all}

module _ {A : Type 0} (f : ℕ → A) (d : A) where
  one_more : (n k : ℕ) → k < suc n → (k < n → get_or (map f (numbers_below n)) k d ≡ f k) → (b : Bool) → ltb k n ≡ b → get_or (map f (numbers_below n) ++ (f n ∷ [])) k d ≡ f k
  one_more n k h before true q =
      let l : k < n = ltb-true k n q in
      get_or-append (map f (numbers_below n)) (f n ∷ []) d k (omega (arith, length-map (numbers_below n) f, numbers-length n)) ∙ before l
  one_more n k h before false q =
      let e : k ≡ n = omega (arith, ltb-false k n q) in
      rw e (get_or_at (map f (numbers_below n)) (f n) [] d n (length-map (numbers_below n) f ∙ numbers-length n))

  numbered : (n k : ℕ) → k < n → get_or (map f (numbers_below n)) k d ≡ f k
  unfolding numbers_below
  numbered zero k h = absurd (omega arith)
  numbered (suc n) k h = rw (map-append f (numbers_below n) (n ∷ [])) (one_more n k h (λ l. numbered n k l) (ltb k n) refl)

module _ (c : Sheets) (stands : List Stand) (is : placing_all c ≡ given stands) (k : ℕ) where
  held : (r : Sheet) × (reading c ≡ given r) × (map (stand_of c (fitted_among c)) (numbers_below (length r.names)) ≡ stands)
  held =
      let b = bind_given (reading c) (λ (r : Sheet). given (map (stand_of c (fitted_among c)) (numbers_below (length r.names)))) stands (sym (asked-all c) ∙ is) in
      (b.0, b.1, given-same _ _ b.2)

  all : length stands ≡ length held.0.names
  all = ap length (sym held.2) ∙ length-map (numbers_below (length held.0.names)) (stand_of c (fitted_among c)) ∙ numbers-length (length held.0.names)

  pub each_placed : k < length stands → placing c k ≡ given (get_or stands k (stand 0 0 0))
  each_placed h =
      let below : k < length held.0.names = omega (arith, all) in
      asked_place c k ∙ rw (held.1, lt-ltb k (length held.0.names) below, ← held.2, numbered (stand_of c (fitted_among c)) (stand 0 0 0) (length held.0.names) k below)

  pub past-placed : length stands ≤ k → placing c k ≡ refused 10 0
  past-placed h = asked_place c k ∙ rw (held.1, le-ltb k (length held.0.names) (omega (arith, all)))
