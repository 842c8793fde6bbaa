-- The bytes that stand where a name is placed are the name's.
use Prim.Native.Nat.{ℕ, zero, suc, ◌+◌, ◌-◌, ◌≤◌, ◌<◌}
use native.Mathlib.Omega.{arith}
use mathlib.Core.Path.{◌≡◌, refl, sym, ap, ◌∙◌}
use mathlib.Core.Bool.{Bool, true, false, cond}
use mathlib.Core.List.{List, [], ◌∷◌, ◌++◌}
use lib.Dec.{ltb}
use lib.ListN.{length, get_or, length-append, get_or-append}
use borrow.Author.Tests.{ltb-true, ltb-false}
use Rattle.outcome.specs.Outcome.{Outcome, given, refused, unfit, need, ◌>>=◌, ◌>>◌, part, of_fittings}
use Rattle.sheet.specs.Sheet.{Sheets, alone, beside, Sheet, between, past_at, own, fitting_names, reading}
use Rattle.sheet.specs.Walk.{walk_end, walk_names}
use Rattle.sheet.specs.Guaranteed.{Own, Fitted}
use Rattle.sheet.proofs.Guaranteed.{own_guaranteed, fitted}
use Rattle.sheet.proofs.Names.{GoodNames-none, walk_length, bytes-between}
use Rattle.job_name.specs.Naming.{naming, field_in, stand_of, placing, bytes_of}

-- the n-th name that a walk passes
walk_name : (s : List ℕ) (at m n : ℕ) → n < m → get_or (walk_names s at m) n [] ≡ between s (walk_end s at n + 3) (walk_end s at (suc n))
unfolding walk_names walk_end
walk_name s at zero n h = absurd (omega arith)
walk_name s at (suc m) zero h = sym (bytes-between s at _ refl)
walk_name s at (suc m) (suc n) h = walk_name s (past_at s at) m n (omega arith)

-- past the first list, the second one
get_d_second : (xs ys : List (List ℕ)) (k : ℕ) → length xs ≤ k → get_or (xs ++ ys) k [] ≡ get_or ys (k - length xs) []
get_d_second [] ys k h = let e : k - 0 ≡ k = omega arith in rw e
get_d_second (x ∷ xs) ys zero h = absurd (omega arith)
get_d_second (x ∷ xs) ys (suc k) h = let e : suc k - suc (length xs) ≡ k - length xs = omega arith in get_d_second xs ys k (omega arith) ∙ rw e

module _ (fs : List (List ℕ)) (s : List ℕ) (r : Sheet) (g : Own fs s r) (k : ℕ) (below : k < length r.names) where
  all : length r.names ≡ length fs + g.owned
  all = ap length g.names_are ∙ length-append fs (walk_names s 5 g.owned) ∙ rw (walk_length s 5 g.owned)

  own_name : length fs ≤ k → get_or r.names k [] ≡ between s (walk_end s 5 (k - length fs) + 3) (walk_end s 5 (suc (k - length fs)))
  own_name h =
      ap (λ (ns : List (List ℕ)). get_or ns k []) g.names_are
      ∙ get_d_second fs (walk_names s 5 g.owned) k h
      ∙ walk_name s 5 g.owned (k - length fs) (omega (arith, all, below))

  fitting_name : (f : List ℕ) → Fitted f fs → k < length fs → get_or r.names k [] ≡ between f (walk_end f 5 k + 3) (walk_end f 5 (suc k))
  fitting_name f h low =
      ap (λ (ns : List (List ℕ)). get_or ns k []) g.names_are
      ∙ get_or-append fs (walk_names s 5 g.owned) [] k low
      ∙ ap (λ (ns : List (List ℕ)). get_or ns k []) h.names_are
      ∙ walk_name f 5 (length fs) k low

-- ---- a customer's sheet alone

alone-name : (s : List ℕ) (k : ℕ) (o : Outcome Sheet) → own [] s ≡ o
    → (o >>= λ (r : Sheet). need (ltb k (length r.names)) 10 0 >> given (get_or r.names k []))
    ≡ part (bytes_of (alone s)) (o >>= λ (r : Sheet). need (ltb k (length r.names)) 10 0 >> given (field_in 2 s k))
alone-name s k (given r) e = by (ltb k (length r.names)) refl
  where
    by : (b : Bool) → ltb k (length r.names) ≡ b
        → (need b 10 0 >> given (get_or r.names k [])) ≡ part (bytes_of (alone s)) (need b 10 0 >> given (field_in 2 s k))
    by true q =
        let z : k - 0 ≡ k = omega arith in
        ap given (own_name [] s r (own_guaranteed [] s r GoodNames-none e) k (ltb-true _ _ q) (omega arith) ∙ rw z)
    by false q = refl
alone-name s k (refused n p) e = refl
alone-name s k (unfit n p) e = refl

-- ---- beside a fittings sheet, whose names are fs

module _ (f s : List ℕ) (k : ℕ) (fs : List (List ℕ)) (named : fitting_names f ≡ given fs) where
  placed : (r : Sheet) → own fs s ≡ given r → k < length r.names → get_or r.names k [] ≡ bytes_of (beside f s) (stand_of (beside f s) (length fs) k)
  placed r e below = by (ltb k (length fs)) refl
    where
      by : (b : Bool) → ltb k (length fs) ≡ b → get_or r.names k [] ≡ bytes_of (beside f s) (cond b (field_in 1 f k) (field_in 2 s (k - length fs)))
      by true q = fitting_name fs s r (own_guaranteed fs s r (fitted f fs named).good_names e) k below f (fitted f fs named) (ltb-true _ _ q)
      by false q = own_name fs s r (own_guaranteed fs s r (fitted f fs named).good_names e) k below (ltb-false _ _ q)

  beside-name : (o : Outcome Sheet) → own fs s ≡ o
      → (o >>= λ (r : Sheet). need (ltb k (length r.names)) 10 0 >> given (get_or r.names k []))
      ≡ part (bytes_of (beside f s)) (o >>= λ (r : Sheet). need (ltb k (length r.names)) 10 0 >> given (stand_of (beside f s) (length fs) k))
  beside-name (given r) e = by (ltb k (length r.names)) refl
    where
      by : (b : Bool) → ltb k (length r.names) ≡ b
          → (need b 10 0 >> given (get_or r.names k [])) ≡ part (bytes_of (beside f s)) (need b 10 0 >> given (stand_of (beside f s) (length fs) k))
      by true q = ap given (placed r e (ltb-true _ _ q))
      by false q = refl
  beside-name (refused n p) e = refl
  beside-name (unfit n p) e = refl

pair-name : (f s : List ℕ) (k : ℕ) (o : Outcome (List (List ℕ))) → fitting_names f ≡ o
    → ((of_fittings o >>= λ names. own names s) >>= λ (r : Sheet). need (ltb k (length r.names)) 10 0 >> given (get_or r.names k []))
    ≡ part (bytes_of (beside f s)) (part length (of_fittings o) >>= λ m.
    (of_fittings o >>= λ names. own names s) >>= λ (r : Sheet). need (ltb k (length r.names)) 10 0 >> given (stand_of (beside f s) m k))
pair-name f s k (given fs) e = beside-name f s k fs e (own fs s) refl
pair-name f s k (refused n p) e = refl
pair-name f s k (unfit n p) e = refl

-- Asking for a name gives back the name's bytes as they stand in whichever of the two sheets holds it.
pub name_stands : (c : Sheets) (k : ℕ) → naming c k ≡ part (bytes_of c) (placing c k)
unfolding naming placing reading
name_stands (alone s) k = alone-name s k (own [] s) refl
name_stands (beside f s) k = pair-name f s k (fitting_names f) refl
