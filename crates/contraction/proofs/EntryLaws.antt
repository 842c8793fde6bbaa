-- Kinds by number, each range of numbers by itself; and records in three arrays: how many, and one more.
use Prim.Native.Nat.{ℕ, zero, suc, ◌+◌, ◌-◌, ◌<◌, ◌≤◌}
use native.Mathlib.Nat.{add-zero, zero-add}
use native.Mathlib.Numerals.{add-one}
use native.Mathlib.Omega.{arith}
use mathlib.Core.Path.{◌≡◌, refl, sym, ap, ap₂, ◌∙◌}
use mathlib.Core.Bool.{Bool, true, false}
use mathlib.Core.List.{List, [], ◌∷◌, ◌++◌, map, map-append, append_assoc}
use lib.ListN.{length}
use lib.Dec.{ltb, eqb}
use borrow.Author.Tests.{lt-ltb, le-ltb, ltb-true, ltb-false, eqb-true, eqb-false}
use Rattle.formula.specs.Formula.{union, intersection, difference, exclusive, op_at}
use Rattle.contraction.specs.Records.{left, right, Kind, leaf, E, R, S, C, number, Rec, below}
use Rattle.contraction.specs.Entries.{Entry, entry_at, entries, entry_of, kind_at, rec_of, rec_at, recs}

-- the kind with the number of a kind
pub kind_at-number : (k : Kind) → kind_at (number k) ≡ k
unfolding kind_at
kind_at-number leaf = refl
kind_at-number (E union) = refl
kind_at-number (E intersection) = refl
kind_at-number (E difference) = refl
kind_at-number (E exclusive) = refl
kind_at-number (R left union) = refl
kind_at-number (R left intersection) = refl
kind_at-number (R left difference) = refl
kind_at-number (R left exclusive) = refl
kind_at-number (R right union) = refl
kind_at-number (R right intersection) = refl
kind_at-number (R right difference) = refl
kind_at-number (R right exclusive) = refl
kind_at-number S = refl
kind_at-number C = refl

-- the ranges
module _ (n : ℕ) where
  pub kind_at-leaf : n ≡ 0 → kind_at n ≡ leaf
  unfolding kind_at
  kind_at-leaf e = rw e

  pub kind_at-E : (n ≡ 0 → ⊥) → n < 5 → kind_at n ≡ E (op_at (n - 1))
  unfolding kind_at
  kind_at-E z h = rw (le-ltb n 1 (omega arith), lt-ltb n 5 h)

  pub kind_at-left : 5 ≤ n → n < 9 → kind_at n ≡ R left (op_at (n - 5))
  unfolding kind_at
  kind_at-left l h = rw (le-ltb n 1 (omega arith), le-ltb n 5 l, lt-ltb n 9 h)

  pub kind_at-right : 9 ≤ n → n < 13 → kind_at n ≡ R right (op_at (n - 9))
  unfolding kind_at
  kind_at-right l h = rw (le-ltb n 1 (omega arith), le-ltb n 5 (omega arith), le-ltb n 9 l, lt-ltb n 13 h)

  pub kind_at-S : n ≡ 13 → kind_at n ≡ S
  unfolding kind_at
  kind_at-S e = rw e

  pub kind_at-C : 13 ≤ n → (n ≡ 13 → ⊥) → kind_at n ≡ C
  unfolding kind_at
  kind_at-C l z = rw (le-ltb n 1 (omega arith), le-ltb n 5 (omega arith), le-ltb n 9 (omega arith), le-ltb n 13 l, le-ltb n 14 (omega arith))

-- what a record stands over, by the range of its kind's number
module _ (n a b : ℕ) where
  pub below_none : n ≡ 0 → below (kind_at n) a b ≡ []
  below_none e = rw (kind_at-leaf n e)

  pub below-E : (n ≡ 0 → ⊥) → n < 5 → below (kind_at n) a b ≡ a ∷ b ∷ []
  below-E z h = rw (kind_at-E n z h)

  pub below-R : 5 ≤ n → n < 13 → below (kind_at n) a b ≡ a ∷ []
  below-R l h = go (ltb n 9) refl
    where
      go : (t : Bool) → ltb n 9 ≡ t → below (kind_at n) a b ≡ a ∷ []
      go true e = rw (kind_at-left n l (ltb-true n 9 e))
      go false e = rw (kind_at-right n (ltb-false n 9 e) h)

  pub below_rest : 13 ≤ n → below (kind_at n) a b ≡ a ∷ b ∷ []
  below_rest l = go (eqb n 13) refl
    where
      go : (t : Bool) → eqb n 13 ≡ t → below (kind_at n) a b ≡ a ∷ b ∷ []
      go true e = rw (kind_at-S n (eqb-true n 13 e))
      go false e = rw (kind_at-C n l (eqb-false n 13 e))

-- a record's entry is read as the record
pub record_entry : (r : Rec) → rec_of (entry_of r) ≡ r
record_entry r = rw (kind_at-number r.kind)

pub records_entries : (rs : List Rec) → map rec_of (map entry_of rs) ≡ rs
records_entries [] = refl
records_entries (r ∷ rs) = ap₂ ◌∷◌ (record_entry r) (records_entries rs)

-- the entries of more records
pub entries-append : (es : List Entry) (rs qs : List Rec) → (es ++ map entry_of rs) ++ map entry_of qs ≡ es ++ map entry_of (rs ++ qs)
entries-append es rs qs = append_assoc es (map entry_of rs) (map entry_of qs) ∙ ap (λ z. es ++ z) (sym (map-append entry_of rs qs))

module _ (ks fs ss : List ℕ) where
  pub entries_none : (i : ℕ) → entries ks fs ss i 0 ≡ []
  unfolding entries
  entries_none i = refl

  pub entries-last : (n i : ℕ) → entries ks fs ss i (suc n) ≡ entries ks fs ss i n ++ (entry_at ks fs ss (i + n) ∷ [])
  unfolding entries
  entries-last zero i = rw (add-zero i)
  entries-last (suc n) i = ap (λ q. entry_at ks fs ss i ∷ q) (entries-last n (suc i) ∙ ap (λ k. entries ks fs ss (suc i) n ++ (entry_at ks fs ss k ∷ [])) (omega arith))

  -- the first n entries, and one more
  pub entries_next : (n : ℕ) → entries ks fs ss 0 (n + 1) ≡ entries ks fs ss 0 n ++ (entry_at ks fs ss n ∷ [])
  entries_next n = rw (add-one n) (entries-last n 0 ∙ rw (zero-add n))

  pub length-entries : (n i : ℕ) → length (entries ks fs ss i n) ≡ n
  unfolding entries
  length-entries zero i = refl
  length-entries (suc n) i = ap suc (length-entries n (suc i))

  pub recs_more : (i n : ℕ) → recs ks fs ss i (suc n) ≡ rec_at ks fs ss i ∷ recs ks fs ss (suc i) n
  unfolding entries
  recs_more i n = refl

  pub recs-next : (n : ℕ) → recs ks fs ss 0 (n + 1) ≡ recs ks fs ss 0 n ++ (rec_at ks fs ss n ∷ [])
  recs-next n = ap (map rec_of) (entries_next n) ∙ map-append rec_of (entries ks fs ss 0 n) (entry_at ks fs ss n ∷ [])
