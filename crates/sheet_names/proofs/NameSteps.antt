-- What one byte, one name or one key more adds: the steps of the loops over names.
use Prim.Native.Nat.{ℕ, zero, suc, ◌+◌, ◌-◌, ◌≤◌, ◌<◌}
use native.Mathlib.Omega.{arith}
use native.Mathlib.Numerals.{add-one}
use mathlib.Core.Path.{◌≡◌, refl, sym, ap, ap₂, ◌∙◌}
use mathlib.Core.Bool.{Bool, true, false, ◌&&◌, ◌||◌}
use mathlib.Core.List.{List, [], ◌∷◌, ◌++◌, map}
use Rattle.std.specs.Str.{bytes_eq}
use Rattle.std.specs.List.{list_all}
use lib.ListN.{length, get_or, take, drop, drop_of_length-le, length-append}
use lib.Seq.{drop-cons}
use lib.Dec.{leb, eqb}
use borrow.Author.Tests.{eq-eqb}
use Rattle.sheet.specs.Sheet.{between, past_at, bytes_at, all_good, same, taken}
use Rattle.sheet.specs.Walk.{walk_end, walk_names}
use Rattle.sheet_names.specs.Keys.{mixed, key_from, key_of, has, Walkable, NamesRead, whose_is}
use Rattle.sheet_names.specs.declared.Whose.TheVariants.{Customers, Fittings, Nobodys}
use Rattle.sheet.proofs.Names.{or-false, or_assoc, same_equal, taken-append, bytes-between, walk_length, walk_on}

-- ---- the tests of a byte and of two names

pub good_all : (b : List ℕ) → list_all (λ x. leb 0x21 x && leb x 0x7E) b ≡ all_good b
unfolding all_good
good_all [] = refl
good_all (x ∷ b) = rw (good_all b)

pub same_bytes : (a b : List ℕ) → bytes_eq a b ≡ same a b
unfolding same
same_bytes [] [] = refl
same_bytes [] (y ∷ b) = refl
same_bytes (x ∷ a) [] = refl
same_bytes (x ∷ a) (y ∷ b) = rw (same_bytes a b)

-- ---- walkEnd, walkNames, taken: n names are left to walk, from offset at on

pub walk_inside : (s : List ℕ) (at n : ℕ) → 0 < n → Walkable s at n → past_at s at ≤ length s
unfolding walk_end
walk_inside s at zero h k = absurd (omega arith)
walk_inside s at (suc n) h k = omega (arith, walk_on s (past_at s at) n, k.ends h)

pub walk_less : (s : List ℕ) (at n e : ℕ) → 0 < n → e ≡ past_at s at → Walkable s at n → Walkable s e (n - 1)
unfolding walk_end
walk_less s at zero e h q k = absurd (omega arith)
walk_less s at (suc n) e h q k = let m : suc n - 1 ≡ n = omega arith in record { ends = λ some. rw (m, q) (k.ends h) }

walk_first : (s : List ℕ) (at n : ℕ) → 0 < n → walk_names s at n ≡ bytes_at s at ∷ walk_names s (past_at s at) (n - 1)
unfolding walk_names
walk_first s at zero h = absurd (omega arith)
walk_first s at (suc n) h = let m : suc n - 1 ≡ n = omega arith in rw m

-- the first of them is x, or is not: e is the offset past it, and r what comparing it gave
module _ (s x : List ℕ) (at n e : ℕ) (r : Bool) (all : List (List ℕ)) (inv : taken all x ≡ taken (walk_names s at n) x) (p : 0 < n) (q : e ≡ past_at s at)
    (t : r ≡ bytes_eq (between s (at + 3) e) x) where
  taken_more : taken all x ≡ (r || taken (walk_names s e (n - 1)) x)
  unfolding taken
  taken_more = inv ∙ rw (walk_first s at n p, t, same_bytes (between s (at + 3) e) x, bytes-between s at e q, q)

  pub taken_here : r ≡ true → true ≡ taken all x
  taken_here y = sym (taken_more ∙ rw y)

  pub taken-on : r ≡ false → taken all x ≡ taken (walk_names s e (n - 1)) x
  taken-on y = taken_more ∙ rw y

pub taken_none : (s x : List ℕ) (at n : ℕ) (all : List (List ℕ)) → taken all x ≡ taken (walk_names s at n) x → n ≤ 0 → false ≡ taken all x
unfolding taken walk_names
taken_none s x at zero all inv p = sym inv
taken_none s x at (suc n) all inv p = absurd (omega arith)

-- ---- key_of

module _ (x : List ℕ) (key i : ℕ) (inv : key_of x ≡ key_from key (drop i x)) where
  pub key_on : (k : ℕ) → i < length x → k ≡ mixed key (get_or x i 0) → key_of x ≡ key_from k (drop (i + 1) x)
  unfolding key_from
  key_on k h e = inv ∙ rw (add-one i, drop-cons x i 0 h, e)

  pub key_all : length x ≤ i → key ≡ key_of x
  unfolding key_from
  key_all h = sym (inv ∙ rw (drop_of_length-le x h))

-- ---- has: the keys ks, of which i were looked at

or_no : (a : Bool) → (a || false) ≡ a
or_no true = refl
or_no false = refl

module _ (ks : List ℕ) (key i : ℕ) (found : Bool) (inv : has ks key ≡ (found || has (drop i ks) key)) where
  pub has_on : i < length ks → has ks key ≡ ((found || eqb (get_or ks i 0) key) || has (drop (i + 1) ks) key)
  unfolding has
  has_on h = inv ∙ rw (add-one i, drop-cons ks i 0 h) (or_assoc found _ _)

  pub has_all : length ks ≤ i → found ≡ has ks key
  unfolding has
  has_all h = sym (inv ∙ rw (drop_of_length-le ks h) (or_no found))

-- ---- a name whose key is unlike all others is not taken

unlike_key : (y x : List ℕ) → eqb (key_of y) (key_of x) ≡ false → (b : Bool) → same y x ≡ b → b ≡ false
unlike_key y x h false q = refl
unlike_key y x h true q =
    let e : eqb (key_of y) (key_of x) ≡ true = eq-eqb (key_of y) (key_of x) (ap key_of (same_equal y x q)) in
    let z : ◌≡◌ {A = ℕ} 0 1 = cc in
    absurd (omega arith)

unlike_keys : (ns : List (List ℕ)) (x : List ℕ) → has (map key_of ns) (key_of x) ≡ false → taken ns x ≡ false
unfolding has taken
unlike_keys [] x h = refl
unlike_keys (y ∷ ns) x h =
    let e = or-false (eqb (key_of y) (key_of x)) (has (map key_of ns) (key_of x)) h in
    rw (unlike_key y x e.0 (same y x) refl) (unlike_keys ns x e.1)

module _ (f : List ℕ) (m : ℕ) (s : List ℕ) (n : ℕ) (ks x : List ℕ) (known : NamesRead f m s n ks) where
  joined_length : length (walk_names f 5 m ++ walk_names s 5 n) ≡ m + n
  joined_length = length-append (walk_names f 5 m) (walk_names s 5 n) ∙ ap₂ (λ (a b : ℕ). a + b) (walk_length f 5 m) (walk_length s 5 n)

  pub taken_unkeyed : (k : ℕ) (r : Bool) → k ≡ key_of x → r ≡ has (take (m + n) ks) k → r ≡ false → Nobodys ≡ whose_is (walk_names f 5 m) (walk_names s 5 n) x
  taken_unkeyed k r is e h =
      let are : take (m + n) ks ≡ map key_of (walk_names f 5 m ++ walk_names s 5 n) = ap (λ (i : ℕ). take i ks) (sym joined_length) ∙ known.keyed.are in
      let none : taken (walk_names f 5 m ++ walk_names s 5 n) x ≡ false = unlike_keys (walk_names f 5 m ++ walk_names s 5 n) x (rw (← are, ← is) (sym e ∙ h)) in
      let each = or-false (taken (walk_names f 5 m) x) (taken (walk_names s 5 n) x) (sym (taken-append (walk_names f 5 m) (walk_names s 5 n) x) ∙ none) in
      rw (each.0, each.1)

-- ---- whose name it is, by what comparing it with each sheet's names gave

module _ (fs ns : List (List ℕ)) (x : List ℕ) (a : Bool) (own : a ≡ taken ns x) where
  pub whose_customer : a ≡ true → Customers ≡ whose_is fs ns x
  whose_customer e = rw (← own, e)

  module _ (free : a ≡ false) (b : Bool) (fits : b ≡ taken fs x) where
    pub whose_fitting : b ≡ true → Fittings ≡ whose_is fs ns x
    whose_fitting e = rw (← own, free, ← fits, e)

    pub whose_nobody : b ≡ false → Nobodys ≡ whose_is fs ns x
    whose_nobody e = rw (← own, free, ← fits, e)
