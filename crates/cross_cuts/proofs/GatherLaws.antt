-- What is gathered shape by shape is what the definitions give of all the shapes.
use Prim.Native.Nat.{ℕ, zero, suc, ◌+◌, ◌*◌, ◌/◌, ◌%◌, ◌<◌, ◌≤◌}
use native.Mathlib.Numerals.{add-one}
use native.Mathlib.Omega.{arith}
use mathlib.Core.Path.{◌≡◌, refl, sym, ap, ◌∙◌, subst}
use mathlib.Core.Bool.{Bool, true, false, cond}
use mathlib.Core.List.{List, [], ◌∷◌, ◌++◌, append_assoc, append-nil, map}
use lib.ListN.{length, take, drop, get_or, set, length-set, length-append, drop_of_length-le}
use lib.Seq.{get_or-set_other, take-suc, take-suc-set, drop-cons, take_all}
use Rattle.outcome.specs.Outcome.{given, refused}
use Rattle.cross_ranks.specs.Ranks.{unrank}
use Rattle.cross_cuts.specs.Cuts.{Cut, fault, cut, sound, positions_of, start_of, start_row, crossed_at, crossings_from, faultless}
use Rattle.cross_cuts.specs.Keys.{cut_of, key_of, crossing_of, Held, Adds, Elsewhere, Going, Complete}
use Rattle.cross_cuts.specs.declared.Met.{Met}
use Rattle.cross_cuts.specs.declared.Met.TheVariants.{Never, Once, Twice}
use Rattle.std.proofs.Common.{Some}
use Rattle.std.specs.Int.{from_bool}

-- ---- one cut more at the end
map-append : {A B : Type 0} (f : A → B) (xs ys : List A) → map f (xs ++ ys) ≡ map f xs ++ map f ys
map-append f [] ys = refl
map-append f (x ∷ xs) ys = ap (λ l. f x ∷ l) (map-append f xs ys)

crossings_more : (j : ℕ) (cuts : List Cut) (c : Cut) → crossings_from j (cuts ++ (c ∷ [])) ≡ crossings_from j cuts ++ map (λ p. crossed_at p (j + length cuts)) (positions_of c)
unfolding crossings_from
crossings_more j [] c = append-nil _ ∙ ap (λ n. map (λ p. crossed_at p n) (positions_of c)) (omega arith)
crossings_more j (d ∷ cuts) c =
    ap (λ l. map (λ p. crossed_at p j) (positions_of d) ++ l) (crossings_more (j + 1) cuts c ∙ ap (λ n. crossings_from (j + 1) cuts ++ map (λ p. crossed_at p n) (positions_of c)) (omega arith))
    ∙ sym (append_assoc (map (λ p. crossed_at p j) (positions_of d)) (crossings_from (j + 1) cuts) _)

starts_more : (cuts : List Cut) (c : Cut) (starts : List ℕ) (i b : ℕ) → i < length starts → take i starts ≡ start_row cuts → b ≡ start_of c → take (i + 1) (set starts i b) ≡ start_row (cuts ++ (c ∷ []))
starts_more cuts c starts i b h e f = rw (add-one, take-suc-set starts i b h, e, f) (sym (map-append start_of cuts (c ∷ [])))

-- ---- one key more at the end
key_position : (a i : ℕ) → i < 256 → crossing_of (key_of a i) ≡ crossed_at (unrank a) i
key_position a i h =
    let p : (a * 256 + i) / 256 ≡ a = omega arith in
    let q : (a * 256 + i) % 256 ≡ i = omega arith in
    rw (p, q)

keys_more : (keys : List ℕ) (m k a i : ℕ) → i < 256 → m < length keys → k ≡ key_of a i → map crossing_of (take (m + 1) (set keys m k)) ≡ map crossing_of (take m keys) ++ (crossed_at (unrank a) i ∷ [])
keys_more keys m k a i h l e = rw (add-one, take-suc-set keys m k l) (map-append crossing_of (take m keys) (k ∷ []) ∙ ap (λ x. map crossing_of (take m keys) ++ (x ∷ [])) (ap crossing_of e ∙ key_position a i h))

bit_is : (inside : Bool) → from_bool inside ≡ cond inside 1 0
bit_is true = refl
bit_is false = refl

-- ---- the exits of `add`
module _ {w : ℕ} (starts keys : List ℕ) (i m : ℕ) (held : Held w starts keys i m) (h : i < 256) (there : i < w) where
  here : i < length starts
  here = omega (arith, held.starts_sized)

  room : m + 1 < length keys
  room = omega (arith, held.keys_sized, held.few)

  pub second_room : (k : ℕ) → m + 1 < length (set keys m k)
  second_room k = rw length-set room

  pub adds_never : (met : Met) (inside : Bool) (b : ℕ) → met ≡ Never inside → b ≡ from_bool inside → Adds w (cut_of (Some met)) starts keys i m (set starts i b) keys m
  adds_never met inside b e f = rw e (record {
    faultless_cut = refl;
    held = record { starts_sized = length-set starts i b ∙ held.starts_sized; keys_sized = held.keys_sized; some = omega arith; few = omega (arith, held.few) };
    gathered = λ cuts g. record {
      all = length-append cuts _ ∙ omega (arith, g.all);
      started = starts_more cuts (cut inside []) starts i b here g.started (f ∙ bit_is inside);
      keyed = g.keyed ∙ sym (crossings_more 0 cuts (cut inside []) ∙ append-nil _);
    };
  })

  pub adds_once : (met : Met) (inside : Bool) (a b k : ℕ) → met ≡ Once inside a → b ≡ from_bool inside → k ≡ key_of a i → Adds w (cut_of (Some met)) starts keys i m (set starts i b) (set keys m k) (m + 1)
  adds_once met inside a b k e f p = rw e (record {
    faultless_cut = refl;
    held = record { starts_sized = length-set starts i b ∙ held.starts_sized; keys_sized = length-set keys m k ∙ held.keys_sized; some = omega arith; few = omega (arith, held.few) };
    gathered = λ cuts g. record {
      all = length-append cuts _ ∙ omega (arith, g.all);
      started = starts_more cuts (cut inside (unrank a ∷ [])) starts i b here g.started (f ∙ bit_is inside);
      keyed =
          keys_more keys m k a i h (omega (arith, room)) p ∙ ap (λ l. l ++ (crossed_at (unrank a) i ∷ [])) g.keyed
          ∙ ap (λ n. crossings_from 0 cuts ++ (crossed_at (unrank a) n ∷ [])) (omega (arith, g.all)) ∙ sym (crossings_more 0 cuts (cut inside (unrank a ∷ [])));
    };
  })

  pub adds_twice : (met : Met) (a b k l : ℕ) → met ≡ Twice a b → k ≡ key_of a i → l ≡ key_of b i → Adds w (cut_of (Some met)) starts keys i m (set starts i 0) (set (set keys m k) (m + 1) l) (m + 2)
  adds_twice met a b k l e p q = rw e (record {
    faultless_cut = refl;
    held = record { starts_sized = length-set starts i 0 ∙ held.starts_sized; keys_sized = length-set (set keys m k) (m + 1) l ∙ length-set keys m k ∙ held.keys_sized; some = omega arith; few = omega (arith, held.few) };
    gathered = λ cuts g. record {
      all = length-append cuts _ ∙ omega (arith, g.all);
      started = starts_more cuts (cut false (unrank a ∷ unrank b ∷ [])) starts i 0 here g.started refl;
      keyed =
          let two : m + 2 ≡ m + 1 + 1 = omega arith in
          ap (λ n. map crossing_of (take n (set (set keys m k) (m + 1) l))) two
          ∙ keys_more (set keys m k) (m + 1) l b i h (second_room k) q
          ∙ ap (λ x. x ++ (crossed_at (unrank b) i ∷ [])) (keys_more keys m k a i h (omega (arith, room)) p ∙ ap (λ x. x ++ (crossed_at (unrank a) i ∷ [])) g.keyed)
          ∙ append_assoc (crossings_from 0 cuts) (crossed_at (unrank a) i ∷ []) (crossed_at (unrank b) i ∷ [])
          ∙ ap (λ n. crossings_from 0 cuts ++ (crossed_at (unrank a) n ∷ crossed_at (unrank b) n ∷ [])) (omega (arith, g.all))
          ∙ sym (crossings_more 0 cuts (cut false (unrank a ∷ unrank b ∷ [])));
    };
  })

pub same-starts : {i : ℕ} {starts : List ℕ} → Elsewhere i starts starts
same-starts = record { same = λ j d. refl }

pub one_start : {starts : List ℕ} (i b : ℕ) → Elsewhere i starts (set starts i b)
one_start {starts} i b = record { same = λ j d. get_or-set_other starts i j b 0 d }

-- ---- the shapes in turn
first-fault : (number i : ℕ) (c : Cut) (cs : List Cut) → c ≡ fault → faultless number i (c ∷ cs) ≡ refused number i
unfolding faultless
first-fault number i c cs e = rw e

no_fault : (number i : ℕ) (c : Cut) (cs : List Cut) → sound c ≡ true → faultless number i (c ∷ cs) ≡ faultless number (i + 1) cs
unfolding faultless
no_fault number i c cs e = rw e

none_left : (number i : ℕ) → faultless number i [] ≡ given tt
unfolding faultless
none_left number i = refl

no_crossings : crossings_from 0 [] ≡ []
unfolding crossings_from
no_crossings = refl

pub going_starts : {w : ℕ} (number : ℕ) (all : List Cut) (starts keys : List ℕ) → length starts ≡ w → length keys ≡ 2 * w → Going w number all starts keys 0 0
going_starts number all starts keys s k = record {
  held = record { starts_sized = s; keys_sized = k; some = omega arith; few = omega arith };
  within = omega arith;
  gathered = record { all = refl; started = refl; keyed = sym no_crossings };
  left = refl;
}

module _ {w : ℕ} (number : ℕ) (all : List Cut) (starts keys : List ℕ) (i m : ℕ) (going : Going w number all starts keys i m) where
  module _ (more : i < length all) (c : Cut) (is : c ≡ get_or all i fault) where
    pub going_fault : c ≡ fault → faultless number 0 all ≡ refused number i
    going_fault e =
        let f : get_or all i fault ≡ fault = sym is ∙ e in
        going.left ∙ ap (faultless number i) (drop-cons all i fault more) ∙ first-fault number i (get_or all i fault) (drop (suc i) all) f

    pub going_on : (starts' keys' : List ℕ) (n : ℕ) → Adds w c starts keys i m starts' keys' n → Going w number all starts' keys' (i + 1) n
    going_on starts' keys' n adds-c =
        let adds : Adds w (get_or all i fault) starts keys i m starts' keys' n = rw is at adds-c in
        let taken : take (i + 1) all ≡ take i all ++ (get_or all i fault ∷ []) = rw (add-one, take-suc all i fault more) in
        record {
          held = adds.held;
          within = omega arith;
          gathered = rw taken (adds.gathered (take i all) going.gathered);
          left = going.left ∙ ap (faultless number i) (drop-cons all i fault more) ∙ no_fault number i (get_or all i fault) (drop (suc i) all) adds.faultless_cut ∙ ap (λ k. faultless number (i + 1) (drop k all)) (sym (add-one i));
        }

  pub going_ends : length all ≤ i → Complete w number all starts keys (length all) m
  going_ends h =
      let e : i ≡ length all = omega (arith, going.within) in
      let whole : take i all ≡ all = take_all i all h in
      let nothing : drop i all ≡ [] = drop_of_length-le all h in
      record {
        held = rw e at going.held;
        gathered = rw e at (rw whole at going.gathered);
        none = going.left ∙ ap (faultless number i) nothing ∙ none_left number i;
      }

-- ---- shapes that are not crossed and start outside, whose bytes are 0 already
set_here : (l : List ℕ) (i : ℕ) → i < length l → get_or l i 0 ≡ 0 → set l i 0 ≡ l
set_here [] i h e = absurd (omega arith)
set_here (x ∷ xs) zero h e = ap (λ (y : ℕ). y ∷ xs) (sym e)
set_here (x ∷ xs) (suc i) h e = ap (λ (l : List ℕ). x ∷ l) (set_here xs i (omega arith) e)

module _ (number : ℕ) (all : List Cut) (starts keys : List ℕ) (few : length all ≤ 256) (m : ℕ) where
  past_one : (i : ℕ) → Going 256 number all starts keys i m → i < length all → get_or all i fault ≡ cut false [] → get_or starts i 0 ≡ 0 → Going 256 number all starts keys (i + 1) m
  past_one i going more quiet zero-byte =
      let h : i < 256 = omega arith in
      let same : set starts i 0 ≡ starts = set_here starts i (omega (arith, going.held.starts_sized)) zero-byte in
      let adds = adds_never starts keys i m going.held h h (Never false) false 0 refl refl in
      subst (λ (s : List ℕ). Going 256 number all s keys (i + 1) m) same (going_on number all starts keys i m going more (cut false []) (sym quiet) (set starts i 0) keys m adds)

  pub going_past : (a d : ℕ) → Going 256 number all starts keys a m → a + d ≤ length all
      → ((j : ℕ) → a ≤ j → j < a + d → (get_or all j fault ≡ cut false []) × (get_or starts j 0 ≡ 0)) → Going 256 number all starts keys (a + d) m
  going_past a zero going within quiet = let e : a ≡ a + 0 = omega arith in subst (λ (i : ℕ). Going 256 number all starts keys i m) e going
  going_past a (suc d) going within quiet =
      let e : a + d + 1 ≡ a + suc d = omega arith in
      let q = quiet (a + d) (omega arith) (omega arith) in
      subst (λ (i : ℕ). Going 256 number all starts keys i m) e (past_one (a + d) (going_past a d going (omega arith) (λ j h l. quiet j h (omega arith))) (omega arith) q.0 q.1)
