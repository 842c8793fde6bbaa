-- A list that is written from its start with what a function gives of each entry: one law for every element type.
use Prim.Native.Nat.{ℕ, zero, suc, ◌+◌, ◌<◌, ◌≤◌}
use native.Mathlib.Nat.{zero-add}
use native.Mathlib.Numerals.{add-one}
use native.Mathlib.Omega.{arith}
use mathlib.Core.Path.{◌≡◌, refl, sym, ap, ◌∙◌}
use mathlib.Core.List.{List, [], ◌∷◌, ◌++◌, map}
use lib.ListN.{length, take, drop, get_or, set, length-map, get_or-map}
use lib.Seq.{paste, paste-zero, paste-suc, length-paste, length-take-le}
use Rattle.outcome.specs.Lent.{filled}

map-take : {A : Type 0} (f : ℕ → A) (n : ℕ) (l : List ℕ) → take n (map f l) ≡ map f (take n l)
map-take f zero l = refl
map-take f (suc n) [] = refl
map-take f (suc n) (x ∷ l) = ap (λ xs. f x ∷ xs) (map-take f n l)

module _ {A : Type 0} (f : ℕ → A) (keys : List ℕ) (old : List A) (n : ℕ) where
  pub record Writing (new : List A) (i : ℕ) : Type 0 where
    pub so_far : new ≡ paste old 0 (map f keys) i
    pub within : i ≤ n
    pub enough : n ≤ length keys
    pub room : n ≤ length old
    pub sized : length new ≡ length old

  pub writing_starts : n ≤ length keys → n ≤ length old → Writing old 0
  writing_starts h k = record { so_far = paste-zero old 0 (map f keys); within = omega arith; enough = h; room = k; sized = refl }

  pub writing_on : (new : List A) (i : ℕ) (v : A) → Writing new i → i < n → v ≡ f (get_or keys i 0) → Writing (set new i v) (i + 1)
  writing_on new i v w h e = record {
    so_far = more;
    within = omega arith;
    enough = w.enough;
    room = w.room;
    sized = ap length more ∙ length-paste old 0 (map f keys) (i + 1) (omega (arith, w.room)) (rw (length-map keys f) (omega (arith, w.enough)));
  }
    where
      here : i < length keys
      here = omega (arith, w.enough)

      more : set new i v ≡ paste old 0 (map f keys) (i + 1)
      more =
          ap (λ l. set l i v) w.so_far
          ∙ ap (λ x. set (paste old 0 (map f keys) i) i x) (e ∙ sym (get_or-map f keys i 0))
          ∙ ap (λ j. set (paste old 0 (map f keys) i) j (get_or (map f keys) i (f 0))) (sym (zero-add i))
          ∙ paste-suc old 0 (map f keys) i (f 0) (omega (arith, w.room)) (rw (length-map keys f) here)
          ∙ ap (λ j. paste old 0 (map f keys) j) (sym (add-one i))

  pub writing_ends : (new : List A) (i : ℕ) → Writing new i → n ≤ i → new ≡ filled (map f (take n keys)) old
  writing_ends new i w h =
      let e : i ≡ n = omega (arith, w.within) in
      let l : length (map f (take n keys)) ≡ n = length-map (take n keys) f ∙ length-take-le n keys w.enough in
      w.so_far
      ∙ ap (λ j. take j (map f keys) ++ drop (0 + j) old) e
      ∙ ap (λ x. x ++ drop (0 + n) old) (map-take f n keys)
      ∙ ap (λ j. map f (take n keys) ++ drop j old) (zero-add n ∙ sym l)
