-- What holds of every entry holds of every entry of lists joined, mapped or put into order.
use mathlib.Core.Path.{◌≡◌, refl}
use mathlib.Core.Bool.{Bool, true, false}
use mathlib.Core.List.{List, [], ◌∷◌, ◌++◌, map}
use Rattle.cross_order.specs.Order.{enter, ordered_by}
use Rattle.cross_order.proofs.OrderLaws.{enter-after, enter-here}
use Rattle.cross_cuts.specs.Every.{Every}

module _ {A : Type 0} (holds : A → Bool) where
  pub every_append : (xs ys : List A) → Every holds xs → Every holds ys → Every holds (xs ++ ys)
  every_append [] ys p q = q
  every_append (x ∷ xs) ys p q = (p.0, every_append xs ys p.1 q)

  module _ (before : A → A → Bool) where
    every_enter : (x : A) (ys : List A) → holds x ≡ true → Every holds ys → Every holds (enter before x ys)
    unfolding enter
    every_enter x [] h p = (h, tt)
    every_enter x (y ∷ ys) h p = by (before y x) refl (every_enter x ys h p.1)
      where
        by : (t : Bool) → before y x ≡ t → Every holds (enter before x ys) → Every holds (enter before x (y ∷ ys))
        by true e rest = rw (enter-after before x y ys e) (p.0, rest)
        by false e rest = rw (enter-here before x y ys e) (h, p)

    pub every_ordered_by : (xs : List A) → Every holds xs → Every holds (ordered_by before xs)
    unfolding ordered_by
    every_ordered_by [] p = tt
    every_ordered_by (x ∷ xs) p = every_enter x (ordered_by before xs) p.0 (every_ordered_by xs p.1)

pub every_map : {A B : Type 0} (f : A → B) (holds : B → Bool) (xs : List A) → Every (λ x. holds (f x)) xs → Every holds (map f xs)
every_map f holds [] p = tt
every_map f holds (x ∷ xs) p = (p.0, every_map f holds xs p.1)

pub every_more : {A : Type 0} (holds also : A → Bool) → ((x : A) → holds x ≡ true → also x ≡ true) → (xs : List A) → Every holds xs → Every also xs
every_more holds also so [] p = tt
every_more holds also so (x ∷ xs) p = (so x p.0, every_more holds also so xs p.1)
