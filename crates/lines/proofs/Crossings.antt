-- Lists of crossings: those that pass a test, those of one line, and those that rise.
use Prim.Native.Nat.{ℕ, ◌<◌, ◌≤◌}
use native.Mathlib.Omega.{arith}
use mathlib.Core.Path.{◌≡◌, refl, sym, ap, ◌∙◌}
use mathlib.Core.Bool.{Bool, true, false, ◌&&◌, true≢false}
use mathlib.Core.List.{List, [], ◌∷◌}
use mathlib.Core.Logic.{◌⊎◌, inl, inr}
use borrow.Author.Tests.{eqb-true, leb-false}
use lib.Dec.{leb}
use lib.IntN.{ℤ}
use lib.Signed.{le_z, lt_z}
use Rattle.lines.specs.Lines.{Crossing, crossed, low, high, strays, on_line, crossings_on}
use Rattle.lines.proofs.Keys.{le_k, yes_le_k, le_trans, no→lt, eq_le_k}

-- ---- the shapes of those that pass a test

pub crossed_in : (test : Crossing → Bool) (x : Crossing) (xs : List Crossing) → test x ≡ true → crossed test (x ∷ xs) ≡ x.shape ∷ crossed test xs
unfolding crossed
crossed_in test x xs e = rw (e, crossed)

pub crossed_out : (test : Crossing → Bool) (x : Crossing) (xs : List Crossing) → test x ≡ false → crossed test (x ∷ xs) ≡ crossed test xs
unfolding crossed
crossed_out test x xs e = rw (e, crossed)

pub crossed_nil : (test : Crossing → Bool) → crossed test [] ≡ []
unfolding crossed
crossed_nil test = refl

-- ---- the crossings of a line

pub on_nil : (l : ℕ) → crossings_on l [] ≡ []
unfolding crossings_on
on_nil l = refl

pub on_in : (l : ℕ) (x : Crossing) (xs : List Crossing) → on_line l x ≡ true → crossings_on l (x ∷ xs) ≡ x ∷ crossings_on l xs
unfolding crossings_on
on_in l x xs e = rw (e, crossings_on)

pub on_out : (l : ℕ) (x : Crossing) (xs : List Crossing) → on_line l x ≡ false → crossings_on l (x ∷ xs) ≡ crossings_on l xs
unfolding crossings_on
on_out l x xs e = rw (e, crossings_on)

-- what a test of positions passes on line l, it passes of the crossings of line l
pub crossed-on : (l : ℕ) (test : ℤ → Bool) (xs : List Crossing) → crossed (λ x. on_line l x && test x.at) xs ≡ crossed (λ x. test x.at) (crossings_on l xs)
crossed-on l test [] = crossed_nil (λ x. on_line l x && test x.at) ∙ sym (ap (crossed (λ x. test x.at)) (on_nil l) ∙ crossed_nil (λ x. test x.at))
crossed-on l test (x ∷ xs) = by (on_line l x) refl (test x.at) refl (crossed-on l test xs)
  where
    by : (a : Bool) → on_line l x ≡ a → (b : Bool) → test x.at ≡ b → crossed (λ x. on_line l x && test x.at) xs ≡ crossed (λ x. test x.at) (crossings_on l xs)
        → crossed (λ x. on_line l x && test x.at) (x ∷ xs) ≡ crossed (λ x. test x.at) (crossings_on l (x ∷ xs))
    by true a true b ih = crossed_in (λ x. on_line l x && test x.at) x xs (rw (a, b)) ∙ ap (λ ss. x.shape ∷ ss) ih ∙ sym (ap (crossed (λ x. test x.at)) (on_in l x xs a) ∙ crossed_in (λ x. test x.at) x (crossings_on l xs) b)
    by true a false b ih = crossed_out (λ x. on_line l x && test x.at) x xs (rw (a, b)) ∙ ih ∙ sym (ap (crossed (λ x. test x.at)) (on_in l x xs a) ∙ crossed_out (λ x. test x.at) x (crossings_on l xs) b)
    by false a c b ih = crossed_out (λ x. on_line l x && test x.at) x xs (rw a) ∙ ih ∙ sym (ap (crossed (λ x. test x.at)) (on_out l x xs a))

-- ---- what holds of each

abbrev pub Each : (Crossing → Type 0) → List Crossing → Type 0
Each P [] = Unit {0}
Each P (x ∷ xs) = P x × Each P xs

pub each_map : (P Q : Crossing → Type 0) → ((x : Crossing) → P x → Q x) → (xs : List Crossing) → Each P xs → Each Q xs
each_map P Q f [] h = tt
each_map P Q f (x ∷ xs) h = (f x h.0, each_map P Q f xs h.1)

pub each_on : (P : Crossing → Type 0) (l : ℕ) (xs : List Crossing) → Each P xs → Each P (crossings_on l xs)
each_on P l [] h = rw (on_nil l) tt
each_on P l (x ∷ xs) h = by (on_line l x) refl (each_on P l xs h.1)
  where
    by : (a : Bool) → on_line l x ≡ a → Each P (crossings_on l xs) → Each P (crossings_on l (x ∷ xs))
    by true a ih = rw (on_in l x xs a) (h.0, ih)
    by false a ih = rw (on_out l x xs a) ih

pub each_its_line : (l : ℕ) (xs : List Crossing) → Each (λ x. x.line ≡ l) (crossings_on l xs)
each_its_line l [] = rw (on_nil l) tt
each_its_line l (x ∷ xs) = by (on_line l x) refl (each_its_line l xs)
  where
    by : (a : Bool) → on_line l x ≡ a → Each (λ x. x.line ≡ l) (crossings_on l xs) → Each (λ x. x.line ≡ l) (crossings_on l (x ∷ xs))
    by true a ih = rw (on_in l x xs a) (eqb-true x.line l a, ih)
    by false a ih = rw (on_out l x xs a) ih

-- every shape has a name
abbrev pub Named : ℕ → List Crossing → Type 0
Named names xs = Each (λ x. x.shape < names) xs

-- each is between the end marks, on a line that has a row
abbrev pub Kept : ℕ → List Crossing → Type 0
Kept rows xs = Each (λ x. strays rows x ≡ false) xs

module _ (rows : ℕ) (x : Crossing) (e : strays rows x ≡ false) where
  parts : (le_z x.at low ≡ false) × ((le_z high x.at ≡ false) × (leb rows x.line ≡ false))
  parts = by (le_z x.at low) refl (le_z high x.at) refl (leb rows x.line) refl
    where
      by : (a : Bool) → le_z x.at low ≡ a → (b : Bool) → le_z high x.at ≡ b → (c : Bool) → leb rows x.line ≡ c
          → (le_z x.at low ≡ false) × ((le_z high x.at ≡ false) × (leb rows x.line ≡ false))
      by true a b c d f = absurd (true≢false (rw a at e))
      by false a true c d f = absurd (true≢false (rw (a, c) at e))
      by false a false c true f = absurd (true≢false (rw (a, c, f) at e))
      by false a false c false f = (a, (c, f))

  pub kept_low : lt_z low x.at ≡ true
  kept_low = no→lt low x.at parts.0

  pub kept_high : lt_z x.at high ≡ true
  kept_high = no→lt x.at high parts.1.0

  pub kept_line : x.line < rows
  kept_line = leb-false rows x.line parts.1.1

-- ---- entries that rise

-- y at x's place or after it
abbrev pub Later : Crossing → Crossing → Type 0
Later x y = le_k x.line x.at y.line y.at ≡ true

abbrev pub Follows : Crossing → List Crossing → Type 0
Follows x [] = Unit {0}
Follows x (y ∷ ys) = Later x y

abbrev pub Sorted : List Crossing → Type 0
Sorted [] = Unit {0}
Sorted (x ∷ xs) = Follows x xs × Sorted xs

pub all-later : (x : Crossing) (xs : List Crossing) → Follows x xs → Sorted xs → Each (Later x) xs
all-later x [] f so = tt
all-later x (y ∷ ys) f so = (f, each_map (Later y) (Later x) (λ z g. le_trans (x.line, x.at) (y.line, y.at) (z.line, z.at) f g) ys (all-later y ys so.0 so.1))

pub later-line : (x y : Crossing) → Later x y → x.line ≤ y.line
later-line x y e = by (yes_le_k x.line x.at y.line y.at e)
  where
    by : (x.line < y.line) ⊎ ((x.line ≡ y.line) × (le_z x.at y.at ≡ true)) → x.line ≤ y.line
    by (inl h) = omega arith
    by (inr h) = omega arith

pub later-at : (x y : Crossing) → x.line ≡ y.line → Later x y → le_z x.at y.at ≡ true
later-at x y h e = sym (eq_le_k x.line x.at y.line y.at h) ∙ e
