-- Line numbers raised by r: what stays the same.
use Prim.Native.Nat.{ℕ, ◌+◌, ◌<◌}
use native.Mathlib.Omega.{arith}
use mathlib.Core.Path.{◌≡◌, refl, sym, ap, ◌∙◌}
use mathlib.Core.Bool.{Bool, true, false}
use mathlib.Core.List.{List, [], ◌∷◌, ◌++◌, map}
use mathlib.Core.Option.{Option, none, some}
use borrow.Author.Tests.{eq-eqb, ne_eqb, eqb-true, eqb-false, lt-ltb, le-ltb, ltb-true, ltb-false, le-leb, lt-leb, leb-true, leb-false}
use lib.Dec.{eqb, ltb, leb}
use lib.IntN.{ℤ}
use lib.ListN.{length}
use Rattle.lines.specs.Lines.{LineLists, Crossing, crossings, entries, falls, strays}
use Rattle.lines.proofs.Crossings.{Each}
use Rattle.line_cuts.specs.Cuts.{AllBelow, together}
use Rattle.line_cuts.specs.Places.{Leads}

pub eqb_add : (r a b : ℕ) → eqb (r + a) (r + b) ≡ eqb a b
eqb_add r a b = by (eqb a b) refl
  where
    by : (t : Bool) → eqb a b ≡ t → eqb (r + a) (r + b) ≡ eqb a b
    by true e = eq-eqb (r + a) (r + b) (omega (arith, eqb-true a b e)) ∙ sym e
    by false e = ne_eqb (r + a) (r + b) (λ q. eqb-false a b e (omega arith)) ∙ sym e

pub ltb_add : (r a b : ℕ) → ltb (r + a) (r + b) ≡ ltb a b
ltb_add r a b = by (ltb a b) refl
  where
    by : (t : Bool) → ltb a b ≡ t → ltb (r + a) (r + b) ≡ ltb a b
    by true e = lt-ltb (r + a) (r + b) (omega (arith, ltb-true a b e)) ∙ sym e
    by false e = le-ltb (r + a) (r + b) (omega (arith, ltb-false a b e)) ∙ sym e

pub leb_add : (r a b : ℕ) → leb (r + a) (r + b) ≡ leb a b
leb_add r a b = by (leb a b) refl
  where
    by : (t : Bool) → leb a b ≡ t → leb (r + a) (r + b) ≡ leb a b
    by true e = le-leb (r + a) (r + b) (omega (arith, leb-true a b e)) ∙ sym e
    by false e = lt-leb (r + a) (r + b) (omega (arith, leb-false a b e)) ∙ sym e

-- ---- crossings

abbrev pub raise : ℕ → Crossing → Crossing
raise r x = record { line = r + x.line; at = x.at; shape = x.shape }

abbrev pub raise_before : ℕ → Option Crossing → Option Crossing
raise_before r none = none
raise_before r (some x) = some (raise r x)

pub strays_raised : (r rows : ℕ) (y : Crossing) → strays (r + rows) (raise r y) ≡ strays rows y
strays_raised r rows y = rw (leb_add r rows y.line)

pub falls_raised : (r : ℕ) (x : Option Crossing) (y : Crossing) → falls (raise_before r x) (raise r y) ≡ falls x y
falls_raised r none y = refl
falls_raised r (some x) y = rw (ltb_add r y.line x.line, eqb_add r y.line x.line)

-- ---- the three lists read as one

abbrev pub Under : ℕ → List Crossing → Type 0
Under r xs = Each (λ x. x.line < r) xs

pub crossings-below : (r : ℕ) (ls : List ℕ) (ps : List ℤ) (ss : List ℕ) → AllBelow r ls → Under r (crossings ls ps ss)
crossings-below r [] ps ss h = tt
crossings-below r (l ∷ ls) [] ss h = tt
crossings-below r (l ∷ ls) (p ∷ ps) [] h = tt
crossings-below r (l ∷ ls) (p ∷ ps) (s ∷ ss) h = (h.0, crossings-below r ls ps ss h.1)

crossings_raised : (r : ℕ) (ls : List ℕ) (ps : List ℤ) (ss : List ℕ) → crossings (map (λ l. r + l) ls) ps ss ≡ map (raise r) (crossings ls ps ss)
crossings_raised r [] ps ss = refl
crossings_raised r (l ∷ ls) [] ss = refl
crossings_raised r (l ∷ ls) (p ∷ ps) [] = refl
crossings_raised r (l ∷ ls) (p ∷ ps) (s ∷ ss) = ap (λ xs. raise r (record { line = l; at = p; shape = s }) ∷ xs) (crossings_raised r ls ps ss)

pub crossings-append : (ls ms : List ℕ) (ps qs : List ℤ) (ss ts : List ℕ) → length ps ≡ length ls → length ss ≡ length ls
    → crossings (ls ++ ms) (ps ++ qs) (ss ++ ts) ≡ crossings ls ps ss ++ crossings ms qs ts
crossings-append [] ms [] qs [] ts e f = refl
crossings-append [] ms [] qs (s ∷ ss) ts e f = let z : ⊥ = omega arith in absurd z
crossings-append [] ms (p ∷ ps) qs ss ts e f = let z : ⊥ = omega arith in absurd z
crossings-append (l ∷ ls) ms [] qs ss ts e f = let z : ⊥ = omega arith in absurd z
crossings-append (l ∷ ls) ms (p ∷ ps) qs [] ts e f = let z : ⊥ = omega arith in absurd z
crossings-append (l ∷ ls) ms (p ∷ ps) qs (s ∷ ss) ts e f = ap (λ xs. record { line = l; at = p; shape = s } ∷ xs) (crossings-append ls ms ps qs ss ts (omega arith) (omega arith))

module _ (names r : ℕ) (a b : LineLists) (fit : Leads names r a) where
  pub entries-together : entries (together r a b) ≡ entries a ++ map (raise r) (entries b)
  entries-together =
      crossings-append a.lines (map (λ l. r + l) b.lines) a.positions b.positions a.shapes b.shapes fit.one_length.positions_long fit.one_length.shapes_long
      ∙ ap (λ xs. entries a ++ xs) (crossings_raised r b.lines b.positions b.shapes)

  pub entries_under : Under r (entries a)
  entries_under = crossings-below r a.lines a.positions a.shapes fit.below
