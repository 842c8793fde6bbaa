-- The greatest of a list.
use Prim.Native.Nat.{ℕ, zero, suc, ◌<◌, ◌≤◌, max}
use native.Mathlib.Nat.{not-suc-le-zero}
use native.Mathlib.Omega.{arith}
use mathlib.Core.Path.{◌≡◌, refl}
use mathlib.Core.Bool.{Bool, true, false}
use mathlib.Core.List.{List, [], ◌∷◌}
use Rattle.std.specs.List.{fold}
use borrow.Author.Tests.{ltb-true, ltb-false}
use lib.Dec.{ltb}
use lib.ListN.{length, get_or}
use Rattle.line_lists.specs.Greatest.{Greatest}

-- the greatest of what is gone through and of what was there before
record Over (xs : List ℕ) (a m : ℕ) : Type 0 where
  start : a ≤ m
  above : (j : ℕ) → j < length xs → get_or xs j 0 ≤ m
  among : a < m → (j : ℕ) × (j < length xs) × (get_or xs j 0 ≡ m)

over_more : (x : ℕ) (xs : List ℕ) (a m : ℕ) → Over xs (max a x) m → Over (x ∷ xs) a m
over_more x xs a m rest = record { start = omega (arith, rest.start); above = above; among = λ h. among h (ltb (max a x) m) refl }
  where
    above : (j : ℕ) → j < suc (length xs) → get_or (x ∷ xs) j 0 ≤ m
    above zero h = omega (arith, rest.start)
    above (suc j) h = rest.above j (omega arith)

    among : a < m → (t : Bool) → ltb (max a x) m ≡ t → (j : ℕ) × (j < suc (length xs)) × (get_or (x ∷ xs) j 0 ≡ m)
    among h true e = let f = rest.among (ltb-true (max a x) m e) in (suc f.0, omega (arith, f.1), f.2)
    among h false e = (zero, omega arith, omega (arith, rest.start, ltb-false (max a x) m e))

over : (xs : List ℕ) (a : ℕ) → Over xs a (fold max a xs)
over [] a = record { start = omega arith; above = λ j h. absurd (not-suc-le-zero h); among = λ h. absurd (omega arith) }
over (x ∷ xs) a = over_more x xs a (fold max (max a x) xs) (over xs (max a x))

pub greatest_fold : (xs : List ℕ) (m : ℕ) → m ≡ fold max 0 xs → Greatest xs (length xs) m
greatest_fold xs m e = rw e (record { above = (over xs 0).above; among = (over xs 0).among })
