-- A lent list filled from the front: one entry more, and its length.
use Prim.Native.Nat.{ℕ, suc, ◌+◌, ◌<◌, ◌≤◌}
use native.Mathlib.Numerals.{add-one}
use native.Mathlib.Omega.{arith}
use mathlib.Core.Path.{◌≡◌, sym, ap, ◌∙◌}
use mathlib.Core.List.{List, [], ◌∷◌, ◌++◌}
use lib.ListN.{length, get_or, take, drop, set, length-append, length-drop}
use lib.Seq.{drop-cons, set-append_seam, append_snoc, take-suc, length-take-le}
use Rattle.outcome.specs.Lent.{filled}

module _ {A : Type 0} where
  pub filled_more : (xs old : List A) (x : A) (i : ℕ) → length xs ≡ i → i < length old → set (filled xs old) i x ≡ filled (xs ++ (x ∷ [])) old
  filled_more xs old x i e h =
      let long : length (xs ++ (x ∷ [])) ≡ suc (length xs) = omega (arith, length-append xs (x ∷ [])) in
      rw (← e, drop-cons old (length xs) x (omega arith), long)
      (set-append_seam xs (get_or old (length xs) x) (drop (suc (length xs)) old) x ∙ sym (append_snoc xs x (drop (suc (length xs)) old)))

  pub length-filled : (xs old : List A) → length xs ≤ length old → length (filled xs old) ≡ length old
  length-filled xs old h = omega (arith, length-append xs (drop (length xs) old), length-drop (length xs) old)

  -- The first entries of a list, copied one after the other.
  pub copied_more : (xs old now : List A) (d : A) (i : ℕ) → now ≡ filled (take i xs) old → i < length xs → i < length old
      → set now i (get_or xs i d) ≡ filled (take (i + 1) xs) old
  copied_more xs old now d i is h l =
      rw (is, add-one i, take-suc xs i d h) (filled_more (take i xs) old (get_or xs i d) i (length-take-le i xs (omega arith)) l)

  pub length-copied : (xs old now : List A) (i : ℕ) → now ≡ filled (take i xs) old → i ≤ length xs → i ≤ length old → length now ≡ length old
  length-copied xs old now i is h l = ap length is ∙ length-filled (take i xs) old (omega (arith, length-take-le i xs h))
