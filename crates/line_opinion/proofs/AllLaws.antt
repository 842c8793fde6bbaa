-- Walls of ours against their entries, one after another.
use Prim.Native.Nat.{ℕ, ◌+◌, ◌<◌, ◌≤◌}
use native.Mathlib.Numerals.{add-one}
use native.Mathlib.Omega.{arith}
use mathlib.Core.Path.{◌≡◌, refl, sym, ap, ◌∙◌}
use Rattle.std.proofs.Common.{Result, Ok, Err}
use mathlib.Core.List.{List, [], ◌∷◌, ◌++◌, append_assoc}
use lib.IntN.{ℤ, pos}
use lib.ListN.{length, take, drop, get_or, take-append-drop}
use lib.Seq.{take-suc, drop-cons, take_all}
use Rattle.line_opinion.specs.Judging.{Entry, TheirLists, theirs, opinion_from}
use Rattle.line_opinion.specs.Eating.{SameLength, entry_at, Ate}
use Rattle.line_opinion.proofs.EatLaws.{length-theirs, left}

pub ate_none : {t : TheirLists} {i : ℕ} → Ate t i [] (Ok i)
ate_none = record { to = λ vs. refl }

apart : (t : TheirLists) (i : ℕ) (xs ys vs : List Entry) → opinion_from i ((xs ++ ys) ++ vs) (drop i (theirs t)) ≡ opinion_from i (xs ++ (ys ++ vs)) (drop i (theirs t))
apart t i xs ys vs = ap (λ (l : List Entry). opinion_from i l (drop i (theirs t))) (append_assoc xs ys vs)

module _ {t : TheirLists} {xs : List Entry} {i : ℕ} where
  pub ate_more : {ys : List Entry} {j : ℕ} {r : Result ℕ ℕ} → Ate t i xs (Ok j) → Ate t j ys r → Ate t i (xs ++ ys) r
  ate_more {ys} {j} {r} a b = by r b
    where
      by : (r : Result ℕ ℕ) → Ate t j ys r → Ate t i (xs ++ ys) r
      by (Ok k) b = record { to = λ vs. apart t i xs ys vs ∙ a.to (ys ++ vs) ∙ b.to vs }
      by (Err k) b = record { to = λ vs. apart t i xs ys vs ∙ a.to (ys ++ vs) ∙ b.to vs }

  -- what follows a wrong entry changes nothing
  ate_wrong : {k : ℕ} → Ate t i xs (Err k) → (ys : List Entry) → Ate t i (xs ++ ys) (Err k)
  ate_wrong a ys = record { to = λ vs. apart t i xs ys vs ∙ a.to (ys ++ vs) }

-- the first k walls are whole before their entry j
pub record Eating (t ours : TheirLists) (first j k : ℕ) : Type 0 where
  pub so : Ate t first (take k (theirs ours)) (Ok j)

pub eating_start : {t ours : TheirLists} {first : ℕ} → Eating t ours first first 0
eating_start = record { so = ate_none }

module _ {t ours : TheirLists} {first j k : ℕ} (e : Eating t ours first j k) (even : SameLength ours) where
  long : length (theirs ours) ≡ length ours.lines
  long = length-theirs ours.lines ours.starts ours.ends even.starts even.ends

  pub eating_end : length ours.lines ≤ k → Ate t first (theirs ours) (Ok j)
  eating_end h = rw (take_all k (theirs ours) (omega (arith, long))) at e.so

  module _ (h : k < length ours.lines) {l : ℕ} {a b : ℤ} (is-l : l ≡ get_or ours.lines k 0) (is-a : a ≡ get_or ours.starts k (pos 0)) (is_b : b ≡ get_or ours.ends k (pos 0)) where
    next : take (k + 1) (theirs ours) ≡ take k (theirs ours) ++ (entry_at ours k ∷ [])
    next =
        let inside : k < length (theirs ours) = omega (arith, long) in
        let is : get_or (theirs ours) k (entry_at ours k) ≡ entry_at ours k = cc (drop-cons (theirs ours) k (entry_at ours k) inside, left ours.lines ours.starts ours.ends k even.starts even.ends h) in
        ap (λ (m : ℕ). take m (theirs ours)) (add-one k) ∙ take-suc (theirs ours) k (entry_at ours k) inside ∙ ap (λ (w : Entry). take k (theirs ours) ++ (w ∷ [])) is

    so_far : {r : Result ℕ ℕ} → Ate t j (record { line = l; start = a; end = b } ∷ []) r → Ate t first (take (k + 1) (theirs ours)) r
    so_far ate = rw next (ate_more e.so (rw (is-l, is-a, is_b) at ate))

    pub eating_more : {j' : ℕ} → Ate t j (record { line = l; start = a; end = b } ∷ []) (Ok j') → Eating t ours first j' (k + 1)
    eating_more ate = record { so = so_far ate }

    pub eating_wrong : {i : ℕ} {r : Result ℕ ℕ} → Ate t j (record { line = l; start = a; end = b } ∷ []) (Err i) → r ≡ Err i → Ate t first (theirs ours) r
    eating_wrong ate is = rw (sym (take-append-drop (k + 1) (theirs ours)), is) (ate_wrong (so_far ate) (drop (k + 1) (theirs ours)))
