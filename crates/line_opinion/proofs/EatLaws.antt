-- One entry of their lists, at its index.
use Prim.Native.Nat.{ℕ, zero, suc, ◌+◌, ◌<◌, ◌≤◌}
use Rattle.std.proofs.Common.{Ok, Err, max}
use native.Mathlib.Nat.{not-suc-le-zero, le_of_suc-le-suc}
use native.Mathlib.Numerals.{add-one}
use native.Mathlib.Omega.{arith}
use mathlib.Core.Path.{◌≡◌, refl, sym, ap, ◌∙◌}
use mathlib.Core.Bool.{Bool, true, false}
use mathlib.Core.List.{List, [], ◌∷◌}
use lib.IntN.{ℤ, pos}
use lib.ListN.{length, drop, get_or, drop_of_length-le}
use lib.Signed.{le_z}
use Rattle.lines.proofs.Keys.{le_z_self}
use Rattle.line_opinion.specs.Judging.{Entry, entries, TheirLists, their_lists, theirs, same_place, right, wrong_at, fits, beyond, opinion_from}
use Rattle.line_opinion.specs.Eating.{SameLength, lists_of, entry_at, Ate}
use Rattle.line_opinion.specs.declared.entries.Entries.{Entries}
use Rattle.line_opinion.proofs.Opinions.{same-same, opinion-none, opinion_lack, opinion_more, opinion-on, opinion-off}

pub length-theirs : (ls : List ℕ) (ps qs : List ℤ) → length ps ≡ length ls → length qs ≡ length ls → length (entries ls ps qs) ≡ length ls
length-theirs [] ps qs e f = refl
length-theirs (l ∷ ls) [] qs e f = e
length-theirs (l ∷ ls) (p ∷ ps) [] e f = f
length-theirs (l ∷ ls) (p ∷ ps) (q ∷ qs) e f = ap suc (length-theirs ls ps qs (omega arith) (omega arith))

pub left : (ls : List ℕ) (ps qs : List ℤ) (j : ℕ) → length ps ≡ length ls → length qs ≡ length ls → j < length ls → drop j (entries ls ps qs) ≡ entry_at (their_lists ls ps qs) j ∷ drop (suc j) (entries ls ps qs)
left [] ps qs j e f h = absurd (not-suc-le-zero h)
left (l ∷ ls) [] qs j e f h = let z : ⊥ = omega arith in absurd z
left (l ∷ ls) (p ∷ ps) [] j e f h = let z : ⊥ = omega arith in absurd z
left (l ∷ ls) (p ∷ ps) (q ∷ qs) zero e f h = refl
left (l ∷ ls) (p ∷ ps) (q ∷ qs) (suc j) e f h = left ls ps qs j (omega arith) (omega arith) (le_of_suc-le-suc h)

-- ---- whether an entry fits

pub same_by : (a b : ℤ) → a ≡ b → same_place a b ≡ true
same_by a b e = rw (e, le_z_self b)

pub same_not : (a b : ℤ) → (a ≡ b → ⊥) → same_place a b ≡ false
same_not a b n = by (same_place a b) refl
  where
    by : (t : Bool) → same_place a b ≡ t → t ≡ false
    by true e = absurd (n (same-same a b e))
    by false e = refl

-- ---- one wall

pub even : (e : Entries) → SameLength (lists_of e)
even e = record { starts = e.starts_long; ends = e.ends_long }

-- what is needed from their entry j on is as it was from entry i on
pub record Going (t : TheirLists) (i : ℕ) (v : Entry) (j : ℕ) (u : Entry) : Type 0 where
  pub within : j ≤ max i (length t.lines)
  pub rest : (vs : List Entry) → opinion_from i (v ∷ vs) (drop i (theirs t)) ≡ opinion_from j (u ∷ vs) (drop j (theirs t))

module _ (t : TheirLists) (i : ℕ) (v : Entry) where
  pub going_none : Going t i v i v
  going_none = record { within = omega arith; rest = λ vs. refl }

  module _ (sl : SameLength t) (j : ℕ) (u : Entry) (g : Going t i v j u) where
    at_end : length t.lines ≤ j → Ate t i (v ∷ []) (Err j)
    at_end h = record { to = λ vs. g.rest vs ∙ ap (opinion_from j (u ∷ vs)) (drop_of_length-le (theirs t) {i = j} (omega (arith, length-theirs t.lines t.starts t.ends sl.starts sl.ends))) ∙ opinion_lack j u vs }

    pub eat_end : length t.lines ≤ j → i ≤ j → (m : ℕ) → m ≡ max i (length t.lines) → Ate t i (v ∷ []) (Err m)
    eat_end h lo m is = let z : j ≡ m = omega (arith, g.within) in rw (← z) (at_end h)

    module _ (h : j < length t.lines) (f : Bool) (fit : f ≡ fits u (entry_at t j)) where
      here : drop j (theirs t) ≡ entry_at t j ∷ drop (suc j) (theirs t)
      here = left t.lines t.starts t.ends j sl.starts sl.ends h

      pub eat_wrong : f ≡ false → Ate t i (v ∷ []) (Err j)
      eat_wrong q = record { to = λ vs. g.rest vs ∙ ap (opinion_from j (u ∷ vs)) here ∙ opinion-off j u (entry_at t j) vs (drop (suc j) (theirs t)) (sym fit ∙ q) }

      on : f ≡ true → (vs : List Entry) → opinion_from i (v ∷ vs) (drop i (theirs t)) ≡ opinion_from (j + 1) (beyond u (entry_at t j) vs) (drop (j + 1) (theirs t))
      on q vs = g.rest vs ∙ ap (opinion_from j (u ∷ vs)) here ∙ opinion-on j u (entry_at t j) vs (drop (suc j) (theirs t)) (sym fit ∙ q) ∙ rw (add-one j)

      module _ (q : f ≡ true) (b e : ℤ) (is_b : b ≡ get_or t.ends j (pos 0)) (is-e : e ≡ u.end) where
        pub eat_whole : le_z e b ≡ true → Ate t i (v ∷ []) (Ok (j + 1))
        eat_whole k = record { to = λ vs. on q vs ∙ rw (← is_b, ← is-e, k) }

        pub eat_part : (l : ℕ) → l ≡ u.line → (to : ℤ) → to ≡ e → le_z e b ≡ false → Going t i v (j + 1) (record { line = l; start = b; end = to })
        eat_part l is-l to is-to k = record { within = omega arith; rest = λ vs. on q vs ∙ rw (← is_b, ← is-e, is-l, is-to, k) }

-- ---- after our last wall

module _ (t : TheirLists) (sl : SameLength t) (j : ℕ) where
  pub opinion-over : j < length t.lines → opinion_from j [] (drop j (theirs t)) ≡ wrong_at j
  opinion-over h = ap (opinion_from j []) (left t.lines t.starts t.ends j sl.starts sl.ends h) ∙ opinion_more j (entry_at t j) (drop (suc j) (theirs t))

  pub opinion-done : length t.lines ≤ j → opinion_from j [] (drop j (theirs t)) ≡ right
  opinion-done h = ap (opinion_from j []) (drop_of_length-le (theirs t) {i = j} (omega (arith, length-theirs t.lines t.starts t.ends sl.starts sl.ends))) ∙ opinion-none j
