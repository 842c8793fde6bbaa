-- The judgement item by item, and of all items at once.
use Prim.Native.Nat.{ℕ, zero, suc, ◌+◌, ◌-◌, ◌<◌, ◌≤◌}
use native.Mathlib.Numerals.{add-one}
use native.Mathlib.Omega.{arith}
use mathlib.Core.Path.{◌≡◌, refl, sym, ◌∙◌}
use mathlib.Core.Bool.{Bool, true, false, not, ◌||◌, true≢false}
use mathlib.Core.List.{List}
use mathlib.Core.Option.{some}
use borrow.Author.Tests.{ltb-true, ltb-false, lt-leb, lt-ltb}
use lib.Dec.{ltb, leb}
use lib.IntN.{ℤ, pos}
use lib.ListN.{get_or, length, drop}
use Rattle.outcome.specs.Outcome.{Outcome, given, refused, ◌>>◌, need}
use Rattle.lines.specs.Lines.{crossings, ordered}
use Rattle.lines.specs.AtIndex.{item}
use Rattle.lines.proofs.Items.{drop-item, drop_all}
use Rattle.line_checking.specs.Items.{falls_at, at_mark, asked_at, ordered_from, NoneStray, AllFine}
use Rattle.line_lists.specs.Greatest.{Greatest}
use Rattle.line_checking.proofs.ItemLaws.{left_off, right_off, strays_by, falls_any, falls_first, falls-line}

-- three questions in turn, and what is left to ask
grouped : (a b c : Bool) (i : ℕ) (rest : Outcome (Unit {0})) → (need a 10 i >> (need b 15 i >> (need c 11 i >> rest))) ≡ ((need a 10 i >> (need b 15 i >> need c 11 i)) >> rest)
grouped false b c i rest = refl
grouped true false c i rest = refl
grouped true true c i rest = refl

-- the first i items are fine
pub record FineTo (names rows : ℕ) (ls : List ℕ) (ps : List ℤ) (ss : List ℕ) (i : ℕ) : Type 0 where
  pub rest : ordered_from names rows ls ps ss 0 ≡ ordered_from names rows ls ps ss i

module _ (names rows : ℕ) (ls : List ℕ) (ps : List ℤ) (ss : List ℕ) where
  pub fine_none : FineTo names rows ls ps ss 0
  fine_none = record { rest = refl }

  pub all_fine_not : AllFine names rows ls ps ss false
  all_fine_not = record { fine = λ t. absurd (true≢false (sym t)) }

  module _ (positions : length ps ≡ length ls) (shapes : length ss ≡ length ls) where
    left : (i : ℕ) → i < length ls → ordered_from names rows ls ps ss i ≡ (asked_at names rows ls ps ss i >> ordered_from names rows ls ps ss (i + 1))
    unfolding ordered_from ordered asked_at
    left i h =
        rw (drop-item ls ps ss i positions shapes h, falls_any ls ps ss i, add-one i, strays_by rows (item ls ps ss i) (at_mark (get_or ps i (pos 0))) (leb rows (get_or ls i 0)) refl refl)
        (grouped (ltb (get_or ss i 0) names) (not (at_mark (get_or ps i (pos 0)) || leb rows (get_or ls i 0))) (not (falls_at ls ps i)) i (ordered names rows (some (item ls ps ss i)) (suc i) (drop (suc i) (crossings ls ps ss))))

    on : (i : ℕ) → i < length ls → given tt ≡ asked_at names rows ls ps ss i → ordered_from names rows ls ps ss i ≡ ordered_from names rows ls ps ss (i + 1)
    on i h e = left i h ∙ rw (sym e)

    pub fine_more : (i : ℕ) → i < length ls → given tt ≡ asked_at names rows ls ps ss i → FineTo names rows ls ps ss i → FineTo names rows ls ps ss (i + 1)
    fine_more i h e f = record { rest = f.rest ∙ on i h e }

    pub fine_wrong : (i number place : ℕ) → i < length ls → refused number place ≡ asked_at names rows ls ps ss i → FineTo names rows ls ps ss i → refused number place ≡ ordered_from names rows ls ps ss 0
    fine_wrong i number place h e f = sym (f.rest ∙ left i h ∙ rw (sym e))

    past : (i : ℕ) → length ls ≤ i → ordered_from names rows ls ps ss i ≡ given tt
    unfolding ordered_from ordered
    past i h = rw (drop_all ls ps ss i positions shapes h)

    pub fine_all : (i : ℕ) → length ls ≤ i → FineTo names rows ls ps ss i → given tt ≡ ordered_from names rows ls ps ss 0
    fine_all i h f = sym (f.rest ∙ past i h)

    all_from : (k i : ℕ) → k + i ≡ length ls → ((j : ℕ) → j < length ls → given tt ≡ asked_at names rows ls ps ss j) → ordered_from names rows ls ps ss i ≡ given tt
    all_from zero i e h = past i (omega arith)
    all_from (suc k) i e h = on i (omega arith) (h i (omega arith)) ∙ all_from k (i + 1) (omega arith) h

    module _ (n : NoneStray ls ps (length ls) false) where
      not_down : (i : ℕ) → 0 < i → i < length ls → get_or ls (i - 1) 0 ≤ get_or ls i 0
      not_down i h k = by (ltb (get_or ls i 0) (get_or ls (i - 1) 0)) refl
        where
          by : (t : Bool) → ltb (get_or ls i 0) (get_or ls (i - 1) 0) ≡ t → get_or ls (i - 1) 0 ≤ get_or ls i 0
          by true e = absurd (true≢false (sym (falls-line ls ps i h (ltb-true (get_or ls i 0) (get_or ls (i - 1) 0) e)) ∙ left_off _ _ (n.each refl i h k)))
          by false e = ltb-false (get_or ls i 0) (get_or ls (i - 1) 0) e

      up : (d i : ℕ) → i + d < length ls → get_or ls i 0 ≤ get_or ls (i + d) 0
      up zero i h = let same : i + 0 ≡ i = omega arith in rw same (omega arith)
      up (suc d) i h =
          let step = not_down (i + suc d) (omega arith) h in
          let back : i + suc d - 1 ≡ i + d = omega arith in
          omega (arith, up d i (omega arith), rw back at step)

      all_asked : (g l : ℕ) → 0 < length ls → at_mark (get_or ps 0 (pos 0)) ≡ false → l ≡ get_or ls (length ls - 1) 0 → l < rows → Greatest ss (length ss) g → g < names → ordered_from names rows ls ps ss 0 ≡ given tt
      unfolding asked_at
      all_asked g l there first last kept gr few = all_from (length ls) 0 (omega arith) each
        where
          row : (j : ℕ) → j < length ls → leb rows (get_or ls j 0) ≡ false
          row j h =
              let far : j + (length ls - 1 - j) ≡ length ls - 1 = omega arith in
              let rise = up (length ls - 1 - j) j (omega arith) in
              lt-leb rows (get_or ls j 0) (omega (arith, rw far at rise))

          -- the first falls behind none, and the others neither fall nor are at a mark
          quiet : (j : ℕ) → j < length ls → (falls_at ls ps j || at_mark (get_or ps j (pos 0))) ≡ false
          quiet zero h = rw (← falls_first ls ps 0 refl) first
          quiet (suc j) h = n.each refl (suc j) (omega arith) h

          each : (j : ℕ) → j < length ls → given tt ≡ asked_at names rows ls ps ss j
          each j h =
              rw (
                lt-ltb (get_or ss j 0) names (omega (arith, gr.above j (omega (arith, shapes)))),
                right_off (falls_at ls ps j) (at_mark (get_or ps j (pos 0))) (quiet j h),
                row j h,
                left_off (falls_at ls ps j) (at_mark (get_or ps j (pos 0))) (quiet j h),
              )

    pub all_fine_by : (g l : ℕ) (found : Bool) → 0 < length ls → at_mark (get_or ps 0 (pos 0)) ≡ false → l ≡ get_or ls (length ls - 1) 0 → l < rows → Greatest ss (length ss) g → g < names → NoneStray ls ps (length ls) found → AllFine names rows ls ps ss (not found)
    all_fine_by g l true there first last kept gr few n = all_fine_not
    all_fine_by g l false there first last kept gr few n = record { fine = λ t. all_asked n g l there first last kept gr few }
