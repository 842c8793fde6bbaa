-- Another's wall list, cut with the lists: the opinion on the whole, and the job of judging it.
use Prim.Native.Nat.{ℕ, suc, ◌<◌}
use native.Mathlib.Omega.{arith}
use mathlib.Core.Path.{◌≡◌, refl, sym, ap, ◌∙◌, subst}
use mathlib.Core.Bool.{Bool, true, ◌&&◌}
use mathlib.Core.List.{List, [], ◌∷◌, ◌++◌, map, map-append}
use borrow.Author.Tests.{eq-eqb, eqb-true}
use lib.Dec.{eqb}
use lib.IntN.{ℤ}
use lib.ListN.{length, take, drop, length-take, length-drop, take-append-drop, length-map}
use lib.Seq.{length-take-le}
use Rattle.outcome.specs.Outcome.{given, need, ◌>>◌}
use Rattle.outcome.proofs.Questions.{need_yes, given-same}
use Rattle.formula.specs.Formula.{Formula}
use Rattle.lines.specs.Lines.{LineLists, row_count, judged, Wall, walls}
use Rattle.lines.proofs.Judgement.{both, and_yes}
use Rattle.line_opinion.specs.Judging.{Entry, entries, TheirLists, theirs, bare, Opinion, opinion_from, opinion, judgement}
use Rattle.line_opinion.specs.Eating.{SameLength}
use Rattle.line_cuts.specs.Cuts.{first_part, lowered, second_part, AllBelow, on_later}
use Rattle.line_cuts.specs.Places.{FirstFrom, Between, CutAt}
use Rattle.line_cuts.specs.Theirs.{first_theirs, second_theirs, then_opinion}
use Rattle.line_cuts.proofs.Together.{rows-first}
use Rattle.line_cuts.proofs.CutLaws.{judged_long, first_leads, rows_in-all, accepted-cut, walls-cut}
use Rattle.line_cuts.proofs.OpinionCuts.{Below, First, raise_entry, lower_entry, opinion_parts}
use Rattle.line_cuts.proofs.WallLines.{walls-below}

-- ---- their three lists read as one

entries-append : (ls ms : List ℕ) (ps qs ss ts : List ℤ) → length ps ≡ length ls → length ss ≡ length ls → entries (ls ++ ms) (ps ++ qs) (ss ++ ts) ≡ entries ls ps ss ++ entries ms qs ts
entries-append [] ms [] qs [] ts e f = refl
entries-append [] ms [] qs (s ∷ ss) ts e f = let z : ⊥ = omega arith in absurd z
entries-append [] ms (p ∷ ps) qs ss ts e f = let z : ⊥ = omega arith in absurd z
entries-append (l ∷ ls) ms [] qs ss ts e f = let z : ⊥ = omega arith in absurd z
entries-append (l ∷ ls) ms (p ∷ ps) qs [] ts e f = let z : ⊥ = omega arith in absurd z
entries-append (l ∷ ls) ms (p ∷ ps) qs (s ∷ ss) ts e f = ap (λ (xs : List Entry). record { line = l; start = p; end = s } ∷ xs) (entries-append ls ms ps qs ss ts (omega arith) (omega arith))

entries-lowered : (r : ℕ) (ls : List ℕ) (ps qs : List ℤ) → entries (map (lowered r) ls) ps qs ≡ map (lower_entry r) (entries ls ps qs)
entries-lowered r [] ps qs = refl
entries-lowered r (l ∷ ls) [] qs = refl
entries-lowered r (l ∷ ls) (p ∷ ps) [] = refl
entries-lowered r (l ∷ ls) (p ∷ ps) (q ∷ qs) = ap (λ (xs : List Entry). record { line = lowered r l; start = p; end = q } ∷ xs) (entries-lowered r ls ps qs)

entries_below : (n : ℕ) (ls : List ℕ) (ps qs : List ℤ) → AllBelow n ls → Below n (entries ls ps qs)
entries_below n [] ps qs h = tt
entries_below n (l ∷ ls) [] qs h = tt
entries_below n (l ∷ ls) (p ∷ ps) [] h = tt
entries_below n (l ∷ ls) (p ∷ ps) (q ∷ qs) h = (h.0, entries_below n ls ps qs h.1)

entries-first : (r : ℕ) (ls : List ℕ) (ps qs : List ℤ) → FirstFrom r ls → First r (entries ls ps qs)
entries-first r [] ps qs h = tt
entries-first r (l ∷ ls) [] qs h = tt
entries-first r (l ∷ ls) (p ∷ ps) [] h = tt
entries-first r (l ∷ ls) (p ∷ ps) (q ∷ qs) h = h

entries_long : (ls : List ℕ) (ps qs : List ℤ) → length ps ≡ length ls → length qs ≡ length ls → length (entries ls ps qs) ≡ length ls
entries_long [] ps qs e f = refl
entries_long (l ∷ ls) [] qs e f = e
entries_long (l ∷ ls) (p ∷ ps) [] e f = f
entries_long (l ∷ ls) (p ∷ ps) (q ∷ qs) e f = ap suc (entries_long ls ps qs (omega arith) (omega arith))

bare-later : (r : ℕ) (ws : List Wall) → map bare (map (on_later r) ws) ≡ map (raise_entry r) (map bare ws)
bare-later r [] = refl
bare-later r (w ∷ ws) = ap (λ (xs : List Entry). raise_entry r (bare w) ∷ xs) (bare-later r ws)

module _ (r j : ℕ) (t : TheirLists) (cut : Between r j t.lines) (same : SameLength t) where
  abbrev tail : List Entry
  tail = entries (drop j t.lines) (drop j t.starts) (drop j t.ends)

  starts_long : length (take j t.starts) ≡ length (take j t.lines)
  starts_long = omega (arith, length-take j t.starts, length-take j t.lines, same.starts)

  ends_long : length (take j t.ends) ≡ length (take j t.lines)
  ends_long = omega (arith, length-take j t.ends, length-take j t.lines, same.ends)

  theirs_parts : theirs t ≡ theirs (first_theirs j t) ++ tail
  theirs_parts =
      sym
      (sym (entries-append (take j t.lines) (drop j t.lines) (take j t.starts) (drop j t.starts) (take j t.ends) (drop j t.ends) starts_long ends_long)
      ∙ rw (take-append-drop j t.lines, take-append-drop j t.starts, take-append-drop j t.ends))

  first_long : length (theirs (first_theirs j t)) ≡ j
  first_long = entries_long (take j t.lines) (take j t.starts) (take j t.ends) starts_long ends_long ∙ length-take-le j t.lines cut.within

  module _ (names i : ℕ) (named : 0 < names) (c : LineLists) (lists : CutAt names r i c) (e : judged names c ≡ given tt) (f : Formula) where
    abbrev a : LineLists
    a = first_part names r i c

    abbrev b : LineLists
    b = second_part names r i c

    -- (4) The opinion on the whole is the first part's, if that is not right, and else the second's, further on.
    pub opinion-cut : opinion (walls f names c) (theirs t) ≡ then_opinion j (opinion (walls f names a) (theirs (first_theirs j t))) (opinion (walls f names b) (theirs (second_theirs r j t)))
    opinion-cut =
        let ours : List Entry = map bare (walls f names a) in
        let rest : List Entry = map bare (walls f names b) in
        let rows : ℕ = row_count names b.rows in
        let first : Below r ours = subst (λ (n : ℕ). Below n ours) (rows-first names r named a b (first_leads names r i c lists (judged_long names c e))) (walls-below f names a) in
        let all : map bare (walls f names c) ≡ ours ++ map (raise_entry r) rest =
        ap (map bare) (walls-cut names r i c lists named e f) ∙ map-append bare (walls f names a) (map (on_later r) (walls f names b)) ∙ ap (λ (xs : List Entry). ours ++ xs) (bare-later r (walls f names b)) in
        ap (λ (xs : List Entry). opinion_from 0 xs (theirs t)) all
        ∙ ap (opinion_from 0 (ours ++ map (raise_entry r) rest)) theirs_parts
        ∙ opinion_parts r rows (omega (arith, rows_in-all names r i c lists named, ((accepted-cut names r i c lists named).0 e).2)) ours rest (theirs (first_theirs j t)) tail first (walls-below f names b)
        (entries_below r (take j t.lines) (take j t.starts) (take j t.ends) cut.before)
        (entries-first r (drop j t.lines) (drop j t.starts) (drop j t.ends) cut.there)
        (entries_below 4294967296 (drop j t.lines) (drop j t.starts) (drop j t.ends) cut.numbers)
        ∙ ap (λ (n : ℕ). then_opinion n (opinion_from 0 ours (theirs (first_theirs j t))) (opinion_from 0 rest (map (lower_entry r) tail))) first_long
        ∙ ap (λ (xs : List Entry). then_opinion j (opinion_from 0 ours (theirs (first_theirs j t))) (opinion_from 0 rest xs)) (sym (entries-lowered r (drop j t.lines) (drop j t.starts) (drop j t.ends)))

-- ---- the job

abbrev agree : TheirLists → Bool
agree t = eqb (length t.starts) (length t.lines) && eqb (length t.ends) (length t.lines)

agree_same : (t : TheirLists) → agree t ≡ true → SameLength t
agree_same t e =
    let p = and_yes (eqb (length t.starts) (length t.lines)) (eqb (length t.ends) (length t.lines)) e in
    record { starts = eqb-true (length t.starts) (length t.lines) p.0; ends = eqb-true (length t.ends) (length t.lines) p.1 }

same-agree : (t : TheirLists) → SameLength t → agree t ≡ true
same-agree t h = rw (eq-eqb (length t.starts) (length t.lines) h.starts, eq-eqb (length t.ends) (length t.lines) h.ends)

module _ (f : Formula) (names : ℕ) (c : LineLists) (t : TheirLists) where
  pub judgement-gives : (o : Opinion) → judgement f names c t ≡ given o → (SameLength t) × (judged names c ≡ given tt) × (opinion (walls f names c) (theirs t) ≡ o)
  unfolding judgement
  judgement-gives o e =
      let p = both (need (agree t) 13 0) (judged names c >> given (opinion (walls f names c) (theirs t))) o e in
      let q = both (judged names c) (given (opinion (walls f names c) (theirs t))) o p.1 in
      (agree_same t (need_yes _ 13 0 p.0), q.0, given-same _ _ q.1)

  pub judgement-from : SameLength t → judged names c ≡ given tt → judgement f names c t ≡ given (opinion (walls f names c) (theirs t))
  unfolding judgement
  judgement-from s e = rw (same-agree t s, e)

-- their three lists are of one length exactly if those of both parts are
module _ (r j : ℕ) (t : TheirLists) where
  pub parts_same : SameLength (first_theirs j t) → SameLength (second_theirs r j t) → SameLength t
  parts_same p q = record {
    starts = omega (arith, p.starts, q.starts, length-map (drop j t.lines) (lowered r), length-take j t.starts, length-drop j t.starts, length-take j t.lines, length-drop j t.lines);
    ends = omega (arith, p.ends, q.ends, length-map (drop j t.lines) (lowered r), length-take j t.ends, length-drop j t.ends, length-take j t.lines, length-drop j t.lines);
  }

  pub same_parts : SameLength t → SameLength (first_theirs j t) × SameLength (second_theirs r j t)
  same_parts s = (
    record { starts = omega (arith, s.starts, length-take j t.starts, length-take j t.lines); ends = omega (arith, s.ends, length-take j t.ends, length-take j t.lines) },
    record {
      starts = omega (arith, s.starts, length-map (drop j t.lines) (lowered r), length-drop j t.starts, length-drop j t.lines);
      ends = omega (arith, s.ends, length-map (drop j t.lines) (lowered r), length-drop j t.ends, length-drop j t.lines);
    },
  )
