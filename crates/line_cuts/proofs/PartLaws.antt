-- Lists cut into any number of parts: the parts give the whole's judgement, its walls and the opinion on another's.
use Prim.Native.Nat.{ℕ, ◌+◌, ◌*◌, ◌<◌, ◌≤◌}
use native.Mathlib.Nat.{add-mul}
use native.Mathlib.Omega.{arith}
use mathlib.Core.Path.{◌≡◌, refl, sym, ap, ◌∙◌}
use mathlib.Core.List.{List, [], ◌∷◌, ◌++◌, map}
use mathlib.Core.Logic.{◌↔◌}
use borrow.Author.Tests.{le-leb}
use lib.IntN.{pos}
use lib.ListN.{length, take, drop, replicate, length-drop, length-replicate}
use lib.Seq.{length-take-le}
use Rattle.outcome.specs.Outcome.{given, ◌>>◌}
use Rattle.formula.specs.Formula.{Formula}
use Rattle.lines.specs.Lines.{LineLists, row_count, rowed, judged, AnswerLists, answer_lists, roomy_lists, Wall, walls, classified}
use Rattle.line_opinion.specs.Judging.{TheirLists, theirs, Opinion, right, wrong_at, opinion, judgement}
use Rattle.line_opinion.specs.Eating.{SameLength}
use Rattle.line_cuts.specs.Cuts.{lowered, cut_index, first_lines, other_lines, parts_of, total, AllBelow, Cuttable, AllJudged, EachGiven, on_later, join_walls, room_for}
use Rattle.line_cuts.specs.Theirs.{first_theirs, second_theirs, their_parts_of, EachJudged, then_opinion, join_opinions}
use Rattle.line_cuts.specs.Places.{CutAt, OneLength, later, Shown}
use Rattle.line_cuts.proofs.Together.{rows-gives, judged-asks}
use Rattle.line_cuts.proofs.Places.{cut-between, cut_there}
use Rattle.line_cuts.proofs.CutLaws.{gives, roomy-gives, rows_in-all, accepted-cut, walls-cut, rest-room-cut}
use Rattle.line_cuts.proofs.Refusals.{refused-cut}
use Rattle.line_cuts.proofs.TheirCuts.{opinion-cut, judgement-gives, judgement-from, parts_same, same_parts}

-- ---- what is left after the first part is cut again

lowered-below : (r : ℕ) (ls : List ℕ) → AllBelow 4294967296 (map (lowered r) ls)
lowered-below r [] = tt
lowered-below r (l ∷ ls) = (omega arith, lowered-below r ls)

module _ (names r : ℕ) (rs : List ℕ) (c : LineLists) (k : Cuttable names (r ∷ rs) c) where
  enough : r * names + total rs * names ≤ length c.rows
  enough = omega (arith, add-mul r (total rs) names, k.rows_there)

  cut-here : CutAt names r (cut_index r c.lines) c
  cut-here = cut_there names r c (omega (arith, enough)) k.numbers

  cut_on : Cuttable names rs (other_lines names r c)
  cut_on = record { rows_there = omega (arith, enough, length-drop (r * names) c.rows); numbers = lowered-below r (drop (cut_index r c.lines) c.lines) }

abbrev AllSame : List TheirLists → Type 0
AllSame [] = Unit {0}
AllSame (t ∷ ts) = SameLength t × AllSame ts

same-all : (sizes : List ℕ) (t : TheirLists) → AllSame (their_parts_of sizes t) → SameLength t
same-all [] t h = h.0
same-all (r ∷ rs) t h = parts_same r (cut_index r t.lines) t h.0 (same-all rs (second_theirs r (cut_index r t.lines) t) h.1)

-- ---- in two

module _ (names r : ℕ) (c : LineLists) (k : Cuttable names (r ∷ []) c) (named : 0 < names) where
  -- After the first part's walls there is still the room that is asked for the second.
  pub rest-room : judged names c ≡ given tt → (f : Formula) → length (walls f names (first_lines names r c)) + room_for names (other_lines names r c) ≤ room_for names c
  rest-room e f = rest-room-cut names r (cut_index r c.lines) c (cut-here names r [] c k) named e f

  -- Where the whole is not refused 13 or 14: the first part is refused as the whole is, or else the second, further on; but 15 for 11 where a line number falls below the cut.
  pub refused_parts : OneLength c → rowed names c.rows ≡ given tt → Shown (judged names c) (judged names (first_lines names r c) >> later (cut_index r c.lines) (judged names (other_lines names r c)))
  refused_parts h e = refused-cut names r (cut_index r c.lines) c (cut-here names r [] c k) named h e

-- ---- lines

-- lists with room for n entries
spacious : ℕ → AnswerLists
spacious n = answer_lists (replicate n 0) (replicate n (pos 0)) (replicate n (pos 0)) (replicate n 0) (replicate n 0)

spacious_roomy : (n : ℕ) → roomy_lists n (spacious n) ≡ given tt
unfolding spacious
spacious_roomy n = rw (length-replicate {A = ℕ} n 0, length-replicate n (pos 0), le-leb n n (omega arith))

few_rows : (names : ℕ) (c : LineLists) → judged names c ≡ given tt → row_count names c.rows ≤ 4294967296
few_rows names c e = (rows-gives names c.rows (judged-asks names c e).1).1

module _ (names : ℕ) (named : 0 < names) where
  -- The whole is accepted exactly if every part is, and it has at most 4294967296 rows.
  pub accepted_parts : (sizes : List ℕ) (c : LineLists) → Cuttable names sizes c → (judged names c ≡ given tt) ↔ (AllJudged names (parts_of names sizes c) × (row_count names c.rows ≤ 4294967296))
  accepted_parts [] c k = (λ e. ((e, tt), few_rows names c e), λ p. p.0.0)
  accepted_parts (r ∷ rs) c k = (there (accepted_parts rs (other_lines names r c) (cut_on names r rs c k)), back (accepted_parts rs (other_lines names r c) (cut_on names r rs c k)))
    where
      Rest : Type 0
      Rest = (judged names (other_lines names r c) ≡ given tt) ↔ (AllJudged names (parts_of names rs (other_lines names r c)) × (row_count names (other_lines names r c).rows ≤ 4294967296))

      there : Rest → judged names c ≡ given tt → AllJudged names (parts_of names (r ∷ rs) c) × (row_count names c.rows ≤ 4294967296)
      there rest e =
          let p = (accepted-cut names r (cut_index r c.lines) c (cut-here names r rs c k) named).0 e in
          ((p.0, (rest.0 p.1).0), p.2)

      back : Rest → AllJudged names (parts_of names (r ∷ rs) c) × (row_count names c.rows ≤ 4294967296) → judged names c ≡ given tt
      back rest p =
          let count = rows_in-all names r (cut_index r c.lines) c (cut-here names r rs c k) named in
          (accepted-cut names r (cut_index r c.lines) c (cut-here names r rs c k) named).1 (p.0.0, rest.1 (p.0.1, omega (arith, count, p.1)), p.1)

  module _ (f : Formula) where
    -- The walls of the whole are those of the parts, part after part.
    walls_parts : (sizes : List ℕ) (c : LineLists) → Cuttable names sizes c → judged names c ≡ given tt → walls f names c ≡ join_walls sizes (map (walls f names) (parts_of names sizes c))
    walls_parts [] c k e = refl
    walls_parts (r ∷ rs) c k e =
        let i : ℕ = cut_index r c.lines in
        let p = (accepted-cut names r i c (cut-here names r rs c k) named).0 e in
        walls-cut names r i c (cut-here names r rs c k) named e f
        ∙ ap (λ (ws : List Wall). walls f names (first_lines names r c) ++ map (on_later r) ws) (walls_parts rs (other_lines names r c) (cut_on names r rs c k) p.1)

    each_walls : (cs : List LineLists) (wss : List (List Wall)) → EachGiven (classified f names) cs wss → AllJudged names cs × (map (walls f names) cs ≡ wss)
    each_walls [] [] g = (tt, refl)
    each_walls [] (ws ∷ wss) g = absurd g
    each_walls (c ∷ cs) [] g = absurd g
    each_walls (c ∷ cs) (ws ∷ wss) g =
        let h = gives f names c g.0.0 ws g.0.1 in
        let t = each_walls cs wss g.1 in
        ((h.0, t.0), rw (h.1, t.1))

    -- What the job gives for the parts, each with lists of its own, it gives for the whole, if that is lent the room it asks for.
    pub classified_parts : (sizes : List ℕ) (c : LineLists) → Cuttable names sizes c → (wss : List (List Wall)) → EachGiven (classified f names) (parts_of names sizes c) wss
        → row_count names c.rows ≤ 4294967296 → (lent : AnswerLists) → roomy_lists (room_for names c) lent ≡ given tt → classified f names c lent ≡ given (join_walls sizes wss)
    classified_parts sizes c k wss g few lent room =
        let p = each_walls (parts_of names sizes c) wss g in
        let e = (accepted_parts sizes c k).1 (p.0, few) in
        roomy-gives f names c lent e room ∙ ap given (walls_parts sizes c k e ∙ ap (join_walls sizes) p.1)

    -- ---- another's list

    -- the opinions on the parts
    abbrev opinions_of : List LineLists → List TheirLists → List Opinion
    opinions_of [] ts = []
    opinions_of (c ∷ cs) [] = []
    opinions_of (c ∷ cs) (t ∷ ts) = opinion (walls f names c) (theirs t) ∷ opinions_of cs ts

    alone : (n : ℕ) (o : Opinion) → o ≡ then_opinion n o right
    alone n right = refl
    alone n (wrong_at k) = refl

    opinion_of_parts : (sizes : List ℕ) (c : LineLists) → Cuttable names sizes c → judged names c ≡ given tt → (t : TheirLists) → SameLength t → AllBelow 4294967296 t.lines
        → opinion (walls f names c) (theirs t) ≡ join_opinions (their_parts_of sizes t) (opinions_of (parts_of names sizes c) (their_parts_of sizes t))
    opinion_of_parts [] c k e t s n = alone (length t.lines) (opinion (walls f names c) (theirs t))
    opinion_of_parts (r ∷ rs) c k e t s n =
        let i : ℕ = cut_index r c.lines in
        let j : ℕ = cut_index r t.lines in
        let p = (accepted-cut names r i c (cut-here names r rs c k) named).0 e in
        let cut = cut-between r t.lines n in
        let long : length (take j t.lines) ≡ j = length-take-le j t.lines cut.within in
        let first : Opinion = opinion (walls f names (first_lines names r c)) (theirs (first_theirs j t)) in
        let rest = opinion_of_parts rs (other_lines names r c) (cut_on names r rs c k) p.1 (second_theirs r j t) (same_parts r j t s).1 (lowered-below r (drop j t.lines)) in
        opinion-cut r j t cut s names i named c (cut-here names r rs c k) e f
        ∙ ap (then_opinion j first) rest
        ∙ ap (λ (m : ℕ). then_opinion m first (join_opinions (their_parts_of rs (second_theirs r j t)) (opinions_of (parts_of names rs (other_lines names r c)) (their_parts_of rs (second_theirs r j t))))) (sym long)

    each_opinion : (cs : List LineLists) (ts : List TheirLists) (os : List Opinion) → EachJudged (judgement f names) cs ts os → AllJudged names cs × AllSame ts × (opinions_of cs ts ≡ os)
    each_opinion [] [] [] g = (tt, tt, refl)
    each_opinion [] [] (o ∷ os) g = absurd g
    each_opinion [] (t ∷ ts) os g = absurd g
    each_opinion (c ∷ cs) [] os g = absurd g
    each_opinion (c ∷ cs) (t ∷ ts) [] g = absurd g
    each_opinion (c ∷ cs) (t ∷ ts) (o ∷ os) g =
        let h = judgement-gives f names c t o g.0 in
        let rest = each_opinion cs ts os g.1 in
        ((h.1, rest.0), (h.0, rest.1), rw (h.2, rest.2))

    -- Where every part is judged and there are not too many rows in all, the whole is, with the opinion that theirs make.
    pub judgement_parts : (sizes : List ℕ) (c : LineLists) → Cuttable names sizes c → (t : TheirLists) → AllBelow 4294967296 t.lines → (os : List Opinion)
        → EachJudged (judgement f names) (parts_of names sizes c) (their_parts_of sizes t) os → row_count names c.rows ≤ 4294967296
        → judgement f names c t ≡ given (join_opinions (their_parts_of sizes t) os)
    judgement_parts sizes c k t n os g few =
        let p = each_opinion (parts_of names sizes c) (their_parts_of sizes t) os g in
        let e = (accepted_parts sizes c k).1 (p.0, few) in
        let s = same-all sizes t p.1 in
        judgement-from f names c t s e ∙ ap given (opinion_of_parts sizes c k e t s n ∙ ap (join_opinions (their_parts_of sizes t)) p.2)

    -- ---- and the other way round

    each_given : (cs : List LineLists) → AllJudged names cs → EachGiven (classified f names) cs (map (walls f names) cs)
    each_given [] h = tt
    each_given (c ∷ cs) h = ((spacious (room_for names c), roomy-gives f names c (spacious (room_for names c)) h.0 (spacious_roomy (room_for names c))), each_given cs h.1)

    -- What the job gives for the whole, it gives for every part, lent the room that it asks for.
    pub classified-whole : (sizes : List ℕ) (c : LineLists) → Cuttable names sizes c → (lent : AnswerLists) (ws : List Wall) → classified f names c lent ≡ given ws
        → (wss : List (List Wall)) × EachGiven (classified f names) (parts_of names sizes c) wss × (ws ≡ join_walls sizes wss)
    classified-whole sizes c k lent ws g =
        let h = gives f names c lent ws g in
        let p = (accepted_parts sizes c k).0 h.0 in
        (map (walls f names) (parts_of names sizes c), each_given (parts_of names sizes c) p.0, sym h.1 ∙ walls_parts sizes c k h.0)

    each_judged : (sizes : List ℕ) (c : LineLists) → AllJudged names (parts_of names sizes c) → (t : TheirLists) → SameLength t
        → EachJudged (judgement f names) (parts_of names sizes c) (their_parts_of sizes t) (opinions_of (parts_of names sizes c) (their_parts_of sizes t))
    each_judged [] c h t s = (judgement-from f names c t s h.0, tt)
    each_judged (r ∷ rs) c h t s =
        let j : ℕ = cut_index r t.lines in
        let p = same_parts r j t s in
        (judgement-from f names (first_lines names r c) (first_theirs j t) p.0 h.0, each_judged rs (other_lines names r c) h.1 (second_theirs r j t) p.1)

    -- And where the whole is judged, so is every part.
    pub judgement-all : (sizes : List ℕ) (c : LineLists) → Cuttable names sizes c → (t : TheirLists) → AllBelow 4294967296 t.lines → (o : Opinion) → judgement f names c t ≡ given o
        → (os : List Opinion) × EachJudged (judgement f names) (parts_of names sizes c) (their_parts_of sizes t) os × (o ≡ join_opinions (their_parts_of sizes t) os)
    judgement-all sizes c k t n o g =
        let h = judgement-gives f names c t o g in
        let p = (accepted_parts sizes c k).0 h.1 in
        (opinions_of (parts_of names sizes c) (their_parts_of sizes t), each_judged sizes c p.0 t h.0, sym h.2 ∙ opinion_of_parts sizes c k h.1 t h.0 n)
