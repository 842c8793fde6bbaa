-- Another's wall list cut between the same lines, and the opinion on the whole.
use Rattle.std.specs.Prelude.{ℕ, ◌+◌, ◌≡◌, List, [], ◌∷◌, map, length, take, drop}
use Rattle.outcome.specs.Outcome.{Outcome, given}
use Rattle.lines.specs.Lines.{LineLists}
use Rattle.line_opinion.specs.Judging.{TheirLists, their_lists, Opinion, right, wrong_at}
use Rattle.line_cuts.specs.Cuts.{cut_index, lowered}

-- Their entries before index j.
abbrev pub first_theirs : ℕ → TheirLists → TheirLists
first_theirs j t = their_lists (take j t.lines) (take j t.starts) (take j t.ends)

-- Their entries from index j on, their line numbers lowered by r.
abbrev pub second_theirs : ℕ → ℕ → TheirLists → TheirLists
second_theirs r j t = their_lists (map (lowered r) (drop j t.lines)) (drop j t.starts) (drop j t.ends)

-- Into parts, by the same sizes.
abbrev pub their_parts_of : List ℕ → TheirLists → List TheirLists
their_parts_of [] t = t ∷ []
their_parts_of (r ∷ rs) t = first_theirs (cut_index r t.lines) t ∷ their_parts_of rs (second_theirs r (cut_index r t.lines) t)

-- What a job gives for each part.
abbrev pub EachJudged : (LineLists → TheirLists → Outcome Opinion) → List LineLists → List TheirLists → List Opinion → Type 0
EachJudged job [] [] [] = Unit {0}
EachJudged job (c ∷ cs) (t ∷ ts) (o ∷ os) = (job c t ≡ given o) × EachJudged job cs ts os
EachJudged job [] [] (o ∷ os) = ⊥
EachJudged job [] (t ∷ ts) os = ⊥
EachJudged job (c ∷ cs) [] os = ⊥
EachJudged job (c ∷ cs) (t ∷ ts) [] = ⊥

-- The opinion on the whole, with n entries in the first part: the first part's, if its list is wrong or only lacks entries; else the second's, n entries further on.
abbrev pub then_opinion : ℕ → Opinion → Opinion → Opinion
then_opinion n right right = right
then_opinion n right (wrong_at k) = wrong_at (n + k)
then_opinion n (wrong_at k) o = wrong_at k

-- The first part that is not right decides.
abbrev pub join_opinions : List TheirLists → List Opinion → Opinion
join_opinions [] os = right
join_opinions (t ∷ ts) [] = right
join_opinions (t ∷ ts) (o ∷ os) = then_opinion (length t.lines) o (join_opinions ts os)
