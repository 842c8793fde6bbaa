-- Another ray caster's wall list, judged against ours.
use Rattle.std.specs.Prelude.{ℕ, ◌+◌, ◌≡◌, Bool, true, false, ◌&&◌, ◌||◌, cond, List, [], ◌∷◌, map, ltb, eqb, ℤ, length}
use Rattle.std.specs.Int.Signed.{lt_z, le_z}
use Rattle.outcome.specs.Outcome.{Outcome, given, need, ◌>>◌}
use Rattle.formula.specs.Formula.{Formula}
use Rattle.lines.specs.Lines.{LineLists, judged, Wall, walls}

-- Their list has line, start and end.
pub record Entry : Type 0 where
  pub line : ℕ
  pub start : ℤ
  pub end : ℤ

abbrev pub entries : List ℕ → List ℤ → List ℤ → List Entry
entries [] ps qs = []
entries (l ∷ ls) [] qs = []
entries (l ∷ ls) (p ∷ ps) [] = []
entries (l ∷ ls) (p ∷ ps) (q ∷ qs) = record { line = l; start = p; end = q } ∷ entries ls ps qs

-- As they come, of any lengths.
pub record TheirLists : Type 0 where
  pub lines : List ℕ
  pub starts : List ℤ
  pub ends : List ℤ

abbrev pub their_lists : List ℕ → List ℤ → List ℤ → TheirLists
their_lists ls ps qs = record { lines = ls; starts = ps; ends = qs }

abbrev pub theirs : TheirLists → List Entry
theirs t = entries t.lines t.starts t.ends

-- Ours, without the shapes.
abbrev pub bare : Wall → Entry
bare w = record { line = w.line; start = w.start; end = w.end }

abbrev pub same_place : ℤ → ℤ → Bool
same_place a b = le_z a b && le_z b a

-- ---- when their list is right

-- v directly after w: the line does not fall, and on one line v does not begin before w has ended.
abbrev pub keeps : Entry → Entry → Bool
keeps w v = ltb w.line v.line || (eqb w.line v.line && le_z w.end v.start)

abbrev pub After : Entry → List Entry → Type 0
After w [] = Unit {0}
After w (v ∷ vs) = keeps w v ≡ true

-- Lines never fall, each start is below its end, and no entry begins before the one before it on that line has ended.
abbrev pub Orderly : List Entry → Type 0
Orderly [] = Unit {0}
Orderly (w ∷ ws) = (lt_z w.start w.end ≡ true) × (After w ws × Orderly ws)

abbrev pub touches : Entry → Entry → Bool
touches w v = eqb w.line v.line && same_place w.end v.start

-- Entries that touch, joined.
abbrev pub join : Entry → List Entry → List Entry
join w [] = w ∷ []
join w (v ∷ vs) = cond (touches w v) (record { line = w.line; start = w.start; end = v.end } ∷ vs) (w ∷ v ∷ vs)

unfoldable pub joined : List Entry → List Entry
joined [] = []
joined (w ∷ ws) = join w (joined ws)

-- Their list is right: orderly, and joining entries that touch gives our list.
pub record RightFor (ours theirs : List Entry) : Type 0 where
  pub orderly : Orderly theirs
  pub same : joined theirs ≡ ours

-- ---- the opinion

-- Right; or the index of the first entry after which no right list could begin that way, or the list's length if it only lacks entries.
pub data Opinion : Type 0 where
  right : Opinion
  wrong_at : ℕ → Opinion

-- Entry w begins what is needed next, v, and ends within it.
abbrev pub fits : Entry → Entry → Bool
fits v w = eqb w.line v.line && same_place w.start v.start && lt_z w.start w.end && le_z w.end v.end

-- What is needed once w has begun v: the part of v beyond w, if any.
abbrev pub beyond : Entry → Entry → List Entry → List Entry
beyond v w vs = cond (le_z v.end w.end) vs (record { line = v.line; start = w.end; end = v.end } ∷ vs)

-- Of what is needed, and their entries from index i on.
unfoldable pub opinion_from : ℕ → List Entry → List Entry → Opinion
opinion_from i [] [] = right
opinion_from i (v ∷ vs) [] = wrong_at i
opinion_from i [] (w ∷ ws) = wrong_at i
opinion_from i (v ∷ vs) (w ∷ ws) = elim (fits v w) [ true ↦ opinion_from (i + 1) (beyond v w vs) ws | false ↦ wrong_at i ]

abbrev pub opinion : List Wall → List Entry → Opinion
opinion ours theirs = opinion_from 0 (map bare ours) theirs

-- ---- the line job of judging

-- The opinion, or the first reason met: 13, for their three lists of unequal length too; then as for lines. No list is lent, so there is no 9.
unfoldable pub judgement : Formula → ℕ → LineLists → TheirLists → Outcome Opinion
judgement f names c t = do
  need (eqb (length t.starts) (length t.lines) && eqb (length t.ends) (length t.lines)) 13 0
  judged names c
  given (opinion (walls f names c) (theirs t))
