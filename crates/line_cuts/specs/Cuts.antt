-- Line lists cut between lines, in two or into any number of parts, and what is given for the parts put together.
use Rattle.std.specs.Prelude.{ℕ, suc, ◌+◌, ◌-◌, ◌*◌, ◌/◌, ◌%◌, ◌≤◌, ◌<◌, ◌≡◌, true, false, List, [], ◌∷◌, ◌++◌, map, ltb, length, take, drop}
use Rattle.outcome.specs.Outcome.{Outcome, given}
use Rattle.lines.specs.Lines.{LineLists, line_lists, row_count, judged, AnswerLists, Wall}

-- ---- in two

-- Where to cut after r lines: before the first crossing on line r or a later one, or at the end if there is none.
unfoldable pub cut_index : ℕ → List ℕ → ℕ
cut_index r [] = 0
cut_index r (l ∷ ls) = elim (ltb l r) [ true ↦ suc (cut_index r ls) | false ↦ 0 ]

-- The first r rows, and the crossings before index i.
abbrev pub first_part : ℕ → ℕ → ℕ → LineLists → LineLists
first_part names r i c = line_lists (take (r * names) c.rows) (take i c.lines) (take i c.positions) (take i c.shapes)

-- l - r in 32 bits. So a line number below r becomes one that has no row in the second part.
abbrev pub lowered : ℕ → ℕ → ℕ
lowered r l = (l + 4294967296 - r) % 4294967296

-- The other rows, and the crossings from index i on, their line numbers lowered by r.
abbrev pub second_part : ℕ → ℕ → ℕ → LineLists → LineLists
second_part names r i c = line_lists (drop (r * names) c.rows) (map (lowered r) (drop i c.lines)) (drop i c.positions) (drop i c.shapes)

abbrev pub first_lines : ℕ → ℕ → LineLists → LineLists
first_lines names r c = first_part names r (cut_index r c.lines) c

abbrev pub other_lines : ℕ → ℕ → LineLists → LineLists
other_lines names r c = second_part names r (cut_index r c.lines) c

-- ---- into parts

-- The sizes are how many lines each part has but the last, which has the rest.
abbrev pub parts_of : ℕ → List ℕ → LineLists → List LineLists
parts_of names [] c = c ∷ []
parts_of names (r ∷ rs) c = first_lines names r c ∷ parts_of names rs (other_lines names r c)

abbrev pub total : List ℕ → ℕ
total [] = 0
total (r ∷ rs) = r + total rs

abbrev pub AllBelow : ℕ → List ℕ → Type 0
AllBelow r [] = Unit {0}
AllBelow r (l ∷ ls) = (l < r) × AllBelow r ls

-- There are rows for the sizes. Line numbers are of 32 bits. The crossings may be in any order.
pub record Cuttable (names : ℕ) (sizes : List ℕ) (c : LineLists) : Type 0 where
  pub rows_there : total sizes * names ≤ length c.rows
  pub numbers : AllBelow 4294967296 c.lines

-- ---- what is given for the parts

-- No part is refused 13, 14, 10, 15 or 11.
abbrev pub AllJudged : ℕ → List LineLists → Type 0
AllJudged names [] = Unit {0}
AllJudged names (c ∷ cs) = (judged names c ≡ given tt) × AllJudged names cs

-- What a job gives for each part, lent lists of its own.
abbrev pub EachGiven : (LineLists → AnswerLists → Outcome (List Wall)) → List LineLists → List (List Wall) → Type 0
EachGiven job [] [] = Unit {0}
EachGiven job [] (ws ∷ wss) = ⊥
EachGiven job (c ∷ cs) [] = ⊥
EachGiven job (c ∷ cs) (ws ∷ wss) = ((lent : AnswerLists) × (job c lent ≡ given ws)) × EachGiven job cs wss

-- A wall of the second part, in the whole: r is added to its line number.
abbrev pub on_later : ℕ → Wall → Wall
on_later r w = record { line = r + w.line; start = w.start; end = w.end; start_shape = w.start_shape; end_shape = w.end_shape }

-- The parts' walls, part after part.
abbrev pub join_walls : List ℕ → List (List Wall) → List Wall
join_walls rs [] = []
join_walls [] (ws ∷ wss) = ws
join_walls (r ∷ rs) (ws ∷ wss) = ws ++ map (on_later r) (join_walls rs wss)

-- The room that an answer list must have: half as many entries as crossings, rounded down, and one more for each row.
abbrev pub room_for : ℕ → LineLists → ℕ
room_for names c = length c.lines / 2 + row_count names c.rows

-- ---- parts put together

-- The first part's lines, then the second's, numbered on from r.
abbrev pub together : ℕ → LineLists → LineLists → LineLists
together r a b = line_lists (a.rows ++ b.rows) (a.lines ++ map (λ l. r + l) b.lines) (a.positions ++ b.positions) (a.shapes ++ b.shapes)

abbrev pub join_lists : List ℕ → List LineLists → LineLists
join_lists rs [] = line_lists [] [] [] []
join_lists [] (c ∷ cs) = c
join_lists (r ∷ rs) (c ∷ cs) = together r c (join_lists rs cs)
