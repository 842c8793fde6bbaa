-- The cases that document 01 marks P, and some of document 02, as one table. Each answer list has room for 12 entries.
use Rattle.std.specs.Prelude.{ℕ, ◌≡◌, List, [], ◌∷◌, map, ℤ, pos, negsuc}
use Rattle.outcome.specs.Outcome.{given, part}
use Rattle.formula.specs.Formula.{union, intersection, difference, exclusive, node}
use Rattle.contraction.specs.Records.{number}
use Rattle.sheet.specs.Sheet.{alone}
use Rattle.toggles.specs.Toggles.{Answers, answers}
use Rattle.lines.specs.Lines.{line_lists, answer_lists}
use Rattle.job_build.specs.Building.{building, Summary, summary, summary_of}
use Rattle.job_run.specs.Running.{running}
use Rattle.job_classify.specs.Classifying.{classifying}
use Rattle.line_opinion.specs.Judging.{their_lists, Opinion, right, wrong_at}
use Rattle.job_judge.specs.Judging.{judging}
use Rattle.demands.specs.Worked.{A, B, C, D, E, sheet, worked, room, lent_numbers, lent_places}

pub data Case : Type 0 where
  -- a sheet is these bytes
  bytes : List ℕ → List ℕ → Case
  -- of a sheet: leaves, dwarf nodes, rounds, height
  builds : List ℕ → Summary → Case
  -- and its records: kind, first, second
  lists : List ℕ → List (ℕ × ℕ × ℕ) → Case
  -- of a sheet and toggles
  runs : List ℕ → List ℕ → Answers → Case
  -- of a sheet, the start row of line 0 and its crossings, by position and shape: walls by start and end, with the shape at each
  walls : List ℕ → List ℕ → List (ℤ × ℕ) → List ((ℤ × ℕ) × (ℤ × ℕ)) → Case
  -- of the same and another's walls on that line, by start and end: the opinion
  judges : List ℕ → List ℕ → List (ℤ × ℕ) → List (ℤ × ℤ) → Opinion → Case

abbrev Holds : Case → Type 0
Holds (bytes s b) = s ≡ b
Holds (builds s n) = part summary_of (building (alone s) room room room) ≡ given n
Holds (lists s rs) = part (λ t. map (λ r. (number r.kind, r.first, r.second)) t.records) (building (alone s) room room room) ≡ given rs
Holds (runs s ts a) = running (alone s) ts room room room ≡ given a
Holds (walls s row xs ws) =
    classifying (alone s) (line_lists row (map (λ x. 0) xs) (map (λ x. x.0) xs) (map (λ x. x.1) xs)) (answer_lists lent_numbers lent_places lent_places lent_numbers lent_numbers)
    ≡ given (map (λ w. record { line = 0; start = w.0.0; end = w.1.0; start_shape = w.0.1; end_shape = w.1.1 }) ws)
Holds (judges s row xs es o) =
    judging (alone s) (line_lists row (map (λ x. 0) xs) (map (λ x. x.0) xs) (map (λ x. x.1) xs)) (their_lists (map (λ e. 0) es) (map (λ e. e.0) es) (map (λ e. e.1) es)) ≡ given o

abbrev pub All : List Case → Type 0
All [] = Unit {0}
All (c ∷ cs) = Holds c × All cs

-- A less B on one line.
abbrev cut : List ℕ
cut = sheet 2 (node difference A B)

abbrev no_metal : List ℕ
no_metal = 0 ∷ 0 ∷ []

abbrev cut_at : List (ℤ × ℕ)
cut_at = (pos 0, 0) ∷ (pos 40, 1) ∷ (pos 60, 1) ∷ (pos 100, 0) ∷ []

-- ---- The table

abbrev pub table : List Case
table =
    -- The worked sheet, 30 bytes, and its listing.
    bytes worked (0x01 ∷ 0x00 ∷ 0x02 ∷ 0x00 ∷ 0x01 ∷ 0x02 ∷ 0x00 ∷ 0x01 ∷ 0x41 ∷ 0x02 ∷ 0x00 ∷ 0x01 ∷ 0x42 ∷ 0x02 ∷ 0x00 ∷ 0x01 ∷ 0x43 ∷ 0x03 ∷ 0x00 ∷ 0x0A ∷ 0x00 ∷ 0x00 ∷ 0x00 ∷ 0x01 ∷ 0x00 ∷ 0x02 ∷ 0xFF ∷ 0xF0 ∷ 0xFF ∷ 0xF2 ∷ [])
    ∷ builds worked (summary 3 6 2 2)
    ∷ lists worked ((0, 0, 65535) ∷ (0, 1, 65535) ∷ (0, 2, 65535) ∷ (1, 1, 2) ∷ (7, 0, 65535) ∷ (13, 4, 3) ∷ [])
    -- Toggles A, B, C, A on it.
    ∷ runs worked (0 ∷ 1 ∷ 2 ∷ 0 ∷ []) (answers (1 ∷ 0 ∷ 0 ∷ 0 ∷ []) (2 ∷ 2 ∷ 1 ∷ 2 ∷ []) (0 ∷ 1 ∷ 1 ∷ 1 ∷ 0 ∷ 0 ∷ []))
    -- Toggles B, C: the same labels.
    ∷ runs worked (1 ∷ 2 ∷ []) (answers (0 ∷ 0 ∷ []) (2 ∷ 1 ∷ []) (0 ∷ 1 ∷ 1 ∷ 1 ∷ 0 ∷ 0 ∷ []))
    -- One leaf: one node, no rounds, height 0; a toggle counts 0.
    ∷ builds (sheet 1 A) (summary 1 1 0 0)
    ∷ runs (sheet 1 A) (0 ∷ []) (answers (1 ∷ []) (0 ∷ []) (1 ∷ []))
    -- A exclusive A, one toggle: root 0, and by document 02 count 1.
    ∷ runs (sheet 1 (node exclusive A A)) (0 ∷ []) (answers (0 ∷ []) (1 ∷ []) (1 ∷ 1 ∷ 0 ∷ []))
    -- A B union C difference D intersection E exclusive: 12 nodes, 3 rounds, height 3.
    ∷ builds (sheet 5 (node exclusive (node intersection (node difference (node union A B) C) D) E)) (summary 5 12 3 3)
    -- A B union C D union intersection: 7 nodes, 2 rounds, height 2.
    ∷ builds (sheet 4 (node intersection (node union A B) (node union C D))) (summary 4 7 2 2)
    -- A less B, A at 0 and 100, B at 40 and 60: walls 0 to 40, 60 to 100.
    ∷ walls (sheet 2 (node difference A B)) (0 ∷ 0 ∷ []) ((pos 0, 0) ∷ (pos 40, 1) ∷ (pos 60, 1) ∷ (pos 100, 0) ∷ []) (((pos 0, 0), (pos 40, 1)) ∷ ((pos 60, 1), (pos 100, 0)) ∷ [])
    -- A union B, A at 0 and 50, B at 50 and 90: one wall, 0 to 90. Their intersection: none.
    ∷ walls (sheet 2 (node union A B)) (0 ∷ 0 ∷ []) ((pos 0, 0) ∷ (pos 50, 0) ∷ (pos 50, 1) ∷ (pos 90, 1) ∷ []) (((pos 0, 0), (pos 90, 1)) ∷ [])
    ∷ walls (sheet 2 (node intersection A B)) (0 ∷ 0 ∷ []) ((pos 0, 0) ∷ (pos 50, 0) ∷ (pos 50, 1) ∷ (pos 90, 1) ∷ []) []
    -- A at 10 and 10: none. No crossings: none.
    ∷ walls (sheet 1 A) (0 ∷ []) ((pos 10, 0) ∷ (pos 10, 0) ∷ []) []
    ∷ walls (sheet 1 A) (0 ∷ []) [] []
    -- Document 02: A crossed at 5 only, from outside, is one wall from 5 to 2147483647; from inside, one that ends at 5.
    ∷ walls (sheet 1 A) (0 ∷ []) ((pos 5, 0) ∷ []) (((pos 5, 0), (pos 2147483647, 65535)) ∷ [])
    ∷ walls (sheet 1 A) (1 ∷ []) ((pos 5, 0) ∷ []) (((negsuc 2147483647, 65535), (pos 5, 0)) ∷ [])
    -- Document 02: of A less B as above, walls 0 to 40 and 60 to 100, another's list. The same, and in parts that touch: right.
    ∷ judges cut no_metal cut_at ((pos 0, pos 40) ∷ (pos 60, pos 100) ∷ []) right
    ∷ judges cut no_metal cut_at ((pos 0, pos 10) ∷ (pos 10, pos 40) ∷ (pos 60, pos 100) ∷ []) right
    -- It lacks entries: its length. An entry of no length, one that overlaps the one before it, one too many: that entry.
    ∷ judges cut no_metal cut_at ((pos 0, pos 40) ∷ []) (wrong_at 1)
    ∷ judges cut no_metal cut_at ((pos 0, pos 40) ∷ (pos 60, pos 60) ∷ (pos 60, pos 100) ∷ []) (wrong_at 1)
    ∷ judges cut no_metal cut_at ((pos 0, pos 40) ∷ (pos 30, pos 100) ∷ []) (wrong_at 1)
    ∷ judges cut no_metal cut_at ((pos 0, pos 40) ∷ (pos 60, pos 100) ∷ (pos 200, pos 210) ∷ []) (wrong_at 2)
    ∷ []
