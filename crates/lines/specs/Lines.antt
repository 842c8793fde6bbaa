-- The line job: start rows and crossings, how they are judged, and the walls.
use Rattle.std.specs.Prelude.{ℕ, zero, suc, ◌+◌, ◌*◌, ◌/◌, ◌%◌, Bool, true, false, not, ◌&&◌, ◌||◌, List, [], ◌∷◌, ◌++◌, ltb, leb, eqb, ℤ, pos, negsuc, length, get_or}
use Rattle.std.specs.Bool.{beq}
use Rattle.std.proofs.Math.Option.{Option, none, some}
use Rattle.std.specs.Int.Signed.{lt_z, le_z}
use Rattle.outcome.specs.Outcome.{Outcome, given, ◌>>◌, need, room}
use Rattle.formula.specs.Formula.{Formula, inside}
use Rattle.formula.specs.States.{State, changed_by, flipped}

-- Lines come as start rows, and as crossings in three lists: line number, position in whole micrometres, shape.
pub record LineLists : Type 0 where
  pub rows : List ℕ
  pub lines : List ℕ
  pub positions : List ℤ
  pub shapes : List ℕ

abbrev pub line_lists : List ℕ → List ℕ → List ℤ → List ℕ → LineLists
line_lists rs ls ps ss = record { rows = rs; lines = ls; positions = ps; shapes = ss }

-- One row a line: lines are numbered by their rows.
abbrev pub row_count : ℕ → List ℕ → ℕ
row_count names rows = length rows / names

-- One byte a shape, 1 for inside: the states at the start of line l.
abbrev pub start_state : ℕ → List ℕ → ℕ → State
start_state names rows l s = ltb s names && eqb (get_or rows (l * names + s) 0) 1

-- The end marks: an open wall starts at the one, or ends at the other.
abbrev pub low : ℤ
low = negsuc 2147483647

abbrev pub high : ℤ
high = pos 2147483647

-- Here the three lists of crossings are one.
pub record Crossing : Type 0 where
  pub line : ℕ
  pub at : ℤ
  pub shape : ℕ

abbrev pub crossings : List ℕ → List ℤ → List ℕ → List Crossing
crossings [] ps ss = []
crossings (l ∷ ls) [] ss = []
crossings (l ∷ ls) (p ∷ ps) [] = []
crossings (l ∷ ls) (p ∷ ps) (s ∷ ss) = record { line = l; at = p; shape = s } ∷ crossings ls ps ss

abbrev pub entries : LineLists → List Crossing
entries c = crossings c.lines c.positions c.shapes

-- The shapes of those crossings that pass a test.
unfoldable pub crossed : (Crossing → Bool) → List Crossing → List ℕ
crossed test [] = []
crossed test (x ∷ xs) = elim (test x) [ true ↦ x.shape ∷ crossed test xs | false ↦ crossed test xs ]

-- Line number falls, or position falls within a line: y, with x before it.
abbrev pub falls : Option Crossing → Crossing → Bool
falls none y = false
falls (some x) y = ltb y.line x.line || (eqb y.line x.line && lt_z y.at x.at)

-- No byte but 0 and 1.
unfoldable pub bits : List ℕ → Bool
bits [] = true
bits (b ∷ bs) = leb b 1 && bits bs

-- 14: start rows whose total length is no multiple of the number of names, more than 4294967296 rows, or a byte in them other than 0 and 1.
abbrev pub rowed : ℕ → List ℕ → Outcome (Unit {0})
rowed names rows = need (eqb (length rows % names) 0 && (leb (row_count names rows) 4294967296 && bits rows)) 14 0

-- A position at either end mark, or a line with no row.
abbrev pub strays : ℕ → Crossing → Bool
strays rows y = le_z y.at low || (le_z high y.at || leb rows y.line)

-- 10, 15 and 11 item by item, in this order on one item; the place is its index.
unfoldable pub ordered : ℕ → ℕ → Option Crossing → ℕ → List Crossing → Outcome (Unit {0})
ordered names rows x i [] = given tt
ordered names rows x i (y ∷ ys) = do
  need (ltb y.shape names) 10 i
  need (not (strays rows y)) 15 i
  need (not (falls x y)) 11 i
  ordered names rows (some y) (i + 1) ys

-- 13, then 14, then 10, 15 and 11.
unfoldable pub judged : ℕ → LineLists → Outcome (Unit {0})
judged names c = do
  need (eqb (length c.positions) (length c.lines) && eqb (length c.shapes) (length c.lines)) 13 0
  rowed names c.rows
  ordered names (row_count names c.rows) none 0 (entries c)

-- The answer lists.
pub record AnswerLists : Type 0 where
  pub lines : List ℕ
  pub starts : List ℤ
  pub ends : List ℤ
  pub start_shapes : List ℕ
  pub end_shapes : List ℕ

abbrev pub answer_lists : List ℕ → List ℤ → List ℤ → List ℕ → List ℕ → AnswerLists
answer_lists ls ss es fs ts = record { lines = ls; starts = ss; ends = es; start_shapes = fs; end_shapes = ts }

-- 9: an answer list is too short, in the order line, start, end, start shape, end shape; the place is the length needed.
abbrev pub roomy : ℕ → ℕ → ℕ → ℕ → ℕ → ℕ → Outcome (Unit {0})
roomy n lines starts ends start_shapes end_shapes = do
  room n lines
  room n starts
  room n ends
  room n start_shapes
  room n end_shapes

abbrev pub roomy_lists : ℕ → AnswerLists → Outcome (Unit {0})
roomy_lists n a = roomy n (length a.lines) (length a.starts) (length a.ends) (length a.start_shapes) (length a.end_shapes)

abbrev pub on_line : ℕ → Crossing → Bool
on_line l x = eqb x.line l

-- On line l, short of position p; and as far as p.
abbrev pub short_of : ℕ → ℤ → Crossing → Bool
short_of l p x = on_line l x && lt_z x.at p

abbrev pub as_far_as : ℕ → ℤ → Crossing → Bool
as_far_as l p x = on_line l x && le_z x.at p

-- The shapes' states just before position p of line l, and after it, in the unit cell from p to p + 1: the start state of the line, changed by an odd number of crossings.
abbrev pub state_before : (ℕ → State) → List Crossing → ℕ → ℤ → State
state_before start xs l p = changed_by (start l) (crossed (short_of l p) xs)

abbrev pub state_at : (ℕ → State) → List Crossing → ℕ → ℤ → State
state_at start xs l p = changed_by (start l) (crossed (as_far_as l p) xs)

-- The lowest of k numbers from n on at which two states differ; 65535 where they differ at none.
unfoldable pub lowest_from : ℕ → ℕ → State → State → ℕ
lowest_from zero n a b = 65535
lowest_from (suc k) n a b = elim (beq (a n) (b n)) [ true ↦ lowest_from k (suc n) a b | false ↦ n ]

-- The shape at position p of line l: the lowest number whose state differs before and after. No sheet has more than 256 names.
unfoldable pub shape_at : (ℕ → State) → List Crossing → ℕ → ℤ → ℕ
shape_at start xs l p = lowest_from 256 0 (state_before start xs l p) (state_at start xs l p)

pub record Wall : Type 0 where
  pub line : ℕ
  pub start : ℤ
  pub end : ℤ
  pub start_shape : ℕ
  pub end_shape : ℕ

-- Where a wall begins or ends, and the shape there.
pub record Edge : Type 0 where
  pub at : ℤ
  pub shape : ℕ

abbrev pub edge_at : (ℕ → ℤ → ℕ) → ℕ → ℤ → Edge
edge_at shape l p = record { at = p; shape = shape l p }

-- An open end's shape is 65535.
abbrev pub open_end : ℤ → Edge
open_end p = record { at = p; shape = 65535 }

-- All crossings at one position act together: x is the last of them if what follows on its line is further on.
abbrev pub ends_group : Crossing → List Crossing → Bool
ends_group x [] = true
ends_group x (y ∷ ys) = lt_z x.at y.at

-- Where the open wall began, once the crossings here have acted (or some of them: then nothing is decided), with metal beyond or not.
abbrev pub opened : Bool → Bool → Option Edge → Edge → Option Edge
opened false metal from here = from
opened true true none here = some here
opened true true (some a) here = some a
opened true false from here = none

-- The wall that ends here, on line l.
abbrev pub closed : Bool → Bool → Option Edge → ℕ → Edge → List Wall
closed false metal from l here = []
closed true true from l here = []
closed true false none l here = []
closed true false (some a) l here = record { line = l; start = a.at; end = here.at; start_shape = a.shape; end_shape = here.shape } ∷ []

-- One line's, one crossing after another; `shape` gives the shape at a position of a line. What is open at the end is an open wall.
unfoldable pub walls_on : (State → Bool) → (ℕ → ℤ → ℕ) → ℕ → State → Option Edge → List Crossing → List Wall
walls_on solid shape l state from [] = closed true false from l (open_end high)
walls_on solid shape l state from (x ∷ xs) =
    let state' : State = flipped x.shape state in
    let ends : Bool = ends_group x xs in
    let metal : Bool = solid state' in
    let here : Edge = edge_at shape l x.at in
    closed ends metal from l here ++ walls_on solid shape l state' (opened ends metal from here) xs

-- The crossings of line l.
unfoldable pub crossings_on : ℕ → List Crossing → List Crossing
crossings_on l [] = []
crossings_on l (x ∷ xs) = elim (on_line l x) [ true ↦ x ∷ crossings_on l xs | false ↦ crossings_on l xs ]

-- A line that starts in metal has a wall open from its start.
abbrev pub line_walls : (State → Bool) → (ℕ → State) → List Crossing → ℕ → List Wall
line_walls solid start xs l = walls_on solid (shape_at start xs) l (start l) (opened true (solid (start l)) none (open_end low)) (crossings_on l xs)

-- k lines from line l on. A line may have no crossing.
unfoldable pub walls_from : (State → Bool) → (ℕ → State) → List Crossing → ℕ → ℕ → List Wall
walls_from solid start xs zero l = []
walls_from solid start xs (suc k) l = line_walls solid start xs l ++ walls_from solid start xs k (suc l)

abbrev pub walls : Formula → ℕ → LineLists → List Wall
walls f names c = walls_from (inside f) (start_state names c.rows) (entries c) (row_count names c.rows) 0

-- The line job: the walls, or the first reason met. Each answer list has room for half as many entries as crossings, rounded down, and one more for each row.
unfoldable pub classified : Formula → ℕ → LineLists → AnswerLists → Outcome (List Wall)
classified f names c lent = do
  judged names c
  roomy_lists (length c.lines / 2 + row_count names c.rows) lent
  given (walls f names c)
