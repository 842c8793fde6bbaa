-- What writing the walls keeps.
use Rattle.std.specs.Prelude.{ℕ, ◌+◌, ◌*◌, ◌/◌, ◌≤◌, ◌<◌, ◌≡◌, cond, List, [], ◌∷◌, map, length, get_or, take}
use Rattle.std.proofs.Math.Option.{Option}
use Rattle.std.specs.Option.{is_some}
use Rattle.std.proofs.lemmas.List.Edits.{sets}
use Rattle.outcome.specs.Lent.{filled}
use Rattle.formula.specs.States.{State}
use Rattle.lines.specs.Lines.{AnswerLists, Wall, Edge}
use Rattle.line_lists.specs.Block.{columns}
use Rattle.line_writing.specs.Finishing.{Held, event_line, event_edge, ending, beginning, walls_by, open_by}
use Rattle.line_writing.specs.Spots.{edge_of, open_from, EventHeld}
use Rattle.line_writing.specs.declared.spots.Bound.{Bound}
use Rattle.line_writing.specs.declared.writing.Finished.{Finished}
use Rattle.line_writing.specs.declared.writing.Course.{Course}

-- ---- what the numbers stand for

abbrev wall_of : Finished → List Wall
wall_of w = record { line = w.line; start = w.from.at; end = w.to.at; start_shape = w.from.shape; end_shape = w.to.shape } ∷ []

-- where the open wall began
abbrev pub open_of : Course → Option Edge
open_of r = open_from r.from

abbrev pub open_count : Course → ℕ
open_count r = cond (is_some r.from) 1 0

-- ---- the answer lists

-- with some walls put from entry k on
pub record Put (new : List Wall) (k : ℕ) (lent after : AnswerLists) : Type 0 where
  pub lines : after.lines ≡ sets lent.lines k (map (λ (w : Wall). w.line) new)
  pub starts : after.starts ≡ sets lent.starts k (map (λ (w : Wall). w.start) new)
  pub ends : after.ends ≡ sets lent.ends k (map (λ (w : Wall). w.end) new)
  pub start_shapes : after.start_shapes ≡ sets lent.start_shapes k (map (λ (w : Wall). w.start_shape) new)
  pub end_shapes : after.end_shapes ≡ sets lent.end_shapes k (map (λ (w : Wall). w.end_shape) new)

pub record SameLengths (lent after : AnswerLists) : Type 0 where
  pub lines : length after.lines ≡ length lent.lines
  pub starts : length after.starts ≡ length lent.starts
  pub ends : length after.ends ≡ length lent.ends
  pub start_shapes : length after.start_shapes ≡ length lent.start_shapes
  pub end_shapes : length after.end_shapes ≡ length lent.end_shapes

-- each has room for n walls
pub record HasRoom (n : ℕ) (lent : AnswerLists) : Type 0 where
  pub lines : n ≤ length lent.lines
  pub starts : n ≤ length lent.starts
  pub ends : n ≤ length lent.ends
  pub start_shapes : n ≤ length lent.start_shapes
  pub end_shapes : n ≤ length lent.end_shapes

-- these walls written, and past them what was lent
pub record Written (all : List Wall) (lent : AnswerLists) (k : ℕ) (after : AnswerLists) : Type 0 where
  pub count : k ≡ length all
  pub lines : after.lines ≡ filled (map (λ (w : Wall). w.line) all) lent.lines
  pub starts : after.starts ≡ filled (map (λ (w : Wall). w.start) all) lent.starts
  pub ends : after.ends ≡ filled (map (λ (w : Wall). w.end) all) lent.ends
  pub start_shapes : after.start_shapes ≡ filled (map (λ (w : Wall). w.start_shape) all) lent.start_shapes
  pub end_shapes : after.end_shapes ≡ filled (map (λ (w : Wall). w.end_shape) all) lent.end_shapes

-- a finished wall becomes entry k
pub record Finishes (w : Finished) (k : ℕ) (lent after : AnswerLists) (count : ℕ) : Type 0 where
  pub put : Put (wall_of w) k lent after
  pub counted : count ≡ k + 1

-- ---- one event

-- a wall begins at a bound, or the open one ends there
pub record Switched (b : Bound) (r : Course) (lent : AnswerLists) (r' : Course) (after : AnswerLists) : Type 0 where
  pub count : r'.count ≡ r.count + open_count r
  pub switches : r'.count + open_count r' ≡ r.count + 1
  pub same : SameLengths lent after
  pub put : Put (ending b.line (edge_of b.here) (open_of r)) r.count lent after
  pub opens : open_of r' ≡ beginning (edge_of b.here) (open_of r)

-- ---- the first m events listed

-- every other one ends a wall
abbrev pub wall_count : Course → ℕ → ℕ
wall_count r m = r.count + (m + open_count r) / 2

pub record Delivering (b : Held) (events : List ℕ) (m : ℕ) (r : Course) (lent : AnswerLists) : Type 0 where
  pub sized : length events ≡ 2 * columns
  pub few : m ≤ 2 * columns
  pub each : (k : ℕ) → k < m → EventHeld b (get_or events k 0)
  pub room : HasRoom (wall_count r m) lent

pub record Made (start : ℕ → State) (b : Held) (es : List ℕ) (r : Course) (lent : AnswerLists) (r' : Course) (after : AnswerLists) : Type 0 where
  pub put : Put (walls_by (event_edge start b) (event_line b) (open_of r) es) r.count lent after
  pub count : r'.count ≡ r.count + length (walls_by (event_edge start b) (event_line b) (open_of r) es)
  pub opens : open_of r' ≡ open_by (event_edge start b) (open_of r) es

pub record Delivered (b : Held) (events : List ℕ) (m : ℕ) (r : Course) (lent : AnswerLists) (r' : Course) (after : AnswerLists) : Type 0 where
  pub same : SameLengths lent after
  pub room : HasRoom r'.count lent
  pub made : (start : ℕ → State) → Made start b (take m events) r lent r' after
