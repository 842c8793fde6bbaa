-- A place to cut at, what the cut leaves as it is, and what the parts show of a refusal.
use Rattle.std.specs.Prelude.{ℕ, ◌+◌, ◌*◌, ◌≤◌, ◌≡◌, List, [], ◌∷◌, ◌⊎◌, length, take, drop}
use Rattle.outcome.specs.Outcome.{Outcome, given, refused, unfit}
use Rattle.lines.specs.Lines.{LineLists}
use Rattle.line_cuts.specs.Cuts.{AllBelow}

abbrev pub FirstFrom : ℕ → List ℕ → Type 0
FirstFrom r [] = Unit {0}
FirstFrom r (l ∷ ls) = r ≤ l

-- What stands before index i is on the first r lines, and what stands there, if anything, is not. Line numbers are of 32 bits.
pub record Between (r i : ℕ) (lines : List ℕ) : Type 0 where
  pub within : i ≤ length lines
  pub before : AllBelow r (take i lines)
  pub there : FirstFrom r (drop i lines)
  pub numbers : AllBelow 4294967296 (drop i lines)

-- There are r rows, and the crossings are cut there. They may be in any order.
pub record CutAt (names r i : ℕ) (c : LineLists) : Type 0 where
  pub rows_there : r * names ≤ length c.rows
  pub between : Between r i c.lines

-- The three lists of crossings are of one length.
pub record OneLength (c : LineLists) : Type 0 where
  pub positions_long : length c.positions ≡ length c.lines
  pub shapes_long : length c.shapes ≡ length c.lines

-- a is fit to stand first: r whole rows, lists of one length, and each crossing on one of these r lines.
pub record Leads (names r : ℕ) (a : LineLists) : Type 0 where
  pub whole : length a.rows ≡ r * names
  pub one_length : OneLength a
  pub below : AllBelow r a.lines

-- A refusal at index p of the second part is one at n + p of the whole.
abbrev pub later : {A : Type 0} → ℕ → Outcome A → Outcome A
later n (given a) = given a
later n (refused number place) = refused number (n + place)
later n (unfit number place) = unfit number place

-- What the parts show of the whole's judgement: the same; but where a line number falls below r, 15 for 11.
abbrev pub Shown : Outcome (Unit {0}) → Outcome (Unit {0}) → Type 0
Shown (given tt) o = o ≡ given tt
Shown (refused number place) o = (o ≡ refused number place) ⊎ ((number ≡ 11) × (o ≡ refused 15 place))
Shown (unfit number place) o = o ≡ unfit number place
