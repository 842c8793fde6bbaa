-- Crossings alone: their ends, and that they are the block that is planned.
use Prim.Native.Nat.{ℕ, zero, suc, ◌+◌, ◌-◌, ◌<◌, ◌≤◌, min}
use native.Mathlib.Omega.{arith}
use native.Mathlib.Decide.{dec_lt}
use mathlib.Core.Path.{◌≡◌, refl, sym, ap, ◌∙◌}
use mathlib.Core.Bool.{Bool, true, false, ◌&&◌, ◌||◌, false≢true}
use mathlib.Core.List.{List, ◌∷◌}
use borrow.Author.Tests.{eqb-true, ltb-true}
use lib.Dec.{eqb, ltb}
use lib.IntN.{pos}
use lib.ListN.{get_or, length, drop}
use lib.Signed.{le_z}
use Rattle.lines.specs.Lines.{LineLists, line_lists, entries, row_count, start_state, shape_at}
use Rattle.lines.specs.Columns.{crossing_column}
use Rattle.lines.specs.Views.{view_of, view_at}
use Rattle.lines.specs.AtIndex.{item, Accepted}
use Rattle.lines.proofs.Items.{accepted_rises}
use Rattle.line_lists.specs.Block.{Plan, planned, columns, Alone, SaidNumbered, SaidAlone}
use Rattle.line_strips.specs.Strips.{last_at}
use Rattle.line_columns.specs.Planned.{left_at, held_at, PlanSized, BlockPlanned}
use Rattle.line_runs.specs.Runs.{EndsNoted, Numbered, CutTo}
use Rattle.line_columns.specs.Planning.{AtCursor, CanPlan, PlanMade, RunsOn}
use Rattle.line_columns.proofs.Lefts.{crossing_first, crossing_last, crossing_ends}
use Rattle.line_runs.proofs.EndLaws.{over_end}
use Rattle.line_columns.proofs.PlanLaws.{held_crossing, rest_of, one_more}

-- ---- how many

module _ (ls : List ℕ) where
  pub runs_none : (count i q : ℕ) → i ≤ length ls → RunsOn ls count i q 0
  runs_none count i q h = record { most = omega arith; there = omega arith; whole = λ s. absurd (omega arith); before = λ s. absurd (omega arith) }

  module _ (count i q n : ℕ) (on : i ≤ length ls) (is : n ≡ min (length ls - i) columns) where
    pub runs-free : count ≤ q → RunsOn ls count i q n
    runs-free h = record { most = omega arith; there = omega arith; whole = λ s k. omega arith; before = λ s k. absurd (omega arith) }

    pub runs-line : (w : ℕ) → w ≡ get_or ls (i + n - 1) 0 → w < q → RunsOn ls count i q n
    runs-line w e h = record { most = omega arith; there = omega arith; whole = λ s k. omega arith; before = λ s k. omega (arith, e) }

-- ---- the block

module _ (names : ℕ) (c : LineLists) (ok : Accepted names c) (i q n m : ℕ) (at : AtCursor names c i q) (p : Plan) (sized : PlanSized p) (cols : Alone p.cols columns) (noted : EndsNoted c.lines i n p.lasts n)
    (runs : RunsOn c.lines (row_count names c.rows) i q n) (some : 0 < n) (cut : CutTo p.lasts n m) where
  -- lines never fall, so each is before the next start
  short : (j : ℕ) → j < n → q < row_count names c.rows → get_or c.lines (i + j) 0 < q
  short j h k = by (ltb (get_or c.lines (i + j) 0) (get_or c.lines (i + n - 1) 0)) refl (accepted_rises ok (i + j) (i + n - 1) (omega arith) (omega (arith, runs.there)))
    where
      by : (t : Bool) → ltb (get_or c.lines (i + j) 0) (get_or c.lines (i + n - 1) 0) ≡ t
          → (t || (eqb (get_or c.lines (i + j) 0) (get_or c.lines (i + n - 1) 0) && le_z (get_or c.positions (i + j) (pos 0)) (get_or c.positions (i + n - 1) (pos 0)))) ≡ true → get_or c.lines (i + j) 0 < q
      by true e r = omega (arith, ltb-true (get_or c.lines (i + j) 0) (get_or c.lines (i + n - 1) 0) e, runs.before some k)
      by false e r = omega (arith, eqb-true (get_or c.lines (i + j) 0) (get_or c.lines (i + n - 1) 0) (first (eqb (get_or c.lines (i + j) 0) (get_or c.lines (i + n - 1) 0)) (le_z (get_or c.positions (i + j) (pos 0)) (get_or c.positions (i + n - 1) (pos 0))) r), runs.before some k)
        where
          first : (a b : Bool) → (a && b) ≡ true → a ≡ true
          first true b z = refl
          first false b z = z

  next : (j : ℕ) → j < n → left_at names c (i + j) q ≡ crossing_column (shape_at (start_state names c.rows) (entries c)) (item c.lines c.positions c.shapes (i + j)) ∷ left_at names c (i + j + 1) q
  next j h = crossing_first names c ok (i + j) q (omega (arith, runs.there)) (short j h)

  left : (k : ℕ) → k ≤ n → (left_at names c (i + k) q ≡ drop k (left_at names c i q)) × (k ≤ length (left_at names c i q))
  left zero h = (let z : i + 0 ≡ i = omega arith in rw z, omega arith)
  left (suc k) h =
      let ih = left k (omega arith) in
      let step : i + k + 1 ≡ i + suc k = omega arith in
      let fit : k + 1 ≡ suc k = omega arith in
      let here = sym ih.0 ∙ next k (omega arith) in
      (rw (← step, ← fit) (rest_of k (left_at names c i q) _ (left_at names c (i + k + 1) q) here), omega (arith, one_more k (left_at names c i q) _ (left_at names c (i + k + 1) q) here ih.1))

  number : (j : ℕ) → j < n → get_or p.cols j 0 ≡ j
  number j h = cols.are j (omega (arith, runs.most))

  few : (j : ℕ) → j < n → get_or p.cols j 0 < columns
  few j h = omega (arith, number j h, runs.most)

  are : (j : ℕ) → j < n → held_at names c i p j ≡ view_at (left_at names c i q) j
  are j h =
      held_crossing names c i p j (few j h)
      ∙ rw (number j h, noted.are j h h)
      (sym (ap view_of (sym (left j (omega arith)).0 ∙ next j h) ∙ rw (crossing_ends names c ok (i + j) q (omega (arith, runs.there)) (short j h), crossing_last names c ok (i + j) q (omega (arith, runs.there)) (short j h))))

  -- the last of them is its line's last, if there are fewer than a block has
  ended : m < columns → last_at p (m - 1) ≡ true
  ended h = by (dec_lt m n)
    where
      by : Dec (m < n) → last_at p (m - 1) ≡ true
      by (yes k) = cut.ends k
      by (no k) =
          let all : m ≡ n = omega (arith, cut.fewer) in
          let end : i + (m - 1) + 1 ≡ length c.lines = omega (arith, runs.whole some (omega arith)) in
          noted.are (m - 1) (omega arith) (omega arith) ∙ sym (over_end c.lines (get_or c.lines (i + (m - 1)) 0) (i + (m - 1) + 1) end)

  run_block : BlockPlanned names c i q p m (i + m) q
  run_block = record {
    sized = sized;
    narrow = omega (arith, cut.fewer, runs.most);
    enough = (left m cut.fewer).1;
    are = λ j h. are j (omega (arith, cut.fewer));
    within = λ j h.
        let near : j < n = omega (arith, cut.fewer) in
        record { row = λ e. absurd (omega (arith, few j near)); crossing = λ e. rw (number j near) (omega (arith, runs.there)) };
    left = (left m cut.fewer).0;
    full = λ h z. (omega (arith, cut.some some), ended h);
  }

  run_next : AtCursor names c (i + m) q
  run_next = record { crossing = omega (arith, cut.fewer, runs.there); row = at.row; inside = at.inside }

module _ (names : ℕ) (rows ls : List ℕ) (count : ℕ) (cols cols' lasts lasts' : List ℕ) (i q n m : ℕ) (can : CanPlan names rows ls count (planned cols lasts) i q) (runs : RunsOn ls count i q n)
    (some : n ≡ 0 → ⊥) (numbered : Numbered cols' columns) (noted : EndsNoted ls i n lasts' n) (cut : CutTo lasts' n m) where
  run_sized : PlanSized (planned cols' lasts')
  run_sized = record { cols = numbered.long; lasts = noted.long }

  told : RunsOn ls (row_count names rows) i q n
  told = rw (← can.whole.are) runs

  pub run_made : PlanMade names rows ls (planned cols' lasts') i q m (i + m) q
  run_made = record {
    sized = run_sized;
    narrow = omega (arith, cut.fewer, runs.most);
    crossing = omega (arith, cut.fewer, runs.there);
    row = omega (arith, can.row, can.whole.are);
    block = λ ps ss ok at. run_block names (line_lists rows ls ps ss) ok i q n m at (planned cols' lasts') run_sized numbered.alone noted told (omega arith) cut;
    next = λ ps ss ok at. run_next names (line_lists rows ls ps ss) ok i q n m at (planned cols' lasts') run_sized numbered.alone noted told (omega arith) cut;
  }

-- ---- what is said of it

pub run_said : (ls : List ℕ) (count i q n m : ℕ) (cols lasts : List ℕ) → RunsOn ls count i q n → Numbered cols columns → CutTo lasts n m → SaidAlone ls cols i m true
run_said ls count i q n m cols lasts runs numbered cut = record { are = λ e. record { are = λ j h. numbered.alone.are j (omega (arith, cut.fewer, runs.most)) }; there = λ e. omega (arith, cut.fewer, runs.there) }

pub run_numbered : (cols : List ℕ) → Numbered cols columns → SaidNumbered cols true
run_numbered cols numbered = record { are = λ e. numbered.alone }

pub not_numbered : (cols : List ℕ) → SaidNumbered cols false
not_numbered cols = record { are = λ e. absurd (false≢true e) }

pub not_said : (ls cols : List ℕ) (a n : ℕ) → SaidAlone ls cols a n false
not_said ls cols a n = record { are = λ e. absurd (false≢true e); there = λ e. absurd (false≢true e) }
