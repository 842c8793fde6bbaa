-- The planning of a block: how it begins, goes on by a column or a word, and ends.
use Prim.Native.Nat.{ℕ, ◌+◌, ◌-◌, ◌<◌, ◌≤◌, ◌*◌}
use native.Mathlib.Omega.{arith}
use mathlib.Core.Path.{◌≡◌, refl, sym, ap, ◌∙◌}
use mathlib.Core.Bool.{Bool, true, false}
use mathlib.Core.List.{List, ◌∷◌}
use borrow.Author.Tests.{ltb-true, ltb-false, le-leb, lt-leb}
use lib.Dec.{ltb}
use lib.IntN.{ℤ}
use lib.ListN.{get_or, length, drop, length-drop}
use lib.Seq.{drop-drop}
use Rattle.lines.specs.Lines.{LineLists, line_lists, entries, row_count, start_state, shape_at}
use Rattle.lines.specs.Columns.{Column, start_column, crossing_column}
use Rattle.lines.specs.Views.{view_of, view_at}
use Rattle.lines.specs.AtIndex.{item, group_ends_at, Accepted}
use Rattle.line_lists.specs.Block.{Plan, columns, cell, start_line}
use Rattle.line_strips.specs.Strips.{last_at}
use Rattle.line_columns.specs.declared.Cursor.{Cursor}
use Rattle.line_columns.specs.Planned.{left_at, start_held, crossing_held, held_at, HeldWithin, PlanSized, BlockPlanned}
use Rattle.line_runs.specs.Runs.{over_at}
use Rattle.line_columns.specs.Planning.{AtCursor, NextInside, StartsNext, Planning, PlanningOf, CanPlan, WordNext, WordPlanned, PlanMade}
use Rattle.line_columns.proofs.Lefts.{crossing_first, crossing_last, crossing_ends, start_first, start-last, start-ends, none_left}

-- a plan's first n columns stay
pub record Kept (p p' : Plan) (n : ℕ) : Type 0 where
  pub sized : PlanSized p'
  pub cols : (j : ℕ) → j < n → get_or p'.cols j 0 ≡ get_or p.cols j 0
  pub lasts : (j : ℕ) → j < n → cell p'.lasts j ≡ cell p.lasts j

-- and column n is put
pub record Put (p p' : Plan) (n col : ℕ) (last : Bool) : Type 0 where
  pub kept : Kept p p' n
  pub here : get_or p'.cols n 0 ≡ col
  pub flag : cell p'.lasts n ≡ last

module _ (names : ℕ) (c : LineLists) (a : ℕ) where
  held_start : (p : Plan) (j : ℕ) → columns ≤ get_or p.cols j 0 → held_at names c a p j ≡ start_held names c p j
  unfolding held_at
  held_start p j e = rw (le-leb columns (get_or p.cols j 0) e)

  pub held_crossing : (p : Plan) (j : ℕ) → get_or p.cols j 0 < columns → held_at names c a p j ≡ crossing_held names c a p j
  unfolding held_at
  held_crossing p j e = rw (lt-leb columns (get_or p.cols j 0) e)

  -- the columns before n stay
  module _ (p p' : Plan) (n : ℕ) (kept : Kept p p' n) where
    held_same : (j : ℕ) → j < n → held_at names c a p' j ≡ held_at names c a p j
    unfolding held_at
    held_same j h = rw (kept.cols j h, kept.lasts j h)

    within_same : (j : ℕ) → j < n → HeldWithin names c a p j → HeldWithin names c a p' j
    within_same j h w = record {
      row = λ e. rw (kept.cols j h) (w.row (rw (kept.cols j h) at e));
      crossing = λ e. rw (kept.cols j h) (w.crossing (rw (kept.cols j h) at e));
    }

-- what is left after one column more
pub rest_of : (n : ℕ) (xs : List Column) (x : Column) (rest : List Column) → drop n xs ≡ x ∷ rest → rest ≡ drop (n + 1) xs
rest_of n xs x rest e = ap (drop 1) (sym e) ∙ drop-drop 1 n xs

pub one_more : (n : ℕ) (xs : List Column) (x : Column) (rest : List Column) → drop n xs ≡ x ∷ rest → n ≤ length xs → n + 1 ≤ length xs
one_more n xs x rest e h = omega (arith, ap length e, length-drop n xs)

module _ (names : ℕ) (c : LineLists) (ok : Accepted names c) (i q : ℕ) where
  planning_none : (p : Plan) → PlanSized p → AtCursor names c i q → Planning names c i q p 0 i q
  planning_none p sized at = record {
    sized = sized;
    narrow = omega arith;
    cursor = at;
    on = omega arith;
    gone = omega arith;
    enough = omega arith;
    are = λ j h. absurd (omega arith);
    within = λ j h. absurd (omega arith);
    left = refl;
  }

  planning_kept : (p p' : Plan) (n i' q' : ℕ) → Kept p p' n → Planning names c i q p n i' q' → Planning names c i q p' n i' q'
  planning_kept p p' n i' q' kept t = record {
    sized = kept.sized;
    narrow = t.narrow;
    cursor = t.cursor;
    on = t.on;
    gone = t.gone;
    enough = t.enough;
    are = λ j h. held_same names c i p p' n kept j h ∙ t.are j h;
    within = λ j h. within_same names c i p p' n kept j h (t.within j h);
    left = t.left;
  }

  -- a column x more, with rest after it
  module _ (p p' : Plan) (n i' q' i'' q'' : ℕ) (t : Planning names c i q p n i' q') (h : n < columns) (kept : Kept p p' n) where
    more : (x : Column) → left_at names c i' q' ≡ x ∷ left_at names c i'' q'' → held_at names c i p' n ≡ view_of (x ∷ left_at names c i'' q'') → HeldWithin names c i p' n → AtCursor names c i'' q'' → i ≤ i'' → i'' ≤ i + (n + 1)
        → Planning names c i q p' (n + 1) i'' q''
    more x first is within at on gone = record {
      sized = kept.sized;
      narrow = omega arith;
      cursor = at;
      on = on;
      gone = gone;
      enough = one_more n (left_at names c i q) x (left_at names c i'' q'') here t.enough;
      are = λ j k. are j (ltb j n) refl k;
      within = λ j k. there j (ltb j n) refl k;
      left = rest_of n (left_at names c i q) x (left_at names c i'' q'') here;
    }
      where
        here : drop n (left_at names c i q) ≡ x ∷ left_at names c i'' q''
        here = sym t.left ∙ first

        are : (j : ℕ) (b : Bool) → ltb j n ≡ b → j < n + 1 → held_at names c i p' j ≡ view_at (left_at names c i q) j
        are j true e k = held_same names c i p p' n kept j (ltb-true j n e) ∙ t.are j (ltb-true j n e)
        are j false e k = let same : j ≡ n = omega (arith, ltb-false j n e) in rw same (is ∙ ap view_of (sym here))

        there : (j : ℕ) (b : Bool) → ltb j n ≡ b → j < n + 1 → HeldWithin names c i p' j
        there j true e k = within_same names c i p p' n kept j (ltb-true j n e) (t.within j (ltb-true j n e))
        there j false e k = let same : j ≡ n = omega (arith, ltb-false j n e) in rw same within

  module _ (p p' : Plan) (n i' q' : ℕ) (t : Planning names c i q p n i' q') (h : n < columns) where
    planning_start : (q'' : ℕ) (r : Bool) → StartsNext c.lines (row_count names c.rows) i' q' r → r ≡ true → NextInside names c.rows (q' + 1) q'' → Put p p' n (columns + q') (over_at c.lines q' i') → Planning names c i q p' (n + 1) i' q''
    planning_start q'' r s on next put =
        more p p' n i' q' i' q'' t h put.kept (start_column (start_state names c.rows) q') first is within at t.on (omega (arith, t.gone))
      where
        start : columns ≤ get_or p'.cols n 0
        start = omega (arith, put.here)

        line : start_line p'.cols n ≡ q'
        line = omega (arith, put.here)

        first : left_at names c i' q' ≡ start_column (start_state names c.rows) q' ∷ left_at names c i' q''
        first = start_first names c ok i' q' q'' t.cursor (s.row on) (s.before on) next

        viewed : record { column = start_column (start_state names c.rows) q'; ends = true; last = over_at c.lines q' i' } ≡ view_of (start_column (start_state names c.rows) q' ∷ left_at names c i' q'')
        viewed = rw (start-ends names c ok i' q' q'' t.cursor (s.row on) (s.before on) next, start-last names c ok i' q' q'' t.cursor (s.row on) (s.before on) next)

        is : held_at names c i p' n ≡ view_of (start_column (start_state names c.rows) q' ∷ left_at names c i' q'')
        is = held_start names c i p' n start ∙ rw (line, put.flag) viewed

        within : HeldWithin names c i p' n
        within = record { row = λ e. rw line (s.row on); crossing = λ e. absurd (omega (arith, start)) }

        at : AtCursor names c i' q''
        at = record { crossing = t.cursor.crossing; row = next.row; inside = next.inside }

    planning_crossing : (r : Bool) → StartsNext c.lines (row_count names c.rows) i' q' r → r ≡ false → i' < length c.lines → Put p p' n (i' - i) (over_at c.lines (get_or c.lines i' 0) (i' + 1)) → Planning names c i q p' (n + 1) (i' + 1) q'
    planning_crossing r s off l put =
        more p p' n i' q' (i' + 1) q' t h put.kept x first is within at (omega (arith, t.on)) (omega (arith, t.gone))
      where
        x : Column
        x = crossing_column (shape_at (start_state names c.rows) (entries c)) (item c.lines c.positions c.shapes i')

        first : left_at names c i' q' ≡ x ∷ left_at names c (i' + 1) q'
        first = crossing_first names c ok i' q' l (s.beyond off)

        back : i + (i' - i) ≡ i'
        back = omega (arith, t.on)

        few : get_or p'.cols n 0 < columns
        few = omega (arith, put.here, t.gone)

        viewed : record { column = x; ends = group_ends_at c.lines c.positions i'; last = over_at c.lines (get_or c.lines i' 0) (i' + 1) } ≡ view_of (x ∷ left_at names c (i' + 1) q')
        viewed = rw (crossing_ends names c ok i' q' l (s.beyond off), crossing_last names c ok i' q' l (s.beyond off))

        is : held_at names c i p' n ≡ view_of (x ∷ left_at names c (i' + 1) q')
        is = held_crossing names c i p' n few ∙ rw (put.here, back, put.flag) viewed

        within : HeldWithin names c i p' n
        within = record { row = λ e. absurd (omega (arith, few)); crossing = λ e. rw (put.here, back) l }

        at : AtCursor names c (i' + 1) q'
        at = record { crossing = omega arith; row = t.cursor.row; inside = t.cursor.inside }

  module _ (p : Plan) (n i' q' : ℕ) (t : Planning names c i q p n i' q') where
    block : (n < columns → 0 < length (left_at names c i' q') → (1 ≤ n) × (last_at p (n - 1) ≡ true)) → BlockPlanned names c i q p n i' q'
    block full = record { sized = t.sized; narrow = t.narrow; enough = t.enough; are = t.are; within = t.within; left = t.left; full = full }

    planned_full : columns ≤ n → BlockPlanned names c i q p n i' q'
    planned_full h = block (λ k z. absurd (omega arith))

    planned-over : length c.lines ≤ i' → row_count names c.rows ≤ q' → BlockPlanned names c i q p n i' q'
    planned-over h k = block (λ z some. absurd (omega (arith, ap length (none_left names c ok i' q' h k))))

-- ---- the same whatever the positions and the shapes are

-- k whole words are planned
pub record Words (names : ℕ) (rows ls : List ℕ) (count : ℕ) (i q : ℕ) (p : Plan) (k n i' q' : ℕ) : Type 0 where
  pub planning : PlanningOf names rows ls count i q p n i' q'
  pub words : n ≡ 64 * k

module _ (names : ℕ) (rows ls : List ℕ) (count i q : ℕ) where
  pub each_kept : (p p' : Plan) (n i' q' : ℕ) → Kept p p' n → PlanningOf names rows ls count i q p n i' q' → PlanningOf names rows ls count i q p' n i' q'
  each_kept p p' n i' q' kept t = record {
    whole = t.whole;
    few = t.few;
    sized = kept.sized;
    narrow = t.narrow;
    crossing = t.crossing;
    row = t.row;
    on = t.on;
    gone = t.gone;
    all = λ ps ss ok at. planning_kept names (line_lists rows ls ps ss) ok i q p p' n i' q' kept (t.all ps ss ok at);
  }

  module _ (p p' : Plan) (n i' q' : ℕ) (t : PlanningOf names rows ls count i q p n i' q') (h : n < columns) (r : Bool) (s : StartsNext ls count i' q' r) where
    seen : StartsNext ls (row_count names rows) i' q' r
    seen = rw (← t.whole.are) s

    pub each_start : (q'' : ℕ) → r ≡ true → NextInside names rows (q' + 1) q'' → Put p p' n (columns + q') (over_at ls q' i') → PlanningOf names rows ls count i q p' (n + 1) i' q''
    each_start q'' is next put = record {
      whole = t.whole;
      few = t.few;
      sized = put.kept.sized;
      narrow = omega arith;
      crossing = t.crossing;
      row = omega (arith, next.row, t.whole.are);
      on = t.on;
      gone = omega (arith, t.gone);
      all = λ ps ss ok at. planning_start names (line_lists rows ls ps ss) ok i q p p' n i' q' (t.all ps ss ok at) h q'' r seen is next put;
    }

    pub each_crossing : r ≡ false → i' < length ls → Put p p' n (i' - i) (over_at ls (get_or ls i' 0) (i' + 1)) → PlanningOf names rows ls count i q p' (n + 1) (i' + 1) q'
    each_crossing is l put = record {
      whole = t.whole;
      few = t.few;
      sized = put.kept.sized;
      narrow = omega arith;
      crossing = omega arith;
      row = t.row;
      on = omega (arith, t.on);
      gone = omega (arith, t.gone);
      all = λ ps ss ok at. planning_crossing names (line_lists rows ls ps ss) ok i q p p' n i' q' (t.all ps ss ok at) h r seen is l put;
    }

  -- ---- word by word

  pub words_none : (p : Plan) → CanPlan names rows ls count p i q → Words names rows ls count i q p 0 0 i q
  words_none p can = record {
    planning = record {
      whole = can.whole;
      few = can.few;
      sized = can.sized;
      narrow = omega arith;
      crossing = can.crossing;
      row = can.row;
      on = omega arith;
      gone = omega arith;
      all = λ ps ss ok at. planning_none names (line_lists rows ls ps ss) ok i q p can.sized at;
    };
    words = refl;
  }

  module _ (p : Plan) (n i' q' : ℕ) where
    made : PlanningOf names rows ls count i q p n i' q' → ((ps : List ℤ) (ss : List ℕ) → Accepted names (line_lists rows ls ps ss) → AtCursor names (line_lists rows ls ps ss) i q → BlockPlanned names (line_lists rows ls ps ss) i q p n i' q') → PlanMade names rows ls p i q n i' q'
    made t block = record { sized = t.sized; narrow = t.narrow; crossing = t.crossing; row = omega (arith, t.row, t.whole.are); block = block; next = λ ps ss ok at. (t.all ps ss ok at).cursor }

    pub words_full : (k : ℕ) → Words names rows ls count i q p k n i' q' → 8 ≤ k → PlanMade names rows ls p i q n i' q'
    words_full k t h = made t.planning (λ ps ss ok at. planned_full names (line_lists rows ls ps ss) ok i q p n i' q' (t.planning.all ps ss ok at) (omega (arith, t.words)))

  module _ (p : Plan) (f : Cursor) where
    abbrev n : ℕ
    n = f.c

    abbrev i' : ℕ
    i' = f.i

    abbrev q' : ℕ
    q' = f.q

    pub words_next : (k : ℕ) → Words names rows ls count i q p k f.c f.i f.q → k < 8 → WordNext names rows ls count i q p f
    words_next k t h = record { planning = t.planning; words = omega (arith, t.words); more = omega (arith, t.words) }

    module _ {p₀ : Plan} {c i₀ q₀ : ℕ} (k : ℕ) (was : Words names rows ls count i q p₀ k c i₀ q₀) (t : WordPlanned names rows ls count i q p c f) where
      pub words_more : 64 * (k + 1) ≤ f.c → Words names rows ls count i q p (k + 1) f.c f.i f.q
      words_more h = record { planning = t.planning; words = omega (arith, t.most, was.words) }

      pub words_over : f.c < 64 * (k + 1) → PlanMade names rows ls p i q f.c f.i f.q
      words_over h =
          let short : n < c + 64 = omega (arith, was.words) in
          made p n i' q' t.planning (λ ps ss ok at. planned-over names (line_lists rows ls ps ss) ok i q p n i' q' (t.planning.all ps ss ok at) (t.crossing short) (omega (arith, t.row short, t.planning.whole.are)))
