-- What is left at a cursor: its first column, and what is left after it.
use Prim.Native.Nat.{ℕ, zero, suc, ◌+◌, ◌-◌, ◌<◌, ◌≤◌}
use native.Mathlib.Numerals.{add-one}
use native.Mathlib.Omega.{arith}
use mathlib.Core.Path.{◌≡◌, refl, ap, ◌∙◌}
use mathlib.Core.Bool.{Bool, true, false, not, ◌||◌, cond}
use mathlib.Core.List.{List, [], ◌∷◌}
use borrow.Author.Tests.{eqb-true, eqb-false, ltb-true, ltb-false}
use lib.Dec.{eqb, ltb, leb}
use lib.IntN.{ℤ, pos}
use lib.ListN.{get_or, length, drop}
use lib.Signed.{lt_z, le_z}
use Rattle.formula.specs.States.{State}
use Rattle.lines.specs.Lines.{LineLists, Crossing, entries, row_count, start_state, low, high, shape_at}
use Rattle.lines.specs.Columns.{start_column, crossing_column, any_inside, starts_from, columns_of, last_column, ends_columns}
use Rattle.lines.specs.AtIndex.{item, group_ends_at, Accepted}
use Rattle.lines.proofs.Keys.{no→lt}
use Rattle.lines.proofs.Items.{drop-item, drop_all, accepted_positions, accepted_shapes, accepted-kept}
use Rattle.lines.proofs.ColumnLists.{Beyond, starts_in, starts_out, starts-beyond}
use Rattle.line_columns.specs.Planned.{left_at}
use Rattle.line_runs.specs.Runs.{over_at}
use Rattle.line_columns.specs.Planning.{AtCursor, NextInside}
use Rattle.line_columns.proofs.Heads.{LineOver, GroupOver, NotBefore, head_crossing, head_start, head_none, last-ahead, ends-ahead}

module _ (names : ℕ) (c : LineLists) (ok : Accepted names c) where
  abbrev pub start : ℕ → State
  start = start_state names c.rows

  abbrev pub shape : ℕ → ℤ → ℕ
  shape = shape_at start (entries c)

  abbrev pub count : ℕ
  count = row_count names c.rows

  abbrev pub starts : ℕ → List ℕ
  starts q = starts_from names start (count - q) q

  abbrev here : ℕ → Crossing
  here i = item c.lines c.positions c.shapes i

  pub more : (i : ℕ) → i < length c.lines → drop i (entries c) ≡ here i ∷ drop (i + 1) (entries c)
  more i h = drop-item c.lines c.positions c.shapes i (accepted_positions ok) (accepted_shapes ok) h ∙ rw (add-one i)

  no_more : (i : ℕ) → length c.lines ≤ i → drop i (entries c) ≡ []
  no_more i h = drop_all c.lines c.positions c.shapes i (accepted_positions ok) (accepted_shapes ok) h

  no_starts : (q : ℕ) → count ≤ q → starts q ≡ []
  unfolding starts_from
  no_starts q h = let none : count - q ≡ 0 = omega arith in rw none

  pub some_starts : (q : ℕ) → q < count → any_inside names (start q) ≡ true → starts q ≡ q ∷ starts (q + 1)
  some_starts q h e =
      let left : count - q ≡ suc (count - (q + 1)) = omega arith in
      rw left (starts_in names start (count - (q + 1)) q e ∙ rw (add-one q))

  -- rows with no shape inside are passed over
  pub skipped : (k r q : ℕ) → k + r ≡ q → q ≤ count → ((l : ℕ) → r ≤ l → l < q → any_inside names (start l) ≡ false) → starts r ≡ starts q
  skipped zero r q e h none = let same : r ≡ q = omega arith in rw same
  skipped (suc k) r q e h none =
      let left : count - r ≡ suc (count - (r + 1)) = omega arith in
      rw left (starts_out names start (count - (r + 1)) r (none r (omega arith) (omega arith)) ∙ rw (← add-one r) (skipped k (r + 1) q (omega arith) h (λ l a b. none l (omega arith) b)))

  -- what looking ahead from i tells
  line-over : (l i : ℕ) → i ≤ length c.lines → LineOver l (drop i (entries c)) ≡ over_at c.lines l i
  unfolding over_at
  line-over l i h = by (eqb i (length c.lines)) refl
    where
      by : (t : Bool) → eqb i (length c.lines) ≡ t → LineOver l (drop i (entries c)) ≡ cond t true (not (eqb (get_or c.lines i 0) l))
      by true e = rw (no_more i (omega (arith, eqb-true i (length c.lines) e)))
      by false e = rw (more i (omega (arith, eqb-false i (length c.lines) e)))

  group-over : (i : ℕ) → i < length c.lines → GroupOver (get_or c.lines i 0) (get_or c.positions i (pos 0)) (drop (i + 1) (entries c)) ≡ group_ends_at c.lines c.positions i
  group-over i h = by (eqb (i + 1) (length c.lines)) refl
    where
      by : (t : Bool) → eqb (i + 1) (length c.lines) ≡ t
          → GroupOver (get_or c.lines i 0) (get_or c.positions i (pos 0)) (drop (i + 1) (entries c)) ≡ cond t true (not (eqb (get_or c.lines (i + 1) 0) (get_or c.lines i 0)) || lt_z (get_or c.positions i (pos 0)) (get_or c.positions (i + 1) (pos 0)))
      by true e = rw (no_more (i + 1) (omega (arith, eqb-true (i + 1) (length c.lines) e)))
      by false e = rw (more (i + 1) (omega (arith, eqb-false (i + 1) (length c.lines) e)))

  -- ---- a crossing

  module _ (i q : ℕ) (h : i < length c.lines) (before : q < count → get_or c.lines i 0 < q) where
    beyond : Beyond (get_or c.lines i 0) (starts q)
    beyond = by (ltb q count) refl
      where
        by : (t : Bool) → ltb q count ≡ t → Beyond (get_or c.lines i 0) (starts q)
        by true e = starts-beyond names start (count - q) (get_or c.lines i 0) q (before (ltb-true q count e))
        by false e = rw (no_starts q (ltb-false q count e)) tt

    pub crossing_first : left_at names c i q ≡ crossing_column shape (here i) ∷ left_at names c (i + 1) q
    crossing_first = ap (columns_of start shape (starts q)) (more i h) ∙ head_crossing start shape (starts q) (here i) (drop (i + 1) (entries c)) beyond

    pub crossing_last : last_column (crossing_column shape (here i)) (left_at names c (i + 1) q) ≡ over_at c.lines (get_or c.lines i 0) (i + 1)
    crossing_last = last-ahead start shape (get_or c.lines i 0) (crossing_column shape (here i)) refl (starts q) (drop (i + 1) (entries c)) beyond ∙ line-over (get_or c.lines i 0) (i + 1) (omega arith)

    pub crossing_ends : ends_columns (crossing_column shape (here i)) (left_at names c (i + 1) q) ≡ group_ends_at c.lines c.positions i
    crossing_ends = ends-ahead start shape (get_or c.lines i 0) (crossing_column shape (here i)) refl (starts q) (drop (i + 1) (entries c)) beyond ∙ group-over i h

  -- ---- a line's start

  module _ (i q q' : ℕ) (at : AtCursor names c i q) (h : q < count) (before : i < length c.lines → q ≤ get_or c.lines i 0) (next : NextInside names c.rows (q + 1) q') where
    not_before : NotBefore q (drop i (entries c))
    not_before = by (ltb i (length c.lines)) refl
      where
        by : (t : Bool) → ltb i (length c.lines) ≡ t → NotBefore q (drop i (entries c))
        by true e = rw (more i (ltb-true i (length c.lines) e)) (before (ltb-true i (length c.lines) e))
        by false e = rw (no_more i (ltb-false i (length c.lines) e)) tt

    after : starts (q + 1) ≡ starts q'
    after = skipped (q' - (q + 1)) (q + 1) q' (omega (arith, next.from)) next.row next.none

    later : Beyond q (starts q')
    later = starts-beyond names start (count - q') q q' (omega (arith, next.from))

    pub start_first : left_at names c i q ≡ start_column start q ∷ left_at names c i q'
    start_first = ap (λ qs. columns_of start shape qs (drop i (entries c))) (some_starts q h (at.inside h) ∙ ap (λ qs. q ∷ qs) after) ∙ head_start start shape q (starts q') (drop i (entries c)) not_before

    pub start-last : last_column (start_column start q) (left_at names c i q') ≡ over_at c.lines q i
    start-last = last-ahead start shape q (start_column start q) refl (starts q') (drop i (entries c)) later ∙ line-over q i at.crossing

    pub start-ends : ends_columns (start_column start q) (left_at names c i q') ≡ true
    start-ends = ends-ahead start shape q (start_column start q) refl (starts q') (drop i (entries c)) later ∙ by (ltb i (length c.lines)) refl
      where
        or_yes : (b : Bool) → (b || true) ≡ true
        or_yes true = refl
        or_yes false = refl

        above : (l : ℕ) (p : ℤ) → (le_z p low || (le_z high p || leb count l)) ≡ false → lt_z low p ≡ true
        above l p e = no→lt low p (first (le_z p low) (le_z high p || leb count l) e)
          where
            first : (a b : Bool) → (a || b) ≡ false → a ≡ false
            first true b z = z
            first false b z = refl

        by : (t : Bool) → ltb i (length c.lines) ≡ t → GroupOver q low (drop i (entries c)) ≡ true
        by true e = rw (more i (ltb-true i (length c.lines) e), above (get_or c.lines i 0) (get_or c.positions i (pos 0)) (accepted-kept ok i (ltb-true i (length c.lines) e))) (or_yes (not (eqb (get_or c.lines i 0) q)))
        by false e = rw (no_more i (ltb-false i (length c.lines) e))

  pub none_left : (i q : ℕ) → length c.lines ≤ i → count ≤ q → left_at names c i q ≡ []
  none_left i q h k = rw (no_more i h, no_starts q k) (head_none start shape)
