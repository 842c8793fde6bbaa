-- A block of the pass: what it is made of, its room, and the pass after it.
use Prim.Native.Nat.{ℕ, suc, ◌+◌, ◌-◌, ◌*◌, ◌<◌, ◌≤◌}
use native.Mathlib.Decide.{dec_lt}
use native.Mathlib.Nat.{mul-le-mul_right}
use native.Mathlib.Omega.{arith}
use mathlib.Core.Path.{◌≡◌, refl, sym, ap, ◌∙◌, fun_ext, subst}
use mathlib.Core.Bool.{Bool, true, false, not, ◌&&◌, true≢false, false≢true}
use mathlib.Core.List.{List, ◌++◌}
use mathlib.Core.Option.{Option}
use borrow.Author.Tests.{eqb-true, eqb-false, lt-leb, lt-ltb, le-ltb}
use lib.Dec.{eqb}
use lib.IntN.{ℤ}
use lib.ListN.{length, get_or, take}
use Rattle.formula.specs.Formula.{Formula, postfix, Over}
use Rattle.formula.specs.States.{State, outside}
use Rattle.lines.specs.Lines.{LineLists, line_lists, start_state, Wall, Edge}
use Rattle.lines.specs.Columns.{Column, flipped_by}
use Rattle.lines.specs.Views.{View, state_after, open_after, walls_after, Passed, Lit}
use Rattle.lines.specs.AtIndex.{group_ends_at, Accepted}
use Rattle.lines.proofs.Items.{accepted_positions, accepted_shapes, accepted-named, accepted-whole, accepted_few, accepted-bytes}
use Rattle.lines.proofs.BlockWalls.{state_more}
use Rattle.lines.proofs.PassLaws.{pass_block}
use Rattle.line_lists.specs.Block.{wide, columns, cell, Plan, planned, start_line, SaidAlone}
use Rattle.line_strips.specs.Strips.{on, flips_at, last_at, Filled}
use Rattle.line_strips.specs.Filling.{Flippable, Fillable, Entered}
use Rattle.line_words.specs.Stretches.{StandFor}
use Rattle.line_words.specs.declared.Arranged.{Arranged}
use Rattle.line_columns.specs.Planned.{left_at, held_at, BlockPlanned}
use Rattle.line_events.specs.Events.{ends_in, events_after}
use Rattle.line_events.specs.Noted.{Listed}
use Rattle.line_sweeping.specs.Sweeping.{ColumnThere, Sweepable}
use Rattle.line_events.proofs.ListedLaws.{EventOf, listed_each}
use Rattle.line_writing.specs.Groups.{GroupEnd}
use Rattle.line_writing.proofs.GroupLaws.{group_end}
use Rattle.line_writing.specs.Finishing.{Held, held, column_of, event_line, event_edge, walls_by, open_by, is_open_edge}
use Rattle.line_writing.specs.Spots.{ColumnHeld, EventHeld}
use Rattle.line_blocks.specs.Blocks.{RowMade, Passing}
use Rattle.line_blocks.proofs.EventWalls.{events-walls, events_open}
use Rattle.line_blocks.proofs.HeldLaws.{held-last, held-ends, held-told, held-leaving}

module _ (names : ℕ) (rows ls : List ℕ) (ps : List ℤ) (ss : List ℕ) (cols lasts : List ℕ) (i q n i' q' : ℕ) where
  abbrev c : LineLists
  c = line_lists rows ls ps ss

  abbrev p : Plan
  p = planned cols lasts

  abbrev at : ℕ → View
  at j = held_at names c i p j

  module _ (ok : Accepted names c) (block : BlockPlanned names c i q p n i' q') where
    -- ---- what the fill and the sweep ask

    legible_column : (j : ℕ) → j < n → Flippable names rows ss cols i j
    legible_column j h =
        let w = block.within j h in
        record {
          row = λ e. omega (arith, accepted-whole ok, mul-le-mul_right names (w.row e), suc-mul (start_line cols j));
          bytes = λ e s k. accepted-bytes ok (start_line cols j * names + s);
          there = λ e. omega (arith, w.crossing e, accepted_shapes ok);
          named = λ e. accepted-named ok (i + get_or cols j 0) (w.crossing e);
        }
      where
        suc-mul : (x : ℕ) → suc x * names ≡ x * names + names
        suc-mul x = omega arith

    pub block_fillable : (told : Bool) (words : List ℕ) → SaidAlone ls cols i n told → 1 ≤ n → 256 * wide ≤ length words → Fillable names rows ss cols lasts i n told words
    block_fillable told words said one room =
        record {
          legible = record { few = ok.few; cols_long = block.sized.cols; most = block.narrow; column = legible_column };
          alone = said.are;
          lasts_long = block.sized.lasts;
          some = one;
          room = room;
        }

    there : (j : ℕ) → j < n → ColumnThere ls ps i cols j
    there j h = record { narrow = omega (arith, block.narrow); long = accepted_positions ok; crossing = (block.within j h).crossing; sized = block.sized.cols }

    pub block_sweepable : (row : List ℕ) → length row ≡ wide → Sweepable ls ps i n cols row lasts
    block_sweepable row long = record { narrow = block.narrow; there = there; row_sized = long; lasts_sized = block.sized.lasts }

    -- ---- the events

    abbrev b : Held
    b = held ls ps ss i cols

    column_held : (j : ℕ) → j < n → ColumnHeld b j
    column_held j h = record { narrow = omega (arith, block.narrow); sized = block.sized.cols; inside = (block.within j h).crossing; line = by (dec_lt (get_or cols j 0) columns) }
      where
        by : Dec (get_or cols j 0 < columns) → start_line cols j < 4294967296
        by (yes k) = omega arith
        by (no k) = omega (arith, (block.within j h).row (omega arith), accepted_few ok)

    ends_so : (e : ℕ) → ends_in ls ps i cols e ≡ true → get_or cols e 0 < columns → group_ends_at ls ps (i + get_or cols e 0) ≡ true
    unfolding ends_in
    ends_so e h m = rw (lt-leb columns (get_or cols e 0) m) at h

    event_held : (e : ℕ) → EventOf (ends_in ls ps i cols) n e → EventHeld b e
    event_held e o = record { column = by (dec_lt e columns); change = λ h. record { column = column_held e (o.change h).0; group = group (o.change h) } }
      where
        by : Dec (e < columns) → ColumnHeld b (column_of e)
        by (yes h) = rw (lt-ltb e columns h) (column_held e (o.change h).0)
        by (no h) = rw (le-ltb e columns (omega arith)) (column_held (e - columns) (omega (arith, o.end (omega arith))))

        group : (e < n) × (ends_in ls ps i cols e ≡ true) → get_or cols e 0 < columns → GroupEnd ls ps ss (i + get_or cols e 0)
        group k not_start = group_end names rows ls ps ss (i + get_or cols e 0) ok ((block.within e k.0).crossing not_start) (ends_so e k.1 not_start)

    module _ (row events : List ℕ) (m : ℕ) (metal : Bool) (listed : Listed (ends_in ls ps i cols) (cell row) (cell lasts) metal n events m) where
      pub block_few : m ≤ 2 * columns
      block_few = omega (arith, listed.few, block.narrow)

      pub block_each : (k : ℕ) → k < m → EventHeld b (get_or events k 0)
      block_each k h = event_held (get_or events k 0) (listed_each (ends_in ls ps i cols) (cell row) (cell lasts) metal n events m block.narrow listed k h)

      abbrev start : ℕ → State
      start = start_state names rows

      abbrev edge : ℕ → Edge
      edge = event_edge start b

      abbrev line : ℕ → ℕ
      line = event_line b

      module _ (from : Option Edge) (is_open : is_open_edge from ≡ metal) where
        same-events : take m events ≡ events_after (λ j. (at j).ends) (cell row) (λ j. (at j).last) (is_open_edge from) n
        same-events =
            listed.are
            ∙ ap (λ (x : ℕ → Bool). events_after x (cell row) (cell lasts) metal n) (fun_ext (λ j. sym (held-ends names rows ls ps ss i cols lasts j)))
            ∙ ap (λ (x : ℕ → Bool). events_after (λ j. (at j).ends) (cell row) x metal n) (fun_ext (λ j. sym (held-last names rows ls ps ss i cols lasts j)))
            ∙ ap (λ (x : Bool). events_after (λ j. (at j).ends) (cell row) (λ j. (at j).last) x n) (sym is_open)

        new-walls : walls_by edge line from (take m events) ≡ walls_after at (cell row) from n
        new-walls = ap (walls_by edge line from) same-events ∙ events-walls edge line at (cell row) from n (λ j h. held-told names rows ls ps ss i cols lasts (cell row) j (omega (arith, block.narrow)))

        new_open : open_by edge from (take m events) ≡ open_after at (cell row) from n
        new_open = ap (open_by edge from) same-events ∙ events_open edge line at (cell row) from n (λ j h. held-told names rows ls ps ss i cols lasts (cell row) j (omega (arith, block.narrow)))

        -- ---- a formula's pass through the block
        module _ (f : Formula) (over : Over names f) (table : List ℕ) (arranged : Arranged) (stands : StandFor (postfix f) table arranged) (going_on : Bool) (words words' : List ℕ)
            (made : RowMade table arranged names rows ss cols lasts i n going_on words words' row) (done : List Wall) (pass : Passing f names c i q going_on words from done) (some : 1 ≤ n) where
          abbrev state : State
          state = pass.state

          filled : Filled names (flips_at names c i p) (last_at p) state words' n
          filled = made.filled c state refl refl (pass.entered (omega (arith, block.enough)))

          leaving_is : (j s : ℕ) → j < n → s < names → on words' s j ≡ flipped_by (at j).column.flips (state_after at state j) s
          leaving_is j s h k = filled.is j s h k ∙ ap (λ (u : State). u s) (sym (held-leaving names rows ls ps ss i cols lasts state j))

          lit : Lit f state (left_at names c i q) at (cell row) n
          lit =
              record {
                enough = block.enough;
                are = block.are;
                lit = λ j h. (made.root (postfix f) stands).is f (flipped_by (at j).column.flips (state_after at state j)) j (omega (arith, block.narrow)) refl over (λ s k. leaving_is j s h k);
              }

          beyond : Passed f names c (done ++ walls_after at (cell row) from n) (state_after at state n) (open_after at (cell row) from n) (left_at names c i' q')
          beyond = subst (λ (xs : List Column). Passed f names c (done ++ walls_after at (cell row) from n) (state_after at state n) (open_after at (cell row) from n) xs) (sym block.left) (pass_block f names c done state from (left_at names c i q) pass.passed at (cell row) n lit)

          -- a block that is full
          entered_full : n ≡ columns → (onward : Bool) → onward ≡ not (last_at p (columns - 1)) → Entered names onward words' (state_after at state n)
          entered_full full onward is = by (last_at p (columns - 1)) refl
            where
              last_is : state_after at state n ≡ elim (last_at p (columns - 1)) [ true ↦ outside | false ↦ flipped_by (at (columns - 1)).column.flips (state_after at state (columns - 1)) ]
              last_is = ap (state_after at state) full ∙ state_more at state (columns - 1) ∙ rw (held-last names rows ls ps ss i cols lasts (columns - 1))

              by : (t : Bool) → last_at p (columns - 1) ≡ t → Entered names onward words' (state_after at state n)
              by true e =
                  let now_is : state_after at state n ≡ outside = rw e at last_is in
                  record {
                    kept = λ o. absurd (false≢true (sym (is ∙ ap not e) ∙ o));
                    none = λ o s h. ap (λ (u : State). u s) now_is;
                  }
              by false e =
                  let now_is : state_after at state n ≡ flipped_by (at (columns - 1)).column.flips (state_after at state (columns - 1)) = rw e at last_is in
                  record {
                    kept = λ o s h. leaving_is (columns - 1) s (omega (arith, full)) h ∙ ap (λ (u : State). u s) (sym now_is);
                    none = λ o. absurd (true≢false (sym (is ∙ ap not e) ∙ o));
                  }

          -- or one that ends with its line
          entered-short : last_at p (n - 1) ≡ true → Entered names false words' (state_after at state n)
          entered-short e =
              let one : n ≡ suc (n - 1) = omega (arith, some) in
              let now_is : state_after at state n ≡ outside = ap (state_after at state) one ∙ state_more at state (n - 1) ∙ rw (held-last names rows ls ps ss i cols lasts (n - 1), e) in
              record { kept = λ o. absurd (false≢true o); none = λ o s h. ap (λ (u : State). u s) now_is }

          entered-next : (onward : Bool) → onward ≡ (eqb n columns && not (last_at p (columns - 1))) → 0 < length (left_at names c i' q') → Entered names onward words' (state_after at state n)
          entered-next onward is left = by (eqb n columns) refl
            where
              by : (t : Bool) → eqb n columns ≡ t → Entered names onward words' (state_after at state n)
              by true e = entered_full (eqb-true n columns e) onward (rw e at is)
              by false e = rw (rw e at is) (entered-short (block.full (omega (arith, eqb-false n columns e, block.narrow)) left).1)

          pub block-next : (onward : Bool) → onward ≡ (eqb n columns && not (last_at p (columns - 1))) → Passing f names c i' q' onward words' (open_by edge from (take m events)) (done ++ walls_by edge line from (take m events))
          block-next onward is = record { state = state_after at state n; passed = rw (new_open, new-walls) beyond; entered = entered-next onward is }
