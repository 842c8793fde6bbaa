-- One event: a wall begins, or the open one ends and is put; and one event after another.
use Prim.Native.Nat.{ℕ, ◌+◌, ◌-◌, ◌*◌, ◌<◌, ◌≤◌}
use native.Mathlib.Omega.{arith}
use mathlib.Core.Path.{◌≡◌, refl, sym, ◌∙◌}
use mathlib.Core.Bool.{Bool, true, false, cond}
use mathlib.Core.List.{List, ◌++◌}
use lib.ListN.{length, take, get_or, length-append}
use Rattle.formula.specs.States.{State}
use Rattle.lines.specs.Lines.{AnswerLists, Wall, Edge}
use Rattle.line_lists.specs.Block.{columns}
use Rattle.line_writing.specs.Finishing.{Held, event_line, event_edge, ending, walls_by}
use Rattle.line_writing.specs.Spots.{edge_of, open_from, EventHeld, EventListed, EventBound}
use Rattle.line_writing.specs.declared.spots.Bound.{Bound}
use Rattle.line_writing.specs.declared.spots.Spot.{Spot}
use Rattle.std.specs.Option.{is_some}
use Rattle.std.specs.Prelude as given
use Rattle.line_writing.proofs.FinishLaws.{walls-next, open_next}
use Rattle.line_writing.specs.Writing.{open_of, open_count, Switched, wall_count, Delivering, Made, Delivered}
use Rattle.line_writing.specs.declared.writing.Course.{Course}
use Rattle.line_writing.proofs.ListLaws.{put_more, same_none, same_more, room-same}

-- ---- one event

module _ (events : List ℕ) (k : ℕ) {b : Held} {e : ℕ} (at : e ≡ get_or events k 0) where
  pub listed_event : EventListed b events k → EventHeld b e
  listed_event t = rw at t.event

  pub bound_listed : {p : Bound} → EventBound b e p → EventBound b (get_or events k 0) p
  bound_listed is = rw at at is

-- ---- one event after another

pub record Along (b : Held) (events : List ℕ) (m : ℕ) (r₀ : Course) (lent : AnswerLists) (k : ℕ) (r : Course) (now : AnswerLists) : Type 0 where
  pub ok : Delivering b events m r₀ lent
  pub within : k ≤ m
  pub left : wall_count r (m - k) ≡ wall_count r₀ m
  pub done : Delivered b events k r₀ lent r now

module _ {b : Held} {events : List ℕ} {m : ℕ} {r₀ : Course} {lent : AnswerLists} {k : ℕ} {r : Course} {now : AnswerLists} (v : Along b events m r₀ lent k r now) where
  module _ (h : k < m) where
    index : k < 2 * columns
    index = omega (arith, v.ok.few)

    open_one : open_count r ≤ 1
    open_one = by (is_some r.from)
      where
        by : (t : Bool) → cond t 1 0 ≤ 1
        by true = omega arith
        by false = omega arith

    pub along_more : {p : Bound} {r' : Course} {after : AnswerLists} → EventBound b (get_or events k 0) p → Switched p r now r' after → Along b events m r₀ lent (k + 1) r' after
    along_more {p = x} {r'} {after} is t =
        record {
          ok = v.ok;
          within = omega arith;
          left = left;
          done = record { same = same_more v.done.same t.same; room = room-same same_none (omega (arith, left)) v.ok.room; made = λ start. made start };
        }
      where
        left : wall_count r' (m - (k + 1)) ≡ wall_count r₀ m
        left = omega (arith, v.left, t.count, t.switches)

        made : (start : ℕ → State) → Made start b (take (k + 1) events) r₀ lent r' after
        made start =
            let edge : ℕ → Edge = event_edge start b in
            let line : ℕ → ℕ = event_line b in
            let p = v.done.made start in
            let e : ℕ = get_or events k 0 in
            let here : edge_of x.here ≡ edge e = is.edge start in
            let there : k < length events = omega (arith, v.ok.sized, index) in
            let old : List Wall = walls_by edge line (open_of r₀) (take k events) in
            let new : List Wall = ending (line e) (edge e) (open_of r) in
            let all : walls_by edge line (open_of r₀) (take (k + 1) events) ≡ old ++ new = rw p.opens (walls-next edge line (open_of r₀) events k there) in
            let counted : length new ≡ open_count r = counts (line e) (edge e) r in
            record {
              put = rw all (put_more p.put (rw (p.count, is.line, here) at t.put));
              count = rw all (omega (arith, t.count, p.count, counted, length-append old new));
              opens = (rw here at t.opens) ∙ rw p.opens (sym (open_next edge line (open_of r₀) events k there));
            }
          where
            counts : (l : ℕ) (here : Edge) (r : Course) → length (ending l here (open_of r)) ≡ open_count r
            counts l here r = by r.from
              where
                by : (o : given.Option Spot) → length (ending l here (open_from o)) ≡ cond (is_some o) 1 0
                by (given.Some p) = refl
                by given.None = refl
