-- The pass, a block on.
use Prim.Native.Nat.{ℕ, ◌-◌, ◌*◌, ◌<◌, ◌≤◌}
use native.Mathlib.Decide.{dec_lt}
use native.Mathlib.Omega.{arith}
use mathlib.Core.Path.{◌≡◌, refl, sym, ap, ◌∙◌}
use mathlib.Core.Bool.{Bool, not, ◌&&◌}
use mathlib.Core.List.{List}
use borrow.Author.Tests.{eq-eqb}
use lib.Dec.{eqb}
use lib.IntN.{ℤ}
use lib.ListN.{length, get_or, length-drop}
use Rattle.lines.specs.Lines.{line_lists, row_count}
use Rattle.lines.proofs.Items.{accepted-whole, accepted_few, accepted-bytes}
use Rattle.line_lists.specs.Block.{wide, columns, cell, planned, SaidNumbered, SaidAlone}
use Rattle.line_strips.specs.Filling.{Fillable}
use Rattle.word_bits.specs.Words.{bit}
use Rattle.line_words.specs.Evaluating.{Evaluable}
use Rattle.line_words.specs.declared.Arranged.{Arranged}
use Rattle.line_columns.specs.Planned.{left_at, BlockPlanned}
use Rattle.line_columns.specs.Planning.{CanPlan, PlanMade}
use Rattle.line_columns.specs.declared.Ended.{Ended}
use Rattle.line_events.specs.Events.{ends_in}
use Rattle.line_events.specs.Noted.{Listed}
use Rattle.line_sweeping.specs.Sweeping.{Sweepable}
use Rattle.line_blocks.specs.Blocks.{RowMade, Sized, left_of, BlockAsk, BlockMade}
use Rattle.line_blocks.specs.declared.Pass.{Pass}
use Rattle.line_blocks.proofs.BlockLaws.{block_fillable, block_sweepable, block_few, block_each, block-next}

-- ---- the last column

pub cell-last : (lasts : List ℕ) → bit (get_or lasts (wide - 1) 0) 63 ≡ cell lasts (columns - 1)
unfolding cell
cell-last lasts = refl

pub past_is : (lasts : List ℕ) (n : ℕ) (on : Bool) → on ≡ bit (get_or lasts (wide - 1) 0) 63 → (n ≡ columns) → not on ≡ (eqb n columns && not (cell lasts (columns - 1)))
past_is lasts n on is e = rw (eq-eqb n columns e) (ap not (is ∙ cell-last lasts))

module _ {table : List ℕ} {arranged : Arranged} {names : ℕ} {rows ls : List ℕ} {ps : List ℤ} {ss : List ℕ} {words : List ℕ} {p : Pass} (ask : BlockAsk table arranged names (line_lists rows ls ps ss) words p) where
  pub ask_can_plan : {cols lasts events : List ℕ} {numbered : Bool} (count : ℕ) → Sized cols lasts events numbered → count ≡ row_count names rows → CanPlan names rows ls count (planned cols lasts) p.cursor.i p.cursor.q
  ask_can_plan count s is =
      let ok = ask.going.taken in
      record {
        whole = record { some = ok.some; are = is; whole = accepted-whole ok ∙ ap (λ (k : ℕ). k * names) (sym is); bytes = accepted-bytes ok };
        few = omega (arith, accepted_few ok, is);
        sized = s.plan;
        crossing = ask.going.cursor.crossing;
        row = omega (arith, ask.going.cursor.row, is);
      }

  pub ask_evaluable : Evaluable table words arranged
  ask_evaluable = ask.going.evaluable

  module _ {cols lasts : List ℕ} (ended : Ended) (plan-made : PlanMade names rows ls (planned cols lasts) p.cursor.i p.cursor.q ended.next.c ended.next.i ended.next.q) (said : SaidAlone ls cols p.cursor.i ended.next.c ended.alone) where
    abbrev n : ℕ
    n = ended.next.c

    block_is : BlockPlanned names (line_lists rows ls ps ss) p.cursor.i p.cursor.q (planned cols lasts) n ended.next.i ended.next.q
    block_is = plan-made.block ps ss ask.going.taken ask.going.cursor

    has_one : 1 ≤ n
    has_one = by (dec_lt n columns)
      where
        by : Dec (n < columns) → 1 ≤ n
        by (yes h) = go (dec_lt 0 (length (left_at names (line_lists rows ls ps ss) ended.next.i ended.next.q)))
          where
            go : Dec (0 < length (left_at names (line_lists rows ls ps ss) ended.next.i ended.next.q)) → 1 ≤ n
            go (yes l) = (block_is.full h l).0
            go (no l) = omega (arith, ask.left, ap length block_is.left, length-drop n (left_of names (line_lists rows ls ps ss) p))
        by (no h) = omega arith

    pub ask_fillable : Fillable names rows ss cols lasts p.cursor.i n ended.alone words
    ask_fillable = block_fillable names rows ls ps ss cols lasts p.cursor.i p.cursor.q n ended.next.i ended.next.q ask.going.taken block_is ended.alone words said has_one (omega (arith, ask.going.evaluable.room))

    pub ask_sweepable : {row : List ℕ} → length row ≡ wide → Sweepable ls ps p.cursor.i n cols row lasts
    ask_sweepable {row} long = block_sweepable names rows ls ps ss cols lasts p.cursor.i p.cursor.q n ended.next.i ended.next.q ask.going.taken block_is row long

    module _ {metal : Bool} {words' row events : List ℕ} {m : ℕ} (made : RowMade table arranged names rows ss cols lasts p.cursor.i n p.onward words words' row) (listed : Listed (ends_in ls ps p.cursor.i cols) (cell row) (cell lasts) metal n events m) where
      pub block_made : {onward : Bool} → onward ≡ (eqb n columns && not (cell lasts (columns - 1))) → SaidNumbered cols ended.alone → BlockMade table arranged names (line_lists rows ls ps ss) words p metal words' cols lasts events (record { cursor = ended.next; onward = onward; numbered = ended.alone }) m
      block_made {onward} is numbered =
          let g = ask.going in
          record {
            going =
                record {
                  evaluable = record { workable = g.evaluable.workable; room = omega (arith, g.evaluable.room, made.long) };
                  standing = g.standing;
                  taken = g.taken;
                  cursor = plan-made.next ps ss g.taken g.cursor;
                };
            long = made.long;
            sized = record { plan = plan-made.sized; events_sized = listed.sized; said = numbered };
            fewer = omega (arith, ap length block_is.left, length-drop n (left_of names (line_lists rows ls ps ss) p), has_one, ask.left);
            few =
                block_few names rows ls ps ss cols lasts p.cursor.i p.cursor.q n ended.next.i ended.next.q g.taken block_is
                row events m metal listed;
            each =
                block_each names rows ls ps ss cols lasts p.cursor.i p.cursor.q n ended.next.i ended.next.q g.taken block_is
                row events m metal listed;
            passes = λ f st o from done is_open pass.
                block-next names rows ls ps ss cols lasts p.cursor.i p.cursor.q n ended.next.i ended.next.q g.taken block_is
                row events m metal listed from is_open f o table arranged st p.onward words words' made done pass has_one onward is;
          }
