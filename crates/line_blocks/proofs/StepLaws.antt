-- The pass, a block on: the room for its walls, and what is put.
use Prim.Native.Nat.{ℕ, ◌+◌, ◌/◌, ◌≤◌}
use native.Mathlib.Omega.{arith}
use mathlib.Core.Path.{◌≡◌, sym, ◌∙◌}
use mathlib.Core.Bool.{Bool, true, false, cond}
use mathlib.Core.List.{List, ◌++◌}
use mathlib.Core.Option.{Option}
use lib.IntN.{ℤ}
use lib.ListN.{length, take, length-append}
use lib.Seq.{length-take-le}
use Rattle.std.specs.Option.{is_some}
use Rattle.lines.specs.Lines.{LineLists, line_lists, start_state, AnswerLists, Wall, Edge}
use Rattle.line_lists.specs.Block.{columns}
use Rattle.line_words.specs.declared.Arranged.{Arranged}
use Rattle.line_writing.specs.Finishing.{held, walls_by, is_open_edge}
use Rattle.line_writing.proofs.FinishLaws.{walls-count, open_metal}
use Rattle.line_blocks.specs.Blocks.{held_in, edge_in, line_in, BlockMade}
use Rattle.line_blocks.specs.declared.Pass.{Pass}
use Rattle.line_blocks.proofs.PassLaws.{passing_room}
use Rattle.line_writing.specs.Writing.{open_of, open_count, Delivering, Delivered}
use Rattle.line_blocks.specs.Walls.{room_for, StepAsk, StepDone}
use Rattle.line_writing.specs.declared.writing.Course.{Course}
use Rattle.line_blocks.specs.declared.Progress.{Progress}
use Rattle.line_writing.proofs.ListLaws.{same_none, room-same}

module _ {table : List ℕ} {arranged : Arranged} {names : ℕ} {c : LineLists} {words : List ℕ} (p : Progress) {words' cols lasts events : List ℕ} {next : Pass} {m : ℕ}
    {metal : Bool} (is : metal ≡ is_some p.run.from) (made : BlockMade table arranged names c words p.pass metal words' cols lasts events next m) where
  abbrev from : Option Edge
  from = open_of p.run

  abbrev new : List Wall
  new = walls_by (edge_in names c p.pass cols) (line_in c p.pass cols) from (take m events)

  is-open : is_open_edge from ≡ metal
  is-open = open_metal p.run.from ∙ sym is

  new-count : length new ≡ (m + open_count p.run) / 2
  new-count =
      let long : length (take m events) ≡ m = length-take-le m events (omega (arith, made.few, made.sized.events_sized)) in
      walls-count (edge_in names c p.pass cols) (line_in c p.pass cols) from (take m events) ∙ rw (long, open_metal p.run.from)

  -- no more than columns, since every other event ends a wall
  few : length new ≤ columns
  few = omega (arith, new-count, made.few, open_one (is_some p.run.from))
    where
      open_one : (t : Bool) → cond t 1 0 ≤ 1
      open_one true = omega arith
      open_one false = omega arith

  delivering : {now : AnswerLists} → StepAsk table arranged names c words p now → Delivering (held_in c p.pass cols) events m p.run now
  delivering ask =
      let s = ask.ask.going.standing in
      let all : length (ask.found ++ new) ≤ room_for names c = passing_room made.going s.formula _ (ask.found ++ new) (made.passes s.formula s.stands s.over from ask.found is-open ask.passing) in
      record {
        sized = made.sized.events_sized;
        few = made.few;
        each = made.each;
        room = room-same same_none (omega (arith, new-count)) (ask.room (length new) few (omega (arith, length-append ask.found new)));
      }

  pub step_done : {now after : AnswerLists} {r : Course} → Delivered (held_in c p.pass cols) events m p.run now r after
      → StepDone table arranged names c words p now words' cols lasts events (record { pass = next; run = r }) after
  step_done d =
      let g = d.made (start_state names c.rows) in
      record {
        new = new;
        put = g.put;
        count = g.count;
        room = d.room;
        passes = λ f st o done q. rw g.opens (made.passes f st o from done is-open q);
        going = made.going;
        long = made.long;
        sized = made.sized;
        fewer = made.fewer;
      }

pub step_delivering : {table : List ℕ} {arranged : Arranged} {names : ℕ} {rows ls : List ℕ} {ps : List ℤ} {ss : List ℕ} {words : List ℕ} (p : Progress) {words' cols lasts events : List ℕ} {next : Pass} {m : ℕ} {now : AnswerLists}
    → {metal : Bool} → metal ≡ is_some p.run.from → BlockMade table arranged names (line_lists rows ls ps ss) words p.pass metal words' cols lasts events next m → StepAsk table arranged names (line_lists rows ls ps ss) words p now
    → Delivering (held ls ps ss p.pass.cursor.i cols) events m p.run now
step_delivering p is made ask = delivering p is made ask
