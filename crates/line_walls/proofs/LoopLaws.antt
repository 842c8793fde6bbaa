-- The whole pass: the walls from the first block to the last.
use Prim.Native.Nat.{ℕ, ◌+◌, ◌*◌}
use native.Mathlib.Omega.{arith}
use mathlib.Core.Path.{◌≡◌, refl, ◌∙◌}
use mathlib.Core.Bool.{Bool, true, false, ◌||◌}
use mathlib.Core.List.{List, [], ◌++◌}
use lib.Dec.{ltb}
use lib.ListN.{length, replicate}
use Rattle.formula.specs.Formula.{Formula, postfix, Over}
use Rattle.lines.specs.Lines.{LineLists, row_count, AnswerLists, Wall}
use Rattle.line_lists.specs.Block.{columns}
use Rattle.line_words.specs.Stretches.{StandFor}
use Rattle.line_words.specs.declared.Arranged.{Arranged}
use Rattle.line_blocks.specs.Blocks.{Sized, PassingAt, Going, CanPass, CallMade}
use Rattle.line_blocks.specs.declared.Call.{Call}
use Rattle.line_blocks.proofs.PassLaws.{going_start, sized-start, passing_start, going_ask, passing_end}
use Rattle.line_writing.specs.Writing.{open_of, SameLengths, HasRoom, Written}
use Rattle.line_blocks.specs.Walls.{room_for, StepAsk, StepDone, NothingDone}
use Rattle.line_blocks.specs.declared.Progress.{Progress}
use Rattle.line_writing.proofs.ListLaws.{put_same, same_none, same_more, room-same, room_back, written_none, written_more}
use Rattle.line_walls.specs.Writing.{WallsWritten, WallsGiven}

-- of a formula's walls those found are written
pub record PassOf (f : Formula) (names : ℕ) (c : LineLists) (words : List ℕ) (p : Progress) (lent now : AnswerLists) : Type 0 where
  pub done : List Wall
  pub passing : PassingAt f names c p.pass words (open_of p.run) done
  pub written : Written done lent p.run.count now

-- what the loop keeps
pub record Looping (table : List ℕ) (arranged : Arranged) (names : ℕ) (c : LineLists) (lent : AnswerLists) (count : ℕ) (words₀ words cols lasts events : List ℕ) (p : Progress) (now : AnswerLists) : Type 0 where
  pub going : Going table arranged names c words p.pass
  pub room : HasRoom (room_for names c) lent
  pub same : SameLengths lent now
  pub passed : (f : Formula) → StandFor (postfix f) table arranged → Over names f → PassOf f names c words p lent now
  pub kept : length words ≡ length words₀
  pub sized : Sized cols lasts events p.pass.numbered
  pub counted : count ≡ row_count names c.rows

module _ {table : List ℕ} {arranged : Arranged} {names : ℕ} {air : Bool} {c : LineLists} {words : List ℕ} {lent : AnswerLists} where
  pub looping_start : CanPass table arranged names air c words → HasRoom (room_for names c) lent → {count : ℕ} → count ≡ row_count names c.rows → {p : Progress} → NothingDone names c.rows p
      → Looping table arranged names c lent count words words (replicate columns 0) (replicate 8 0) (replicate (2 * columns) 0) p lent
  looping_start can room counted {p} b =
      record {
        going = going_start can b.begun;
        room = room;
        same = same_none;
        passed = λ f st o. record { done = []; passing = rw b.air (passing_start can b.begun f); written = rw b.none written_none };
        kept = refl;
        sized = sized-start can b.begun;
        counted = counted;
      }

module _ {table : List ℕ} {arranged : Arranged} {names : ℕ} {c : LineLists} {lent : AnswerLists} {count : ℕ} {words₀ words cols lasts events : List ℕ} {p : Progress} {now : AnswerLists} (l : Looping table arranged names c lent count words₀ words cols lasts events p now) where
  pub looping_sized : Sized cols lasts events p.pass.numbered
  looping_sized = l.sized

  pub looping_more : {words' cols' lasts' events' : List ℕ} {p' : Progress} {after : AnswerLists} → StepDone table arranged names c words p now words' cols' lasts' events' p' after
      → Looping table arranged names c lent count words₀ words' cols' lasts' events' p' after
  looping_more d =
      record {
        going = d.going;
        room = l.room;
        same = same_more l.same (put_same d.put);
        passed = λ f st o.
            let q = l.passed f st o in
            record { done = q.done ++ d.new; passing = d.passes f st o q.done q.passing; written = written_more q.written d.count (room_back l.same d.room) d.put };
        kept = d.long ∙ l.kept;
        sized = d.sized;
        counted = l.counted;
      }

  module _ {t : Bool} (is : t ≡ (ltb p.pass.cursor.i (length c.lines) || ltb p.pass.cursor.q count)) where
    pub looping_ask : t ≡ true → StepAsk table arranged names c words p now
    looping_ask yes-left =
        let a = going_ask l.going count l.counted t is yes-left in
        let s = a.going.standing in
        let q = l.passed s.formula s.stands s.over in
        record {
          ask = a;
          found = q.done;
          passing = q.passing;
          room = λ n few h. room-same l.same (omega (arith, h, q.written.count)) l.room;
        }

    pub looping_end : t ≡ false → WallsWritten table arranged names c lent p.run.count now
    looping_end none_left =
        record {
          written = λ f st o.
              let q = l.passed f st o in
              rw (passing_end l.going count l.counted t is f (open_of p.run) q.done none_left q.passing) q.written;
        }

-- ---- the call of a formula by its codes

module _ {codes : List ℕ} {names : ℕ} {air : Bool} {rows table : List ℕ} {call : Call} {lent : AnswerLists} (m : CallMade codes names air rows table call) where
  pub call-room : (n : ℕ) → HasRoom (n + row_count names rows) lent → HasRoom (n + row_count call.names rows) lent
  call-room n room = rw m.named room

  pub walls-given : {c : LineLists} {k : ℕ} {after : AnswerLists} → WallsWritten table call.arranged call.names c lent k after → WallsGiven codes names c lent k after
  walls-given {c} {k} {after} w =
      let g : WallsWritten table call.arranged names c lent k after = rw m.named at w in
      record { written = λ f q o. g.written f (rw q at m.stands) o }
