-- What the judgement decides of the answer and the lists.
use Prim.Native.Nat.{ℕ, ◌+◌, ◌/◌}
use mathlib.Core.Path.{◌≡◌, sym, ap, ◌∙◌}
use mathlib.Core.Bool.{Bool}
use mathlib.Core.List.{List}
use borrow.Author.Tests.{leb-true}
use lib.Dec.{leb}
use lib.IntN.{ℤ}
use lib.ListN.{length}
use Rattle.outcome.specs.Outcome.{Outcome, given, refused, need}
use Rattle.std.proofs.Common.{Result, Ok, Err}
use Rattle.outcome.specs.Refusing.{number_of, judged as told}
use Rattle.outcome.specs.declared.Fault.{Fault}
use Rattle.outcome.proofs.Questions.{need_yes}
use Rattle.formula.specs.Formula.{Formula}
use Rattle.lines.specs.Lines.{LineLists, line_lists, row_count, judged, AnswerLists, roomy_lists, walls, classified}
use Rattle.lines.specs.AtIndex.{Accepted}
use Rattle.lines.proofs.Judgement.{both}
use Rattle.line_checking.specs.Verdicts.{Judged}
use Rattle.line_blocks.proofs.PassLaws.{verdict-told}
use Rattle.line_writing.specs.Writing.{HasRoom, Written}
use Rattle.line_walls.specs.Writing.{WallsGiven}
use Rattle.line_walls.specs.Answers.{LinesAnswered, JobDone}

roomy_so : (n : ℕ) (lent : AnswerLists) → roomy_lists n lent ≡ given tt → HasRoom n lent
roomy_so h lent e =
    let p = both (need (leb h (length lent.lines)) 9 h) _ tt e in
    let q = both (need (leb h (length lent.starts)) 9 h) _ tt p.1 in
    let r = both (need (leb h (length lent.ends)) 9 h) _ tt q.1 in
    let s = both (need (leb h (length lent.start_shapes)) 9 h) (need (leb h (length lent.end_shapes)) 9 h) tt r.1 in
    record {
      lines = leb-true h _ (need_yes _ 9 h p.0);
      starts = leb-true h _ (need_yes _ 9 h q.0);
      ends = leb-true h _ (need_yes _ 9 h r.0);
      start_shapes = leb-true h _ (need_yes _ 9 h s.0);
      end_shapes = leb-true h _ (need_yes _ 9 h s.1);
    }

-- a refusal writes nothing
refused-judged : (f : Formula) (names : ℕ) (c : LineLists) (lent : AnswerLists) (fault : Fault) → judged names c ≡ refused (number_of fault.reason) fault.place → LinesAnswered (classified f names c lent) lent (Err fault) lent
unfolding classified
refused-judged f names c lent fault e = record { answer = rw e; lists = record { lines_list = rw e; starts_list = rw e; ends_list = rw e; start_shapes_list = rw e; end_shapes_list = rw e } }

module _ (f : Formula) (names : ℕ) (c : LineLists) (lent : AnswerLists) (good : judged names c ≡ given tt) where
  refused-room : (fault : Fault) → roomy_lists (length c.lines / 2 + row_count names c.rows) lent ≡ refused (number_of fault.reason) fault.place → LinesAnswered (classified f names c lent) lent (Err fault) lent
  unfolding classified
  refused-room fault g = record { answer = rw (good, g); lists = record { lines_list = rw (good, g); starts_list = rw (good, g); ends_list = rw (good, g); start_shapes_list = rw (good, g); end_shapes_list = rw (good, g) } }

  given-walls : (k : ℕ) (after : AnswerLists) → roomy_lists (length c.lines / 2 + row_count names c.rows) lent ≡ given tt → Written (walls f names c) lent k after → LinesAnswered (classified f names c lent) lent (Ok k) after
  unfolding classified
  given-walls k after g w =
      let is : classified f names c lent ≡ given (walls f names c) = rw (good, g) in
      record {
        answer = rw is (ap given w.count);
        lists = record { lines_list = rw is w.lines; starts_list = rw is w.starts; ends_list = rw is w.ends; start_shapes_list = rw is w.start_shapes; end_shapes_list = rw is w.end_shapes };
      }

pub job-refused : {codes : List ℕ} {names : ℕ} {c : LineLists} {lent : AnswerLists} {fault : Fault} {v : Result Bool Fault} → Judged names c v → v ≡ Err fault → JobDone codes names c lent (Err fault) lent
job-refused {names = names} {c = c} {lent = lent} {fault = fault} j is = record { answered_so = λ f q o. refused-judged f names c lent fault (verdict-told j.is is) }

-- what the room is found to be
room-told : {w v : Result (Unit {0}) Fault} {o : Outcome (Unit {0})} → told w ≡ o → w ≡ v → o ≡ told v
room-told e q = sym e ∙ ap told q

module _ {codes : List ℕ} {names : ℕ} {rows ls : List ℕ} {ps : List ℤ} {ss : List ℕ} {lent : AnswerLists} {w : Result (Unit {0}) Fault} (good : Accepted names (line_lists rows ls ps ss)) (room : told w ≡ roomy_lists (length ls / 2 + length rows / names) lent) where
  pub room-refused : {fault : Fault} → w ≡ Err fault → JobDone codes names (line_lists rows ls ps ss) lent (Err fault) lent
  room-refused {fault} is = record { answered_so = λ f q o. refused-room f names (line_lists rows ls ps ss) lent good.judged_so fault (room-told room is) }

  pub job-given : {u : Unit {0}} → w ≡ Ok u → {k : ℕ} {after : AnswerLists} → WallsGiven codes names (line_lists rows ls ps ss) lent k after → JobDone codes names (line_lists rows ls ps ss) lent (Ok k) after
  job-given fine {k} {after} g = record { answered_so = λ f q o. given-walls f names (line_lists rows ls ps ss) lent good.judged_so k after (room-told room fine) (g.written f q o) }

pub room_there : (n : ℕ) {lent : AnswerLists} {w : Result (Unit {0}) Fault} {u : Unit {0}} → told w ≡ roomy_lists n lent → w ≡ Ok u → HasRoom n lent
room_there n room fine = roomy_so n _ (room-told room fine)
