-- Dwarf listings, toggles, also of two foundries and with edits, walls and judgements of a moved sheet are unchanged: document 02, K10.
use Prim.Native.Nat.{ℕ}
use mathlib.Core.Path.{◌≡◌, refl}
use mathlib.Core.Bool.{Bool, true, false}
use mathlib.Core.List.{List}
use lib.ListN.{length}
use Rattle.outcome.specs.Outcome.{given, need, ◌>>=◌, ◌>>◌}
use Rattle.sheet.specs.Sheet.{Sheets, Sheet, reading}
use Rattle.accepting.specs.Accepting.{accepted}
use Rattle.accepting.proofs.Accepted.{accepted-given}
use Rattle.lines.specs.Lines.{LineLists, AnswerLists}
use Rattle.job_build.specs.Building.{building}
use Rattle.job_run.specs.Running.{toggling, running}
use Rattle.order_mixing.specs.Order.{mixes}
use Rattle.job_both.specs.Sharing.{sharing, serving}
use Rattle.job_edit.specs.Editing.{Lists as EditLists, running_edited}
use Rattle.job_classify.specs.Classifying.{classifying}
use Rattle.line_opinion.specs.Judging.{TheirLists}
use Rattle.job_judge.specs.Judging.{judging}
use Rattle.job_move.specs.Moving.{other}
use Rattle.job_move.specs.Journey.{moved_in, in_edition}
use Rattle.job_move.proofs.Journey.{reading-moves}

module _ (c : Sheets) (r : Sheet) (read : reading c ≡ given r) where
  -- A moved sheet is accepted.
  moved-accepted : accepted (moved_in c r) ≡ given (in_edition (other r.edition) r)
  moved-accepted = accepted-given (moved_in c r) (in_edition (other r.edition) r) (reading-moves c r read)

  pub build_moved : (kinds firsts seconds : ℕ) → building (moved_in c r) kinds firsts seconds ≡ building c kinds firsts seconds
  unfolding building
  build_moved kinds firsts seconds = rw (moved-accepted, accepted-given c r read)

  pub run_moved : (toggles : List ℕ) (roots counts labels : ℕ) → running (moved_in c r) toggles roots counts labels ≡ running c toggles roots counts labels
  unfolding running
  run_moved toggles roots counts labels = rw (moved-accepted, accepted-given c r read)

  pub classify_moved : (lines : LineLists) (lent : AnswerLists) → classifying (moved_in c r) lines lent ≡ classifying c lines lent
  unfolding classifying
  classify_moved lines lent = rw (moved-accepted, accepted-given c r read)

  pub judge_moved : (lines : LineLists) (theirs : TheirLists) → judging (moved_in c r) lines theirs ≡ judging c lines theirs
  unfolding judging
  judge_moved lines theirs = rw (moved-accepted, accepted-given c r read)

  -- Positions of edits are postfix, whatever the edition.
  pub edits_moved : (toggles moments positions codes : List ℕ) (lent : EditLists) → running_edited (moved_in c r) toggles moments positions codes lent ≡ running_edited c toggles moments positions codes lent
  unfolding running_edited
  edits_moved toggles moments positions codes lent = rw (moved-accepted, accepted-given c r read)

  -- Each of two foundries gets the same.
  pub served_moved : (order first second toggles : List ℕ) (roots counts labels : ℕ)
      → serving (sharing (moved_in c r) order first second) toggles roots counts labels ≡ serving (sharing c order first second) toggles roots counts labels
  unfolding sharing serving
  served_moved order first second toggles roots counts labels = rw (moved-accepted, accepted-given c r read) (by (mixes order (length first) (length second)))
    where
      by : (b : Bool)
          → ((need b 13 0 >> given (in_edition (other r.edition) r)) >>= λ sheet. toggling sheet.formula (length sheet.names) toggles roots counts labels)
          ≡ ((need b 13 0 >> given r) >>= λ sheet. toggling sheet.formula (length sheet.names) toggles roots counts labels)
      by true = refl
      by false = refl
