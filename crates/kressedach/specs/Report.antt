-- The numbers that a caller in C or Rust gets for each outcome of a job, and the promise of each exported function.
-- A report has number, sheet and place 0 and the values; or the refusal's number, the sheet that its place is in, its place, and no values.
use Rattle.std.specs.Prelude.{ℕ, ◌≡◌, List, true, false, cond, leb, eqb, Float, length}
use Rattle.outcome.specs.Outcome.{Outcome, given, refused, unfit, part}
use Rattle.outcome.specs.Lent.{after_call}
use Rattle.sheet.specs.Sheet.{Sheets}
use Rattle.sheet_reading.specs.declared.Read.{Read}
use Rattle.lines.specs.Lines.{LineLists, AnswerLists, Wall}
use Rattle.lines.specs.Given.{WallLists}
use Rattle.job_name.specs.Naming.{Stand, stand}
use Rattle.job_names.specs.NamedAll.{NameLists}
use Rattle.job_build.specs.Building.{DwarfTree, Summary, summary, summary_of}
use Rattle.job_build.specs.Built.{BuiltLists}
use Rattle.toggles.specs.Toggles.{Answers}
use Rattle.job_run.specs.Ran.{RanLists}
use Rattle.job_both.specs.Sharing.{sharing, serving}
use Rattle.job_both.specs.Shared.{Lists}
use Rattle.line_opinion.specs.Judging.{Opinion, right, wrong_at}
use Rattle.edit_mix.specs.Edits.{Answers as EditAnswers}
use Rattle.job_edit.specs.Editing.{Lists as EditLists}
use Rattle.job_edit.specs.Edited.{EditedLists}
use Rattle.cross_cuts.specs.Cuts.{Cut}
use Rattle.cross_answer.specs.Answer.{counts_of, MadeLists, CrossedLists}
use Rattle.cross_answer.specs.declared.Counts.{Counts}
use Rattle.cross_shapes.specs.declared.Probe.{Probe}
use Rattle.cross_drawn.specs.Drawn.{Drawn}
use Rattle.cross_drawn.specs.Refusing.{OfLines, gives, refuses, part_of}
use Rattle.cross_many.specs.Answer.{many_counts_of, ManyLists}
use Rattle.cross_many.specs.declared.Counts.{Counts as ManyCounts}
use Rattle.kressedach.specs.declared.ReadReport.{ReadReport}
use Rattle.kressedach.specs.declared.NameReport.{NameReport}
use Rattle.kressedach.specs.declared.NamesReport.{NamesReport}
use Rattle.kressedach.specs.declared.MoveReport.{MoveReport}
use Rattle.kressedach.specs.declared.BuildReport.{BuildReport}
use Rattle.kressedach.specs.declared.RunReport.{RunReport}
use Rattle.kressedach.specs.declared.BothReport.{BothReport}
use Rattle.kressedach.specs.declared.ClassifyReport.{ClassifyReport}
use Rattle.kressedach.specs.declared.JudgeReport.{JudgeReport}
use Rattle.kressedach.specs.declared.CrossReport.{CrossReport}
use Rattle.kressedach.specs.declared.CrossManyReport.{CrossManyReport}

-- A place in 1 to 7 or 17 says which sheet: 1 the fittings sheet, 2 the customer's, also where it is alone; 0 where it is in none.
abbrev pub sheet_of : ℕ → ℕ
sheet_of number = cond (leb number 7) 2 (cond (eqb number 17) 2 0)

abbrev pub read_report : Outcome Read → ReadReport
read_report (given read) =
    record { number = 0; sheet = 0; place = 0; names = read.names; leaves = read.leaves; first = read.first; past = read.past }
read_report (refused number place) =
    record { number = number; sheet = sheet_of number; place = place; names = 0; leaves = 0; first = 0; past = 0 }
read_report (unfit number place) =
    record { number = number; sheet = 1; place = place; names = 0; leaves = 0; first = 0; past = 0 }

-- Where a name stands: the sheet is the one that holds it.
abbrev pub name_report : Outcome Stand → NameReport
name_report (given (stand sheet first past)) = record { number = 0; sheet = sheet; place = 0; first = first; past = past }
name_report (refused number place) = record { number = number; sheet = sheet_of number; place = place; first = 0; past = 0 }
name_report (unfit number place) = record { number = number; sheet = 1; place = place; first = 0; past = 0 }

-- Where all names stand: how many they are.
abbrev pub names_report : Outcome ℕ → NamesReport
names_report (given names) = record { number = 0; sheet = 0; place = 0; names = names }
names_report (refused number place) = record { number = number; sheet = sheet_of number; place = place; names = 0 }
names_report (unfit number place) = record { number = number; sheet = 1; place = place; names = 0 }

-- How many bytes the moved sheet has.
abbrev pub move_report : Outcome ℕ → MoveReport
move_report (given length) = record { number = 0; sheet = 0; place = 0; length = length }
move_report (refused number place) = record { number = number; sheet = sheet_of number; place = place; length = 0 }
move_report (unfit number place) = record { number = number; sheet = 1; place = place; length = 0 }

abbrev pub build_report : Outcome Summary → BuildReport
build_report (given (summary leaves nodes rounds height)) =
    record { number = 0; sheet = 0; place = 0; leaves = leaves; nodes = nodes; rounds = rounds; height = height }
build_report (refused number place) =
    record { number = number; sheet = sheet_of number; place = place; leaves = 0; nodes = 0; rounds = 0; height = 0 }
build_report (unfit number place) =
    record { number = number; sheet = 1; place = place; leaves = 0; nodes = 0; rounds = 0; height = 0 }

abbrev pub run_report : Outcome ℕ → RunReport
run_report (given nodes) = record { number = 0; sheet = 0; place = 0; nodes = nodes }
run_report (refused number place) = record { number = number; sheet = sheet_of number; place = place; nodes = 0 }
run_report (unfit number place) =
    record { number = number; sheet = 1; place = place; nodes = 0 }

abbrev pub classify_report : Outcome ℕ → ClassifyReport
classify_report (given walls) = record { number = 0; sheet = 0; place = 0; walls = walls }
classify_report (refused number place) = record { number = number; sheet = sheet_of number; place = place; walls = 0 }
classify_report (unfit number place) =
    record { number = number; sheet = 1; place = place; walls = 0 }

-- Whether their list, of n entries, is right; and the index of the first entry after which no right list could begin that way, or n if it only lacks entries or is right.
abbrev pub judge_report : ℕ → Outcome Opinion → JudgeReport
judge_report n (given right) = record { number = 0; sheet = 0; right = true; place = 0; index = n }
judge_report n (given (wrong_at k)) = record { number = 0; sheet = 0; right = false; place = 0; index = k }
judge_report n (refused number place) =
    record { number = number; sheet = sheet_of number; right = false; place = place; index = 0 }
judge_report n (unfit number place) =
    record { number = number; sheet = 1; right = false; place = place; index = 0 }

-- The crossing makers take no sheet: their report has none.
abbrev pub cross_report : Outcome Counts → CrossReport
cross_report (given counts) = record { number = 0; place = 0; shapes = counts.shapes; crossings = counts.crossings }
cross_report (refused number place) = record { number = number; place = place; shapes = 0; crossings = 0 }
cross_report (unfit number place) = record { number = number; place = place; shapes = 0; crossings = 0 }

-- For many lines it says which line is refused, and how many lines there are.
abbrev pub cross_many_report : OfLines ManyCounts → CrossManyReport
cross_many_report (gives counts) = record { number = 0; place = 0; line = 0; lines = counts.lines; crossings = counts.crossings }
cross_many_report (refuses number place line) = record { number = number; place = place; line = line; lines = 0; crossings = 0 }

-- A probe line: its origin, then its direction.
abbrev pub probe_of : Float → Float → Float → Float → Float → Float → Probe
probe_of ox oy oz dx dy dz = record { ox = ox; oy = oy; oz = oz; dx = dx; dy = dy; dz = dz }

-- Of the job's outcome and the lists as lent: the report r, and the lists after the call.
pub record NamesReported (o : Outcome (List Stand)) (sheets firsts pasts : List ℕ) (r : NamesReport) (sheets' firsts' pasts' : List ℕ) : Type 0 where
  pub report : r ≡ names_report (part length o)
  pub lists : NameLists o sheets firsts pasts sheets' firsts' pasts'

pub record MoveReported (o : Outcome (List ℕ)) (moved : List ℕ) (r : MoveReport) (moved' : List ℕ) : Type 0 where
  pub report : r ≡ move_report (part length o)
  pub list : moved' ≡ after_call o moved

pub record BuildReported (o : Outcome DwarfTree) (kinds firsts seconds : List ℕ) (r : BuildReport) (kinds' firsts' seconds' : List ℕ) : Type 0 where
  pub report : r ≡ build_report (part summary_of o)
  pub lists : BuiltLists o kinds firsts seconds kinds' firsts' seconds'

pub record RunReported (o : Outcome Answers) (roots counts labels : List ℕ) (r : RunReport) (roots' counts' labels' : List ℕ) : Type 0 where
  pub report : r ≡ run_report (part (λ a. length a.final) o)
  pub lists : RanLists o roots counts labels roots' counts' labels'

-- A run with edits reports as a run does.
pub record EditReported (o : Outcome EditAnswers) (lent : EditLists) (r : RunReport) (after : EditLists) : Type 0 where
  pub report : r ≡ run_report (part (λ a. length a.final) o)
  pub lists : EditedLists o lent after

-- Each foundry has a report and lists of its own.
pub record BothReported (c : Sheets) (order first second : List ℕ) (lent₁ lent₂ : Lists) (r : BothReport) (after₁ after₂ : Lists) : Type 0 where
  pub to_first : RunReported (serving (sharing c order first second) first (length lent₁.roots) (length lent₁.counts) (length lent₁.labels))
      lent₁.roots lent₁.counts lent₁.labels r.first after₁.roots after₁.counts after₁.labels
  pub to_second : RunReported (serving (sharing c order first second) second (length lent₂.roots) (length lent₂.counts) (length lent₂.labels))
      lent₂.roots lent₂.counts lent₂.labels r.second after₂.roots after₂.counts after₂.labels

pub record ClassifyReported (o : Outcome (List Wall)) (lent : AnswerLists) (r : ClassifyReport) (after : AnswerLists) : Type 0 where
  pub report : r ≡ classify_report (part length o)
  pub lists : WallLists o lent after

pub record CrossReported (o : Outcome (List Cut)) (lent : MadeLists) (r : CrossReport) (after : MadeLists) : Type 0 where
  pub report : r ≡ cross_report (part counts_of o)
  pub lists : CrossedLists o lent after

pub record CrossManyReported (o : OfLines Drawn) (lent : LineLists) (r : CrossManyReport) (after : LineLists) : Type 0 where
  pub report : r ≡ cross_many_report (part_of many_counts_of o)
  pub lists : ManyLists o lent after
