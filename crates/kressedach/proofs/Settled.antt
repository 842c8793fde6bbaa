-- What the promise of each exported function settles: two results that meet it are equal, and number 0 says that the job is given.
use Prim.Native.Nat.{ℕ}
use native.Mathlib.Omega.{arith}
use mathlib.Core.Path.{◌≡◌, refl, sym, ap₂, ◌∙◌}
use mathlib.Core.List.{List}
use lib.Ieee.{Float}
use lib.IntN.{ℤ}
use lib.ListN.{length}
use Rattle.outcome.specs.Outcome.{Outcome, given, refused, unfit, part}
use Rattle.outcome.specs.Numbered.{Numbered}
use Rattle.outcome.specs.Settled.{Unique, Three}
use Rattle.outcome.proofs.NumberedLaws.{part-numbered}
use Rattle.outcome.proofs.Settling.{reported}
use Rattle.sheet.specs.Sheet.{Sheets, reading}
use Rattle.sheet_reading.specs.Reading.{numbers_of, told}
use Rattle.sheet_reading.specs.declared.Read.{Read}
use Rattle.sheet.proofs.Numbered.{reading-numbered}
use Rattle.lines.specs.Lines.{LineLists, AnswerLists}
use Rattle.job_name.specs.Naming.{Stand, placing}
use Rattle.job_name.proofs.Settled.{name-numbered}
use Rattle.job_names.specs.Names.{naming_all}
use Rattle.job_names.proofs.Settled.{names-numbered}
use Rattle.job_move.specs.Moving.{moving}
use Rattle.job_move.proofs.Settled.{move_numbered}
use Rattle.job_build.specs.Building.{Summary, summary_of, building}
use Rattle.job_build.proofs.Settled.{build_numbered}
use Rattle.job_run.specs.Running.{running}
use Rattle.job_edit.specs.Editing.{Lists as EditLists, running_edited}
use Rattle.job_edit.proofs.Settled.{edit-numbered}
use Rattle.job_run.proofs.Settled.{run_numbered}
use Rattle.job_both.specs.Sharing.{sharing, serving}
use Rattle.job_both.specs.Shared.{Lists}
use Rattle.job_both.proofs.Settled.{served_numbered}
use Rattle.job_classify.specs.Classifying.{classifying}
use Rattle.job_classify.proofs.Settled.{classify_numbered}
use Rattle.line_opinion.specs.Judging.{TheirLists, Opinion}
use Rattle.job_judge.specs.Judging.{judging}
use Rattle.job_judge.proofs.Settled.{judge_numbered}
use Rattle.cross_answer.specs.Answer.{counts_of}
use Rattle.cross_answer.specs.declared.Counts.{Counts}
use Rattle.cross_shapes.specs.declared.Probe.{Probe}
use Rattle.cross_line.specs.Crossing.{crossing_shapes}
use Rattle.cross_line.proofs.Settled.{shapes_numbered}
use Rattle.cross_balls.specs.Balls.{crossing_balls}
use Rattle.cross_balls.proofs.Settled.{balls_numbered}
use Rattle.cross_drawn.specs.Drawn.{Drawn}
use Rattle.cross_drawn.specs.Refusing.{OfLines, gives, refuses, outcome_of, part_of}
use Rattle.cross_many.specs.Crossing.{crossing_many}
use Rattle.cross_many.specs.Answer.{many_counts_of}
use Rattle.cross_many.proofs.Settled.{many_numbered}
use Rattle.kressedach.specs.Report.{read_report, name_report, names_report, move_report, build_report, run_report, classify_report, judge_report, cross_report, cross_many_report, NamesReported, MoveReported, BuildReported, RunReported, EditReported, BothReported, ClassifyReported, CrossReported, CrossManyReported}
use Rattle.kressedach.specs.declared.ReadReport.{ReadReport}
use Rattle.kressedach.specs.declared.NameReport.{NameReport}
use Rattle.kressedach.specs.declared.BothReport.{BothReport}
use Rattle.kressedach.specs.declared.JudgeReport.{JudgeReport}

-- ---- Two results that meet a promise are equal

pub read_report_unique : (s : Sheets) (r q : ReadReport) → r ≡ read_report (told s) → q ≡ read_report (told s) → r ≡ q
read_report_unique s r q a b = a ∙ sym b

pub name_report_unique : (s : Sheets) (k : ℕ) (r q : NameReport) → r ≡ name_report (placing s k) → q ≡ name_report (placing s k) → r ≡ q
name_report_unique s k r q a b = a ∙ sym b

pub names_report_unique : Unique (Three NamesReported)
names_report_unique = reported (λ o lent r after a. a.report) (λ o lent r after a i. (a.lists.sheets_list i, a.lists.firsts_list i, a.lists.pasts_list i))

pub move_report_unique : Unique MoveReported
move_report_unique = reported (λ o lent r after a. a.report) (λ o lent r after a. a.list)

pub build_report_unique : Unique (Three BuildReported)
build_report_unique = reported (λ o lent r after a. a.report) (λ o lent r after a i. (a.lists.kinds_list i, a.lists.firsts_list i, a.lists.seconds_list i))

pub run_report_unique : Unique (Three RunReported)
run_report_unique = reported (λ o lent r after a. a.report) (λ o lent r after a i. (a.lists.roots_list i, a.lists.counts_list i, a.lists.labels_list i))

pub edit_report_unique : Unique EditReported
edit_report_unique =
    reported (λ o lent r after a. a.report)
    (λ o lent r after a i. record { roots = a.lists.roots_list i; counts = a.lists.counts_list i; labels = a.lists.labels_list i; edit_counts = a.lists.edit_counts_list i })

pub both_report_unique : (c : Sheets) (order first second : List ℕ) (lent₁ lent₂ : Lists) (r q : BothReport) (after₁ after₂ other₁ other₂ : Lists)
    → BothReported c order first second lent₁ lent₂ r after₁ after₂ → BothReported c order first second lent₁ lent₂ q other₁ other₂ → (r ≡ q) × (after₁ ≡ other₁) × (after₂ ≡ other₂)
both_report_unique c order first second lent₁ lent₂ r q after₁ after₂ other₁ other₂ a b =
    let u = each _ lent₁ r.first q.first after₁ other₁ a.to_first b.to_first in
    let v = each _ lent₂ r.second q.second after₂ other₂ a.to_second b.to_second in
    (ap₂ (λ x y. record { first = x; second = y }) u.0 v.0, u.1, v.1)
  where
    each : Unique (λ o (lent : Lists) r (after : Lists). RunReported o lent.roots lent.counts lent.labels r after.roots after.counts after.labels)
    each =
        reported (λ o lent r after a. a.report)
        (λ o lent r after a i. record { roots = a.lists.roots_list i; counts = a.lists.counts_list i; labels = a.lists.labels_list i })

pub classify_report_unique : Unique ClassifyReported
classify_report_unique =
    reported (λ o lent r after a. a.report)
    (λ o lent r after a i. record { lines = a.lists.lines_list i; starts = a.lists.starts_list i; ends = a.lists.ends_list i; start_shapes = a.lists.start_shapes_list i; end_shapes = a.lists.end_shapes_list i })

pub judge_report_unique : (s : Sheets) (c : LineLists) (t : TheirLists) (n : ℕ) (r q : JudgeReport) → r ≡ judge_report n (judging s c t) → q ≡ judge_report n (judging s c t) → r ≡ q
judge_report_unique s c t n r q a b = a ∙ sym b

-- of shapes and of balls
pub cross_report_unique : Unique CrossReported
cross_report_unique =
    reported (λ o lent r after a. a.report) (λ o lent r after a i. record { starts = a.lists.starts_list i; positions = a.lists.positions_list i; shapes = a.lists.shapes_list i })

pub cross_many_report_unique : Unique CrossManyReported
cross_many_report_unique =
    reported (λ o lent r after a. a.report)
    (λ o lent r after a i. record { rows = a.lists.rows_list i; lines = a.lists.lines_list i; positions = a.lists.positions_list i; shapes = a.lists.shapes_list i })

-- ---- Number 0 says that the job is given: no refusal has it

-- told by the number of any report that gives a refusal's number as it is
module _ {B : Type 0} (number : Outcome B → ℕ) (is : (k p : ℕ) → (number (refused k p) ≡ k) × (number (unfit k p) ≡ k)) where
  told-given : (o : Outcome B) → Numbered o → number o ≡ 0 → (v : B) × (o ≡ given v)
  told-given (given v) h zero = (v, refl)
  told-given (refused k p) h zero = absurd (omega (arith, h.above_0 k p refl, (is k p).0))
  told-given (unfit k p) h zero = absurd (omega (arith, h.unfit_above_0 k p refl, (is k p).1))

  part-given : {A : Type 0} (f : A → B) (o : Outcome A) → Numbered o → number (part f o) ≡ 0 → (v : B) × (part f o ≡ given v)
  part-given f o h = told-given (part f o) (part-numbered f o h)

pub read-given : (s : Sheets) → (read_report (told s)).number ≡ 0 → (v : Read) × (told s ≡ given v)
unfolding told
read-given s = part-given (λ o. (read_report o).number) (λ k p. (refl, refl)) numbers_of (reading s) (reading-numbered s)

pub name-given : (s : Sheets) (k : ℕ) → (name_report (placing s k)).number ≡ 0 → (v : Stand) × (placing s k ≡ given v)
name-given s k = told-given (λ o. (name_report o).number) (λ k p. (refl, refl)) (placing s k) (name-numbered s k)

pub names-given : (s : Sheets) (a b c : ℕ) → (names_report (part length (naming_all s a b c))).number ≡ 0 → (v : ℕ) × (part length (naming_all s a b c) ≡ given v)
names-given s a b c = part-given (λ o. (names_report o).number) (λ k p. (refl, refl)) length (naming_all s a b c) (names-numbered s a b c)

pub move_given : (s : Sheets) (a : ℕ) → (move_report (part length (moving s a))).number ≡ 0 → (v : ℕ) × (part length (moving s a) ≡ given v)
move_given s a = part-given (λ o. (move_report o).number) (λ k p. (refl, refl)) length (moving s a) (move_numbered s a)

pub build_given : (s : Sheets) (a b c : ℕ) → (build_report (part summary_of (building s a b c))).number ≡ 0 → (v : Summary) × (part summary_of (building s a b c) ≡ given v)
build_given s a b c = part-given (λ o. (build_report o).number) (λ k p. (refl, refl)) summary_of (building s a b c) (build_numbered s a b c)

pub run_given : (s : Sheets) (ts : List ℕ) (a b c : ℕ) → (run_report (part (λ v. length v.final) (running s ts a b c))).number ≡ 0 → (v : ℕ) × (part (λ v. length v.final) (running s ts a b c) ≡ given v)
run_given s ts a b c = part-given (λ o. (run_report o).number) (λ k p. (refl, refl)) (λ v. length v.final) (running s ts a b c) (run_numbered s ts a b c)

pub edit-given : (s : Sheets) (toggles ms ps cs : List ℕ) (lent : EditLists) → (run_report (part (λ v. length v.final) (running_edited s toggles ms ps cs lent))).number ≡ 0
    → (v : ℕ) × (part (λ v. length v.final) (running_edited s toggles ms ps cs lent) ≡ given v)
edit-given s toggles ms ps cs lent = part-given (λ o. (run_report o).number) (λ k p. (refl, refl)) (λ v. length v.final) (running_edited s toggles ms ps cs lent) (edit-numbered s toggles ms ps cs lent)

pub foundry_given : (c : Sheets) (order first second toggles : List ℕ) (a b d : ℕ) → (run_report (part (λ v. length v.final) (serving (sharing c order first second) toggles a b d))).number ≡ 0
    → (v : ℕ) × (part (λ v. length v.final) (serving (sharing c order first second) toggles a b d) ≡ given v)
foundry_given c order first second toggles a b d = part-given (λ o. (run_report o).number) (λ k p. (refl, refl)) (λ v. length v.final) (serving (sharing c order first second) toggles a b d) (served_numbered c order first second toggles a b d)

pub classify_given : (s : Sheets) (c : LineLists) (lent : AnswerLists) → (classify_report (part length (classifying s c lent))).number ≡ 0 → (v : ℕ) × (part length (classifying s c lent) ≡ given v)
classify_given s c lent = part-given (λ o. (classify_report o).number) (λ k p. (refl, refl)) length (classifying s c lent) (classify_numbered s c lent)

pub judge_given : (s : Sheets) (c : LineLists) (t : TheirLists) (n : ℕ) → (judge_report n (judging s c t)).number ≡ 0 → (v : Opinion) × (judging s c t ≡ given v)
judge_given s c t n = told-given (λ o. (judge_report n o).number) (λ k p. (refl, refl)) (judging s c t) (judge_numbered s c t)

pub cross_given : (probe : Probe) (kinds : List ℕ) (numbers : List Float) (a b c : ℕ) → (cross_report (part counts_of (crossing_shapes probe kinds numbers a b c))).number ≡ 0
    → (v : Counts) × (part counts_of (crossing_shapes probe kinds numbers a b c) ≡ given v)
cross_given probe kinds numbers a b c = part-given (λ o. (cross_report o).number) (λ k p. (refl, refl)) counts_of (crossing_shapes probe kinds numbers a b c) (shapes_numbered probe kinds numbers a b c)

pub cross_balls_given : (numbers : List ℤ) (a b c : ℕ) → (cross_report (part counts_of (crossing_balls numbers a b c))).number ≡ 0 → (v : Counts) × (part counts_of (crossing_balls numbers a b c) ≡ given v)
cross_balls_given numbers a b c = part-given (λ o. (cross_report o).number) (λ k p. (refl, refl)) counts_of (crossing_balls numbers a b c) (balls_numbered numbers a b c)

pub cross_many_given : (kinds : List ℕ) (numbers lines : List Float) (lent : LineLists) → (cross_many_report (part_of many_counts_of (crossing_many kinds numbers lines lent))).number ≡ 0
    → (v : Drawn) × (outcome_of (crossing_many kinds numbers lines lent) ≡ given v)
cross_many_given kinds numbers lines lent = by (crossing_many kinds numbers lines lent) (many_numbered kinds numbers lines lent)
  where
    by : (o : OfLines Drawn) → Numbered (outcome_of o) → (cross_many_report (part_of many_counts_of o)).number ≡ 0 → (v : Drawn) × (outcome_of o ≡ given v)
    by (gives v) h zero = (v, refl)
    by (refuses k p l) h zero = absurd (omega (arith, h.above_0 k p refl))
