-- What is reported of an answer, by its case; and that the promises settle the reports.
use Prim.Native.Nat.{ℕ, ◌≤◌, ◌<◌}
use mathlib.Core.Path.{◌≡◌, sym, ap, ◌∙◌, refl}
use mathlib.Core.List.{List}
use borrow.Author.Tests.{le-leb, lt-leb, eq-eqb, ne_eqb}
use Rattle.outcome.specs.Outcome.{Outcome, given, refused, unfit, part}
use Rattle.sheet.specs.Sheet.{Sheets}
use lib.ListN.{length}
use Rattle.std.specs.Prelude.{Result, Ok, Err}
use Rattle.outcome.specs.Refusing.{number_of, answered}
use Rattle.outcome.specs.declared.Fault.{Fault}
use Rattle.outcome.specs.declared.Refusal.{Refusal}
use Rattle.outcome.specs.declared.Refusal.TheVariants as refusal
use Rattle.sheet_reading.specs.declared.Read.{Read}
use Rattle.lines.specs.Lines.{LineLists, AnswerLists, Wall}
use Rattle.job_name.specs.Naming.{Stand}
use Rattle.job_name.specs.Named.{stood, placed_of}
use Rattle.job_name.specs.declared.Place.{Place}
use Rattle.job_names.specs.NamedAll.{NamedAll}
use Rattle.job_move.specs.Moved.{Moved}
use Rattle.job_build.specs.Building.{DwarfTree, Summary}
use Rattle.job_build.specs.Built.{figures, built_of, Built}
use Rattle.toggles.specs.Toggles.{Answers}
use Rattle.job_run.specs.Ran.{Ran}
use Rattle.edit_mix.specs.Edits.{Answers as EditAnswers}
use Rattle.job_edit.specs.Editing.{Lists as EditLists}
use Rattle.job_edit.specs.Edited.{Edited}
use Rattle.job_both.specs.Shared.{Lists, Shared}
use Rattle.job_both.specs.declared.BothAnswer.{BothAnswer}
use Rattle.job_classify.specs.Classified.{Classified}
use Rattle.tree_dwarf.specs.declared.Figures.{Figures}
use Rattle.line_opinion.specs.Judging.{Opinion}
use Rattle.job_judge.specs.Judged.{judged_of}
use Rattle.line_judge.specs.declared.Opinion as said
use Rattle.kressedach.specs.declared.ClassifyReport.{ClassifyReport}
use Rattle.cross_cuts.specs.Cuts.{Cut}
use Rattle.outcome.specs.Refusing.{judged}
use Rattle.outcome.specs.declared.Fault.{Fault}
use Rattle.cross_answer.specs.Answer.{MadeLists, Crossed}
use Rattle.cross_answer.specs.declared.Counts.{Counts}
use Rattle.cross_drawn.specs.Drawn.{Drawn}
use Rattle.cross_drawn.specs.Refusing.{OfLines}
use Rattle.cross_many.specs.Answer.{many_of, CrossedMany}
use Rattle.cross_many.specs.declared.Counts.{Counts as ManyCounts}
use Rattle.cross_many.specs.declared.LineFault.{LineFault}
use Rattle.std.proofs.Common.{Result}
use Rattle.kressedach.specs.Report.{sheet_of, read_report, name_report, names_report, move_report, build_report, run_report, classify_report, judge_report, cross_report, cross_many_report, NamesReported, MoveReported, BuildReported, RunReported, EditReported, BothReported, ClassifyReported, CrossReported, CrossManyReported}
use Rattle.kressedach.specs.declared.JudgeReport.{JudgeReport}
use Rattle.kressedach.specs.declared.CrossReport.{CrossReport}
use Rattle.kressedach.specs.declared.CrossManyReport.{CrossManyReport}
use Rattle.kressedach.specs.declared.RunReport.{RunReport}

-- ---- sheetOf, by the number

module _ {k : ℕ} where
  pub sheet-low : k ≤ 7 → 2 ≡ sheet_of k
  sheet-low h = rw (le-leb k 7 h)

  pub sheet_17 : 7 < k → k ≡ 17 → 2 ≡ sheet_of k
  sheet_17 h e = rw (lt-leb k 7 h, eq-eqb k 17 e)

  pub sheet-none : 7 < k → (k ≡ 17 → ⊥) → 0 ≡ sheet_of k
  sheet-none h e = rw (lt-leb k 7 h, ne_eqb k 17 e)

-- ---- the reports

module _ {A : Type 0} {o : Outcome A} {a : Result A Refusal} (said : answered a ≡ o) where
  pub given-told : {v : A} → a ≡ Ok v → o ≡ given v
  given-told is = sym said ∙ ap answered is

  -- of a refusal with this reason, which has this number
  pub refused-told : {f : Fault} {e : Refusal} {k : ℕ} → a ≡ Err e → e ≡ refusal.Refused f → k ≡ number_of f.reason → o ≡ refused k f.place
  refused-told is which known = rw known (sym said ∙ rw (is, which))

  pub unfit-told : {f : Fault} {e : Refusal} {k : ℕ} → a ≡ Err e → e ≡ refusal.Unfit f → k ≡ number_of f.reason → o ≡ unfit k f.place
  unfit-told is which known = rw known (sym said ∙ rw (is, which))

module _ {o : Outcome Read} where
  pub read_reported : {r : Read} → o ≡ given r → read_report (given r) ≡ read_report o
  read_reported is = rw is

  pub read-refused : {k p v : ℕ} → v ≡ sheet_of k → o ≡ refused k p → record { number = k; sheet = v; place = p; names = 0; leaves = 0; first = 0; past = 0 } ≡ read_report o
  read-refused in_sheet is = rw (in_sheet, is)

  pub read-unfit : {k p : ℕ} → o ≡ unfit k p → read_report (unfit k p) ≡ read_report o
  read-unfit is = rw is

module _ {o : Outcome Stand} {a : Result Place Refusal} (said : placed_of a ≡ o) where
  pub name_given : {v : Place} {w : Place} → a ≡ Ok v → v ≡ w → name_report (given (stood w)) ≡ name_report o
  name_given {v} is which = let h : o ≡ given (stood v) = sym said ∙ ap placed_of is in rw (h, which)

  pub name-refused : {f : Fault} {e : Refusal} {k v : ℕ} → v ≡ sheet_of k → a ≡ Err e → e ≡ refusal.Refused f → k ≡ number_of f.reason
      → record { number = k; sheet = v; place = f.place; first = 0; past = 0 } ≡ name_report o
  name-refused {f} {e} {k} in_sheet is which known = let h : o ≡ refused k f.place = sym said ∙ ap (part stood) (refused-told refl is which known) in rw (in_sheet, h)

  pub name-unfit : {f : Fault} {e : Refusal} {k : ℕ} → a ≡ Err e → e ≡ refusal.Unfit f → k ≡ number_of f.reason → name_report (unfit k f.place) ≡ name_report o
  name-unfit {f} {e} {k} is which known = let h : o ≡ unfit k f.place = sym said ∙ ap (part stood) (unfit-told refl is which known) in rw h

module _ {o : Outcome (List Stand)} {ss fs ps : List ℕ} {a : Result ℕ Refusal} {ss' fs' ps' : List ℕ} (named : NamedAll o ss fs ps a ss' fs' ps') where
  names_as : (v : Outcome ℕ) → part length o ≡ v → NamesReported o ss fs ps (names_report v) ss' fs' ps'
  names_as v is = record { report = ap names_report (sym is); lists = named.lists }

  pub names_reported : {n : ℕ} → a ≡ Ok n → NamesReported o ss fs ps (names_report (given n)) ss' fs' ps'
  names_reported {n} is = names_as (given n) (given-told named.answer is)

  pub names-refused : {f : Fault} {e : Refusal} {k v : ℕ} → v ≡ sheet_of k → a ≡ Err e → e ≡ refusal.Refused f → k ≡ number_of f.reason
      → NamesReported o ss fs ps (record { number = k; sheet = v; place = f.place; names = 0 }) ss' fs' ps'
  names-refused {f} {e} {k} in_sheet is which known = rw in_sheet (names_as (refused k f.place) (refused-told named.answer is which known))

  pub names-unfit : {f : Fault} {e : Refusal} {k : ℕ} → a ≡ Err e → e ≡ refusal.Unfit f → k ≡ number_of f.reason
      → NamesReported o ss fs ps (names_report (unfit k f.place)) ss' fs' ps'
  names-unfit {f} {e} {k} is which known = names_as (unfit k f.place) (unfit-told named.answer is which known)

module _ {o : Outcome (List ℕ)} {bs : List ℕ} {a : Result ℕ Refusal} {bs' : List ℕ} (done : Moved o bs a bs') where
  move_as : (v : Outcome ℕ) → part length o ≡ v → MoveReported o bs (move_report v) bs'
  move_as v is = record { report = ap move_report (sym is); list = done.list }

  pub move_reported : {n : ℕ} → a ≡ Ok n → MoveReported o bs (move_report (given n)) bs'
  move_reported {n} is = move_as (given n) (given-told done.answer is)

  pub move_refused : {f : Fault} {e : Refusal} {k v : ℕ} → v ≡ sheet_of k → a ≡ Err e → e ≡ refusal.Refused f → k ≡ number_of f.reason
      → MoveReported o bs (record { number = k; sheet = v; place = f.place; length = 0 }) bs'
  move_refused {f} {e} {k} in_sheet is which known = rw in_sheet (move_as (refused k f.place) (refused-told done.answer is which known))

  pub move_unfit : {f : Fault} {e : Refusal} {k : ℕ} → a ≡ Err e → e ≡ refusal.Unfit f → k ≡ number_of f.reason → MoveReported o bs (move_report (unfit k f.place)) bs'
  move_unfit {f} {e} {k} is which known = move_as (unfit k f.place) (unfit-told done.answer is which known)

module _ {o : Outcome DwarfTree} {ks fs ss : List ℕ} {a : Result Figures Refusal} {ks' fs' ss' : List ℕ} (built : Built o ks fs ss a ks' fs' ss') where
  build_as : (v : Outcome Summary) → built_of a ≡ v → BuildReported o ks fs ss (build_report v) ks' fs' ss'
  build_as v is = record { report = ap build_report (sym is ∙ built.answer); lists = built.lists }

  pub build_reported : {b : Figures} → a ≡ Ok b → BuildReported o ks fs ss (build_report (given (figures b))) ks' fs' ss'
  build_reported {b} is = build_as (given (figures b)) (ap built_of is)

  pub build_refused : {f : Fault} {e : Refusal} {k v : ℕ} → v ≡ sheet_of k → a ≡ Err e → e ≡ refusal.Refused f → k ≡ number_of f.reason
      → BuildReported o ks fs ss (record { number = k; sheet = v; place = f.place; leaves = 0; nodes = 0; rounds = 0; height = 0 }) ks' fs' ss'
  build_refused {f} {e} {k} in_sheet is which known = rw in_sheet (build_as (refused k f.place) (ap (part figures) (refused-told refl is which known)))

  pub build_unfit : {f : Fault} {e : Refusal} {k : ℕ} → a ≡ Err e → e ≡ refusal.Unfit f → k ≡ number_of f.reason
      → BuildReported o ks fs ss (build_report (unfit k f.place)) ks' fs' ss'
  build_unfit {f} {e} {k} is which known = build_as (unfit k f.place) (ap (part figures) (unfit-told refl is which known))

-- of what an answer says
pub run_reported : {o : Outcome Answers} {v : Outcome ℕ} {rs cs ls rs' cs' ls' : List ℕ} {r : RunReport} → Ran o rs cs ls v rs' cs' ls' → r ≡ run_report v → RunReported o rs cs ls r rs' cs' ls'
run_reported ran is = record { report = is ∙ ap run_report ran.answer; lists = ran.lists }

pub edit_reported : {o : Outcome EditAnswers} {v : Outcome ℕ} {lent after : EditLists} {r : RunReport} → Edited o lent v after → r ≡ run_report v → EditReported o lent r after
edit_reported done is = record { report = is ∙ ap run_report done.answer; lists = done.lists }

pub both_reported : {c : Sheets} {order first second : List ℕ} {lent₁ lent₂ after₁ after₂ : Lists} {a : BothAnswer} {r₁ r₂ : RunReport} → Shared c order first second lent₁ lent₂ a after₁ after₂
    → r₁ ≡ run_report (answered a.first) → r₂ ≡ run_report (answered a.second) → BothReported c order first second lent₁ lent₂ (record { first = r₁; second = r₂ }) after₁ after₂
both_reported s p q = record { to_first = run_reported s.to_first.ran p; to_second = run_reported s.to_second.ran q }

module _ {o : Outcome (List Wall)} {lent : AnswerLists} {a : Result ℕ Refusal} {after : AnswerLists} (done : Classified o lent a after) where
  pub classify_reported : {r : ClassifyReport} → r ≡ classify_report (answered a) → ClassifyReported o lent r after
  classify_reported is = record { report = is ∙ ap classify_report done.answer; lists = done.lists }

pub judge_reported : (n : ℕ) (a : Result said.Opinion Refusal) {o : Outcome Opinion} {r : JudgeReport} → judged_of a ≡ o → r ≡ judge_report n (judged_of a) → r ≡ judge_report n o
judge_reported n a said is = is ∙ ap (judge_report n) said

module _ {o : Outcome (List Cut)} {lent : MadeLists} {a : Result Counts Fault} {after : MadeLists} (done : Crossed o lent a after) where
  pub cross_reported : {r : CrossReport} → r ≡ cross_report (judged a) → CrossReported o lent r after
  cross_reported says =
      record {
        report = says ∙ ap cross_report done.answer;
        lists = done.lists;
      }

module _ {o : OfLines Drawn} {lent : LineLists} {a : Result ManyCounts LineFault} {after : LineLists} (done : CrossedMany o lent a after) where
  pub many_reported : {r : CrossManyReport} → r ≡ cross_many_report (many_of a) → CrossManyReported o lent r after
  many_reported says =
      record {
        report = says ∙ ap cross_many_report done.answer;
        lists = done.lists;
      }
