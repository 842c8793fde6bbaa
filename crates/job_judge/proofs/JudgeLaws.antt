-- The promise of judging, exit by exit.
use Prim.Native.Nat.{ℕ}
use mathlib.Core.Path.{◌≡◌, sym, ap, ◌∙◌, subst}
use mathlib.Core.List.{List}
use lib.ListN.{length, take}
use Rattle.std.proofs.Common.{Result, Ok, Err}
use Rattle.outcome.specs.Outcome.{given, part}
use Rattle.outcome.specs.Refusing.{judged, answered}
use Rattle.outcome.specs.declared.Fault.{Fault}
use Rattle.outcome.specs.declared.Refusal.{Refusal}
use Rattle.outcome.specs.declared.Refusal.TheVariants as refusal
use Rattle.line_opinion.specs.Judging.{TheirLists, judgement}
use Rattle.line_judge.specs.Opinions.{opinion_of}
use Rattle.line_judge.specs.Blocks.{JudgeDone}
use Rattle.line_judge.specs.declared.Opinion.{Opinion}
use Rattle.job_judge.specs.Judged.{judged_of}
use Rattle.accepting.specs.declared.Acceptance.{Acceptance}
use Rattle.formula.specs.Formula.{Over}
use Rattle.sheet.specs.Sheet.{Sheets, Sheet}
use Rattle.lines.specs.Lines.{LineLists}
use Rattle.accepting.specs.Accepting.{accepted}
use Rattle.accepting.specs.Prepared.{SaysCoded}
use Rattle.job_judge.specs.Judging.{judging}

pub judging-accepted : (c : LineLists) (t : TheirLists) (s : Sheets) (x : Sheet) → accepted s ≡ given x → judging s c t ≡ judgement x.formula (length x.names) c t
unfolding judging
judging-accepted c t s x is = rw is

-- a refused sheet ends it
pub sheet-refused : (s : Sheets) (c : LineLists) (t : TheirLists) (e : Refusal) → accepted s ≡ answered (Err e) → judged_of (Err e) ≡ judging s c t
unfolding judging
sheet-refused s c t (refusal.Refused f) a = rw a
sheet-refused s c t (refusal.Unfit f) a = rw a

module _ {s : Sheets} {codes : List ℕ} {c : LineLists} {t : TheirLists} where
  module _ {p : Acceptance} (says : SaysCoded s codes (Ok p)) {a : Result Opinion Fault} (gives : JudgeDone (take p.codes codes) p.names c t a) where
    told : part opinion_of (judged a) ≡ judging s c t
    told =
        let x = says.0 in
        let st = says.1 in
        gives.answered_so x.formula st.codes_are (subst (λ m. Over m x.formula) (sym st.names_are) st.facts.own.over)
        ∙ ap (λ m. judgement x.formula m c t) st.names_are
        ∙ sym (judging-accepted c t s x st.is)

    pub their_opinion : {o : Opinion} → a ≡ Ok o → judged_of (Ok o) ≡ judging s c t
    their_opinion so = ap (λ x. part opinion_of (judged x)) (sym so) ∙ told

    pub their_refused : {fault : Fault} → a ≡ Err fault → judged_of (Err (refusal.Refused fault)) ≡ judging s c t
    their_refused so = ap (λ x. part opinion_of (judged x)) (sym so) ∙ told
