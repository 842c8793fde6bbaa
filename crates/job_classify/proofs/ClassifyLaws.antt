-- The promise of classifying, exit by exit.
use Prim.Native.Nat.{ℕ, ◌≤◌, ◌<◌}
use native.Mathlib.Omega.{arith}
use mathlib.Core.Path.{◌≡◌, sym, ap, ◌∙◌, subst}
use mathlib.Core.List.{List}
use lib.ListN.{length, take}
use lib.Seq.{length-take-le}
use Rattle.std.proofs.Common.{Result, Ok, Err}
use Rattle.outcome.specs.Outcome.{given}
use Rattle.outcome.specs.Refusing.{judged, answered}
use Rattle.outcome.specs.declared.Fault.{Fault}
use Rattle.outcome.specs.declared.Refusal.{Refusal}
use Rattle.outcome.specs.declared.Refusal.TheVariants as refusal
use Rattle.line_walls.specs.Answers.{LinesAnswered, JobDone}
use Rattle.accepting.specs.declared.Acceptance.{Acceptance}
use Rattle.formula.specs.Formula.{Formula, leaf, node, Over}
use Rattle.sheet.specs.Sheet.{Sheets, Sheet}
use Rattle.lines.specs.Lines.{LineLists, AnswerLists, classified}
use Rattle.line_blocks.specs.Blocks.{FewCodes}
use Rattle.accepting.specs.Accepting.{accepted}
use Rattle.accepting.specs.Prepared.{SaysCoded}
use Rattle.job_classify.specs.Classifying.{classifying}
use Rattle.job_classify.specs.Classified.{Classified}

pub classifying-accepted : (c : LineLists) (lent : AnswerLists) (s : Sheets) (x : Sheet) → accepted s ≡ given x → classifying s c lent ≡ classified x.formula (length x.names) c lent
unfolding classifying
classifying-accepted c lent s x is = rw is

-- a refused sheet ends it
pub sheet-refused : (s : Sheets) (c : LineLists) (lent : AnswerLists) (e : Refusal) → accepted s ≡ answered (Err e) → Classified (classifying s c lent) lent (Err e) lent
unfolding classifying
sheet-refused s c lent (refusal.Refused f) a = record { answer = rw a; lists = record { lines_list = rw a; starts_list = rw a; ends_list = rw a; start_shapes_list = rw a; end_shapes_list = rw a } }
sheet-refused s c lent (refusal.Unfit f) a = record { answer = rw a; lists = record { lines_list = rw a; starts_list = rw a; ends_list = rw a; start_shapes_list = rw a; end_shapes_list = rw a } }

module _ {s : Sheets} {codes : List ℕ} {c : LineLists} {lent : AnswerLists} where
  module _ {p : Acceptance} (says : SaysCoded s codes (Ok p)) {a : Result ℕ Fault} {after : AnswerLists} (gives : JobDone (take p.codes codes) p.names c lent a after) where
    given-walls : LinesAnswered (classified says.0.formula p.names c lent) lent a after
    given-walls =
        let st = says.1 in
        gives.answered_so says.0.formula st.codes_are (subst (λ m. Over m says.0.formula) (sym st.names_are) st.facts.own.over)

    job_is : classifying s c lent ≡ classified says.0.formula p.names c lent
    job_is =
        let st = says.1 in
        classifying-accepted c lent s says.0 st.is ∙ ap (λ m. classified says.0.formula m c lent) (sym st.names_are)

    pub lines-walls : {count : ℕ} → a ≡ Ok count → Classified (classifying s c lent) lent (Ok count) after
    lines-walls is = let w = given-walls in record { answer = rw job_is (ap judged (sym is) ∙ w.answer); lists = rw job_is w.lists }

    pub lines-refused : {fault : Fault} → a ≡ Err fault → Classified (classifying s c lent) lent (Err (refusal.Refused fault)) after
    lines-refused is = let w = given-walls in record { answer = rw job_is (ap judged (sym is) ∙ w.answer); lists = rw job_is w.lists }

-- a formula has a leaf, so there is a name
some_names : (n : ℕ) (f : Formula) → Over n f → 0 < n
some_names n (leaf s) under = omega (arith, under)
some_names n (node o l r) under = some_names n l under.0

-- an accepted sheet's codes and names are few enough for the lines, and its codes are a formula's
module _ {s : Sheets} {codes : List ℕ} {p : Acceptance} (says : SaysCoded s codes (Ok p)) (long : length codes ≡ 2048) where
  pub codes-within : p.codes ≤ length codes
  codes-within = omega (arith, says.1.few_codes)

  codes_counted : length (take p.codes codes) ≡ p.codes
  codes_counted = length-take-le p.codes codes codes-within

  pub few_codes : FewCodes (take p.codes codes) p.names
  few_codes =
      let x = says.0 in
      let st = says.1 in
      let under = subst (λ m. Over m x.formula) (sym st.names_are) st.facts.own.over in
      record {
        few_codes = omega (arith, codes_counted, codes-within);
        some_names = some_names _ x.formula under;
        few_names = omega (arith, st.names_are, st.facts.own.good_names.few);
        formula = x.formula;
        are = st.codes_are;
        over = under;
      }
