-- The promise to both foundries, exit by exit.
use Prim.Native.Nat.{ℕ}
use mathlib.Core.Path.{◌≡◌, sym, ◌∙◌}
use mathlib.Core.Bool.{Bool, true, false}
use mathlib.Core.List.{List, []}
use lib.ListN.{length}
use Rattle.outcome.specs.Outcome.{Outcome, given, refused, unfit}
use Rattle.formula.specs.Formula.{Formula}
use Rattle.sheet.specs.Sheet.{Sheets, Sheet}
use Rattle.tree_dwarf.specs.declared.Figures.{Figures}
use Rattle.labels.specs.Arrays.{Holds}
use Rattle.accepting.specs.Accepting.{accepted}
use Rattle.contraction.specs.declared.Records.{Records}
use Rattle.accepting.specs.Prepared.{Says, Stands}
use Rattle.accepting.specs.declared.Prepared.{Prepared}
use Rattle.std.specs.Prelude.{Result, Ok, Err}
use Rattle.outcome.specs.Refusing.{number_of, fault}
use Rattle.outcome.specs.declared.Fault.{Fault}
use Rattle.outcome.specs.declared.Refusal.{Refusal}
use Rattle.outcome.specs.declared.Refusal.TheVariants as refusal
use Rattle.outcome.specs.declared.Reason.TheVariants as reason
use Rattle.job_run.specs.Running.{toggling}
use Rattle.job_run.specs.Ran.{Ran}
use Rattle.job_run.proofs.RunLaws.{run_refused, run_unfit, stands, holds}
use Rattle.order_mixing.specs.Order.{mixes}
use Rattle.job_both.specs.Sharing.{sharing, serving}
use Rattle.job_both.specs.Shared.{Lists, Served, Shared}
use Rattle.job_both.specs.Refusals.{both_refused}
use Rattle.job_both.specs.declared.BothAnswer.{BothAnswer}

module _ (c : Sheets) (order first second : List ℕ) where
  abbrev shared : Outcome Sheet
  shared = sharing c order first second

  served_mixed : (x : Sheet) → accepted c ≡ given x → mixes order (length first) (length second) ≡ true → (toggles : List ℕ) (a b d : ℕ)
      → serving shared toggles a b d ≡ toggling x.formula (length x.names) toggles a b d
  unfolding sharing serving
  served_mixed x is on toggles a b d = rw (is, on)

  served_unmixed : (x : Sheet) → accepted c ≡ given x → mixes order (length first) (length second) ≡ false → (toggles : List ℕ) (a b d : ℕ) → serving shared toggles a b d ≡ refused 13 0
  unfolding sharing serving
  served_unmixed x is off toggles a b d = rw (is, off)

  served_refused : (number place : ℕ) → accepted c ≡ refused number place → (toggles : List ℕ) (a b d : ℕ) → serving shared toggles a b d ≡ refused number place
  unfolding sharing serving
  served_refused number place is toggles a b d = rw is

  served_unfit : (number place : ℕ) → accepted c ≡ unfit number place → (toggles : List ℕ) (a b d : ℕ) → serving shared toggles a b d ≡ unfit number place
  unfolding sharing serving
  served_unfit number place is toggles a b d = rw is

-- a sheet is refused
module _ (c : Sheets) (codes : List ℕ) (t : Records) (order first second : List ℕ) (lent₁ lent₂ : Lists) (r : Result Prepared Refusal) (says : Says c codes t r) where
  pub both_refused_lem : (e : Refusal) {q : BothAnswer} → r ≡ Err e → q ≡ both_refused e → Shared c order first second lent₁ lent₂ q lent₁ lent₂
  both_refused_lem (refusal.Refused f) is refuses =
      let a : accepted c ≡ refused (number_of f.reason) f.place = rw is at says in
      rw refuses
      record {
        to_first = record { ran = run_refused _ lent₁.roots lent₁.counts lent₁.labels (number_of f.reason) f.place (served_refused c order first second (number_of f.reason) f.place a first _ _ _) };
        to_second = record { ran = run_refused _ lent₂.roots lent₂.counts lent₂.labels (number_of f.reason) f.place (served_refused c order first second (number_of f.reason) f.place a second _ _ _) };
      }
  both_refused_lem (refusal.Unfit f) is refuses =
      let a : accepted c ≡ unfit (number_of f.reason) f.place = rw is at says in
      rw refuses
      record {
        to_first = record { ran = run_unfit _ lent₁.roots lent₁.counts lent₁.labels (number_of f.reason) f.place (served_unfit c order first second (number_of f.reason) f.place a first _ _ _) };
        to_second = record { ran = run_unfit _ lent₂.roots lent₂.counts lent₂.labels (number_of f.reason) f.place (served_unfit c order first second (number_of f.reason) f.place a second _ _ _) };
      }

-- or the formula stands in the arrays
module _ (c : Sheets) (codes : List ℕ) (t : Records) (order first second : List ℕ) (r : Result Prepared Refusal) (says : Says c codes t r)
    (p : Prepared) (is : r ≡ Ok p) {m : Bool} (asked : m ≡ mixes order (length first) (length second)) where
  abbrev formula_stands : (x : Sheet) × Stands c x p.names p.codes p.built codes t
  formula_stands = stands c codes t [] [] [] [] r says p is

  abbrev read : Sheet
  read = formula_stands.0

  is_accepted : accepted c ≡ given read
  is_accepted = formula_stands.1.coded.is

  -- the order does not mix the lists
  pub not_mixed : (lent₁ lent₂ : Lists) {q : BothAnswer} → m ≡ false → q ≡ both_refused (refusal.Refused (fault reason.LengthsDiffer 0)) → Shared c order first second lent₁ lent₂ q lent₁ lent₂
  not_mixed lent₁ lent₂ off refuses =
      let none : mixes order (length first) (length second) ≡ false = sym asked ∙ off in
      rw refuses
      record {
        to_first = record { ran = run_refused _ lent₁.roots lent₁.counts lent₁.labels 13 0 (served_unmixed c order first second read is_accepted none first _ _ _) };
        to_second = record { ran = run_refused _ lent₂.roots lent₂.counts lent₂.labels 13 0 (served_unmixed c order first second read is_accepted none second _ _ _) };
      }

  -- a foundry is served
  pub served : (toggles : List ℕ) (lent : Lists) {a : Outcome ℕ} {after : Lists} → m ≡ true
      → ((g : Formula) → Holds t.kinds t.firsts t.seconds p.built.leaves p.built.nodes g
      → Ran (toggling g p.names toggles (length lent.roots) (length lent.counts) (length lent.labels)) lent.roots lent.counts lent.labels a after.roots after.counts after.labels)
      → Served (sharing c order first second) toggles lent a after
  served toggles lent on ran =
      let all : mixes order (length first) (length second) ≡ true = sym asked ∙ on in
      let known = formula_stands.1.coded.names_are in
      record {
        ran =
            rw (served_mixed c order first second read is_accepted all toggles (length lent.roots) (length lent.counts) (length lent.labels), ← known)
            (ran read.formula (holds c codes t [] [] [] [] r says p is));
      }
