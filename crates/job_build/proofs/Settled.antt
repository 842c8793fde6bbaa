-- What the promise of building settles: two results that meet it are equal; it refuses exactly when the rules say, and then writes nothing.
use Prim.Native.Nat.{ℕ}
use mathlib.Core.Path.{◌≡◌, refl, sym, ap, ◌∙◌}
use Rattle.outcome.specs.Outcome.{Outcome, given, refused, unfit, part}
use Rattle.outcome.specs.Numbered.{Numbered}
use Rattle.outcome.specs.Refusing.{answered}
use Rattle.outcome.specs.Settled.{Unique, Refusal, Refuses, Three, Said}
use Rattle.outcome.proofs.NumberedLaws.{given-numbered, room-asks, bind_numbered}
use Rattle.outcome.proofs.Judging.{answered_same}
use Rattle.outcome.proofs.Settling.{OnSheets, on_sheets}
use Rattle.sheet.specs.Sheet.{Sheets}
use Rattle.accepting.specs.Accepting.{accepted}
use Rattle.accepting.proofs.Accepted.{accepted-numbered}
use Rattle.tree_dwarf.specs.declared.Figures.{Figures}
use Rattle.job_build.specs.Building.{giving, building, Summary, summary, summary_of}
use Rattle.job_build.specs.Built.{figures, Built}

-- an answer is known by its figures
abbrev figures_of : Summary → Figures
figures_of (summary leaves nodes rounds height) = record { leaves = leaves; nodes = nodes; rounds = rounds; height = height }

known : (v : Outcome Figures) → part figures_of (part figures v) ≡ v
known (given b) = refl
known (refused number place) = refl
known (unfit number place) = refl

figures-same : (v w : Outcome Figures) → part figures v ≡ part figures w → v ≡ w
figures-same v w e = sym (known v) ∙ ap (part figures_of) e ∙ known w

-- as a promise on what the answer says
build_settled : OnSheets (Said answered (Three Built)) refused unfit
build_settled =
    on_sheets (part figures) summary_of figures-same (λ k p. (refl, refl)) (λ o lent v after a. ap (part figures) (sym a.1.0) ∙ a.1.1.answer)
    (λ o lent v after a i. (a.1.1.lists.kinds_list i, a.1.1.lists.firsts_list i, a.1.1.lists.seconds_list i)) (λ k p lent. (refl, refl))

pub build_unique : Unique (Three Built)
build_unique = λ o lent r q after other a b. (
  answered_same r q (figures-same (answered r) (answered q) (a.answer ∙ sym b.answer)),
  (build_settled.own.unique o lent (answered r) (answered q) after other (r, (refl, a)) (q, (refl, b))).1,
)

pub build_refusal : Refusal (Said answered (Three Built)) refused refused
build_refusal = build_settled.own.refusal

pub build_refuses : Refuses (Said answered (Three Built)) refused refused
build_refuses = build_settled.own.refuses

-- and of the fittings sheet
pub build_unfit : Refusal (Said answered (Three Built)) unfit unfit
build_unfit = build_settled.fittings.refusal

pub build_unfits : Refuses (Said answered (Three Built)) unfit unfit
build_unfits = build_settled.fittings.refuses

-- No refusal has number 0.
pub build_numbered : (s : Sheets) (kinds firsts seconds : ℕ) → Numbered (building s kinds firsts seconds)
unfolding building giving
build_numbered s kinds firsts seconds = bind_numbered (accepted s) _ (accepted-numbered s) (λ x. search (room-asks, given-numbered))
