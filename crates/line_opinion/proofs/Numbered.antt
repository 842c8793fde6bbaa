-- No refusal of judging has number 0.
use Prim.Native.Nat.{ℕ}
use native.Mathlib.Omega.{arith}
use mathlib.Core.Bool.{◌&&◌}
use mathlib.Core.List.{[]}
use lib.Dec.{eqb}
use lib.ListN.{length}
use Rattle.outcome.specs.Outcome.{given, ◌>>◌}
use Rattle.outcome.specs.Numbered.{Numbered}
use Rattle.outcome.proofs.NumberedLaws.{given-numbered, asks, then_numbered}
use Rattle.formula.specs.Formula.{Formula}
use Rattle.lines.specs.Lines.{LineLists, judged, AnswerLists, answer_lists, walls, classified}
use Rattle.lines.proofs.Numbered.{classified-numbered}
use Rattle.line_opinion.specs.Judging.{TheirLists, theirs, opinion, judgement}

-- what refuses the crossings refuses the line job
lines-numbered : (f : Formula) (names : ℕ) (c : LineLists) → Numbered (judged names c)
unfolding classified
lines-numbered f names c =
    let no-lists : AnswerLists = answer_lists [] [] [] [] [] in
    record {
      above_0 = λ k p e. (classified-numbered f names c no-lists).above_0 k p (rw e);
      unfit_above_0 = λ k p e. (classified-numbered f names c no-lists).unfit_above_0 k p (rw e);
    }

pub judgement-numbered : (f : Formula) (names : ℕ) (c : LineLists) (t : TheirLists) → Numbered (judgement f names c t)
unfolding judgement
judgement-numbered f names c t =
    let told = given (opinion (walls f names c) (theirs t)) in
    asks (eqb (length t.starts) (length t.lines) && eqb (length t.ends) (length t.lines)) 13 0 (judged names c >> told) (omega arith) (then_numbered (judged names c) told (lines-numbered f names c) (given-numbered (opinion (walls f names c) (theirs t))))
