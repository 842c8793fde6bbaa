-- Judging another ray caster's wall list: the opinion means what document 02 says of the right wall list, and demand 2 carries over to a list judged right.
use Prim.Native.Nat.{ℕ}
use mathlib.Core.Path.{◌≡◌, sym, ◌∙◌}
use mathlib.Core.Bool.{◌&&◌}
use mathlib.Core.List.{List, map}
use lib.Dec.{eqb}
use lib.ListN.{length}
use Rattle.outcome.specs.Outcome.{given, ◌>>◌}
use Rattle.outcome.proofs.Questions.{given-same, need-given, then_given}
use Rattle.formula.specs.Formula.{Formula}
use Rattle.sheet.specs.Sheet.{Sheets, Sheet}
use Rattle.sheet.proofs.Guaranteed.{guaranteed}
use Rattle.accepting.specs.Accepting.{accepted}
use Rattle.accepting.proofs.Accepted.{accepted-read}
use Rattle.lines.specs.Lines.{LineLists, entries, row_count, start_state, judged, Wall, walls}
use Rattle.lines.specs.Right.{Right}
use Rattle.lines.proofs.Theorems.{walls-right, right-only}
use Rattle.line_opinion.specs.Judging.{bare, TheirLists, theirs, joined, Opinion, right, opinion, judgement}
use Rattle.line_opinion.specs.Meaning.{Means}
use Rattle.line_opinion.proofs.Opinions.{opinion_means, one-opinion}
use Rattle.job_judge.specs.Judging.{judging}
use Rattle.job_judge.proofs.JudgeLaws.{judging-accepted}

-- judging that answers has judged the crossings good
answers : (f : Formula) (names : ℕ) (c : LineLists) (t : TheirLists) (o : Opinion) → judgement f names c t ≡ given o → (judged names c ≡ given tt) × (opinion (walls f names c) (theirs t) ≡ o)
unfolding judgement
answers f names c t o e =
    let told = given (opinion (walls f names c) (theirs t)) in
    let a = need-given (eqb (length t.starts) (length t.lines) && eqb (length t.ends) (length t.lines)) 13 0 (judged names c >> told) o e in
    let b = then_given (judged names c) told o a.1 in
    (b.1, given-same (opinion (walls f names c) (theirs t)) o b.2)

-- The sheets s, accepted as x, and a list that is judged.
module _ (s : Sheets) (x : Sheet) (is : accepted s ≡ given x) (c : LineLists) (t : TheirLists) (o : Opinion) (gives : judging s c t ≡ given o)
    (ws : List Wall) (ours : Right x.formula (row_count (length x.names) c.rows) (start_state (length x.names) c.rows) (entries c) ws) where
  abbrev names : ℕ
  names = length x.names

  answered : (judged names c ≡ given tt) × (opinion (walls x.formula names c) (theirs t) ≡ o)
  answered = answers x.formula names c t o (sym (judging-accepted c t s x is) ∙ gives)

  -- our walls are that list
  walls_are : walls x.formula names c ≡ ws
  walls_are =
      let few = (guaranteed s x (accepted-read s x is).0).own.good_names.few in
      right-only x.formula (row_count names c.rows) (start_state names c.rows) (entries c) (walls x.formula names c) ws (walls-right x.formula names few c answered.0) ours

  -- What is answered is so of their list and of ours, which is the right one;
  pub judge_means : Means (map bare ws) (theirs t) o
  judge_means = rw (sym answered.1, walls_are) (opinion_means ws (theirs t) ours.rising)

  -- and nothing else is.
  pub judge_only : (q : Opinion) → Means (map bare ws) (theirs t) q → q ≡ o
  judge_only q m = one-opinion (map bare ws) (theirs t) q o m judge_means

-- Demand 2: a list judged right, with its touching entries joined, is the only right wall list.
pub judged-right : (s : Sheets) (x : Sheet) → accepted s ≡ given x → (c : LineLists) (t : TheirLists) → judging s c t ≡ given right
    → (ws : List Wall) → Right x.formula (row_count (length x.names) c.rows) (start_state (length x.names) c.rows) (entries c) ws → joined (theirs t) ≡ map bare ws
judged-right s x is c t gives ws ours = (judge_means s x is c t right gives ws ours).same
