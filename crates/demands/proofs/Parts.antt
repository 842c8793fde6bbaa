-- Lines cut into parts, each asked by itself: what the line jobs give for the parts, put together, is what they give for the whole, and they give it exactly where the whole is given.
use Prim.Native.Nat.{ℕ, ◌<◌, ◌≤◌}
use native.Mathlib.Omega.{arith}
use mathlib.Core.Path.{◌≡◌, sym, ◌∙◌, subst, fun_ext}
use mathlib.Core.List.{List}
use lib.ListN.{length}
use Rattle.outcome.specs.Outcome.{Outcome, given}
use Rattle.formula.specs.Formula.{Formula, leaf, node, Over}
use Rattle.sheet.specs.Sheet.{Sheets, Sheet}
use Rattle.sheet.proofs.Guaranteed.{guaranteed}
use Rattle.accepting.specs.Accepting.{accepted}
use Rattle.accepting.proofs.Accepted.{accepted-read}
use Rattle.lines.specs.Lines.{LineLists, row_count, AnswerLists, roomy_lists, Wall, classified}
use Rattle.line_opinion.specs.Judging.{TheirLists, Opinion, judgement}
use Rattle.line_cuts.specs.Cuts.{parts_of, AllBelow, Cuttable, EachGiven, join_walls, room_for}
use Rattle.line_cuts.specs.Theirs.{their_parts_of, EachJudged, join_opinions}
use Rattle.line_cuts.proofs.PartLaws.{classified_parts, classified-whole, judgement_parts, judgement-all}
use Rattle.job_classify.specs.Classifying.{classifying}
use Rattle.job_classify.proofs.ClassifyLaws.{classifying-accepted}
use Rattle.job_judge.specs.Judging.{judging}
use Rattle.job_judge.proofs.JudgeLaws.{judging-accepted}

-- a formula has a leaf, so there is a name
over_some : (n : ℕ) (f : Formula) → Over n f → 0 < n
over_some n (leaf s) h = omega arith
over_some n (node op a b) h = over_some n a h.0

-- The sheets s, accepted as x, and lists that are cut into parts of these sizes, the last of the rest.
module _ (s : Sheets) (x : Sheet) (is : accepted s ≡ given x) (sizes : List ℕ) (c : LineLists) (cut : Cuttable (length x.names) sizes c) where
  abbrev names : ℕ
  names = length x.names

  -- there is a name
  pub named : 0 < length x.names
  named = over_some names x.formula (guaranteed s x (accepted-read s x is).0).own.over

  classifies : classifying s ≡ classified x.formula names
  classifies = fun_ext (λ d. fun_ext (λ lent. classifying-accepted d lent s x is))

  judges : judging s ≡ judgement x.formula names
  judges = fun_ext (λ d. fun_ext (λ t. judging-accepted d t s x is))

  -- Where walls are given for every part, lent lists of its own, the whole's are theirs, part after part, each on its line of the whole; it has at most 4294967296 rows, and is lent the room that it asks for.
  pub classify_parts : (wss : List (List Wall)) → EachGiven (classifying s) (parts_of (length x.names) sizes c) wss → row_count (length x.names) c.rows ≤ 4294967296
      → (lent : AnswerLists) → roomy_lists (room_for (length x.names) c) lent ≡ given tt → classifying s c lent ≡ given (join_walls sizes wss)
  classify_parts wss g few lent room =
      classifying-accepted c lent s x is
      ∙ classified_parts names named x.formula sizes c cut wss (subst (λ (job : LineLists → AnswerLists → Outcome (List Wall)). EachGiven job (parts_of names sizes c) wss) classifies g) few lent room

  -- Where the whole's walls are given, so are those of every part.
  pub classify_whole : (lent : AnswerLists) (ws : List Wall) → classifying s c lent ≡ given ws
      → (wss : List (List Wall)) × EachGiven (classifying s) (parts_of (length x.names) sizes c) wss × (ws ≡ join_walls sizes wss)
  classify_whole lent ws g =
      let h = classified-whole names named x.formula sizes c cut lent ws (sym (classifying-accepted c lent s x is) ∙ g) in
      (h.0, subst (λ (job : LineLists → AnswerLists → Outcome (List Wall)). EachGiven job (parts_of names sizes c) h.0) (sym classifies) h.1, h.2)

  module _ (t : TheirLists) (numbers : AllBelow 4294967296 t.lines) where
    -- Of another's list, cut between the same lines, the first part that is not right decides.
    pub judge_parts : (os : List Opinion) → EachJudged (judging s) (parts_of (length x.names) sizes c) (their_parts_of sizes t) os → row_count (length x.names) c.rows ≤ 4294967296
        → judging s c t ≡ given (join_opinions (their_parts_of sizes t) os)
    judge_parts os g few =
        judging-accepted c t s x is
        ∙ judgement_parts names named x.formula sizes c cut t numbers os (subst (λ (job : LineLists → TheirLists → Outcome Opinion). EachJudged job (parts_of names sizes c) (their_parts_of sizes t) os) judges g) few

    pub judge_whole : (o : Opinion) → judging s c t ≡ given o → (os : List Opinion) × EachJudged (judging s) (parts_of (length x.names) sizes c) (their_parts_of sizes t) os × (o ≡ join_opinions (their_parts_of sizes t) os)
    judge_whole o g =
        let h = judgement-all names named x.formula sizes c cut t numbers o (sym (judging-accepted c t s x is) ∙ g) in
        (h.0, subst (λ (job : LineLists → TheirLists → Outcome Opinion). EachJudged job (parts_of names sizes c) (their_parts_of sizes t) h.0) (sym judges) h.1, h.2)
