-- The whole: from the first block to the last or to a wrong entry, and what the judgement decides of the answer.
use Rattle.std.proofs.Common.{Result, Ok, Err, IsOk}
use Prim.Native.Nat.{ℕ, ◌+◌, ◌*◌, ◌<◌, ◌≤◌}
use native.Mathlib.Omega.{arith}
use mathlib.Core.Path.{◌≡◌, refl, sym, ap, ◌∙◌}
use mathlib.Core.Bool.{Bool, true, false, ◌&&◌, ◌||◌}
use mathlib.Core.List.{List, [], ◌∷◌, ◌++◌, map, append-nil}
use lib.Dec.{eqb, ltb}
use lib.ListN.{length, take, drop, replicate, length-map}
use lib.Seq.{sets, sets-eq, take_at}
use Rattle.outcome.specs.Outcome.{given, refused, need}
use Rattle.outcome.specs.Refusing.{number_of, judged as told}
use Rattle.outcome.specs.declared.Fault.{Fault}
use Rattle.line_judge.specs.declared.Opinion as said
use Rattle.line_judge.specs.declared.Opinion.TheVariants as saying
use Rattle.formula.specs.Formula.{Formula, inside, postfix, Over}
use Rattle.lines.specs.Lines.{LineLists, row_count, judged, AnswerLists, Wall, walls}
use Rattle.lines.specs.Columns.{column_walls}
use Rattle.line_checking.specs.Verdicts.{Judged}
use Rattle.line_lists.specs.Block.{columns}
use Rattle.line_words.specs.Stretches.{StandFor}
use Rattle.line_words.specs.declared.Arranged.{Arranged}
use Rattle.line_blocks.specs.Blocks.{Sized, left_of, PassingAt, Going, CanPass, CallMade}
use Rattle.line_blocks.specs.declared.Call.{Call}
use Rattle.line_blocks.proofs.PassLaws.{going_start, sized-start, passing_start, going_ask, passing_end, verdict-told}
use Rattle.line_writing.specs.Writing.{open_of, Put, HasRoom}
use Rattle.line_blocks.specs.Walls.{StepAsk, StepDone, NothingDone}
use Rattle.line_blocks.specs.declared.Progress.{Progress}
use Rattle.line_writing.proofs.ListLaws.{put_same}
use Rattle.line_opinion.specs.Judging.{Entry, entries, bare, TheirLists, theirs, opinion, opinion_from, judgement}
use Rattle.line_opinion.specs.Eating.{SameLength, Ate}
use Rattle.line_opinion.proofs.EatLaws.{opinion-over, opinion-done}
use Rattle.line_opinion.proofs.AllLaws.{ate_none, ate_more}
use Rattle.line_judge.specs.Blocks.{OpinionFound, OpinionGiven, JudgeDone}

bare_app : (a b : List Wall) → map bare (a ++ b) ≡ map bare a ++ map bare b
bare_app [] b = refl
bare_app (w ∷ a) b = ap (λ (r : List Entry). bare w ∷ r) (bare_app a b)

-- ---- the pass

-- our walls put from the first entry on, as entries
put_entries : (new : List Wall) → entries (map (λ (w : Wall). w.line) new) (map (λ (w : Wall). w.start) new) (map (λ (w : Wall). w.end) new) ≡ map bare new
put_entries [] = refl
put_entries (w ∷ new) = ap (λ (r : List Entry). bare w ∷ r) (put_entries new)

put_ours : {new : List Wall} {now after : AnswerLists} → Put new 0 now after → HasRoom (length new) now
    → entries (take (length new) after.lines) (take (length new) after.starts) (take (length new) after.ends) ≡ map bare new
put_ours {new} {now} put room =
    rw (put.lines ∙ first _ now.lines room.lines, put.starts ∙ first _ now.starts room.starts, put.ends ∙ first _ now.ends room.ends)
    (rw (taken _ (drop (length new) now.lines), taken _ (drop (length new) now.starts), taken _ (drop (length new) now.ends)) (put_entries new))
  where
    first : {A : Type 0} (f : Wall → A) (l : List A) → length new ≤ length l → sets l 0 (map f new) ≡ map f new ++ drop (length new) l
    first f l h = let z : 0 + length (map f new) ≡ length new = omega (arith, length-map new f) in sets-eq (map f new) l 0 (omega (arith, length-map new f)) ∙ rw z

    taken : {A : Type 0} (f : Wall → A) (l : List A) → take (length new) (map f new ++ l) ≡ map f new
    taken f l = take_at (map f new) l (length new) (length-map new f)

-- the pass as it stands, its next wall the first of a list
abbrev afresh : Progress → Progress
afresh p = record { pass = p.pass; run = record { from = p.run.from; count = 0 } }

-- of a formula's walls those found are given by their list before entry next
pub record PassOf (f : Formula) (names : ℕ) (c : LineLists) (t : TheirLists) (words : List ℕ) (p : Progress) (next : ℕ) : Type 0 where
  pub done : List Wall
  pub passing : PassingAt f names c p.pass words (open_of p.run) done
  pub whole : Ate t 0 (map bare done) (Ok next)

-- our own lists, each as long as a block is wide
pub record Own (own : AnswerLists) : Type 0 where
  pub lines : length own.lines ≡ columns
  pub starts : length own.starts ≡ columns
  pub ends : length own.ends ≡ columns
  pub start_shapes : length own.start_shapes ≡ columns
  pub end_shapes : length own.end_shapes ≡ columns

-- what the loop keeps: no entry was wrong
pub record Looping (table : List ℕ) (arranged : Arranged) (names : ℕ) (c : LineLists) (t : TheirLists) (count : ℕ) (words₀ words cols lasts events : List ℕ) (p : Progress) (next : ℕ) (own : AnswerLists) : Type 0 where
  pub going : Going table arranged names c words p.pass
  pub passed : (f : Formula) → StandFor (postfix f) table arranged → Over names f → PassOf f names c t words p next
  pub same : SameLength t
  pub own_sized : Own own
  pub kept : length words ≡ length words₀
  pub sized : Sized cols lasts events p.pass.numbered
  pub counted : count ≡ row_count names c.rows

pub looping_start : {table : List ℕ} {arranged : Arranged} {names : ℕ} {air : Bool} {c : LineLists} {words : List ℕ} {t : TheirLists} → CanPass table arranged names air c words → SameLength t → {count : ℕ} → count ≡ row_count names c.rows → {p : Progress} → NothingDone names c.rows p → {own : AnswerLists} → Own own
    → Looping table arranged names c t count words words (replicate columns 0) (replicate 8 0) (replicate (2 * columns) 0) p 0 own
looping_start can same counted b own =
    record {
      going = going_start can b.begun;
      passed = λ f st o. record { done = []; passing = rw b.air (passing_start can b.begun f); whole = ate_none };
      same = same;
      own_sized = own;
      kept = refl;
      sized = sized-start can b.begun;
      counted = counted;
    }

module _ {table : List ℕ} {arranged : Arranged} {names : ℕ} {c : LineLists} {t : TheirLists} {count : ℕ} {words₀ words cols lasts events : List ℕ} {p : Progress} {next : ℕ} {own : AnswerLists} (l : Looping table arranged names c t count words₀ words cols lasts events p next own) where
  pub looping_sized : Sized cols lasts events p.pass.numbered
  looping_sized = l.sized

  module _ {q : Progress} (is-q : q ≡ afresh p) {words' cols' lasts' events' : List ℕ} {p' : Progress} {after : AnswerLists} (d : StepDone table arranged names c words q own words' cols' lasts' events' p' after) where
    e : StepDone table arranged names c words (afresh p) own words' cols' lasts' events' p' after
    e = rw is-q at d

    counts : p'.run.count ≡ length e.new
    counts = omega (arith, e.count)

    own-after : Own after
    own-after =
        let s = put_same e.put in
        let o = l.own_sized in
        record { lines = s.lines ∙ o.lines; starts = s.starts ∙ o.starts; ends = s.ends ∙ o.ends; start_shapes = s.start_shapes ∙ o.start_shapes; end_shapes = s.end_shapes ∙ o.end_shapes }

    pub looping_less : length (left_of names c p'.pass) < length (left_of names c p.pass)
    looping_less = e.fewer

    pub looping_long : length words' ≡ length words₀
    looping_long = e.long ∙ l.kept

    pub looping_few : (p'.run.count ≤ length after.lines) × (p'.run.count ≤ length after.starts) × (p'.run.count ≤ length after.ends)
    looping_few =
        let o = own-after in
        (omega (arith, counts, e.room.lines, l.own_sized.lines, o.lines), omega (arith, counts, e.room.lines, l.own_sized.lines, o.starts), omega (arith, counts, e.room.lines, l.own_sized.lines, o.ends))

    module _ {r : Result ℕ ℕ} (ate : Ate t next (entries (take p'.run.count after.lines) (take p'.run.count after.starts) (take p'.run.count after.ends)) r) where
      compared : Ate t next (map bare e.new) r
      compared = rw (put_ours e.put (rw counts at e.room)) at (rw counts at ate)

      so_far : (f : Formula) (st : StandFor (postfix f) table arranged) (o : Over names f) → Ate t 0 (map bare ((l.passed f st o).done ++ e.new)) r
      so_far f st o = let q = l.passed f st o in rw (bare_app q.done e.new) (ate_more q.whole compared)

      pub looping_more : {next' : ℕ} → r ≡ Ok next' → Looping table arranged names c t count words₀ words' cols' lasts' events' p' next' after
      looping_more is =
          record {
            going = e.going;
            passed = λ f st o. let q = l.passed f st o in record { done = q.done ++ e.new; passing = e.passes f st o q.done q.passing; whole = rw is at (so_far f st o) };
            same = l.same;
            own_sized = own-after;
            kept = e.long ∙ l.kept;
            sized = e.sized;
            counted = l.counted;
          }

      pub looping_wrong : {index : ℕ} → r ≡ Err index → OpinionFound table arranged names c t (saying.Wrong index)
      looping_wrong {index} is =
          record {
            is = λ f st o.
                let q = l.passed f st o in
                let b = e.passes f st o q.done q.passing in
                let rest = column_walls (inside f) b.state (open_of p'.run) (left_of names c p'.pass) in
                sym (ap (λ (ws : List Entry). opinion_from 0 ws (theirs t)) (ap (map bare) b.passed.all ∙ bare_app (q.done ++ e.new) rest) ∙ (rw is at (so_far f st o)).to (map bare rest));
          }

  module _ {a : Bool} (is : a ≡ (ltb p.pass.cursor.i (length c.lines) || ltb p.pass.cursor.q count)) where
    pub looping_ask : {q : Progress} → q ≡ afresh p → a ≡ true → StepAsk table arranged names c words q own
    looping_ask is-q yes-left =
        let b = going_ask l.going count l.counted a is yes-left in
        let s = b.going.standing in
        let g = l.passed s.formula s.stands s.over in
        let o = l.own_sized in
        rw is-q
        (record {
          ask = b;
          found = g.done;
          passing = g.passing;
          room = λ n few h. record { lines = omega (arith, o.lines); starts = omega (arith, o.starts); ends = omega (arith, o.ends); start_shapes = omega (arith, o.start_shapes); end_shapes = omega (arith, o.end_shapes) };
        })

    module _ (none_left : a ≡ false) where
      -- our walls are all given
      over : (f : Formula) → StandFor (postfix f) table arranged → Over names f → opinion (walls f names c) (theirs t) ≡ opinion_from next [] (drop next (theirs t))
      over f st o =
          let q = l.passed f st o in
          ap (λ (ws : List Entry). opinion_from 0 ws (theirs t)) (ap (map bare) (passing_end l.going count l.counted a is f (open_of p.run) q.done none_left q.passing) ∙ sym (append-nil (map bare q.done)))
          ∙ q.whole.to []

      pub looping_over : next < length t.lines → OpinionFound table arranged names c t (saying.Wrong next)
      looping_over h = record { is = λ f st o. sym (over f st o ∙ opinion-over t l.same next h) }

      pub looping_right : length t.lines ≤ next → OpinionFound table arranged names c t saying.Right
      looping_right h = record { is = λ f st o. sym (over f st o ∙ opinion-done t l.same next h) }

pub opinion-given : {codes : List ℕ} {names : ℕ} {air : Bool} {rows table : List ℕ} {call : Call} {c : LineLists} {t : TheirLists} {r : said.Opinion} → CallMade codes names air rows table call → OpinionFound table call.arranged call.names c t r
    → OpinionGiven codes names c t r
opinion-given {names = names} {table = table} {call = call} {c = c} {t = t} {r = r} m w =
    let g : OpinionFound table call.arranged names c t r = rw m.named at w in
    record { is = λ f q o. g.is f (rw q at m.stands) o }

-- ---- the judgement

-- their lists are as long as each other
abbrev pub alike : TheirLists → Bool
alike t = eqb (length t.starts) (length t.lines) && eqb (length t.ends) (length t.lines)

module _ (f : Formula) (names : ℕ) (c : LineLists) (t : TheirLists) where
  uneven : (number place : ℕ) → need (alike t) 13 0 ≡ refused number place → refused number place ≡ judgement f names c t
  unfolding judgement
  uneven number place e = rw e

  module _ (same : alike t ≡ true) where
    lines-refused : (number place : ℕ) → judged names c ≡ refused number place → refused number place ≡ judgement f names c t
    unfolding judgement
    lines-refused number place e = rw (same, e)

    lines_good : judged names c ≡ given tt → given (opinion (walls f names c) (theirs t)) ≡ judgement f names c t
    unfolding judgement
    lines_good e = rw (same, e)

module _ {codes : List ℕ} {names : ℕ} {c : LineLists} {t : TheirLists} where
  pub judge_uneven : {q : Result (Unit {0}) Fault} {fault : Fault} → told q ≡ need (alike t) 13 0 → q ≡ Err fault → JudgeDone codes names c t (Err fault)
  judge_uneven {fault = fault} e is = record { answered_so = λ f q o. uneven f names c t (number_of fault.reason) fault.place (sym e ∙ ap told is) }

  module _ (same : alike t ≡ true) {v : Result Bool Fault} (j : Judged names c v) where
    pub judge_refused : {fault : Fault} → v ≡ Err fault → JudgeDone codes names c t (Err fault)
    judge_refused {fault} is = record { answered_so = λ f q o. lines-refused f names c t same (number_of fault.reason) fault.place (verdict-told j.is is) }

    pub judge_given : {air : Bool} {r : said.Opinion} → v ≡ Ok air → OpinionGiven codes names c t r → JudgeDone codes names c t (Ok r)
    judge_given is g = record { answered_so = λ f q o. ap given (g.is f q o) ∙ lines_good f names c t same (verdict-told j.is is) }

-- where the question was answered yes
pub even_by : {a b : Bool} {q : Result (Unit {0}) Fault} → a ≡ b → (IsOk q → a ≡ true) → {u : Unit {0}} → q ≡ Ok u → b ≡ true
even_by is so ok = sym is ∙ so (rw ok refl)
