-- What the promise of the job for many lines settles: two results that meet it are equal; it refuses exactly when the rules say, and then
-- writes nothing; a refusal has number 16, 14 or 9.
use Prim.Native.Nat.{ℕ, suc, ◌+◌, ◌<◌, ◌≤◌}
use native.Mathlib.Omega.{arith}
use mathlib.Core.Path.{◌≡◌, refl, sym, ap, ◌∙◌}
use mathlib.Core.Bool.{Bool, true, false}
use mathlib.Core.List.{List, [], ◌∷◌}
use mathlib.Core.Logic.{◌⊎◌, inl, inr}
use borrow.Author.Tests.{leb-true}
use lib.Dec.{leb}
use lib.ListN.{length}
use lib.Ieee.{Float}
use Rattle.outcome.specs.Outcome.{Outcome, given, refused, unfit, need}
use Rattle.outcome.specs.Numbered.{Numbered}
use Rattle.outcome.specs.Settled.{Unique, Refusal, Refuses, Said}
use Rattle.outcome.proofs.NumberedLaws.{given-numbered, refused-numbered}
use Rattle.outcome.proofs.Refusals.{Asks, asks-need, asks_then, asks-room}
use Rattle.outcome.proofs.Settling.{Settled, settled}
use Rattle.outcome.proofs.Judging.{judged_same}
use Rattle.outcome.specs.Refusing.{number_of}
use Rattle.outcome.specs.declared.Fault.{Fault}
use Rattle.std.proofs.Common.{Result, Ok, Err}
use Rattle.lines.specs.Lines.{LineLists}
use Rattle.cross_cuts.specs.Cuts.{Cut, sound, faultless}
use Rattle.cross_shapes.specs.declared.Probe.{Probe}
use Rattle.cross_line.specs.Crossing.{good_probe, shape_cuts}
use Rattle.cross_drawn.specs.Asking.{line_judged, list_room}
use Rattle.cross_drawn.specs.Drawn.{Drawn, drawn_lists, drawn}
use Rattle.cross_drawn.specs.Judging.{lines_judged}
use Rattle.cross_drawn.specs.Lent.{probes_of}
use Rattle.cross_drawn.specs.Refusing.{OfLines, gives, refuses, part_of, of_line, of_none, outcome_of, ◌>>◌}
use Rattle.cross_many.specs.Answer.{many_counts_of, many_of, CrossedMany}
use Rattle.cross_many.specs.declared.Counts.{Counts}
use Rattle.cross_many.specs.declared.LineFault.{LineFault}
use Rattle.cross_many.specs.Crossing.{crossing_probes, crossing_many}

many_of-same : (r q : Result Counts LineFault) → many_of r ≡ many_of q → r ≡ q
many_of-same (Ok a) (Ok b) e = let s : a ≡ b = cc in ap (λ x. Ok x) s
many_of-same (Ok a) (Err f) e = absurd (let z : ◌≡◌ {A = ℕ} 0 1 = cc in omega arith)
many_of-same (Err f) (Ok b) e = absurd (let z : ◌≡◌ {A = ℕ} 0 1 = cc in omega arith)
many_of-same (Err f) (Err g) e =
    let n : number_of f.fault.reason ≡ number_of g.fault.reason = cc in
    let p : f.fault.place ≡ g.fault.place = cc in
    let l : f.line ≡ g.line = cc in
    let s : ◌≡◌ {A = Result Counts Fault} (Err f.fault) (Err g.fault) = judged_same (Err f.fault) (Err g.fault) (λ i. refused (n i) (p i)) in
    let x : f.fault ≡ g.fault = cc in
    λ i. Err (record { fault = x i; line = l i })

part-refuses : (line : ℕ) (o : OfLines Drawn) (number place : ℕ) → refuses number place line ≡ part_of many_counts_of o → o ≡ refuses number place line
part-refuses line (gives d) number place e = let z : ◌≡◌ {A = ℕ} 0 1 = cc in absurd (omega arith)
part-refuses line (refuses k p l) number place e =
    let a : k ≡ number = cc in
    let b : p ≡ place = cc in
    let c : l ≡ line = cc in
    rw (a, b, c)

many_settled : (line : ℕ) → Settled (Said many_of CrossedMany) (λ number place. refuses number place line) (λ number place. refuses number place line)
many_settled line =
    settled (λ (v : OfLines Counts). v) (part_of many_counts_of) (λ r q e. e) (λ o lent v after s. sym s.1.0 ∙ s.1.1.answer)
    (λ o lent v after s i. record { rows = s.1.1.lists.rows_list i; lines = s.1.1.lists.lines_list i; positions = s.1.1.lists.positions_list i; shapes = s.1.1.lists.shapes_list i })
    (λ k p. refl) (part-refuses line) (λ k p lent. refl)

pub many_unique : Unique CrossedMany
many_unique o lent r q after other a b =
    let l = a.lists in
    let m = b.lists in (
      many_of-same r q (a.answer ∙ sym b.answer),
      λ i. record { rows = (l.rows_list ∙ sym m.rows_list) i; lines = (l.lines_list ∙ sym m.lines_list) i; positions = (l.positions_list ∙ sym m.positions_list) i; shapes = (l.shapes_list ∙ sym m.shapes_list) i },
    )

-- what an answer says is a refusal, on the line with this number, only where the outcome is
pub many_refusal : (line : ℕ) → Refusal (Said many_of CrossedMany) (λ number place. refuses number place line) (λ number place. refuses number place line)
many_refusal line = (many_settled line).refusal

pub many_refuses : (line : ℕ) → Refuses (Said many_of CrossedMany) (λ number place. refuses number place line) (λ number place. refuses number place line)
many_refuses line = (many_settled line).refuses

-- ---- which refusals there are

-- what is refused has a number and a line like this
abbrev Says : {A : Type 0} → (ℕ → ℕ → Type 0) → OfLines A → Type 0
Says P (gives a) = Unit {0}
Says P (refuses number place line) = P number line

says_of : {A : Type 0} (P : ℕ → ℕ → Type 0) (line : ℕ) (o : Outcome A) → Asks (λ k. P k line) o → Says P (of_line line o)
says_of P line (given a) h = tt
says_of P line (refused k p) h = h
says_of P line (unfit k p) h = h

says_then : {A B : Type 0} (P : ℕ → ℕ → Type 0) (o : OfLines A) (q : OfLines B) → Says P o → Says P q → Says P (o >> q)
says_then P (gives a) q h i = i
says_then P (refuses k p l) q h i = h

faultless-asks : (P : ℕ → Type 0) (number i : ℕ) (cuts : List Cut) → P number → Asks P (faultless number i cuts)
unfolding faultless
faultless-asks P number i [] h = tt
faultless-asks P number i (c ∷ cuts) h = asks_then P (need (sound c) number i) (faultless number (i + 1) cuts) (asks-need P (sound c) number i h) (faultless-asks P number (i + 1) cuts h)

line-asks : (P : ℕ → Type 0) (kinds : List ℕ) (numbers : List Float) (probe : Probe) → P 16 → Asks P (line_judged kinds numbers probe)
unfolding line_judged
line-asks P kinds numbers probe h =
    asks_then P (need (good_probe probe) 16 65535) (faultless 16 0 (shape_cuts probe kinds numbers)) (asks-need P (good_probe probe) 16 65535 h) (faultless-asks P 16 0 (shape_cuts probe kinds numbers) h)

room-asks : (P : ℕ → Type 0) (needed lent : LineLists) → P 9 → Asks P (list_room needed lent)
unfolding list_room
room-asks P needed lent h =
    asks-room P (length needed.rows) (length lent.rows) _ h
    (asks-room P (length needed.lines) (length lent.lines) _ h
    (asks-room P (length needed.positions) (length lent.positions) _ h (asks-need P (leb (length needed.shapes) (length lent.shapes)) 9 (length needed.shapes) h)))

lines_say : (P : ℕ → ℕ → Type 0) (i : ℕ) (kinds : List ℕ) (numbers : List Float) (probes : List Probe) → ((line : ℕ) → P 16 line) → Says P (lines_judged i kinds numbers probes)
unfolding lines_judged
lines_say P i kinds numbers [] h = tt
lines_say P i kinds numbers (probe ∷ probes) h =
    says_then P (of_line i (line_judged kinds numbers probe)) (lines_judged (suc i) kinds numbers probes) (says_of P i (line_judged kinds numbers probe) (line-asks (λ k. P k i) kinds numbers probe (h i)))
    (lines_say P (suc i) kinds numbers probes h)

-- of a line with 16 alone
abbrev Known : ℕ → ℕ → Type 0
Known number line = (number ≡ 16) ⊎ (((number ≡ 14) ⊎ (number ≡ 9)) × (line ≡ 0))

module _ (kinds : List ℕ) (numbers : List Float) (probes : List Probe) (lent : LineLists) where
  all_say : Says Known (crossing_probes kinds numbers probes lent)
  unfolding crossing_probes
  all_say =
      says_then Known (of_none (need (leb (length kinds) 256) 16 256)) _ (says_of Known 0 (need (leb (length kinds) 256) 16 256) (asks-need (λ k. Known k 0) (leb (length kinds) 256) 16 256 (inl refl)))
      (says_then Known (of_none (need (leb (length probes) 4294967296) 14 0)) _
      (says_of Known 0 (need (leb (length probes) 4294967296) 14 0) (asks-need (λ k. Known k 0) (leb (length probes) 4294967296) 14 0 (inr (inl refl, refl))))
      (says_then Known (lines_judged 0 kinds numbers probes) _ (lines_say Known 0 kinds numbers probes (λ line. inl refl))
      (says_then Known (of_none (list_room (drawn_lists (drawn kinds numbers probes)) lent)) (gives (drawn kinds numbers probes))
      (says_of Known 0 (list_room (drawn_lists (drawn kinds numbers probes)) lent) (room-asks (λ k. Known k 0) (drawn_lists (drawn kinds numbers probes)) lent (inr (inr refl, refl)))) tt)))

module _ (kinds : List ℕ) (numbers lines : List Float) (lent : LineLists) where
  -- a refusal is 16, or 14 or 9 of no line
  pub many_refused : (number place line : ℕ) → crossing_many kinds numbers lines lent ≡ refuses number place line → (number ≡ 16) ⊎ (((number ≡ 14) ⊎ (number ≡ 9)) × (line ≡ 0))
  many_refused number place line e =
      let h : Says Known (crossing_many kinds numbers lines lent) = all_say kinds numbers (probes_of lines) lent in
      rw e at h

  above : (number line : ℕ) → Known number line → 0 < number
  above number line (inl a) = omega arith
  above number line (inr (inl a, b)) = omega arith
  above number line (inr (inr a, b)) = omega arith

  -- so no refusal has number 0
  pub many_numbered : Numbered (outcome_of (crossing_many kinds numbers lines lent))
  many_numbered = by (crossing_many kinds numbers lines lent) (all_say kinds numbers (probes_of lines) lent)
    where
      by : (o : OfLines Drawn) → Says Known o → Numbered (outcome_of o)
      by (gives d) h = given-numbered d
      by (refuses k p l) h = refused-numbered k p (above k l h)

-- ---- what is given

then_gives : {A B : Type 0} (q : OfLines A) (o : OfLines B) (v : B) → (q >> o) ≡ gives v → o ≡ gives v
then_gives (gives a) o v e = e
then_gives (refuses k p l) o v e = let z : ◌≡◌ {A = ℕ} 0 1 = cc in absurd (omega arith)

need-gives : {B : Type 0} (b : Bool) (k p : ℕ) (o : OfLines B) (v : B) → (of_none (need b k p) >> o) ≡ gives v → (b ≡ true) × (o ≡ gives v)
need-gives true k p o v e = (refl, e)
need-gives false k p o v e = let z : ◌≡◌ {A = ℕ} 0 1 = cc in absurd (omega arith)

gives_same : {A : Type 0} (a b : A) → gives a ≡ gives b → b ≡ a
gives_same a b e = cc

module _ (kinds : List ℕ) (numbers lines : List Float) (lent : LineLists) (v : Drawn) (given-v : crossing_many kinds numbers lines lent ≡ gives v) where
  few_lines : leb (length (probes_of lines)) 4294967296 ≡ true
  unfolding crossing_probes
  few_lines = (need-gives (leb (length (probes_of lines)) 4294967296) 14 0 _ v (need-gives (leb (length kinds) 256) 16 256 _ v given-v).1).0

  -- at most 4294967296 lines
  pub many_few : length (probes_of lines) ≤ 4294967296
  many_few = leb-true (length (probes_of lines)) 4294967296 few_lines

  -- for each line what it has of each shape
  pub many_drawn : v ≡ drawn kinds numbers (probes_of lines)
  unfolding crossing_probes
  many_drawn =
      let a = (need-gives (leb (length kinds) 256) 16 256 _ v given-v).1 in
      let b = (need-gives (leb (length (probes_of lines)) 4294967296) 14 0 _ v a).1 in
      let c = then_gives (lines_judged 0 kinds numbers (probes_of lines)) _ v b in
      gives_same (drawn kinds numbers (probes_of lines)) v (then_gives (of_none (list_room (drawn_lists (drawn kinds numbers (probes_of lines))) lent)) (gives (drawn kinds numbers (probes_of lines))) v c)
