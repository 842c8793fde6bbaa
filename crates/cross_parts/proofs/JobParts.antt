-- The job for many lines, of lines that are cut into parts: it gives for the parts what it gives for the whole, and exactly where it gives that.
use Prim.Native.Nat.{ℕ, suc, ◌+◌, ◌*◌, ◌≤◌}
use native.Mathlib.Omega.{arith}
use mathlib.Core.Path.{◌≡◌, refl, sym, ap, ◌∙◌}
use mathlib.Core.Bool.{Bool, true, false}
use mathlib.Core.List.{List, [], ◌∷◌, ◌++◌, map}
use borrow.Author.Tests.{le-leb}
use lib.Dec.{leb}
use lib.Ieee.{Float}
use lib.ListN.{length, take, drop, length-append}
use Rattle.outcome.specs.Outcome.{Outcome, given, refused, unfit, need}
use Rattle.lines.specs.Lines.{LineLists}
use Rattle.line_cuts.specs.Cuts.{total, join_lists}
use Rattle.cross_shapes.specs.declared.Probe.{Probe}
use Rattle.cross_drawn.specs.Asking.{line_judged, list_room}
use Rattle.cross_many.specs.Crossing.{crossing_probes, crossing_many}
use Rattle.cross_drawn.specs.Judging.{lines_judged}
use Rattle.cross_drawn.specs.Drawn.{Drawn, drawn_lists}
use Rattle.cross_drawn.specs.Lent.{probes_of}
use Rattle.cross_drawn.specs.Refusing.{OfLines, gives, refuses, of_line, of_none, ◌>>◌}
use Rattle.cross_many.proofs.Settled.{many_few, many_drawn}
use Rattle.cross_parts.specs.Parts.{probe_parts, EachDrawn, one_after_another}
use Rattle.cross_parts.proofs.ProbeParts.{probes_cut, rest-whole}
use Rattle.cross_parts.proofs.DrawnParts.{all, drawn_of, drawn-after, each_drawn, lists_of_parts}

-- ---- which lines are good

abbrev AllGood : List ℕ → List Float → List Probe → Type 0
AllGood kinds numbers [] = Unit {0}
AllGood kinds numbers (p ∷ ps) = (line_judged kinds numbers p ≡ given tt) × AllGood kinds numbers ps

module _ (kinds : List ℕ) (numbers : List Float) where
  of_line_lem : (i : ℕ) (o : Outcome (Unit {0})) (q : OfLines (Unit {0})) → (of_line i o >> q) ≡ gives tt → (o ≡ given tt) × (q ≡ gives tt)
  of_line_lem i (given tt) q e = (refl, e)
  of_line_lem i (refused k p) q e = let z : ◌≡◌ {A = ℕ} 0 1 = cc in absurd (omega arith)
  of_line_lem i (unfit k p) q e = let z : ◌≡◌ {A = ℕ} 0 1 = cc in absurd (omega arith)

  judged_good : (i : ℕ) (ps : List Probe) → lines_judged i kinds numbers ps ≡ gives tt → AllGood kinds numbers ps
  unfolding lines_judged
  judged_good i [] e = tt
  judged_good i (p ∷ ps) e = let h = of_line_lem i (line_judged kinds numbers p) (lines_judged (suc i) kinds numbers ps) e in (h.0, judged_good (suc i) ps h.1)

  good_judged : (i : ℕ) (ps : List Probe) → AllGood kinds numbers ps → lines_judged i kinds numbers ps ≡ gives tt
  unfolding lines_judged
  good_judged i [] h = refl
  good_judged i (p ∷ ps) h = rw h.0 (good_judged (suc i) ps h.1)

  good_join : (ps qs : List Probe) → AllGood kinds numbers ps → AllGood kinds numbers qs → AllGood kinds numbers (ps ++ qs)
  good_join [] qs a b = b
  good_join (p ∷ ps) qs a b = (a.0, good_join ps qs a.1 b)

  good_split : (ps qs : List Probe) → AllGood kinds numbers (ps ++ qs) → AllGood kinds numbers ps × AllGood kinds numbers qs
  good_split [] qs h = (tt, h)
  good_split (p ∷ ps) qs h = let s = good_split ps qs h.1 in ((h.0, s.0), s.1)

  -- every part's lines are good exactly if those of the whole are
  abbrev EachGood : List (List Float) → Type 0
  EachGood [] = Unit {0}
  EachGood (lines ∷ parts) = AllGood kinds numbers (probes_of lines) × EachGood parts

  good_all : (sizes : List ℕ) (lines : List Float) → 6 * total sizes ≤ length lines → EachGood (probe_parts sizes lines) → AllGood kinds numbers (probes_of lines)
  good_all [] lines h g = g.0
  good_all (r ∷ rs) lines h g =
      let p = rest-whole r rs lines h in
      rw (probes_cut r lines p.0) (good_join (probes_of (take (6 * r) lines)) (probes_of (drop (6 * r) lines)) g.0 (good_all rs (drop (6 * r) lines) p.1 g.1))

  good_each : (sizes : List ℕ) (lines : List Float) → 6 * total sizes ≤ length lines → AllGood kinds numbers (probes_of lines) → EachGood (probe_parts sizes lines)
  good_each [] lines h g = (g, tt)
  good_each (r ∷ rs) lines h g =
      let p = rest-whole r rs lines h in
      let s = good_split (probes_of (take (6 * r) lines)) (probes_of (drop (6 * r) lines)) (rw (probes_cut r lines p.0) at g) in
      (s.0, good_each rs (drop (6 * r) lines) p.1 s.1)

-- ---- the job

gives_then : {A B : Type 0} (q : OfLines A) (o : OfLines B) (v : B) → (q >> o) ≡ gives v → ((a : A) × (q ≡ gives a)) × (o ≡ gives v)
gives_then (gives a) o v e = ((a, refl), e)
gives_then (refuses k p l) o v e = let z : ◌≡◌ {A = ℕ} 0 1 = cc in absurd (omega arith)

need-holds : (b : Bool) (k p : ℕ) (u : Unit {0}) → of_none (need b k p) ≡ gives u → b ≡ true
need-holds true k p u e = refl
need-holds false k p u e = let z : ◌≡◌ {A = ℕ} 0 1 = cc in absurd (omega arith)

own_room : (answer : LineLists) → list_room answer answer ≡ given tt
unfolding list_room
own_room answer =
    rw (
      le-leb (length answer.rows) (length answer.rows) (omega arith),
      le-leb (length answer.lines) (length answer.lines) (omega arith),
      le-leb (length answer.positions) (length answer.positions) (omega arith),
      le-leb (length answer.shapes) (length answer.shapes) (omega arith),
    )

module _ (kinds : List ℕ) (numbers : List Float) where
  asked_of : (lines : List Float) (lent : LineLists) (v : Drawn) → crossing_many kinds numbers lines lent ≡ gives v → (leb (length kinds) 256 ≡ true) × AllGood kinds numbers (probes_of lines)
  unfolding crossing_probes
  asked_of lines lent v e =
      let a = gives_then (of_none (need (leb (length kinds) 256) 16 256)) _ v e in
      let b = gives_then (of_none (need (leb (length (probes_of lines)) 4294967296) 14 0)) _ v a.1 in
      let c = gives_then (lines_judged 0 kinds numbers (probes_of lines)) _ v b.1 in
      (need-holds (leb (length kinds) 256) 16 256 a.0.0 a.0.1, judged_good kinds numbers 0 (probes_of lines) c.0.1)

  answered_so : leb (length kinds) 256 ≡ true → (lines : List Float) → length (probes_of lines) ≤ 4294967296 → AllGood kinds numbers (probes_of lines) → (lent : LineLists) → list_room (drawn_lists (all kinds numbers lines)) lent ≡ given tt
      → crossing_many kinds numbers lines lent ≡ gives (all kinds numbers lines)
  unfolding crossing_probes
  answered_so few lines countable good lent room = rw (few, le-leb (length (probes_of lines)) 4294967296 countable, good_judged kinds numbers 0 (probes_of lines) good, room)

  each_good : (parts : List (List Float)) (vs : List Drawn) → EachDrawn (crossing_many kinds numbers) parts vs → EachGood kinds numbers parts
  each_good [] [] g = tt
  each_good [] (v ∷ vs) g = absurd g
  each_good (lines ∷ parts) [] g = absurd g
  each_good (lines ∷ parts) (v ∷ vs) g = ((asked_of lines g.0.0 v g.0.1).1, each_good parts vs g.1)

  -- the first part, which is always there, has at most 256 shapes
  shapes_few : (sizes : List ℕ) (lines : List Float) (vs : List Drawn) → EachDrawn (crossing_many kinds numbers) (probe_parts sizes lines) vs → leb (length kinds) 256 ≡ true
  shapes_few sizes lines [] g = by sizes g
    where
      by : (sizes : List ℕ) → EachDrawn (crossing_many kinds numbers) (probe_parts sizes lines) [] → leb (length kinds) 256 ≡ true
      by [] g = absurd g
      by (r ∷ rs) g = absurd g
  shapes_few [] lines (v ∷ vs) g = (asked_of lines g.0.0 v g.0.1).0
  shapes_few (r ∷ rs) lines (v ∷ vs) g = (asked_of (take (6 * r) lines) g.0.0 v g.0.1).0

  module _ (sizes : List ℕ) (lines : List Float) (whole : 6 * total sizes ≤ length lines) where
    pub drawn-whole : (vs : List Drawn) → EachDrawn (crossing_many kinds numbers) (probe_parts sizes lines) vs → all kinds numbers lines ≡ one_after_another vs
    drawn-whole vs g = drawn-after kinds numbers sizes lines whole ∙ ap one_after_another (sym (each_drawn kinds numbers (probe_parts sizes lines) vs g))

    -- What the job gives for the parts, each with lists of its own, it gives for the whole, if there are not too many lines in all and it is lent the room it asks for.
    pub crossing_parts : (vs : List Drawn) → EachDrawn (crossing_many kinds numbers) (probe_parts sizes lines) vs → length (probes_of lines) ≤ 4294967296
        → (lent : LineLists) → list_room (join_lists sizes (map drawn_lists vs)) lent ≡ given tt → crossing_many kinds numbers lines lent ≡ gives (one_after_another vs)
    crossing_parts vs g few lent room =
        let is = drawn-whole vs g in
        let roomy : list_room (drawn_lists (all kinds numbers lines)) lent ≡ given tt = ap (λ (c : LineLists). list_room c lent) (ap drawn_lists is ∙ lists_of_parts kinds numbers sizes lines whole vs g) ∙ room in
        answered_so (shapes_few sizes lines vs g) lines few (good_all kinds numbers sizes lines whole (each_good (probe_parts sizes lines) vs g)) lent roomy ∙ ap gives is

  each_answered : leb (length kinds) 256 ≡ true → (sizes : List ℕ) (lines : List Float) → 6 * total sizes ≤ length lines → length (probes_of lines) ≤ 4294967296 → EachGood kinds numbers (probe_parts sizes lines)
      → EachDrawn (crossing_many kinds numbers) (probe_parts sizes lines) (drawn_of kinds numbers (probe_parts sizes lines))
  each_answered k [] lines h few g = ((drawn_lists (all kinds numbers lines), answered_so k lines few g.0 (drawn_lists (all kinds numbers lines)) (own_room (drawn_lists (all kinds numbers lines)))), tt)
  each_answered k (r ∷ rs) lines h few g =
      let p = rest-whole r rs lines h in
      let first : List Float = take (6 * r) lines in
      let rest : List Float = drop (6 * r) lines in
      let count : length (probes_of lines) ≡ length (probes_of first) + length (probes_of rest) = ap length (probes_cut r lines p.0) ∙ length-append (probes_of first) (probes_of rest) in
      ((drawn_lists (all kinds numbers first), answered_so k first (omega (arith, count)) g.0 (drawn_lists (all kinds numbers first)) (own_room (drawn_lists (all kinds numbers first)))), each_answered k rs rest p.1 (omega (arith, count)) g.1)

  -- What the job gives for the whole, it gives for every part, lent the room that it asks for.
  pub crossing_whole : (sizes : List ℕ) (lines : List Float) → 6 * total sizes ≤ length lines → (lent : LineLists) (v : Drawn) → crossing_many kinds numbers lines lent ≡ gives v
      → (vs : List Drawn) × EachDrawn (crossing_many kinds numbers) (probe_parts sizes lines) vs × (v ≡ one_after_another vs)
  crossing_whole sizes lines whole lent v g =
      let a = asked_of lines lent v g in
      let parts : List (List Float) = probe_parts sizes lines in (
        drawn_of kinds numbers parts,
        each_answered a.0 sizes lines whole (many_few kinds numbers lines lent v g) (good_each kinds numbers sizes lines whole a.1),
        many_drawn kinds numbers lines lent v g ∙ drawn-after kinds numbers sizes lines whole,
      )
