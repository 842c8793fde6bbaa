-- Lists cut between lines: the parts give the whole's judgement, its walls and its room.
use Prim.Native.Nat.{ℕ, ◌+◌, ◌*◌, ◌<◌, ◌≤◌}
use native.Mathlib.Omega.{arith}
use mathlib.Core.Path.{◌≡◌, refl, sym, ap, ◌∙◌, subst}
use mathlib.Core.Bool.{true}
use mathlib.Core.List.{List, [], ◌++◌, map}
use mathlib.Core.Logic.{◌↔◌}
use borrow.Author.Tests.{eq-eqb, eqb-true}
use lib.Dec.{eqb}
use lib.ListN.{length, take, drop, length-take, length-drop, take-append-drop, length-map}
use lib.Seq.{length-take-le}
use Rattle.outcome.specs.Outcome.{given, ◌>>◌}
use Rattle.outcome.proofs.Questions.{given-same}
use Rattle.formula.specs.Formula.{Formula}
use Rattle.lines.specs.Lines.{LineLists, line_lists, row_count, judged, AnswerLists, roomy_lists, Wall, walls, classified}
use Rattle.lines.proofs.Judgement.{both, and_yes, judged_in_order}
use Rattle.line_cuts.specs.Cuts.{first_part, lowered, second_part, together, on_later, room_for}
use Rattle.line_cuts.specs.Places.{CutAt, OneLength, Leads}
use Rattle.line_cuts.proofs.Together.{alike, judged-asks, rows_all, walls-together, accepted-together, rest-room}
use Rattle.line_cuts.proofs.Places.{AllFrom, sorted_from, lowered-from, raised_again}

alike_long : (c : LineLists) → alike c ≡ true → OneLength c
alike_long c e =
    let p = and_yes (eqb (length c.positions) (length c.lines)) (eqb (length c.shapes) (length c.lines)) e in
    record { positions_long = eqb-true (length c.positions) (length c.lines) p.0; shapes_long = eqb-true (length c.shapes) (length c.lines) p.1 }

pub long_alike : (c : LineLists) → OneLength c → alike c ≡ true
long_alike c e = rw (eq-eqb (length c.positions) (length c.lines) e.positions_long, eq-eqb (length c.shapes) (length c.lines) e.shapes_long)

pub judged_long : (names : ℕ) (c : LineLists) → judged names c ≡ given tt → OneLength c
judged_long names c e = alike_long c (judged-asks names c e).0

module _ (f : Formula) (names : ℕ) (c : LineLists) (lent : AnswerLists) where
  pub gives : (ws : List Wall) → classified f names c lent ≡ given ws → (judged names c ≡ given tt) × (walls f names c ≡ ws)
  unfolding classified
  gives ws g =
      let p = both (judged names c) (roomy_lists (room_for names c) lent >> given (walls f names c)) ws g in
      let q = both (roomy_lists (room_for names c) lent) (given (walls f names c)) ws p.1 in
      (p.0, given-same _ _ q.1)

  pub roomy-gives : judged names c ≡ given tt → roomy_lists (room_for names c) lent ≡ given tt → classified f names c lent ≡ given (walls f names c)
  unfolding classified
  roomy-gives e room = rw (e, room)

module _ (names r i : ℕ) (c : LineLists) (cut : CutAt names r i c) where
  abbrev fst : LineLists
  fst = first_part names r i c

  abbrev snd : LineLists
  snd = second_part names r i c

  -- where the lists of crossings are of one length, so are the parts'
  pub first_leads : OneLength c → Leads names r fst
  first_leads h = record {
    whole = length-take-le (r * names) c.rows cut.rows_there;
    one_length = record {
      positions_long = omega (arith, length-take i c.positions, length-take i c.lines, h.positions_long);
      shapes_long = omega (arith, length-take i c.shapes, length-take i c.lines, h.shapes_long);
    };
    below = cut.between.before;
  }

  pub second_long : OneLength c → OneLength snd
  second_long h = record {
    positions_long = omega (arith, length-map (drop i c.lines) (lowered r), length-drop i c.positions, length-drop i c.lines, h.positions_long);
    shapes_long = omega (arith, length-map (drop i c.lines) (lowered r), length-drop i c.shapes, length-drop i c.lines, h.shapes_long);
  }

  -- and the other way round
  parts_long : OneLength fst → OneLength snd → OneLength c
  parts_long f s = record {
    positions_long = omega (
      arith,
      f.positions_long,
      s.positions_long,
      length-map (drop i c.lines) (lowered r),
      length-take i c.positions,
      length-drop i c.positions,
      length-take i c.lines,
      length-drop i c.lines,
    );
    shapes_long = omega (
      arith,
      f.shapes_long,
      s.shapes_long,
      length-map (drop i c.lines) (lowered r),
      length-take i c.shapes,
      length-drop i c.shapes,
      length-take i c.lines,
      length-drop i c.lines,
    );
  }

  -- ---- rows

  abbrev ahead : LineLists
  ahead = line_lists fst.rows [] [] []

  ahead_leads : Leads names r ahead
  ahead_leads = record { whole = length-take-le (r * names) c.rows cut.rows_there; one_length = record { positions_long = refl; shapes_long = refl }; below = tt }

  rows_again : fst.rows ++ snd.rows ≡ c.rows
  rows_again = take-append-drop (r * names) c.rows

  pub rows_in-all : 0 < names → r + row_count names snd.rows ≡ row_count names c.rows
  rows_in-all named = sym (rows_all names r named ahead snd ahead_leads) ∙ ap (row_count names) rows_again

  -- accepted lists rise: from the cut on, all are on later lines
  whole_from : judged names c ≡ given tt → AllFrom r (drop i c.lines)
  whole_from e =
      let h = judged_long names c e in
      sorted_from r i c.lines c.positions c.shapes cut.between h.positions_long h.shapes_long (judged_in_order names c e).sorted

  -- ---- where all are, the parts together are the whole

  module _ (after : AllFrom r (drop i c.lines)) where
    put_back : together r fst snd ≡ c
    put_back =
        let rows = take-append-drop (r * names) c.rows in
        let lines = ap (λ (ls : List ℕ). take i c.lines ++ ls) (raised_again r (drop i c.lines) cut.between.numbers after) ∙ take-append-drop i c.lines in
        let positions = take-append-drop i c.positions in
        let shapes = take-append-drop i c.shapes in
        λ j. record { rows = rows j; lines = lines j; positions = positions j; shapes = shapes j }

    module _ (named : 0 < names) (h : OneLength c) where
      walls-on-cut : (f : Formula) → walls f names c ≡ walls f names fst ++ map (on_later r) (walls f names snd)
      walls-on-cut f = ap (walls f names) (sym put_back) ∙ walls-together names r named fst snd (first_leads h) f

  module _ (named : 0 < names) where
    -- (1) The whole is accepted exactly if both parts are, and it has at most 4294967296 rows.
    pub accepted-cut : (judged names c ≡ given tt) ↔ ((judged names fst ≡ given tt) × (judged names snd ≡ given tt) × (row_count names c.rows ≤ 4294967296))
    accepted-cut = (there, back)
      where
        there : judged names c ≡ given tt → (judged names fst ≡ given tt) × (judged names snd ≡ given tt) × (row_count names c.rows ≤ 4294967296)
        there e =
            let h = judged_long names c e in
            let p = (accepted-together names r named fst snd (first_leads h)).0 (ap (judged names) (put_back (whole_from e)) ∙ e) in
            (p.0, p.1, omega (arith, p.2, rows_in-all named))

        back : (judged names fst ≡ given tt) × (judged names snd ≡ given tt) × (row_count names c.rows ≤ 4294967296) → judged names c ≡ given tt
        back p =
            let s = judged_long names snd p.1 in
            let h = parts_long (judged_long names fst p.0) s in
            let few : r + row_count names snd.rows ≤ 4294967296 = omega (arith, p.2, rows_in-all named) in
            let after : AllFrom r (drop i c.lines) = lowered-from r (row_count names snd.rows) few (drop i c.lines) (drop i c.positions) (drop i c.shapes) cut.between.numbers
            (omega (arith, s.positions_long, length-map (drop i c.lines) (lowered r))) (omega (arith, s.shapes_long, length-map (drop i c.lines) (lowered r))) (judged_in_order names snd p.1).kept in
            ap (judged names) (sym (put_back after)) ∙ (accepted-together names r named fst snd (first_leads h)).1 (p.0, p.1, few)

    -- Of accepted lists:
    module _ (e : judged names c ≡ given tt) where
      fits : together r fst snd ≡ c
      fits = put_back (whole_from e)

      leads : Leads names r fst
      leads = first_leads (judged_long names c e)

      -- (2) The walls of the whole are the first part's, then the second's with r added to each line number.
      pub walls-cut : (f : Formula) → walls f names c ≡ walls f names fst ++ map (on_later r) (walls f names snd)
      walls-cut f = walls-on-cut (whole_from e) named (judged_long names c e) f

      -- After the first part's walls there is still the room that is asked for the second.
      pub rest-room-cut : (f : Formula) → length (walls f names fst) + room_for names snd ≤ room_for names c
      rest-room-cut f = subst (λ (d : LineLists). length (walls f names fst) + room_for names snd ≤ room_for names d) fits (rest-room names r named fst snd leads f (accepted-cut.0 e).0)
