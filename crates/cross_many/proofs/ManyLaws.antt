-- The exits of the job for many lines.
use Prim.Native.Nat.{ℕ, ◌*◌, ◌/◌, ◌<◌, ◌≤◌, min}
use native.Mathlib.Nat.{mul-le-mul}
use native.Mathlib.Omega.{arith}
use mathlib.Core.Path.{◌≡◌, refl, sym, ap, ◌∙◌}
use mathlib.Core.Bool.{Bool, true, false}
use mathlib.Core.List.{List}
use borrow.Author.Tests.{le-leb, lt-leb, leb-true, leb-false}
use lib.IntN.{ℤ}
use Rattle.std.proofs.Common.{Result, Ok, Err}
use Rattle.outcome.specs.Outcome.{need, room as room_for}
use Rattle.outcome.specs.Refusing.{number_of, judged}
use Rattle.outcome.specs.declared.Fault.{Fault}
use lib.Dec.{leb}
use lib.ListN.{length, length-map}
use lib.Ieee.{Float}
use Rattle.lines.specs.Lines.{LineLists, line_lists}
use Rattle.cross_shapes.specs.declared.Probe.{Probe}
use Rattle.cross_line.specs.Crossing.{shape_cuts}
use Rattle.cross_drawn.specs.Asking.{list_room}
use Rattle.cross_drawn.specs.Drawn.{Drawn, rows_of, lines_from, positions_in, shapes_in, drawn_lists, drawn}
use Rattle.cross_drawn.specs.Judging.{lines_judged}
use Rattle.cross_drawn.specs.Lent.{probes_of}
use Rattle.cross_drawn.specs.Refusing.{OfLines, gives, refuses, part_of, of_none, ◌>>◌}
use Rattle.cross_drawn.proofs.DrawnLaws.{positions_many, shapes_many, rows-count}
use Rattle.cross_drawn.proofs.FewLaws.{lines_few}
use Rattle.cross_pass.specs.Passing.{Fits, AllWritten}
use Rattle.cross_many.specs.Answer.{many_counts, many_counts_of, on_line, many_of, CrossedMany}
use Rattle.cross_many.specs.Crossing.{crossing_probes, crossing_many}
use Rattle.cross_many.specs.Passing.{Wanted}
use Rattle.cross_many.specs.declared.Counts.{Counts}
use Rattle.cross_many.specs.declared.LineFault.{LineFault}

-- ---- what is known where the lines are counted and judged

-- as many bytes as the machine can count
pub rows_fit_machine : (n k : ℕ) → n ≤ 256 → k ≤ 4294967296 → n * k < 18446744073709551616
rows_fit_machine n k few h = let product : n * k ≤ 256 * 4294967296 = mul-le-mul few h in omega arith

-- ---- room for the crossings
pub room_for_two : (kinds : List ℕ) (numbers : List Float) (probes : List Probe) (room count : ℕ) → count ≡ length probes → length kinds * count ≤ room / 2 → Wanted (drawn kinds numbers probes) room 0
room_for_two kinds numbers probes room count is h = record { enough = λ z. fit; short = λ z. absurd (omega arith) }
  where
    fit : length (lines_from 0 (drawn kinds numbers probes)) ≤ room
    fit = omega (arith, lines_few 0 kinds numbers probes, ap (λ j. length kinds * j) is)

pub all_fit : (kinds : List ℕ) (numbers lines : List Float) (R N : List ℕ) (P : List ℤ) (S : List ℕ) (room wanted : ℕ) → Wanted (drawn kinds numbers (probes_of lines)) room wanted → wanted ≤ room
    → room ≡ min (min (length N) (length P)) (length S) → (count : ℕ) → count ≡ length (probes_of lines) → length kinds * count ≤ length R → Fits (drawn kinds numbers (probes_of lines)) (line_lists R N P S)
all_fit kinds numbers lines R N P S room wanted wants roomy least count is rows_fit = record {
  rows = omega (arith, rows_fit, rows-count kinds numbers (probes_of lines), ap (λ j. length kinds * j) is);
  numbers = omega (arith, wants.enough roomy, least);
  positions = omega (arith, wants.enough roomy, least);
  shapes = omega (arith, wants.enough roomy, least);
}

-- ---- a question of room that is answered no
pub room_short : (n long : ℕ) (q : Result (Unit {0}) Fault) (f : Fault) → judged q ≡ room_for n long → q ≡ Err f → (long < n) × ((r : Result Counts LineFault) → r ≡ Err (on_line 0 f) → many_of r ≡ refuses 9 n 0)
room_short n long q f asked e = by (leb n long) refl (sym (ap judged e) ∙ asked)
  where
    by : (t : Bool) → leb n long ≡ t → judged {A = Unit {0}} (Err f) ≡ need t 9 n → (long < n) × ((r : Result Counts LineFault) → r ≡ Err (on_line 0 f) → many_of r ≡ refuses 9 n 0)
    by true t h = absurd (let z : ◌≡◌ {A = ℕ} 0 1 = cc in omega arith)
    by false t h =
        let a : number_of f.reason ≡ 9 = cc in
        let b : f.place ≡ n = cc in
        (leb-false n long t, λ r g. ap many_of g ∙ (λ i. refuses (a i) (b i) 0))

-- ---- a refusal writes nothing
refusal : (o : OfLines Drawn) (lent : LineLists) (r : Result Counts LineFault) (number place line : ℕ) → many_of r ≡ refuses number place line → o ≡ refuses number place line → CrossedMany o lent r lent
refusal o lent r number place line says e = record {
  answer = says ∙ sym (ap (part_of many_counts_of) e);
  lists = record { rows_list = rw e; lines_list = rw e; positions_list = rw e; shapes_list = rw e };
}

module _ (kinds : List ℕ) (numbers lines : List Float) (R N : List ℕ) (P : List ℤ) (S : List ℕ) where
  module _ (few : length kinds ≤ 256) (count : ℕ) (is : count ≡ length (probes_of lines)) where
    module _ (countable : count ≤ 4294967296) where
      within : leb (length (probes_of lines)) 4294967296 ≡ true
      within = ap (λ j. leb j 4294967296) (sym is) ∙ le-leb count 4294967296 countable

      module _ (judged-all : lines_judged 0 kinds numbers (probes_of lines) ≡ gives tt) where
        abbrev all : Drawn
        all = drawn kinds numbers (probes_of lines)

        abbrev needed : ℕ
        needed = length kinds * count

        abbrev total : ℕ
        total = length (lines_from 0 all)

        asked : crossing_many kinds numbers lines (line_lists R N P S) ≡ (of_none (list_room (drawn_lists all) (line_lists R N P S)) >> gives all)
        unfolding crossing_probes
        asked = rw (le-leb (length kinds) 256 few, within, judged-all)

        rows-needed : length (rows_of all) ≡ needed
        rows-needed = rows-count kinds numbers (probes_of lines) ∙ ap (λ j. length kinds * j) (sym is)

        positions_needed : length (positions_in all) ≡ total
        positions_needed = positions_many 0 all

        shapes_needed : length (shapes_in all) ≡ total
        shapes_needed = shapes_many 0 all

        pub short_rows : (r : Result Counts LineFault) → many_of r ≡ refuses 9 needed 0 → length R < needed → CrossedMany (crossing_many kinds numbers lines (line_lists R N P S)) (line_lists R N P S) r (line_lists R N P S)
        unfolding list_room
        short_rows r says h = refusal _ (line_lists R N P S) r 9 needed 0 says (asked ∙ rw (rows-needed, lt-leb needed (length R) h))

        module _ (rows_fit : needed ≤ length R) (room wanted : ℕ) (least : room ≡ min (min (length N) (length P)) (length S)) (wants : Wanted all room wanted) where
          short_list : (a b c : Bool) → leb total (length N) ≡ a → leb total (length P) ≡ b → leb total (length S) ≡ c → room < total → crossing_many kinds numbers lines (line_lists R N P S) ≡ refuses 9 total 0
          unfolding list_room
          short_list false b c x y z h = asked ∙ rw (rows-needed, le-leb needed (length R) rows_fit, x)
          short_list true false c x y z h = asked ∙ rw (rows-needed, positions_needed, le-leb needed (length R) rows_fit, x, y)
          short_list true true false x y z h = asked ∙ rw (rows-needed, positions_needed, shapes_needed, le-leb needed (length R) rows_fit, x, y, z)
          short_list true true true x y z h = absurd (omega (arith, least, leb-true total (length N) x, leb-true total (length P) y, leb-true total (length S) z))

          pub short_crossings : (r : Result Counts LineFault) → many_of r ≡ refuses 9 wanted 0 → room < wanted → CrossedMany (crossing_many kinds numbers lines (line_lists R N P S)) (line_lists R N P S) r (line_lists R N P S)
          short_crossings r says h =
              let e : wanted ≡ total = wants.short h in
              refusal _ (line_lists R N P S) r 9 wanted 0 says
              (short_list (leb total (length N)) (leb total (length P)) (leb total (length S)) refl refl refl (omega arith) ∙ ap (λ j. refuses 9 j 0) (sym e))

          module _ (roomy : wanted ≤ room) where
            numbers_fit : total ≤ length N
            numbers_fit = (all_fit kinds numbers lines R N P S room wanted wants roomy least count is rows_fit).numbers

            positions_fit : total ≤ length P
            positions_fit = (all_fit kinds numbers lines R N P S room wanted wants roomy least count is rows_fit).positions

            shapes_fit : total ≤ length S
            shapes_fit = (all_fit kinds numbers lines R N P S room wanted wants roomy least count is rows_fit).shapes

            given-all : crossing_many kinds numbers lines (line_lists R N P S) ≡ gives all
            unfolding list_room
            given-all =
                asked
                ∙ rw (rows-needed, positions_needed, shapes_needed, le-leb needed (length R) rows_fit, le-leb total (length N) numbers_fit, le-leb total (length P) positions_fit, le-leb total (length S) shapes_fit)

            pub all_held : (R' N' : List ℕ) (P' : List ℤ) (S' : List ℕ) (crossings : ℕ) → AllWritten all (line_lists R N P S) crossings (line_lists R' N' P' S')
                → CrossedMany (crossing_many kinds numbers lines (line_lists R N P S)) (line_lists R N P S) (Ok (many_counts count crossings)) (line_lists R' N' P' S')
            all_held R' N' P' S' crossings h = record {
              answer = rw (given-all, length-map (probes_of lines) (λ p. shape_cuts p kinds numbers) ∙ sym is, h.counted);
              lists = record { rows_list = rw given-all h.holding.rows; lines_list = rw given-all h.holding.numbers; positions_list = rw given-all h.holding.positions; shapes_list = rw given-all h.holding.shapes };
            }
