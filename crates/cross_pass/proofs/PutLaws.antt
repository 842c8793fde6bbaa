-- Lines written one after another into the lists that are lent.
use Prim.Native.Nat.{ℕ, ◌+◌, ◌*◌, ◌-◌, ◌<◌, ◌≤◌}
use native.Mathlib.Omega.{arith}
use mathlib.Core.Path.{◌≡◌, refl, sym, ap, ◌∙◌}
use mathlib.Core.List.{List, [], ◌∷◌, ◌++◌, map, append_assoc, append-nil}
use lib.IntN.{ℤ}
use lib.ListN.{length, take, drop, replicate, length-append, length-drop, length-map, length-replicate, drop_of_length-le, take-append-drop}
use lib.Seq.{take_all, take_at, drop_at, drop-drop, length-take-le}
use lib.Ieee.{Float}
use Rattle.outcome.specs.Lent.{filled}
use Rattle.lines.specs.Lines.{LineLists, line_lists}
use Rattle.cross_cuts.specs.Cuts.{Cut, start_of, start_row, position_of, shape_of, line_crossings, LineCrossing}
use Rattle.cross_cuts.specs.Keys.{Held, Complete}
use Rattle.cross_answer.specs.Answer.{made_lists}
use Rattle.cross_answer.specs.Giving.{Written}
use Rattle.cross_answer.proofs.GiveLaws.{starts-written, positions_written, shapes_written}
use Rattle.cross_shapes.specs.declared.Probe.{Probe}
use Rattle.cross_line.specs.Crossing.{shape_cuts}
use Rattle.cross_line.proofs.LentLaws.{length-cuts, cuts_in_range}
use Rattle.cross_drawn.specs.Drawn.{Drawn, rows_of, lines_from, positions_in, shapes_in, drawn}
use Rattle.cross_drawn.specs.Gathered.{Sound}
use Rattle.cross_drawn.specs.Lent.{probe_from, probes_of}
use Rattle.cross_drawn.proofs.DrawnLaws.{positions_many, shapes_many, rows_more, lines_more, positions_more, shapes_more, rows-part, lines-part, rows-count}
use Rattle.cross_drawn.proofs.LineLaws.{sound-held, sound-count, drawn-next, map-append}
use Rattle.cross_pass.specs.Passing.{RoomFor, Fits, filled_from, LinePut, Holding, AllWritten}
use Rattle.cross_pass.proofs.CountLaws.{Counting, more_lines, counting_on, counting_ends}

-- ---- one line
same_numbers : {A : Type 0} (v : ℕ) (xs : List A) → replicate (length xs) v ≡ map (λ x. v) xs
same_numbers v [] = refl
same_numbers v (x ∷ xs) = ap (λ l. v ∷ l) (same_numbers v xs)

-- the part from a place on, as the code lends it, and the list once it is written
module _ {A : Type 0} where
  rest_of : (l : List A) (a : ℕ) → take (length l - a) (drop a l) ≡ drop a l
  rest_of l a = take_all (length l - a) (drop a l) (rw length-drop (omega arith))

  filled-part : (new old y : List A) (a : ℕ) → y ≡ filled new (take (length old - a) (drop a old)) → take a old ++ (y ++ drop (length old - a) (drop a old)) ≡ filled_from a new old
  filled-part new old y a e =
      let short : length (drop a old) ≤ length old - a = rw length-drop (omega arith) in
      let none : drop (length old - a) (drop a old) ≡ [] = drop_of_length-le (drop a old) short in
      rw (none, append-nil y, e, rest_of old a)

  pub part_room : (l : List A) (a m : ℕ) → a + m ≤ length l → m ≤ length (take (length l - a) (drop a l))
  part_room l a m h = rw (rest_of l a, length-drop a l) (omega arith)

-- the line's number beside each of its crossings
pub numbered : (k at m : ℕ) (N y : List ℕ) → at + m ≤ length N → y ≡ replicate (length (take (at + m - at) (drop at N))) k → take at N ++ (y ++ drop (at + m - at) (drop at N)) ≡ filled_from at (replicate m k) N
numbered k at m N y h e =
    let d : at + m - at ≡ m = omega arith in
    let t : length (take (at + m - at) (drop at N)) ≡ m = rw d (length-take-le m (drop at N) (rw length-drop (omega arith))) in
    rw (e, t, length-replicate m k, d)

pub line_put : (k at n m : ℕ) (bytes keys : List ℕ) (R N : List ℕ) (P : List ℤ) (S yR N' : List ℕ) (yP : List ℤ) (yS : List ℕ)
    → Written n m bytes keys (made_lists (take (length R - n * k) (drop (n * k) R)) (take (length P - at) (drop at P)) (take (length S - at) (drop at S))) (made_lists yR yP yS)
    → N' ≡ filled_from at (replicate m k) N
    → (probe : Probe) (kinds : List ℕ) (numbers : List Float) → Sound kinds numbers probe bytes keys m → n ≡ length kinds
    → LinePut (shape_cuts probe kinds numbers) k at (n * k) (line_lists R N P S)
    (line_lists (take (n * k) R ++ (yR ++ drop (length R - n * k) (drop (n * k) R))) N' (take at P ++ (yP ++ drop (length P - at) (drop at P)))
    (take at S ++ (yS ++ drop (length S - at) (drop at S))))
line_put k at n m bytes keys R N P S yR N' yP yS w put probe kinds numbers sound same =
    let in-range = cuts_in_range probe kinds numbers in
    let lent = made_lists (take (length R - n * k) (drop (n * k) R)) (take (length P - at) (drop at P)) (take (length S - at) (drop at S)) in
    let whole : Complete 256 16 (shape_cuts probe kinds numbers) bytes keys n m = rw same sound.gathered in
    record {
      rows = filled-part (start_row (shape_cuts probe kinds numbers)) R yR (n * k) (starts-written whole in-range lent (made_lists yR yP yS) w);
      numbers = put ∙ ap (λ l. filled_from at l N) (ap (λ j. replicate j k) (sym (sound-count kinds numbers probe bytes keys m sound)) ∙ same_numbers k (line_crossings (shape_cuts probe kinds numbers)));
      positions = filled-part (map position_of (line_crossings (shape_cuts probe kinds numbers))) P yP at (positions_written whole in-range lent (made_lists yR yP yS) w);
      shapes = filled-part (map shape_of (line_crossings (shape_cuts probe kinds numbers))) S yS at (shapes_written whole in-range lent (made_lists yR yP yS) w);
    }

-- ---- a list filled from its start, and then on from there
module _ {A : Type 0} where
  filled_on : (xs ys old new : List A) (a : ℕ) → new ≡ filled xs old → length xs ≡ a → filled_from a ys new ≡ filled (xs ++ ys) old
  filled_on xs ys old new a is e =
      let front : take a new ≡ xs = ap (take a) is ∙ take_at xs (drop (length xs) old) a e in
      let back : drop a new ≡ drop (length xs) old = ap (drop a) is ∙ drop_at xs (drop (length xs) old) a e in
      rw (front, back) (ap (λ l. xs ++ (ys ++ l)) (drop-drop (length ys) (length xs) old) ∙ sym (append_assoc xs ys (drop (length xs + length ys) old)) ∙ ap (λ j. (xs ++ ys) ++ drop j old) (sym (length-append xs ys)))

-- ---- all lines
pub record Writing (kinds : List ℕ) (numbers lines : List Float) (count : ℕ) (lent new : LineLists) (k at : ℕ) : Type 0 where
  pub counting : Counting kinds numbers lines count k at
  pub fits : Fits (drawn kinds numbers (probes_of lines)) lent
  pub holding : Holding (drawn kinds numbers (take k (probes_of lines))) lent new
  pub rows_long : length new.rows ≡ length lent.rows
  pub numbers_long : length new.lines ≡ length lent.lines
  pub positions_long : length new.positions ≡ length lent.positions
  pub shapes_long : length new.shapes ≡ length lent.shapes

pub writing_starts : {kinds : List ℕ} {numbers lines : List Float} {count : ℕ} {lent : LineLists} → Counting kinds numbers lines count 0 0 → Fits (drawn kinds numbers (probes_of lines)) lent
    → Writing kinds numbers lines count lent lent 0 0
unfolding rows_of lines_from positions_in shapes_in
writing_starts counting fits = record {
  counting = counting;
  fits = fits;
  holding = record { rows = refl; numbers = refl; positions = refl; shapes = refl };
  rows_long = refl;
  numbers_long = refl;
  positions_long = refl;
  shapes_long = refl;
}

module _ {kinds : List ℕ} {numbers lines : List Float} {count : ℕ} {lent new : LineLists} {k at : ℕ} (writing : Writing kinds numbers lines count lent new k at) where
  module _ (more : k < count) {bytes keys : List ℕ} {m : ℕ} (sound : Sound kinds numbers (probe_from (drop (6 * k) lines)) bytes keys m) where
    abbrev probe : Probe
    probe = probe_from (drop (6 * k) lines)

    before_here : k < length (probes_of lines)
    before_here = more_lines writing.counting more

    abbrev before : Drawn
    before = drawn kinds numbers (take k (probes_of lines))

    abbrev here : List Cut
    here = shape_cuts probe kinds numbers

    taken : length (take k (probes_of lines)) ≡ k
    taken = length-take-le k (probes_of lines) (omega (arith, before_here))

    length_before : length before ≡ k
    length_before = length-map (take k (probes_of lines)) (λ p. shape_cuts p kinds numbers) ∙ taken

    rows_before : length (rows_of before) ≡ length kinds * k
    rows_before = rows-count kinds numbers (take k (probes_of lines)) ∙ ap (λ j. length kinds * j) taken

    numbers-before : length (lines_from 0 before) ≡ at
    numbers-before = sym writing.counting.counted

    positions_before : length (positions_in before) ≡ at
    positions_before = positions_many 0 before ∙ numbers-before

    shapes_before : length (shapes_in before) ≡ at
    shapes_before = shapes_many 0 before ∙ numbers-before

    -- the whole begins with these lines
    whole : drawn kinds numbers (probes_of lines) ≡ (before ++ (here ∷ [])) ++ drawn kinds numbers (drop (k + 1) (probes_of lines))
    whole =
        ap (drawn kinds numbers) (sym (take-append-drop (k + 1) (probes_of lines)))
        ∙ map-append (λ p. shape_cuts p kinds numbers) (take (k + 1) (probes_of lines)) (drop (k + 1) (probes_of lines))
        ∙ ap (λ l. l ++ drawn kinds numbers (drop (k + 1) (probes_of lines))) (drawn-next kinds numbers lines k probe refl before_here)

    row_long : length (start_row here) ≡ length kinds
    row_long = length-map here start_of ∙ length-cuts probe kinds numbers

    rows-room : length kinds * k + length kinds ≤ length lent.rows
    rows-room =
        omega (
          arith,
          writing.fits.rows,
          ap (λ l. length (rows_of l)) whole,
          rows-part (before ++ (here ∷ [])) (drawn kinds numbers (drop (k + 1) (probes_of lines))),
          ap length (rows_more before here),
          length-append (rows_of before) (start_row here),
          rows_before,
          row_long,
        )

    crossings-room : at + m ≤ length (lines_from 0 (drawn kinds numbers (probes_of lines)))
    crossings-room =
        omega (
          arith,
          ap (λ l. length (lines_from 0 l)) whole,
          lines-part (before ++ (here ∷ [])) (drawn kinds numbers (drop (k + 1) (probes_of lines))),
          ap length (lines_more before here),
          length-append (lines_from 0 before) (map (λ (c : LineCrossing). length before) (line_crossings here)),
          length-map (line_crossings here) (λ (c : LineCrossing). length before),
          numbers-before,
          sound-count kinds numbers probe bytes keys m sound,
        )

    pub line-held : Held 256 bytes keys (length kinds) m
    line-held = sound-held kinds numbers probe bytes keys m sound

    pub line-room : RoomFor k at (length kinds) m new
    line-room = record {
      few = omega (arith, writing.counting.few);
      rows = omega (arith, rows-room, writing.rows_long);
      numbers = omega (arith, crossings-room, writing.fits.numbers, writing.numbers_long);
      positions = omega (arith, crossings-room, writing.fits.positions, writing.positions_long);
      shapes = omega (arith, crossings-room, writing.fits.shapes, writing.shapes_long);
    }

    pub writing_on : {last : LineLists} → LinePut here k at (length kinds * k) new last
        → length last.rows ≡ length new.rows → length last.lines ≡ length new.lines → length last.positions ≡ length new.positions → length last.shapes ≡ length new.shapes
        → Writing kinds numbers lines count lent last (k + 1) (at + m)
    writing_on put lr ln lp ls =
        let next = drawn-next kinds numbers lines k probe refl before_here in
        record {
          counting = counting_on writing.counting more sound;
          fits = writing.fits;
          holding =
              record {
                rows = put.rows ∙ filled_on (rows_of before) (start_row here) lent.rows new.rows (length kinds * k) writing.holding.rows rows_before ∙ ap (λ l. filled l lent.rows) (sym (ap rows_of next ∙ rows_more before here));
                numbers =
                    put.numbers ∙ ap (λ j. filled_from at (map (λ c. j) (line_crossings here)) new.lines) (sym length_before)
                    ∙ filled_on (lines_from 0 before) (map (λ c. length before) (line_crossings here)) lent.lines new.lines at writing.holding.numbers numbers-before
                    ∙ ap (λ l. filled l lent.lines) (sym (ap (lines_from 0) next ∙ lines_more before here));
                positions =
                    put.positions ∙ filled_on (positions_in before) (map position_of (line_crossings here)) lent.positions new.positions at writing.holding.positions positions_before
                    ∙ ap (λ l. filled l lent.positions) (sym (ap positions_in next ∙ positions_more before here));
                shapes =
                    put.shapes ∙ filled_on (shapes_in before) (map shape_of (line_crossings here)) lent.shapes new.shapes at writing.holding.shapes shapes_before
                    ∙ ap (λ l. filled l lent.shapes) (sym (ap shapes_in next ∙ shapes_more before here));
              };
          rows_long = lr ∙ writing.rows_long;
          numbers_long = ln ∙ writing.numbers_long;
          positions_long = lp ∙ writing.positions_long;
          shapes_long = ls ∙ writing.shapes_long;
        }

  pub writing_ends : count ≤ k → AllWritten (drawn kinds numbers (probes_of lines)) lent at new
  writing_ends h = record {
    counted = counting_ends writing.counting h;
    holding = rw (take_all k (probes_of lines) (omega (arith, writing.counting.all))) at writing.holding;
  }
