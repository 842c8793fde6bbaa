-- The lists of some lines and then of others.
use Prim.Native.Nat.{ℕ, suc, ◌+◌, ◌*◌, ◌≤◌}
use native.Mathlib.Omega.{arith}
use native.Mathlib.Nat.{zero-add}
use mathlib.Core.Path.{◌≡◌, refl, sym, ap, ◌∙◌}
use mathlib.Core.List.{List, [], ◌∷◌, ◌++◌, map, append_assoc, append-nil}
use lib.ListN.{length, length-append, length-map}
use lib.Ieee.{Float}
use Rattle.cross_cuts.specs.Cuts.{Cut, start_of, start_row, position_of, shape_of, line_crossings, LineCrossing}
use Rattle.cross_shapes.specs.declared.Probe.{Probe}
use Rattle.cross_line.specs.Crossing.{shape_cuts}
use Rattle.cross_line.proofs.LentLaws.{length-cuts}
use Rattle.cross_drawn.specs.Drawn.{Drawn, rows_of, lines_from, positions_in, shapes_in, drawn}

pub rows_join : (xs ys : Drawn) → rows_of (xs ++ ys) ≡ rows_of xs ++ rows_of ys
unfolding rows_of
rows_join [] ys = refl
rows_join (x ∷ xs) ys = ap (λ l. start_row x ++ l) (rows_join xs ys) ∙ sym (append_assoc (start_row x) (rows_of xs) (rows_of ys))

pub lines_join : (n : ℕ) (xs ys : Drawn) → lines_from n (xs ++ ys) ≡ lines_from n xs ++ lines_from (n + length xs) ys
unfolding lines_from
lines_join n [] ys = ap (λ k. lines_from k ys) (omega arith)
lines_join n (x ∷ xs) ys =
    let here = map (λ c. n) (line_crossings x) in
    let next : suc n + length xs ≡ n + suc (length xs) = omega arith in
    ap (λ l. here ++ l) (lines_join (suc n) xs ys) ∙ sym (append_assoc here (lines_from (suc n) xs) (lines_from (suc n + length xs) ys))
    ∙ ap (λ k. (here ++ lines_from (suc n) xs) ++ lines_from k ys) next

pub positions_join : (xs ys : Drawn) → positions_in (xs ++ ys) ≡ positions_in xs ++ positions_in ys
unfolding positions_in
positions_join [] ys = refl
positions_join (x ∷ xs) ys =
    ap (λ l. map position_of (line_crossings x) ++ l) (positions_join xs ys) ∙ sym (append_assoc (map position_of (line_crossings x)) (positions_in xs) (positions_in ys))

pub shapes_join : (xs ys : Drawn) → shapes_in (xs ++ ys) ≡ shapes_in xs ++ shapes_in ys
unfolding shapes_in
shapes_join [] ys = refl
shapes_join (x ∷ xs) ys = ap (λ l. map shape_of (line_crossings x) ++ l) (shapes_join xs ys) ∙ sym (append_assoc (map shape_of (line_crossings x)) (shapes_in xs) (shapes_in ys))

-- ---- as many positions and shapes as line numbers
pub positions_many : (n : ℕ) (xs : Drawn) → length (positions_in xs) ≡ length (lines_from n xs)
unfolding lines_from positions_in
positions_many n [] = refl
positions_many n (x ∷ xs) =
    let cs = line_crossings x in
    omega (arith, length-append (map position_of cs) (positions_in xs), length-append (map (λ c. n) cs) (lines_from (suc n) xs), length-map cs position_of, length-map cs (λ (c : LineCrossing). n), positions_many (suc n) xs)

pub shapes_many : (n : ℕ) (xs : Drawn) → length (shapes_in xs) ≡ length (lines_from n xs)
unfolding lines_from shapes_in
shapes_many n [] = refl
shapes_many n (x ∷ xs) =
    let cs = line_crossings x in
    omega (arith, length-append (map shape_of cs) (shapes_in xs), length-append (map (λ c. n) cs) (lines_from (suc n) xs), length-map cs shape_of, length-map cs (λ (c : LineCrossing). n), shapes_many (suc n) xs)

-- ---- one line
module _ (x : List Cut) where
  rows-one : rows_of (x ∷ []) ≡ start_row x
  unfolding rows_of
  rows-one = append-nil (start_row x)

  lines-one : (n : ℕ) → lines_from n (x ∷ []) ≡ map (λ c. n) (line_crossings x)
  unfolding lines_from
  lines-one n = append-nil (map (λ c. n) (line_crossings x))

  positions_one : positions_in (x ∷ []) ≡ map position_of (line_crossings x)
  unfolding positions_in
  positions_one = append-nil (map position_of (line_crossings x))

  shapes_one : shapes_in (x ∷ []) ≡ map shape_of (line_crossings x)
  unfolding shapes_in
  shapes_one = append-nil (map shape_of (line_crossings x))

-- ---- one line more
module _ (xs : Drawn) (x : List Cut) where
  pub rows_more : rows_of (xs ++ (x ∷ [])) ≡ rows_of xs ++ start_row x
  rows_more = rows_join xs (x ∷ []) ∙ ap (λ l. rows_of xs ++ l) (rows-one x)

  pub lines_more : lines_from 0 (xs ++ (x ∷ [])) ≡ lines_from 0 xs ++ map (λ c. length xs) (line_crossings x)
  lines_more = lines_join 0 xs (x ∷ []) ∙ ap (λ l. lines_from 0 xs ++ l) (lines-one x (0 + length xs) ∙ ap (λ k. map (λ c. k) (line_crossings x)) (zero-add (length xs)))

  pub positions_more : positions_in (xs ++ (x ∷ [])) ≡ positions_in xs ++ map position_of (line_crossings x)
  positions_more = positions_join xs (x ∷ []) ∙ ap (λ l. positions_in xs ++ l) (positions_one x)

  pub shapes_more : shapes_in (xs ++ (x ∷ [])) ≡ shapes_in xs ++ map shape_of (line_crossings x)
  shapes_more = shapes_join xs (x ∷ []) ∙ ap (λ l. shapes_in xs ++ l) (shapes_one x)

-- ---- a part has no more entries than the whole
pub rows-part : (xs ys : Drawn) → length (rows_of xs) ≤ length (rows_of (xs ++ ys))
rows-part xs ys = omega (arith, ap length (rows_join xs ys), length-append (rows_of xs) (rows_of ys))

pub lines-part : (xs ys : Drawn) → length (lines_from 0 xs) ≤ length (lines_from 0 (xs ++ ys))
lines-part xs ys = omega (arith, ap length (lines_join 0 xs ys), length-append (lines_from 0 xs) (lines_from (0 + length xs) ys))

-- ---- lines times shapes
pub rows-count : (kinds : List ℕ) (numbers : List Float) (probes : List Probe) → length (rows_of (drawn kinds numbers probes)) ≡ length kinds * length probes
unfolding rows_of
rows-count kinds numbers [] = omega arith
rows-count kinds numbers (p ∷ probes) =
    let row : length (start_row (shape_cuts p kinds numbers)) ≡ length kinds = length-map (shape_cuts p kinds numbers) start_of ∙ length-cuts p kinds numbers in
    let more : length kinds * suc (length probes) ≡ length kinds + length kinds * length probes = omega arith in
    omega (arith, row, more, rows-count kinds numbers probes, length-append (start_row (shape_cuts p kinds numbers)) (rows_of (drawn kinds numbers probes)))
