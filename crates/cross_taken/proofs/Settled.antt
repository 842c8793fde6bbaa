-- What the crossing makers give is what classifying lines takes.
use Prim.Native.Nat.{ℕ, suc, ◌+◌, ◌*◌, ◌/◌, ◌%◌, ◌<◌, ◌≤◌}
use native.Mathlib.Nat.{mul-div_cancel, mul-mod_left}
use native.Mathlib.Omega.{arith}
use mathlib.Core.Path.{◌≡◌, refl, ap}
use mathlib.Core.Bool.{Bool, true, false, ◌&&◌, false≢true}
use mathlib.Core.List.{List, [], ◌∷◌, ◌++◌, map}
use mathlib.Core.Option.{Option, none, some}
use borrow.Author.Tests.{eq-eqb, ne_eqb, le-leb, lt-leb, le-ltb}
use lib.Dec.{ltb, leb}
use lib.IntN.{ℤ}
use lib.Ieee.{Float}
use lib.ListN.{length, length-append, length-map}
use lib.Signed.{lt_z}
use Rattle.outcome.specs.Outcome.{given, refused, ◌>>◌}
use Rattle.outcome.proofs.Refusals.{Asks, asks-need, asks_then, asks-room, asked}
use Rattle.formula.specs.Formula.{Formula}
use Rattle.lines.specs.Lines.{LineLists, Crossing, crossings, low, high, row_count, falls, bits, strays, ordered, judged, AnswerLists, roomy_lists, walls, classified}
use Rattle.lines.proofs.Keys.{lt→no}
use Rattle.cross_cuts.specs.Cuts.{LineCrossing, start_row, position_of, shape_of, line_crossings}
use Rattle.cross_cuts.specs.Every.{Every}
use Rattle.cross_cuts.specs.Fit.{unended, NeverFalls}
use Rattle.cross_answer.proofs.FitLaws.{fit}
use Rattle.cross_shapes.specs.declared.Probe.{Probe}
use Rattle.cross_line.specs.Crossing.{shape_cuts}
use Rattle.cross_line.proofs.LentLaws.{length-cuts, cuts_in_range}
use Rattle.cross_drawn.specs.Drawn.{Drawn, rows_of, lines_from, positions_in, shapes_in, drawn_lists, drawn}
use Rattle.cross_drawn.specs.Lent.{probes_of}
use Rattle.cross_drawn.specs.Refusing.{gives}
use Rattle.cross_drawn.proofs.DrawnLaws.{positions_many, shapes_many}
use Rattle.cross_many.specs.Crossing.{crossing_many}
use Rattle.cross_many.proofs.Settled.{many_few, many_drawn}
use Rattle.cross_taken.specs.Taken.{AllFit}

-- ---- lists that are asked item by item

abbrev Good : ℕ → ℕ → Crossing → Type 0
Good names rows y = (ltb y.shape names ≡ true) × (strays rows y ≡ false)

-- each is good, and none falls behind the one before it
abbrev Chain : ℕ → ℕ → Option Crossing → List Crossing → Type 0
Chain names rows x [] = Unit {0}
Chain names rows x (y ∷ ys) = Good names rows y × ((falls x y ≡ false) × Chain names rows (some y) ys)

chain_given : (names rows : ℕ) (x : Option Crossing) (i : ℕ) (ys : List Crossing) → Chain names rows x ys → ordered names rows x i ys ≡ given tt
unfolding ordered
chain_given names rows x i [] c = refl
chain_given names rows x i (y ∷ ys) c = rw (c.0.0, c.0.1, c.1.0) (chain_given names rows (some y) (i + 1) ys c.1.1)

-- ---- one line's crossings, with its number

abbrev on : ℕ → LineCrossing → Crossing
on n x = record { line = n; at = position_of x; shape = shape_of x }

crossings-on : (n : ℕ) (xs : List LineCrossing) (ls : List ℕ) (ps : List ℤ) (ss : List ℕ)
    → crossings (map (λ x. n) xs ++ ls) (map position_of xs ++ ps) (map shape_of xs ++ ss) ≡ map (on n) xs ++ crossings ls ps ss
crossings-on n [] ls ps ss = refl
crossings-on n (x ∷ xs) ls ps ss = ap (λ ys. on n x ∷ ys) (crossings-on n xs ls ps ss)

-- what stands before a line is on an earlier one
abbrev Earlier : ℕ → Option Crossing → Type 0
Earlier n none = Unit {0}
Earlier n (some x) = x.line < n

module _ (names rows n : ℕ) (kept : n < rows) where
  unended-kept : (x : LineCrossing) → unended (position_of x) ≡ true → strays rows (on n x) ≡ false
  unended-kept x e =
      let h = both (lt_z low (position_of x)) (lt_z (position_of x) high) e in
      rw (lt→no low (position_of x) h.0, lt→no (position_of x) high h.1, lt-leb rows n kept)
    where
      both : (a b : Bool) → (a && b) ≡ true → (a ≡ true) × (b ≡ true)
      both true b q = (refl, q)
      both false b q = absurd (false≢true q)

  no_fall : (x : LineCrossing) (y : Option Crossing) → Earlier n y → falls y (on n x) ≡ false
  no_fall x none h = refl
  no_fall x (some y) h = rw (le-ltb n y.line (omega arith), ne_eqb n y.line (λ q. omega arith))

  along : (x y : LineCrossing) → lt_z (position_of y) (position_of x) ≡ false → falls (some (on n x)) (on n y) ≡ false
  along x y e = rw (le-ltb n n (omega arith), eq-eqb n n refl, e)

  -- a line's crossings, then those of later lines
  module _ (rest : List Crossing) (later : (y : Option Crossing) → Earlier (suc n) y → Chain names rows y rest) where
    line_chain : (xs : List LineCrossing) → Every (λ x. ltb (shape_of x) names) xs → Every (λ x. unended (position_of x)) xs → NeverFalls xs
        → (y : Option Crossing) → ((x : LineCrossing) (ys : List LineCrossing) → xs ≡ x ∷ ys → falls y (on n x) ≡ false) → Earlier (suc n) y → Chain names rows y (map (on n) xs ++ rest)
    line_chain [] a b c y f e = later y e
    line_chain (x ∷ []) a b c y f e = ((a.0, unended-kept x b.0), (f x [] refl, later (some (on n x)) (omega arith)))
    line_chain (x ∷ z ∷ zs) a b c y f e =
        ((a.0, unended-kept x b.0), (f x (z ∷ zs) refl, line_chain (z ∷ zs) a.1 b.1 c.1 (some (on n x)) (next x z c.0) (omega arith)))
      where
        next : (x z : LineCrossing) → lt_z (position_of z) (position_of x) ≡ false → (w : LineCrossing) (ws : List LineCrossing) → z ∷ zs ≡ w ∷ ws → falls (some (on n x)) (on n w) ≡ false
        next x z q w ws e = let same : z ≡ w = cc in rw (← same) (along x z q)

-- ---- all lines

earlier_on : (n : ℕ) (y : Option Crossing) → Earlier n y → Earlier (suc n) y
earlier_on n none h = tt
earlier_on n (some x) h = omega arith

all_chain : (names : ℕ) (lines : Drawn) (n rows : ℕ) → n + length lines ≤ rows → AllFit names lines → (y : Option Crossing) → Earlier n y → Chain names rows y (crossings (lines_from n lines) (positions_in lines) (shapes_in lines))
unfolding lines_from positions_in shapes_in
all_chain names [] n rows h f y e = tt
all_chain names (line ∷ lines) n rows h f y e =
    rw (crossings-on n (line_crossings line) (lines_from (suc n) lines) (positions_in lines) (shapes_in lines))
    (line_chain names rows n (omega arith) (crossings (lines_from (suc n) lines) (positions_in lines) (shapes_in lines)) (all_chain names lines (suc n) rows (omega arith) f.1)
    (line_crossings line) f.0.numbers f.0.unended_positions f.0.never_falls y (λ x ys q. no_fall names rows n (omega arith) x y e) (earlier_on n y e))

rows_long : (names : ℕ) (lines : Drawn) → AllFit names lines → length (rows_of lines) ≡ length lines * names
unfolding rows_of
rows_long names [] f = omega arith
rows_long names (line ∷ lines) f =
    let more : suc (length lines) * names ≡ names + length lines * names = omega arith in
    omega (arith, more, length-append (start_row line) (rows_of lines), f.0.a_byte_a_shape, rows_long names lines f.1)

bits-append : (xs bs : List ℕ) → Every (λ b. leb b 1) xs → bits bs ≡ true → bits (xs ++ bs) ≡ true
unfolding bits
bits-append [] bs a b = b
bits-append (x ∷ xs) bs a b = rw a.0 (bits-append xs bs a.1 b)

rows-bits : (names : ℕ) (lines : Drawn) → AllFit names lines → bits (rows_of lines) ≡ true
unfolding rows_of bits
rows-bits names [] f = refl
rows-bits names (line ∷ lines) f = bits-append (start_row line) (rows_of lines) f.0.bytes (rows-bits names lines f.1)

-- For at most 4294967296 lines, numbered 0, 1, .. as their rows stand, of as many shapes as there are names: classifying is never refused 13, 14, 10, 15 or 11.
pub drawn-taken : (names : ℕ) → 0 < names → (lines : Drawn) → length lines ≤ 4294967296 → AllFit names lines → judged names (drawn_lists lines) ≡ given tt
unfolding judged
drawn-taken names named lines few f =
    let whole : length (rows_of lines) % names ≡ 0 = rw (rows_long names lines f) (mul-mod_left (length lines) names) in
    let count : length (rows_of lines) / names ≡ length lines = rw (rows_long names lines f) (mul-div_cancel (length lines) named) in
    rw (
      eq-eqb (length (positions_in lines)) (length (lines_from 0 lines)) (positions_many 0 lines),
      eq-eqb (length (shapes_in lines)) (length (lines_from 0 lines)) (shapes_many 0 lines),
      eq-eqb (length (rows_of lines) % names) 0 whole,
      count,
      le-leb (length lines) 4294967296 few,
      rows-bits names lines f,
    )
    (chain_given names (length lines) none 0 (crossings (lines_from 0 lines) (positions_in lines) (shapes_in lines)) (all_chain names lines 0 (length lines) (omega arith) f none tt))

-- ---- So only room can be wanting

nine_room : (n : ℕ) (lent : AnswerLists) → Asks (λ k. k ≡ 9) (roomy_lists n lent)
nine_room n lent =
    asks-room (λ k. k ≡ 9) n (length lent.lines) _ refl
    (asks-room (λ k. k ≡ 9) n (length lent.starts) _ refl
    (asks-room (λ k. k ≡ 9) n (length lent.ends) _ refl
    (asks-room (λ k. k ≡ 9) n (length lent.start_shapes) _ refl (asks-need (λ k. k ≡ 9) (leb n (length lent.end_shapes)) 9 n refl))))

-- Of such lines classifying is refused 9 or not at all, once the sheet is accepted.
pub drawn-classified : (f : Formula) (names : ℕ) → 0 < names → (lines : Drawn) → length lines ≤ 4294967296 → AllFit names lines → (lent : AnswerLists) (k p : ℕ)
    → classified f names (drawn_lists lines) lent ≡ refused k p → k ≡ 9
unfolding classified
drawn-classified f names named lines few fit lent k p e =
    let rooms = roomy_lists (length (lines_from 0 lines) / 2 + row_count names (rows_of lines)) lent in
    let all = given (walls f names (drawn_lists lines)) in
    asked (λ n. n ≡ 9) (rooms >> all) (asks_then (λ n. n ≡ 9) rooms all (nine_room _ lent) tt) k p (rw (drawn-taken names named lines few fit) at e)

-- ---- and so for what the job for many lines gives

lines_fit : (kinds : List ℕ) (numbers : List Float) (probes : List Probe) → AllFit (length kinds) (drawn kinds numbers probes)
lines_fit kinds numbers [] = tt
lines_fit kinds numbers (probe ∷ probes) = (rw (length-cuts probe kinds numbers) at (fit (shape_cuts probe kinds numbers) (cuts_in_range probe kinds numbers)), lines_fit kinds numbers probes)

-- With as many names as shapes, one at least, it is refused 9 or not at all, once the sheet is accepted.
pub many_classified : (kinds : List ℕ) (numbers lines : List Float) (lists : LineLists) (v : Drawn) → crossing_many kinds numbers lines lists ≡ gives v → 0 < length kinds
    → (f : Formula) (lent : AnswerLists) (k p : ℕ) → classified f (length kinds) (drawn_lists v) lent ≡ refused k p → k ≡ 9
many_classified kinds numbers lines lists v given-v named f lent k p e =
    let is = many_drawn kinds numbers lines lists v given-v in
    let few : length (drawn kinds numbers (probes_of lines)) ≤ 4294967296 = rw (length-map (probes_of lines) (λ q. shape_cuts q kinds numbers)) (many_few kinds numbers lines lists v given-v) in
    drawn-classified f (length kinds) named (drawn kinds numbers (probes_of lines)) few (lines_fit kinds numbers (probes_of lines)) lent k p (rw is at e)
