-- Two parts put together: the whole is accepted if both parts are, and its walls are theirs.
use Prim.Native.Nat.{ℕ, suc, ◌+◌, ◌*◌, ◌/◌, ◌%◌, ◌<◌, ◌≤◌}
use native.Mathlib.Nat.{add-mul, mul-le-mul_right, mul-div_cancel, mul-mod_left, mul-add-div_right, mul-add-mod_self_right}
use native.Mathlib.Omega.{arith}
use mathlib.Core.Path.{◌≡◌, refl, sym, ap, ◌∙◌, fun_ext}
use mathlib.Core.Bool.{Bool, true, false, ◌&&◌}
use mathlib.Core.List.{List, [], ◌∷◌, ◌++◌, map}
use mathlib.Core.Option.{none}
use mathlib.Core.Logic.{◌↔◌}
use borrow.Author.Tests.{eq-eqb, eqb-true, le-leb, leb-true}
use lib.Dec.{eqb, ltb, leb}
use lib.ListN.{length, get_or, length-append, get_or-append, length-map}
use lib.Seq.{get_or-append-add}
use Rattle.outcome.specs.Outcome.{Outcome, given, need, ◌>>◌}
use Rattle.outcome.proofs.Questions.{need_yes}
use Rattle.formula.specs.Formula.{Formula, inside}
use Rattle.formula.specs.States.{State}
use Rattle.lines.specs.Lines.{LineLists, row_count, start_state, Crossing, entries, bits, rowed, ordered, judged, walls_from, walls}
use Rattle.lines.proofs.Judgement.{both, and_yes}
use Rattle.lines.proofs.Items.{length-crossings}
use Rattle.lines.proofs.WallCount.{walls-room}
use Rattle.line_cuts.specs.Cuts.{together, on_later, room_for}
use Rattle.line_cuts.specs.Places.{Leads, later}
use Rattle.line_cuts.proofs.Raised.{eqb_add, entries-together, entries_under}
use Rattle.line_cuts.proofs.Ordering.{ordered-together}
use Rattle.line_cuts.proofs.LineWalls.{from-together}

-- ---- the three questions of a judgement

abbrev pub alike : LineLists → Bool
alike c = eqb (length c.positions) (length c.lines) && eqb (length c.shapes) (length c.lines)

abbrev pub rows_right : ℕ → List ℕ → Bool
rows_right names rows = eqb (length rows % names) 0 && (leb (row_count names rows) 4294967296 && bits rows)

abbrev items : ℕ → LineLists → Outcome (Unit {0})
items names c = ordered names (row_count names c.rows) none 0 (entries c)

module _ (names : ℕ) (c : LineLists) where
  pub judged-asks : judged names c ≡ given tt → (alike c ≡ true) × (rows_right names c.rows ≡ true) × (items names c ≡ given tt)
  unfolding judged
  judged-asks e =
      let p = both (need (alike c) 13 0) (rowed names c.rows >> items names c) tt e in
      let q = both (rowed names c.rows) (items names c) tt p.1 in
      (need_yes _ 13 0 p.0, need_yes _ 14 0 q.0, q.1)

  pub judged-items : alike c ≡ true → rows_right names c.rows ≡ true → judged names c ≡ items names c
  unfolding judged
  judged-items e f = rw (e, f)

-- ---- rows

bits-append : (xs ys : List ℕ) → bits (xs ++ ys) ≡ (bits xs && bits ys)
unfolding bits
bits-append [] ys = refl
bits-append (x ∷ xs) ys = by (leb x 1) (bits-append xs ys)
  where
    by : (t : Bool) → bits (xs ++ ys) ≡ (bits xs && bits ys) → (t && bits (xs ++ ys)) ≡ ((t && bits xs) && bits ys)
    by true ih = ih
    by false ih = refl

module _ (names : ℕ) (rows : List ℕ) where
  pub rows-gives : rows_right names rows ≡ true → (length rows % names ≡ 0) × (row_count names rows ≤ 4294967296) × (bits rows ≡ true)
  rows-gives e =
      let p = and_yes (eqb (length rows % names) 0) (leb (row_count names rows) 4294967296 && bits rows) e in
      let q = and_yes (leb (row_count names rows) 4294967296) (bits rows) p.1 in
      (eqb-true (length rows % names) 0 p.0, leb-true (row_count names rows) 4294967296 q.0, q.1)

  rows-from : length rows % names ≡ 0 → row_count names rows ≤ 4294967296 → bits rows ≡ true → rows_right names rows ≡ true
  rows-from a b c = rw (eq-eqb (length rows % names) 0 a, le-leb (row_count names rows) 4294967296 b, c)

module _ (names r : ℕ) (named : 0 < names) (a b : LineLists) (fit : Leads names r a) where
  rows_long : length (a.rows ++ b.rows) ≡ r * names + length b.rows
  rows_long = length-append a.rows b.rows ∙ ap (λ (n : ℕ). n + length b.rows) fit.whole

  pub rows-first : row_count names a.rows ≡ r
  rows-first = ap (λ (n : ℕ). n / names) fit.whole ∙ mul-div_cancel r named

  pub rows_all : row_count names (a.rows ++ b.rows) ≡ r + row_count names b.rows
  rows_all = ap (λ (n : ℕ). n / names) rows_long ∙ mul-add-div_right named r (length b.rows)

  start_first : (l : ℕ) → l < r → start_state names (a.rows ++ b.rows) l ≡ start_state names a.rows l
  start_first l h = fun_ext (λ s. by s (ltb s names) refl)
    where
      by : (s : ℕ) (t : Bool) → ltb s names ≡ t → start_state names (a.rows ++ b.rows) l s ≡ start_state names a.rows l s
      by s false e = rw e
      by s true e =
          let up : suc l * names ≤ r * names = mul-le-mul_right names h in
          let more : suc l * names ≡ names + l * names = omega arith in
          let in_first : l * names + s < length a.rows = omega (arith, borrow.Author.Tests.ltb-true s names e, fit.whole) in
          ap (λ (v : ℕ). ltb s names && eqb v 1) (get_or-append a.rows b.rows 0 (l * names + s) in_first)

  start-second : (l : ℕ) → start_state names (a.rows ++ b.rows) (r + l) ≡ start_state names b.rows l
  start-second l = fun_ext by
    where
      by : (s : ℕ) → start_state names (a.rows ++ b.rows) (r + l) s ≡ start_state names b.rows l s
      by s =
          let e : (r + l) * names + s ≡ length a.rows + (l * names + s) = omega (arith, add-mul r l names, fit.whole) in
          ap (λ (i : ℕ). ltb s names && eqb (get_or (a.rows ++ b.rows) i 0) 1) e
          ∙ ap (λ (v : ℕ). ltb s names && eqb v 1) (get_or-append-add a.rows b.rows (l * names + s) 0)

  -- ---- (2) the walls

  pub walls-together : (f : Formula) → walls f names (together r a b) ≡ walls f names a ++ map (on_later r) (walls f names b)
  walls-together f =
      let start : ℕ → State = start_state names (a.rows ++ b.rows) in
      let rows : ℕ = row_count names b.rows in
      ap (λ (n : ℕ). walls_from (inside f) start (entries (together r a b)) n 0) rows_all
      ∙ ap (λ (xs : List Crossing). walls_from (inside f) start xs (r + rows) 0) (entries-together names r a b fit)
      ∙ from-together (inside f) start (start_state names a.rows) (start_state names b.rows) r start_first start-second (entries a) (entries b) (entries_under names r a b fit) rows
      ∙ ap (λ (n : ℕ). walls_from (inside f) (start_state names a.rows) (entries a) n 0 ++ map (on_later r) (walls f names b)) (sym rows-first)

  -- ---- (1) the judgement

  lines_long : length (a.lines ++ map (λ l. r + l) b.lines) ≡ length a.lines + length b.lines
  lines_long = length-append a.lines (map (λ l. r + l) b.lines) ∙ ap (λ (n : ℕ). length a.lines + n) (length-map b.lines (λ l. r + l))

  pub alike-first : alike a ≡ true
  alike-first = rw (eq-eqb (length a.positions) (length a.lines) fit.one_length.positions_long, eq-eqb (length a.shapes) (length a.lines) fit.one_length.shapes_long)

  alike_all : alike (together r a b) ≡ alike b
  alike_all = rw (
    lines_long,
    length-append a.positions b.positions,
    length-append a.shapes b.shapes,
    fit.one_length.positions_long,
    fit.one_length.shapes_long,
    eqb_add (length a.lines) (length b.positions) (length b.lines),
    eqb_add (length a.lines) (length b.shapes) (length b.lines),
  )

  whole-all : length (a.rows ++ b.rows) % names ≡ length b.rows % names
  whole-all = ap (λ (n : ℕ). n % names) rows_long ∙ mul-add-mod_self_right r names (length b.rows)

  whole-first : length a.rows % names ≡ 0
  whole-first = ap (λ (n : ℕ). n % names) fit.whole ∙ mul-mod_left r names

  -- 10, 15 and 11: the first part's crossings, then the second's
  items-all : items names (together r a b) ≡ (items names a >> later (length a.lines) (items names b))
  items-all =
      let rows : ℕ = row_count names b.rows in
      ap (λ (n : ℕ). ordered names n none 0 (entries (together r a b))) rows_all
      ∙ ap (λ (xs : List Crossing). ordered names (r + rows) none 0 xs) (entries-together names r a b fit)
      ∙ ordered-together names r rows (entries a) (entries b) (entries_under names r a b fit)
      ∙ ap (λ (n : ℕ). ordered names r none 0 (entries a) >> later n (items names b)) (length-crossings a.lines a.positions a.shapes fit.one_length.positions_long fit.one_length.shapes_long)
      ∙ ap (λ (n : ℕ). ordered names n none 0 (entries a) >> later (length a.lines) (items names b)) (sym rows-first)

  rows_whole : rows_right names a.rows ≡ true → rows_right names b.rows ≡ true → r + row_count names b.rows ≤ 4294967296 → rows_right names (a.rows ++ b.rows) ≡ true
  rows_whole p q few =
      let ga = rows-gives names a.rows p in
      let gb = rows-gives names b.rows q in
      rows-from names (a.rows ++ b.rows) (whole-all ∙ gb.0) (omega (arith, rows_all)) (bits-append a.rows b.rows ∙ rw ga.2 gb.2)

  -- Where neither part is refused 13 or 14, and there are not too many rows in all: the whole is refused as the first part is, or as the second is, further on.
  judged-together : rowed names a.rows ≡ given tt → alike b ≡ true → rowed names b.rows ≡ given tt → r + row_count names b.rows ≤ 4294967296
      → judged names (together r a b) ≡ (judged names a >> later (length a.lines) (judged names b))
  judged-together p q s few =
      let ra = need_yes (rows_right names a.rows) 14 0 p in
      let rb = need_yes (rows_right names b.rows) 14 0 s in
      judged-items names (together r a b) (alike_all ∙ q) (rows_whole ra rb few) ∙ items-all ∙ rw (judged-items names a alike-first ra, judged-items names b q rb)

  pub rows_parts : rows_right names (a.rows ++ b.rows) ≡ true → (rows_right names a.rows ≡ true) × (rows_right names b.rows ≡ true) × (r + row_count names b.rows ≤ 4294967296)
  rows_parts e =
      let g = rows-gives names (a.rows ++ b.rows) e in
      let few : r + row_count names b.rows ≤ 4294967296 = omega (arith, rows_all, g.1) in
      let bs = and_yes (bits a.rows) (bits b.rows) (sym (bits-append a.rows b.rows) ∙ g.2) in
      (rows-from names a.rows whole-first (omega (arith, rows-first)) bs.0, rows-from names b.rows (sym whole-all ∙ g.0) (omega arith) bs.1, few)

  -- The whole is accepted exactly if both parts are, and there are not too many rows in all.
  pub accepted-together : (judged names (together r a b) ≡ given tt) ↔ ((judged names a ≡ given tt) × (judged names b ≡ given tt) × (r + row_count names b.rows ≤ 4294967296))
  accepted-together = (there, back)
    where
      there : judged names (together r a b) ≡ given tt → (judged names a ≡ given tt) × (judged names b ≡ given tt) × (r + row_count names b.rows ≤ 4294967296)
      there e =
          let q = judged-asks names (together r a b) e in
          let g = rows_parts q.1 in
          let i = both (items names a) (later (length a.lines) (items names b)) tt (sym items-all ∙ q.2) in
          (judged-items names a alike-first g.0 ∙ i.0, judged-items names b (sym alike_all ∙ q.0) g.1 ∙ later-given (length a.lines) (items names b) i.1, g.2)
        where
          later-given : (n : ℕ) (o : Outcome (Unit {0})) → later n o ≡ given tt → o ≡ given tt
          later-given n (given tt) h = refl
          later-given n (Outcome.refused k p) h = let z : ◌≡◌ {A = ℕ} 0 1 = cc in absurd (omega arith)
          later-given n (Outcome.unfit k p) h = let z : ◌≡◌ {A = ℕ} 0 1 = cc in absurd (omega arith)

      back : (judged names a ≡ given tt) × (judged names b ≡ given tt) × (r + row_count names b.rows ≤ 4294967296) → judged names (together r a b) ≡ given tt
      back h =
          let qa = judged-asks names a h.0 in
          let qb = judged-asks names b h.1 in
          judged-together (rw qa.1) qb.0 (rw qb.1) h.2 ∙ rw (h.0, h.1)

  -- ---- (3) the room

  -- one more than the parts' if both have an odd number of crossings
  room-together : room_for names (together r a b) ≡ room_for names a + room_for names b + (length a.lines % 2 + length b.lines % 2) / 2
  room-together = omega (arith, rows_all, rows-first, lines_long)

  -- After the first part's walls there is still the room that the second part asks for.
  pub rest-room : (f : Formula) → judged names a ≡ given tt → length (walls f names a) + room_for names b ≤ room_for names (together r a b)
  rest-room f e = omega (arith, walls-room f names a e, room-together)
