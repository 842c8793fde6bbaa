-- The sheet given in the other edition: where its formula begins, and what is written.
use Prim.Native.Nat.{ℕ, ◌+◌, ◌-◌, ◌*◌, ◌≤◌, ◌<◌}
use native.Mathlib.Omega.{arith}
use mathlib.Core.Path.{◌≡◌, sym, ap, ◌∙◌}
use mathlib.Core.List.{List, [], ◌++◌}
use lib.ListN.{length, get_or, take, drop, set, length-set, length-take, length-drop, length-append}
use lib.Seq.{sets, sets-eq, length-sets, set-append_left, take_at, drop-append-add, drop-drop, length-take-le}
use Rattle.outcome.specs.Lent.{filled}
use Rattle.formula.specs.Formula.{postfix}
use Rattle.sheet.specs.Sheet.{Sheet, between, codes_of, codes_in, formula_tag}
use Rattle.sheet.proofs.CodesFirst.{length-codes_in}
use Rattle.sheet.proofs.Names.{walk_on}
use Rattle.sheet_laying.specs.Bytes.{code_bytes}
use Rattle.sheet_laying.proofs.Putting.{length-code_bytes}
use Rattle.job_move.specs.Moving.{other, moved}
use Rattle.sheet_laying.proofs.CodeBytes.{codes_long}
use Rattle.job_move.specs.Putting.{Held, Movable, MovedTo}

-- rows of stores at the front of a lent list
module _ (front old : List ℕ) (e t i : ℕ) (bytes : List ℕ) where
  stored : i < length front → 4 < length front → set (set (front ++ old) 4 e) i t ≡ set (set front 4 e) i t ++ old
  stored h g =
      let k : i < length (set front 4 e) = omega (arith, length-set front 4 e) in
      ap (λ (xs : List ℕ). set xs i t) (set-append_left front old 4 e g) ∙ set-append_left (set front 4 e) old i t k

put_after : (front rest bytes : List ℕ) (first : ℕ) → length front ≡ first → length bytes ≤ length rest → sets (front ++ rest) first bytes ≡ (front ++ bytes) ++ drop (length bytes) rest
put_after front rest bytes first k room =
    let l : first + length bytes ≤ length (front ++ rest) = omega (arith, length-append front rest, k, room) in
    sets-eq bytes (front ++ rest) first l
    ∙ ap (λ (xs : List ℕ). (xs ++ bytes) ++ drop (first + length bytes) (front ++ rest)) (take_at front rest first k)
    ∙ ap (λ (xs : List ℕ). (front ++ bytes) ++ xs) (ap (λ (i : ℕ). drop (i + length bytes) (front ++ rest)) (sym k) ∙ drop-append-add front rest (length bytes))

module _ (s codes : List ℕ) (r : Sheet) (h : Held s codes r) where
  pub many : length (postfix r.formula) ≡ length codes
  many = sym (ap length h.are ∙ length-codes_in (other r.edition) r.formula)

  formula_long : length (between s r.first r.past) ≡ r.past - r.first
  formula_long = length-take (r.past - r.first) (drop r.first s) ∙ rw (length-drop r.first s, h.own.ends) (omega arith)

  all_codes : r.past - r.first ≡ 2 * length codes
  all_codes =
      let e = codes_long (between s r.first r.past) (rw formula_long h.own.even) in
      let c : length (codes_of (between s r.first r.past)) ≡ length codes = ap length h.own.codes_are ∙ length-codes_in r.edition r.formula ∙ many in
      omega (arith, e, c, formula_long)

  pub first_is : length s - 2 * length codes ≡ r.first
  first_is = omega (arith, all_codes, h.own.ends, h.own.some_bytes)

  pub enough : 2 * length codes ≤ length s
  enough = omega (arith, all_codes, h.own.ends)

  eight : 8 ≤ r.first
  eight = omega (arith, h.own.follows, walk_on s 5 h.own.owned)

  -- the moved sheet is as long
  pub moved_long : length (moved s r) ≡ length s
  unfolding moved
  moved_long =
      let front = take r.first s in
      let bytes = code_bytes (codes_in (other r.edition) r.formula) in
      let begin : length front ≡ r.first = length-take-le r.first s (omega (arith, h.own.ends, h.own.some_bytes)) in
      let heads = set (set front 4 (other r.edition)) (r.first - 3) (formula_tag (other r.edition)) in
      let heads_long : length heads ≡ r.first = length-set (set front 4 (other r.edition)) (r.first - 3) (formula_tag (other r.edition)) ∙ length-set front 4 (other r.edition) ∙ begin in
      let bytes_long : length bytes ≡ 2 * length codes = length-code_bytes (codes_in (other r.edition) r.formula) ∙ ap (λ (i : ℕ). 2 * i) (length-codes_in (other r.edition) r.formula ∙ many) in
      length-append heads bytes ∙ omega (arith, heads_long, bytes_long, first_is, enough)

  -- what is written is the move
  written : (first ed : ℕ) (old one new : List ℕ) → first ≡ r.first → ed ≡ r.edition → length s ≤ length old
      → one ≡ filled (take first s) old → new ≡ sets (set (set one 4 (3 - ed)) (first - 3) (5 - ed)) first (code_bytes (codes_in (other ed) r.formula))
      → new ≡ filled (moved s r) old
  unfolding moved
  written first ed old one new f e room a b =
      let front = take r.first s in
      let bytes = code_bytes (codes_in (other r.edition) r.formula) in
      let low = h.own.least_edition in
      let high = h.own.most_edition in
      let tag : 5 - r.edition ≡ formula_tag (other r.edition) = omega (arith, low, high) in
      let begin : length front ≡ r.first = length-take-le r.first s (omega (arith, h.own.ends, h.own.some_bytes)) in
      let heads = set (set front 4 (3 - r.edition)) (r.first - 3) (5 - r.edition) in
      let heads_long : length heads ≡ r.first = length-set (set front 4 (3 - r.edition)) (r.first - 3) (5 - r.edition) ∙ length-set front 4 (3 - r.edition) ∙ begin in
      let bytes_long : length bytes ≡ 2 * length codes = length-code_bytes (codes_in (other r.edition) r.formula) ∙ ap (λ (i : ℕ). 2 * i) (length-codes_in (other r.edition) r.formula ∙ many) in
      let rest = drop (length front) old in
      let rest-long : length rest ≡ length old - length front = length-drop (length front) old in
      let fits : length bytes ≤ length rest = omega (arith, bytes_long, rest-long, begin, all_codes, h.own.ends, room) in
      let past : length front + length bytes ≡ length (heads ++ bytes) = omega (arith, length-append heads bytes, heads_long, begin) in
      b ∙ rw (a, e, f)
      (ap (λ (xs : List ℕ). sets xs r.first bytes) (stored front rest (3 - r.edition) (5 - r.edition) (r.first - 3) [] (omega (arith, begin, eight)) (omega (arith, begin, eight)))
      ∙ put_after heads rest bytes r.first heads_long fits
      ∙ ap (λ (xs : List ℕ). (heads ++ bytes) ++ xs) (drop-drop (length bytes) (length front) old ∙ ap (λ (i : ℕ). drop i old) past)
      ∙ ap (λ (t : ℕ). filled (set (set front 4 (3 - r.edition)) (r.first - 3) t ++ bytes) old) tag)

pub edition_is : (edition : ℕ) → (edition ≡ 2 → ⊥) → 1 ≤ edition → edition ≤ 2 → other edition ≡ 2
edition_is edition one low high = omega arith

-- ---- give_moved

module _ (s codes lent : List ℕ) (m : Movable s codes lent) where
  held : Held s codes m.sheet
  held = m.held

  pub codes-enough : 2 * length codes ≤ length s
  codes-enough = enough s codes m.sheet held

  first-within : length s - 2 * length codes ≤ length s
  first-within = omega arith

  first-room : length s - 2 * length codes ≤ length lent
  first-room = omega (arith, m.room)

  pub tag_there : 3 ≤ length s - 2 * length codes
  tag_there = omega (arith, eight s codes m.sheet held, first_is s codes m.sheet held)

  module _ (copy : List ℕ) (copied : copy ≡ take (length s - 2 * length codes) s) where
    abbrev one : List ℕ
    one = copy ++ drop (length s - 2 * length codes) lent

    front_long : length (take (length s - 2 * length codes) s) ≡ length s - 2 * length codes
    front_long = length-take-le (length s - 2 * length codes) s first-within

    one_is : one ≡ filled (take (length s - 2 * length codes) s) lent
    one_is =
        ap (λ (xs : List ℕ). xs ++ drop (length s - 2 * length codes) lent) copied
        ∙ ap (λ (k : ℕ). take (length s - 2 * length codes) s ++ drop k lent) (sym front_long)

    one_long : length one ≡ length lent
    one_long =
        length-append copy (drop (length s - 2 * length codes) lent)
        ∙ rw (length-drop (length s - 2 * length codes) lent, ap length copied, front_long) (omega (arith, first-room))

    pub tag_room : (x : ℕ) → length s - 2 * length codes - 3 < length (set one 4 x)
    tag_room x = omega (arith, length-set one 4 x, one_long, tag_there, first-room)

    pub codes_fit : (x y : ℕ) → length s - 2 * length codes + 2 * length codes ≤ length (set (set one 4 x) (length s - 2 * length codes - 3) y)
    codes_fit x y = omega (arith, length-set (set one 4 x) (length s - 2 * length codes - 3) y, length-set one 4 x, one_long, codes-enough, m.room)

    pub moved_same : (x y : ℕ) (new : List ℕ) → new ≡ sets (set (set one 4 x) (length s - 2 * length codes - 3) y) (length s - 2 * length codes) (code_bytes (codes)) → length new ≡ length lent
    moved_same x y new put =
        ap length put ∙ length-sets (set (set one 4 x) (length s - 2 * length codes - 3) y) (length s - 2 * length codes) (code_bytes (codes)) ∙ length-set (set one 4 x) (length s - 2 * length codes - 3) y ∙ length-set one 4 x ∙ one_long

    pub all_moved : (new : List ℕ) → new ≡ sets (set (set one 4 (3 - get_or s 4 0)) (length s - 2 * length codes - 3) (5 - get_or s 4 0)) (length s - 2 * length codes) (code_bytes (codes)) → MovedTo s codes lent new
    all_moved new put =
        record {
          are = λ r h.
              let laid : codes ≡ codes_in (other (get_or s 4 0)) r.formula = h.are ∙ ap (λ (e : ℕ). codes_in (other e) r.formula) (sym h.own.said) in
              written s codes r h (length s - 2 * length codes) (get_or s 4 0) lent one new (first_is s codes r h) h.own.said m.room one_is
              (put ∙ ap (λ (cs : List ℕ). sets (set (set one 4 (3 - get_or s 4 0)) (length s - 2 * length codes - 3) (5 - get_or s 4 0)) (length s - 2 * length codes) (code_bytes cs)) laid);
        }
