-- The names of a sheet listed one after the other, and those of both sheets.
use Prim.Native.Nat.{ℕ, zero, suc, ◌+◌, ◌-◌, ◌≤◌, ◌<◌}
use native.Mathlib.Omega.{arith}
use native.Mathlib.Numerals.{add-one}
use mathlib.Core.Path.{◌≡◌, refl, sym, ap, ◌∙◌}
use mathlib.Core.Bool.{Bool, true, false}
use mathlib.Core.List.{List, [], ◌∷◌, ◌++◌, map, map-append, append_assoc, append-nil}
use lib.ListN.{length, take, drop, set, length-append, length-map, length-drop, drop_of_length-le}
use lib.Seq.{take_all, drop-drop, take_at, drop_at}
use borrow.Author.Tests.{lt-ltb, le-ltb}
use Rattle.outcome.specs.Outcome.{given}
use Rattle.outcome.specs.Lent.{filled}
use Rattle.outcome.proofs.LentLaws.{filled_more, length-filled}
use Rattle.sheet.specs.Sheet.{beside, sheets_of, past_at}
use Rattle.sheet.specs.Walk.{walk_end}
use Rattle.sheet.proofs.Names.{walk_end_more}
use Rattle.job_name.specs.Naming.{Stand, field_in, stand_of}
use Rattle.job_name.specs.Within.{fitted_number}
use Rattle.job_name.proofs.Walking.{walk_rises}
use Rattle.job_names.specs.Names.{numbers_below}
use Rattle.job_names.specs.NamedAll.{sheet_in, first_in, past_in, NameLists}
use Rattle.job_names.specs.Standing.{fields_in, standing, Room}

pub numbers-length : (n : ℕ) → length (numbers_below n) ≡ n
unfolding numbers_below
numbers-length zero = refl
numbers-length (suc n) = omega (arith, length-append (numbers_below n) (n ∷ []), numbers-length n)

fields-length : (which : ℕ) (s : List ℕ) (n : ℕ) → length (fields_in which s n) ≡ n
unfolding fields_in
fields-length which s n = length-map (numbers_below n) (field_in which s) ∙ numbers-length n

-- ---- one name more, g being one of its numbers

module _ (g : Stand → ℕ) (which : ℕ) (s : List ℕ) (i : ℕ) (old now : List ℕ) (is : now ≡ filled (map g (fields_in which s i)) old) where
  so_far : length (map g (fields_in which s i)) ≡ i
  so_far = length-map (fields_in which s i) g ∙ fields-length which s i

  mapped_more : map g (fields_in which s (i + 1)) ≡ map g (fields_in which s i) ++ (g (field_in which s i) ∷ [])
  unfolding fields_in numbers_below
  mapped_more = rw (add-one i, map-append (field_in which s) (numbers_below i) (i ∷ [])) (map-append g (map (field_in which s) (numbers_below i)) (field_in which s i ∷ []))

  one_more : i < length old → (x : ℕ) → x ≡ g (field_in which s i) → set now i x ≡ filled (map g (fields_in which s (i + 1))) old
  one_more short x e = rw (is, mapped_more, ← e) (filled_more (map g (fields_in which s i)) old x i so_far short)

  still_long : i ≤ length old → length now ≡ length old
  still_long fits = ap length is ∙ length-filled (map g (fields_in which s i)) old (omega (arith, so_far))

-- ---- the loop over n names: i of them are listed, and the next one's tag is at an offset

pub record Listing (which : ℕ) (s : List ℕ) (n : ℕ) (ss fs ps : List ℕ) (at i : ℕ) (ss' fs' ps' : List ℕ) : Type 0 where
  pub here : at ≡ walk_end s 5 i
  pub most : i ≤ n
  pub inside : walk_end s 5 n ≤ length s
  pub space : Room n ss fs ps
  pub lists : NameLists (given (fields_in which s i)) ss fs ps ss' fs' ps'

pub listing_start : (which : ℕ) (s : List ℕ) (n : ℕ) (ss fs ps : List ℕ) → walk_end s 5 n ≤ length s → Room n ss fs ps → Listing which s n ss fs ps 5 0 ss fs ps
unfolding fields_in numbers_below walk_end
listing_start which s n ss fs ps inside space =
    record { here = refl; most = omega arith; inside = inside; space = space; lists = record { sheets_list = refl; firsts_list = refl; pasts_list = refl } }

module _ (which : ℕ) (s : List ℕ) (n : ℕ) (ss fs ps : List ℕ) (at i : ℕ) (ss' fs' ps' : List ℕ) (l : Listing which s n ss fs ps at i ss' fs' ps') where
  pub listing_done : n ≤ i → NameLists (given (fields_in which s n)) ss fs ps ss' fs' ps'
  listing_done h = let e : i ≡ n = omega (arith, l.most) in rw e at l.lists

  pub sheets_long : length ss' ≡ length ss
  sheets_long = still_long sheet_in which s i ss ss' l.lists.sheets_list (omega (arith, l.most, l.space.sheets_room))

  pub firsts_long : length fs' ≡ length fs
  firsts_long = still_long first_in which s i fs fs' l.lists.firsts_list (omega (arith, l.most, l.space.firsts_room))

  pub pasts_long : length ps' ≡ length ps
  pasts_long = still_long past_in which s i ps ps' l.lists.pasts_list (omega (arith, l.most, l.space.pasts_room))

  module _ (more : i < n) where
    next_end : walk_end s 5 (suc i) ≡ past_at s at
    next_end = walk_end_more s 5 i ∙ ap (past_at s) (sym l.here)

    pub listing_inside : past_at s at ≤ length s
    listing_inside = omega (arith, next_end, walk_rises s 5 (suc i) n (omega arith), l.inside)

    ss-short : i < length ss
    ss-short = omega (arith, l.space.sheets_room)

    fs_short : i < length fs
    fs_short = omega (arith, l.space.firsts_room)

    ps_short : i < length ps
    ps_short = omega (arith, l.space.pasts_room)

    pub sheets_short : i < length ss'
    sheets_short = omega (arith, ss-short, sheets_long)

    pub firsts_short : i < length fs'
    firsts_short = omega (arith, fs_short, firsts_long)

    pub pasts_short : i < length ps'
    pasts_short = omega (arith, ps_short, pasts_long)

    pub listing_next : (e : ℕ) → e ≡ past_at s at → Listing which s n ss fs ps e (i + 1) (set ss' i which) (set fs' i (at + 3)) (set ps' i e)
    listing_next e is =
        record {
          here = rw (add-one i) (is ∙ sym next_end);
          most = omega arith;
          inside = l.inside;
          space = l.space;
          lists =
              record {
                sheets_list = one_more sheet_in which s i ss ss' l.lists.sheets_list ss-short which refl;
                firsts_list = one_more first_in which s i fs fs' l.lists.firsts_list fs_short (at + 3) (rw l.here);
                pasts_list = one_more past_in which s i ps ps' l.lists.pasts_list ps_short e (is ∙ sym next_end);
              };
        }

-- ---- a list filled from the front, and from its m-th entry on as a part of its own: all that is left of it

module _ (g : Stand → ℕ) (front back : List Stand) (m : ℕ) (old now ys : List ℕ) (long : length front ≡ m) (fits : m ≤ length old) (is : now ≡ filled (map g front) old) where
  mapped : length (map g front) ≡ m
  mapped = length-map front g ∙ long

  rest : drop m now ≡ drop m old
  rest = ap (drop m) is ∙ drop_at (map g front) (drop (length (map g front)) old) m mapped ∙ rw mapped

  lent : take (length now - m) (drop m now) ≡ drop m now
  lent = take_all (length now - m) (drop m now) (omega (arith, length-drop m now))

  none : drop (length now - m) (drop m now) ≡ []
  none = drop_of_length-le (drop m now) {i = length now - m} (omega (arith, length-drop m now))

  joined : ys ≡ filled (map g back) (take (length now - m) (drop m now)) → take m now ++ (ys ++ drop (length now - m) (drop m now)) ≡ filled (map g (front ++ back)) old
  joined e =
      let first : take m now ≡ map g front = ap (take m) is ∙ take_at (map g front) (drop (length (map g front)) old) m mapped in
      let last : ys ≡ map g back ++ drop (m + length (map g back)) old = e ∙ rw (lent, rest) (ap (λ (r : List ℕ). map g back ++ r) (drop-drop (length (map g back)) m old)) in
      let size : length (map g front ++ map g back) ≡ m + length (map g back) = length-append (map g front) (map g back) ∙ ap (λ (i : ℕ). i + length (map g back)) mapped in
      rw (first, none, append-nil ys, last, map-append g front back, size) (sym (append_assoc (map g front) (map g back) (drop (m + length (map g back)) old)))

-- ---- those of the fittings sheet, and after them those of the customer's

module _ (f s : List ℕ) (m : ℕ) where
  fitting_stands : (j : ℕ) → j ≤ m → map (stand_of (beside f s) m) (numbers_below j) ≡ map (field_in 1 f) (numbers_below j)
  unfolding numbers_below
  fitting_stands zero h = refl
  fitting_stands (suc j) h =
      rw (map-append (stand_of (beside f s) m) (numbers_below j) (j ∷ []), map-append (field_in 1 f) (numbers_below j) (j ∷ []), fitting_stands j (omega arith), lt-ltb j m (omega arith))

  both_stand : (n : ℕ) → map (stand_of (beside f s) m) (numbers_below (m + n)) ≡ fields_in 1 f m ++ fields_in 2 s n
  unfolding fields_in numbers_below
  both_stand zero =
      let e : m + 0 ≡ m = omega arith in
      rw (e, fitting_stands m (omega arith)) (sym (append-nil (map (field_in 1 f) (numbers_below m))))
  both_stand (suc n) =
      let e : m + suc n ≡ suc (m + n) = omega arith in
      let d : (m + n) - m ≡ n = omega arith in
      rw (e, map-append (stand_of (beside f s) m) (numbers_below (m + n)) ((m + n) ∷ []), both_stand n, le-ltb (m + n) m (omega arith), d, map-append (field_in 2 s) (numbers_below n) (n ∷ []))
      (append_assoc (map (field_in 1 f) (numbers_below m)) (map (field_in 2 s) (numbers_below n)) (field_in 2 s n ∷ []))

module _ (f : List ℕ) (m : ℕ) (s : List ℕ) (n : ℕ) (ss fs ps : List ℕ) (space : Room (m + n) ss fs ps) (ss₁ fs₁ ps₁ : List ℕ)
    (front : NameLists (given (fields_in 1 f m)) ss fs ps ss₁ fs₁ ps₁) (ss₂ fs₂ ps₂ : List ℕ)
    (back : NameLists (given (fields_in 2 s n)) (take (length ss₁ - m) (drop m ss₁)) (take (length fs₁ - m) (drop m fs₁)) (take (length ps₁ - m) (drop m ps₁)) ss₂ fs₂ ps₂) where
  pub both_listed : NameLists (given (fields_in 1 f m ++ fields_in 2 s n)) ss fs ps
      (take m ss₁ ++ (ss₂ ++ drop (length ss₁ - m) (drop m ss₁))) (take m fs₁ ++ (fs₂ ++ drop (length fs₁ - m) (drop m fs₁))) (take m ps₁ ++ (ps₂ ++ drop (length ps₁ - m) (drop m ps₁)))
  both_listed =
      let l : length (fields_in 1 f m) ≡ m = fields-length 1 f m in
      record {
        sheets_list = joined sheet_in (fields_in 1 f m) (fields_in 2 s n) m ss ss₁ ss₂ l (omega (arith, space.sheets_room)) front.sheets_list back.sheets_list;
        firsts_list = joined first_in (fields_in 1 f m) (fields_in 2 s n) m fs fs₁ fs₂ l (omega (arith, space.firsts_room)) front.firsts_list back.firsts_list;
        pasts_list = joined past_in (fields_in 1 f m) (fields_in 2 s n) m ps ps₁ ps₂ l (omega (arith, space.pasts_room)) front.pasts_list back.pasts_list;
      }

-- ---- sheets that are read, with so many names

module _ (b : Bool) (f s : List ℕ) (names : ℕ) (ss fs ps ss' fs' ps' : List ℕ) where
  pub beside-listed : (m : ℕ) → b ≡ true → m ≡ fitted_number f → m ≤ names → NameLists (given (fields_in 1 f m ++ fields_in 2 s (names - m))) ss fs ps ss' fs' ps'
      → NameLists (given (standing (sheets_of b f s) names)) ss fs ps ss' fs' ps'
  unfolding standing
  beside-listed m e is less h =
      let n : m + (names - m) ≡ names = omega arith in
      rw (e, ← is, ← n, both_stand f s m (names - m)) h

  pub alone-listed : b ≡ false → NameLists (given (fields_in 1 s 0 ++ fields_in 2 s names)) ss fs ps ss' fs' ps'
      → NameLists (given (standing (sheets_of b f s) names)) ss fs ps ss' fs' ps'
  unfolding standing fields_in numbers_below
  alone-listed e h = rw e h

pub room_both : (m names : ℕ) (ss fs ps : List ℕ) → m ≤ names → Room names ss fs ps → Room (m + (names - m)) ss fs ps
room_both m names ss fs ps less r = let n : m + (names - m) ≡ names = omega arith in rw n r

pub room-own : (names : ℕ) (ss fs ps : List ℕ) → Room names ss fs ps → Room (0 + names) ss fs ps
room-own names ss fs ps r = let n : 0 + names ≡ names = omega arith in rw n r
