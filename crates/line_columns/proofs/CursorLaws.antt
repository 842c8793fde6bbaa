-- A pass over the columns by its cursor: where it begins, that something is left, and where it ends.
use Prim.Native.Nat.{ℕ, zero, suc, ◌+◌, ◌-◌, ◌*◌, ◌<◌}
use native.Mathlib.Omega.{arith}
use mathlib.Core.Path.{◌≡◌, refl, ap}
use mathlib.Core.Bool.{Bool, true, false, ◌||◌, ◌&&◌, true≢false, false≢true}
use mathlib.Core.List.{List, []}
use borrow.Author.Tests.{ltb-true, ltb-false}
use lib.Dec.{ltb}
use lib.ListN.{length, drop}
use Rattle.lines.specs.Lines.{LineLists, entries, row_count, start_state}
use Rattle.lines.specs.AtIndex.{Accepted}
use Rattle.lines.specs.Columns.{any_inside, columns_of, all_columns}
use Rattle.lines.proofs.ColumnLists.{columns-length}
use Rattle.line_checking.specs.Verdicts.{InAir}
use Rattle.line_columns.specs.Planned.{left_at}
use Rattle.line_columns.specs.Planning.{AtCursor, NextInside}
use Rattle.line_columns.proofs.Lefts.{start, shape, count, starts, more, some_starts, skipped, none_left}

module _ (names : ℕ) (c : LineLists) (ok : Accepted names c) where
  pub cursor_first : (q : ℕ) → NextInside names c.rows 0 q → AtCursor names c 0 q
  cursor_first q n = record { crossing = omega arith; row = n.row; inside = n.inside }

  pub first-left : (q : ℕ) → NextInside names c.rows 0 q → all_columns names c ≡ left_at names c 0 q
  first-left q n =
      let all : count names c ok - 0 ≡ count names c ok = omega arith in
      let zero-start : starts names c ok 0 ≡ starts names c ok q = skipped names c ok q 0 q (omega arith) n.row (λ l a b. n.none l a b) in
      ap (λ (qs : List ℕ). columns_of (start names c ok) (shape names c ok) qs (entries c)) (rw all at zero-start)

  pub cursor_some : (i q : ℕ) → AtCursor names c i q → (ltb i (length c.lines) || ltb q (row_count names c.rows)) ≡ true → 0 < length (left_at names c i q)
  cursor_some i q at h = by (ltb i (length c.lines)) refl (ltb q (row_count names c.rows)) refl h
    where
      long : length (left_at names c i q) ≡ length (starts names c ok q) + length (drop i (entries c))
      long = columns-length (start names c ok) (shape names c ok) (starts names c ok q) (drop i (entries c))

      by : (a : Bool) → ltb i (length c.lines) ≡ a → (b : Bool) → ltb q (row_count names c.rows) ≡ b → (a || b) ≡ true → 0 < length (left_at names c i q)
      by true e b f h = omega (arith, long, ap length (more names c ok i (ltb-true i (length c.lines) e)))
      by false e true f h = omega (arith, long, ap length (some_starts names c ok q (ltb-true q (row_count names c.rows) f) (at.inside (ltb-true q (row_count names c.rows) f))))
      by false e false f h = absurd (false≢true h)

  pub cursor_over : (i q : ℕ) → (ltb i (length c.lines) || ltb q (row_count names c.rows)) ≡ false → left_at names c i q ≡ []
  cursor_over i q h = by (ltb i (length c.lines)) refl (ltb q (row_count names c.rows)) refl h
    where
      by : (a : Bool) → ltb i (length c.lines) ≡ a → (b : Bool) → ltb q (row_count names c.rows) ≡ b → (a || b) ≡ false → left_at names c i q ≡ []
      by true e b f h = absurd (true≢false h)
      by false e true f h = absurd (true≢false h)
      by false e false f h = none_left names c ok i q (ltb-false i (length c.lines) e) (ltb-false q (row_count names c.rows) f)

-- ---- where every line starts in air

none_in_air : (names : ℕ) (rows : List ℕ) → InAir rows → (k l : ℕ) → any_inside k (start_state names rows l) ≡ false
unfolding any_inside
none_in_air names rows air zero l = refl
none_in_air names rows air (suc k) l = rw (air.zeros (l * names + k), none_in_air names rows air k l) (and_no (ltb k names))
  where
    and_no : (a : Bool) → ((a && false) || false) ≡ false
    and_no true = refl
    and_no false = refl

pub air_first : (names : ℕ) (rows : List ℕ) (count : ℕ) → InAir rows → count ≡ row_count names rows → NextInside names rows 0 count
air_first names rows count air is = record { from = omega arith; row = omega arith; none = λ l a b. none_in_air names rows air names l; inside = λ h. absurd (omega arith) }
