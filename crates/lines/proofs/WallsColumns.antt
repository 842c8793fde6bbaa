-- The walls of accepted lists are the walls of their columns: a line whose shapes all start outside needs no column for its start, since no operation makes metal of nothing.
use Prim.Native.Nat.{ℕ, zero, suc, ◌+◌, ◌<◌, ◌≤◌}
use native.Mathlib.Omega.{arith}
use mathlib.Core.Path.{◌≡◌, refl, sym, ap, ◌∙◌, fun_ext}
use mathlib.Core.Bool.{Bool, true, false, true≢false}
use mathlib.Core.List.{List, [], ◌∷◌, ◌++◌, map}
use mathlib.Core.Option.{none}
use native.Mathlib.Decide.{dec_lt}
use borrow.Author.Tests.{le-ltb}
use lib.IntN.{ℤ}
use lib.ListN.{length}
use lib.Signed.{lt_z}
use Rattle.outcome.specs.Outcome.{given}
use Rattle.formula.specs.Formula.{Formula, inside}
use Rattle.formula.specs.States.{State, outside}
use Rattle.formula.proofs.Laws.{inside-outside}
use Rattle.lines.specs.Lines.{LineLists, row_count, start_state, low, Crossing, entries, strays, judged, shape_at, crossings_on, walls}
use Rattle.lines.specs.Columns.{Column, crossing_column, any_inside, starts_from, columns_of, all_columns, column_walls}
use Rattle.lines.proofs.Crossings.{Each, each_map, each_on, each_its_line, Sorted, Kept, kept_low, kept_line}
use Rattle.lines.proofs.OtherLines.{past, OnFrom, past-from, past_sorted, each_past}
use Rattle.lines.proofs.LinesBy.{walls_of, lines_by, by_none, by_more, by_past, from_by}
use Rattle.lines.proofs.ColumnLists.{Leaves, starts_in, starts_out, starts-beyond, columns_nil, columns-start, columns-line, columns_leave}
use Rattle.lines.proofs.ColumnLines.{column_nil, air_line, start-line}
use Rattle.lines.proofs.Judgement.{judged_in_order}

-- no shape below n is inside
none_inside : (n : ℕ) (state : State) → any_inside n state ≡ false → (s : ℕ) → s < n → state s ≡ false
unfolding any_inside
none_inside zero state e s h = let z : ⊥ = omega arith in absurd z
none_inside (suc n) state e s h = by (state n) refl (any_inside n state) refl (dec_lt s n) (none_inside n state)
  where
    by : (a : Bool) → state n ≡ a → (b : Bool) → any_inside n state ≡ b → Dec (s < n) → (any_inside n state ≡ false → (s : ℕ) → s < n → state s ≡ false) → state s ≡ false
    by true a b f d ih = absurd (true≢false (rw a at e))
    by false a true f d ih = absurd (true≢false (rw (a, f) at e))
    by false a false f (yes k) ih = ih f s k
    by false a false f (no k) ih = let z : s ≡ n = omega arith in rw z a

module _ (solid : State → Bool) (air : solid outside ≡ false) (names : ℕ) (start : ℕ → State) (bare : (l s : ℕ) → names ≤ s → start l s ≡ false) (shape : ℕ → ℤ → ℕ) where
  starts-outside : (l : ℕ) → any_inside names (start l) ≡ false → start l ≡ outside
  starts-outside l e = fun_ext (λ s. by s (dec_lt s names))
    where
      by : (s : ℕ) → Dec (s < names) → start l s ≡ false
      by s (yes h) = none_inside names (start l) e s h
      by s (no h) = bare l s (omega arith)

  -- the columns of line l and of those after it
  line_first : (k l rows : ℕ) (xs : List Crossing) → Sorted xs → Kept rows xs → OnFrom l xs
      → column_walls solid outside none (columns_of start shape (starts_from names start (suc k) l) xs)
      ≡ walls_of solid start shape l (crossings_on l xs) ++ column_walls solid outside none (columns_of start shape (starts_from names start k (suc l)) (past l xs))
  line_first k l rows xs so ke from = by (any_inside names (start l)) refl
    where
      qs : List ℕ
      qs = starts_from names start k (suc l)

      cs : List Column
      cs = columns_of start shape qs (past l xs)

      on : List Crossing
      on = crossings_on l xs

      its_columns : columns_of start shape qs xs ≡ map (crossing_column shape) on ++ cs
      its_columns = columns-line start shape l qs xs (starts-beyond names start k l (suc l) (omega arith)) so from

      leaves : Leaves l cs
      leaves = columns_leave start shape (length qs + length (past l xs)) l qs (past l xs) (starts-beyond names start k l (suc l) (omega arith)) (past-from l xs from)

      up : Each (λ y. lt_z low y.at ≡ true) on
      up = each_on (λ y. lt_z low y.at ≡ true) l xs (each_map (λ x. strays rows x ≡ false) (λ y. lt_z low y.at ≡ true) (kept_low rows) xs ke)

      by : (b : Bool) → any_inside names (start l) ≡ b
          → column_walls solid outside none (columns_of start shape (starts_from names start (suc k) l) xs) ≡ walls_of solid start shape l on ++ column_walls solid outside none cs
      by true e = rw (starts_in names start k l e, columns-start start shape l qs xs from, its_columns) (start-line solid shape start l on cs (each_its_line l xs) up leaves)
      by false e = rw (starts_out names start k l e, its_columns, starts-outside l e, air) (air_line solid shape l on cs (each_its_line l xs) leaves)

  none_left : (l rows : ℕ) (xs : List Crossing) → l + 0 ≡ rows → Kept rows xs → OnFrom l xs → xs ≡ []
  none_left l rows [] e ke from = refl
  none_left l rows (x ∷ xs) e ke from = let z : ⊥ = omega (arith, kept_line rows x ke.0, from.0) in absurd z

  columns-lines : (k l rows : ℕ) (xs : List Crossing) → l + k ≡ rows → Sorted xs → Kept rows xs → OnFrom l xs
      → column_walls solid outside none (columns_of start shape (starts_from names start k l) xs) ≡ lines_by solid start shape k l xs
  unfolding starts_from
  columns-lines zero l rows xs e so ke from =
      rw (none_left l rows xs e ke from, columns_nil start shape, column_nil solid outside none) (sym (by_none solid start shape l []))
  columns-lines (suc k) l rows xs e so ke from =
      line_first k l rows xs so ke from
      ∙ rw (columns-lines k (suc l) rows (past l xs) (omega arith) (past_sorted l xs so) (each_past (λ x. strays rows x ≡ false) l xs ke) (past-from l xs from))
      (ap (λ ws. walls_of solid start shape l (crossings_on l xs) ++ ws) (sym (by_past solid start shape k l xs)) ∙ sym (by_more solid start shape k l xs))

pub all_from : (xs : List Crossing) → OnFrom 0 xs
all_from [] = tt
all_from (x ∷ xs) = (omega arith, all_from xs)

bare-beyond : (names : ℕ) (rows : List ℕ) (l s : ℕ) → names ≤ s → start_state names rows l s ≡ false
bare-beyond names rows l s h = rw (le-ltb s names h)

pub walls-columns : (f : Formula) (names : ℕ) (c : LineLists) → judged names c ≡ given tt → walls f names c ≡ column_walls (inside f) outside none (all_columns names c)
walls-columns f names c e =
    let start : ℕ → State = start_state names c.rows in
    let rows : ℕ = row_count names c.rows in
    let all = judged_in_order names c e in
    from_by (inside f) start (entries c) rows 0
    ∙ sym (columns-lines (inside f) (inside-outside f outside (λ s. refl)) names start (bare-beyond names c.rows) (shape_at start (entries c)) rows 0 rows (entries c) (omega arith) all.sorted all.kept (all_from (entries c)))
