-- One column more in a plan.
use Prim.Native.Nat.{ℕ, ◌+◌, ◌-◌, ◌<◌, ◌≤◌}
use native.Mathlib.Omega.{arith}
use mathlib.Core.Path.{◌≡◌, refl, ◌∙◌}
use mathlib.Core.Bool.{Bool, true, false, false≢true, true≢false}
use mathlib.Core.List.{List}
use borrow.Author.Tests.{leb-true, leb-false}
use lib.Dec.{leb}
use lib.ListN.{get_or, length, set, length-set}
use lib.Seq.{get_or-set_same, get_or-set_other}
use Rattle.line_lists.specs.Block.{columns}
use Rattle.line_runs.specs.Runs.{over_at}
use Rattle.line_columns.specs.declared.Word.{Word}
use Rattle.line_columns.specs.Planning.{NextInside, StartsNext, LastPut, ColumnPut, StartReady, StartPut, CrossingReady, CrossingPut}

module _ (ls : List ℕ) (count i q : ℕ) where
  pub starts_rows : count ≤ q → StartsNext ls count i q false
  starts_rows h = record { row = λ e. absurd (false≢true e); before = λ e. absurd (false≢true e); after = λ e k. absurd (omega arith); beyond = λ e k. absurd (omega arith) }

  pub starts_end : q < count → i ≡ length ls → StartsNext ls count i q true
  starts_end h e = record { row = λ t. h; before = λ t k. absurd (omega arith); after = λ t. absurd (true≢false t); beyond = λ t. absurd (true≢false t) }

  pub starts_line : (w : ℕ) → q < count → i ≤ length ls → (i ≡ length ls → ⊥) → w ≡ get_or ls i 0 → StartsNext ls count i q (leb q w)
  starts_line w h l ne e = record { row = λ t. h; before = λ t k. omega (arith, leb-true q w t); after = λ t k. omega (arith, ne); beyond = λ t k. omega (arith, leb-false q w t) }

module _ (cols : List ℕ) (w w' c col : ℕ) (last over : Bool) (wide : length cols ≡ columns) (h : c < columns) (put : LastPut w w' c last) (is : last ≡ over) where
  column_put : ColumnPut cols w (set cols c col) w' c col over
  column_put = record {
    long = length-set cols c col ∙ wide;
    here = get_or-set_same cols c col 0 (omega arith);
    same = λ j ne. get_or-set_other cols c j col 0 ne;
    lasts = rw (← is) put;
  }

module _ (names : ℕ) (rows ls : List ℕ) (count : ℕ) (cols : List ℕ) (at : Word) (w' : ℕ) (ready : StartReady names rows ls count cols at) where
  pub start_put : (next : ℕ) (last : Bool) → last ≡ over_at ls at.next.q at.next.i → LastPut at.lasts w' at.next.c last → NextInside names rows (at.next.q + 1) next
      → StartPut names rows ls cols at (set cols at.next.c (columns + at.next.q)) (record { next = record { i = at.next.i; q = next; c = at.next.c + 1 }; lasts = w' })
  start_put next last is put after = record {
    put = column_put cols at.lasts w' at.next.c (columns + at.next.q) last (over_at ls at.next.q at.next.i) ready.wide ready.narrow put is;
    next = after;
    same = refl;
    more = refl;
  }

pub crossing_put : (cols : List ℕ) (at : Word) (w' a : ℕ) (last : Bool) → CrossingReady cols a at → LastPut at.lasts w' at.next.c last
    → CrossingPut cols a last at (set cols at.next.c (at.next.i - a)) (record { next = record { i = at.next.i + 1; q = at.next.q; c = at.next.c + 1 }; lasts = w' })
crossing_put cols at w' a last ready put = record { put = column_put cols at.lasts w' at.next.c (at.next.i - a) last last ready.wide ready.narrow put refl; next = refl; same = refl; more = refl }
