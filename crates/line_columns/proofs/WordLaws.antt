-- A word of columns: how it begins, goes on by a start or by crossings, and ends.
use Prim.Native.Nat.{ℕ, ◌+◌, ◌-◌, ◌/◌, ◌%◌, ◌<◌, ◌≤◌}
use native.Mathlib.Omega.{arith}
use mathlib.Core.Path.{◌≡◌, refl, sym, ◌∙◌}
use mathlib.Core.Bool.{Bool, true, false, false≢true}
use mathlib.Core.List.{List}
use borrow.Author.Tests.{ltb-true, ltb-false}
use lib.Dec.{ltb}
use lib.ListN.{get_or, length, set, length-set}
use Rattle.word_bits.specs.Words.{bit}
use Rattle.line_lists.specs.Block.{planned, wide, columns}
use Rattle.word_bits.proofs.Digits.{bit-none}
use Rattle.line_columns.specs.declared.Cursor.{Cursor}
use Rattle.line_columns.specs.declared.Word.{Word}
use Rattle.line_columns.specs.Planned.{PlanSized}
use Rattle.line_runs.specs.Runs.{over_at, last_of_line}
use Rattle.line_columns.specs.Planning.{StartsNext, ColumnPut, StartReady, StartPut, CrossingPut, UntilReady, UntilPut, CrossingsReady, CrossingsPut, WordNext, WordPlanning, WordPlanned}
use Rattle.line_runs.proofs.EndLaws.{last_is-over}
use Rattle.line_columns.proofs.LastLaws.{cell_without, cell_same, cell-here}
use Rattle.line_columns.proofs.PlanLaws.{Kept, Put, each_kept, each_start, each_crossing}

module _ (names : ℕ) (rows ls : List ℕ) (count i q : ℕ) (lasts : List ℕ) where
  pub word_none : (cols : List ℕ) (f : Cursor) → WordNext names rows ls count i q (planned cols lasts) f → WordPlanning names rows ls count i q lasts f.c cols (record { next = f; lasts = 0 })
  word_none cols f t = record {
    planning = each_kept names rows ls count i q (planned cols lasts) (planned cols (set lasts (f.c / 64) 0)) f.c f.i f.q kept t.planning;
    words = t.words;
    more = t.more;
    from = omega arith;
    most = omega arith;
    off = λ d h k. bit-none d;
  }
    where
      sized : PlanSized (planned cols lasts)
      sized = t.planning.sized

      kept : Kept (planned cols lasts) (planned cols (set lasts (f.c / 64) 0)) f.c
      kept = record {
        sized = record { cols = sized.cols; lasts = length-set lasts (f.c / 64) 0 ∙ sized.lasts };
        cols = λ j h. refl;
        lasts = λ j h. cell_without lasts (f.c / 64) 0 j (λ e. omega (arith, t.words));
      }

  module _ (c : ℕ) (cols : List ℕ) (at : Word) (t : WordPlanning names rows ls count i q lasts c cols at) where
    abbrev w : ℕ
    w = at.lasts

    abbrev n : ℕ
    n = at.next.c

    abbrev i' : ℕ
    i' = at.next.i

    abbrev q' : ℕ
    q' = at.next.q

    abbrev sized : PlanSized (planned cols (set lasts (c / 64) w))
    sized = t.planning.sized

    word : n < c + 64 → n / 64 ≡ c / 64
    word h = omega (arith, t.from, t.words)

    narrow : n < c + 64 → n < columns
    narrow h = omega (arith, t.words, t.more)

    pub start_ready : at.next.c < c + 64 → (r : Bool) → StartsNext ls count at.next.i at.next.q r → r ≡ true → StartReady names rows ls count cols at
    start_ready h r s is = record { whole = t.planning.whole; few = t.planning.few; wide = sized.cols; narrow = narrow h; crossing = t.planning.crossing; row = s.row is }

    module _ (cols' : List ℕ) (w' col : ℕ) (last : Bool) (h : n < c + 64) (put : ColumnPut cols w cols' w' n col last) where
      -- the lasts, with the word in hand written
      put_in : Put (planned cols (set lasts (c / 64) w)) (planned cols' (set lasts (c / 64) w')) n col last
      put_in = record {
        kept = record {
          sized = record { cols = put.long; lasts = length-set lasts (c / 64) w' ∙ lasts_long_lem };
          cols = λ j k. put.same j (λ e. omega arith);
          lasts = λ j k. rw (← word h) (cell_same lasts w w' n last lasts_long_lem (narrow h) put.lasts j (λ e. omega arith));
        };
        here = put.here;
        flag = rw (← word h) (cell-here lasts w w' n last lasts_long_lem (narrow h) put.lasts (t.off (n % 64) (omega (arith, t.words)) (omega arith)));
      }
        where
          lasts_long_lem : length lasts ≡ wide
          lasts_long_lem = sym (length-set lasts (c / 64) w) ∙ sized.lasts

      off-after : (d : ℕ) → n + 1 ≤ c + d → d < 64 → bit w' d ≡ false
      off-after d k l = put.lasts.same d l (λ e. omega (arith, t.words, t.from)) ∙ t.off d (omega arith) l

    module _ (h : at.next.c < c + 64) (r : Bool) (s : StartsNext ls count at.next.i at.next.q r) where
      pub word_start : (cols' : List ℕ) (at' : Word) → r ≡ true → StartPut names rows ls cols at cols' at' → WordPlanning names rows ls count i q lasts c cols' at'
      word_start cols' at' is st = record {
        planning = rw (st.same, st.more) (each_start names rows ls count i q (planned cols (set lasts (c / 64) w)) (planned cols' (set lasts (c / 64) at'.lasts)) n i' q' t.planning (narrow h) r s at'.next.q is st.next
            (put_in cols' at'.lasts (columns + q') (over_at ls q' i') h st.put));
        words = t.words;
        more = t.more;
        from = omega (arith, t.from, st.more);
        most = omega (arith, st.more);
        off = λ d k l. off-after cols' at'.lasts (columns + q') (over_at ls q' i') h st.put d (omega (arith, st.more)) l;
      }

      word_crossing : (cols' : List ℕ) (at' : Word) (last : Bool) → r ≡ false → i' < length ls → last ≡ over_at ls (get_or ls i' 0) (i' + 1) → CrossingPut cols i last at cols' at' → WordPlanning names rows ls count i q lasts c cols' at'
      word_crossing cols' at' last is l e cr = record {
        planning = rw (cr.next, cr.same, cr.more) (each_crossing names rows ls count i q (planned cols (set lasts (c / 64) w)) (planned cols' (set lasts (c / 64) at'.lasts)) n i' q' t.planning (narrow h) r s is l (put_in cols' at'.lasts (i' - i) (over_at ls (get_or ls i' 0) (i' + 1)) h put));
        words = t.words;
        more = t.more;
        from = omega (arith, t.from, cr.more);
        most = omega (arith, cr.more);
        off = λ d k m. off-after cols' at'.lasts (i' - i) (over_at ls (get_or ls i' 0) (i' + 1)) h put d (omega (arith, cr.more)) m;
      }
        where
          put : ColumnPut cols w cols' at'.lasts n (i' - i) (over_at ls (get_or ls i' 0) (i' + 1))
          put = rw (← e) cr.put

      pub word_crossings : (cols' : List ℕ) (at' : Word) (end : ℕ) → r ≡ false → end ≡ c + 64 → CrossingsPut ls count i end cols at cols' at' → WordPlanning names rows ls count i q lasts c cols' at'
      word_crossings cols' at' end is e put = put.planning names rows q lasts c (rw is at s) e t

      pub word_over : r ≡ false → at.next.i ≡ length ls → WordPlanned names rows ls count i q (planned cols (set lasts (c / 64) at.lasts)) c at.next
      word_over is e = record { planning = t.planning; from = t.from; most = t.most; crossing = λ k. omega arith; row = λ k. past (ltb q' count) refl }
        where
          past : (b : Bool) → ltb q' count ≡ b → count ≤ q'
          past true f = absurd (omega (arith, s.after is (ltb-true q' count f)))
          past false f = ltb-false q' count f

    pub word_full : c + 64 ≤ at.next.c → WordPlanned names rows ls count i q (planned cols (set lasts (c / 64) at.lasts)) c at.next
    word_full h = record { planning = t.planning; from = t.from; most = t.most; crossing = λ k. absurd (omega arith); row = λ k. absurd (omega arith) }

-- ---- crossings one after another

-- those from one cursor to another are columns
pub record UntilGone (ls : List ℕ) (a limit stop : ℕ) (cols : List ℕ) (at : Word) (cols' : List ℕ) (at' : Word) : Type 0 where
  pub ready : UntilReady ls cols' a stop at'
  pub put : UntilPut ls a limit stop cols at cols' at'
  pub same : at'.next.q ≡ at.next.q
  pub even : at'.next.i + at.next.c ≡ at.next.i + at'.next.c

module _ (ls : List ℕ) (a limit stop : ℕ) (cols : List ℕ) (at : Word) where
  pub until_none : UntilReady ls cols a stop at → UntilGone ls a limit stop cols at cols at
  until_none ready = record { ready = ready; put = record { further = omega arith; planning = λ names rows count q₀ lasts c₀ before room t. t }; same = refl; even = refl }

  module _ (cols' : List ℕ) (at' : Word) (t : UntilGone ls a limit stop cols at cols' at') (h : at'.next.i + 1 < stop) where
    pub until_more : (l : ℕ) (last : Bool) (cols'' : List ℕ) (at'' : Word) → l ≡ get_or ls at'.next.i 0 → l < limit → last ≡ last_of_line ls at'.next.i → CrossingPut cols' a last at' cols'' at''
        → UntilGone ls a limit stop cols at cols'' at''
    until_more l last cols'' at'' of before is cr = record {
      ready = record {
        wide = cr.put.long;
        room = omega (arith, t.ready.room, cr.next, cr.more);
        there = t.ready.there;
        crossing = omega (arith, t.ready.there, cr.next);
        on = omega (arith, t.ready.on, cr.next);
        gone = omega (arith, t.ready.gone, cr.next, cr.more);
      };
      put = record { further = omega (arith, t.put.further, cr.more); planning = on };
      same = cr.same ∙ t.same;
      even = omega (arith, t.even, cr.next, cr.more);
    }
      where
        on : (names : ℕ) (rows : List ℕ) (count q₀ : ℕ) (lasts : List ℕ) (c₀ : ℕ) → (at.next.q < count → limit ≤ at.next.q) → stop + at.next.c ≤ c₀ + 64 + at.next.i
            → WordPlanning names rows ls count a q₀ lasts c₀ cols at → WordPlanning names rows ls count a q₀ lasts c₀ cols'' at''
        on names rows count q₀ lasts c₀ after room p =
            word_crossing names rows ls count a q₀ lasts c₀ cols' at' (t.put.planning names rows count q₀ lasts c₀ after room p) (omega (arith, t.even)) false none cols'' at'' last refl (omega (arith, t.ready.there)) (is ∙ last_is-over ls at'.next.i (omega (arith, t.ready.there))) cr
          where
            none : StartsNext ls count at'.next.i at'.next.q false
            none = record {
              row = λ e. absurd (false≢true e);
              before = λ e. absurd (false≢true e);
              after = λ e k. omega (arith, t.ready.there);
              beyond = λ e k. omega (arith, of, before, t.same, after (rw t.same at k));
            }

-- the first crossing, and those after it
module _ (ls : List ℕ) (count a end : ℕ) (cols : List ℕ) (at : Word) (ready : CrossingsReady ls cols a end at) (stop : ℕ) (room : stop - at.next.i ≤ end - at.next.c)
    (last : Bool) (cols' : List ℕ) (at' : Word) (cr : CrossingPut cols a last at cols' at') where
  pub crossings_put : (l limit : ℕ) (cols'' : List ℕ) (at'' : Word) → (at.next.q < count → limit ≤ at.next.q) → l ≡ get_or ls at.next.i 0 → last ≡ over_at ls l (at.next.i + 1) → UntilPut ls a limit stop cols' at' cols'' at''
      → CrossingsPut ls count a end cols at cols'' at''
  crossings_put l limit cols'' at'' before of is put = record { further = omega (arith, put.further, cr.more); planning = on }
    where
      on : (names : ℕ) (rows : List ℕ) (q₀ : ℕ) (lasts : List ℕ) (c₀ : ℕ) → StartsNext ls count at.next.i at.next.q false → end ≡ c₀ + 64
          → WordPlanning names rows ls count a q₀ lasts c₀ cols at → WordPlanning names rows ls count a q₀ lasts c₀ cols'' at''
      on names rows q₀ lasts c₀ s e p =
          put.planning names rows count q₀ lasts c₀ (rw cr.same before) (omega (arith, cr.next, cr.more, ready.room))
          (word_crossing names rows ls count a q₀ lasts c₀ cols at p (omega (arith, ready.room)) false s cols' at' last refl ready.crossing (is ∙ rw of) cr)
