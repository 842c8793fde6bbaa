-- A word's columns laid one after another.
use Prim.Native.Nat.{ℕ, suc, ◌+◌, ◌-◌, ◌*◌, ◌/◌, ◌%◌, ◌^◌, ◌≤◌, ◌<◌}
use mathlib.Core.Path.{◌≡◌, refl, sym, ap, ◌∙◌}
use mathlib.Core.Bool.{Bool, true, false, not, ◌&&◌, cond}
use mathlib.Core.List.{List}
use native.Mathlib.Omega.{arith}
use lib.ListN.{length, get_or, take, drop}
use borrow.Author.Tests.{le-leb, lt-leb}
use Rattle.formula.specs.States.{State}
use Rattle.lines.specs.Lines.{start_state}
use Rattle.lines.specs.Columns.{only}
use Rattle.word_bits.specs.Words.{bit}
use Rattle.line_lists.specs.Block.{wide, columns, cell, start_line}
use Rattle.line_strips.specs.Strips.{on, entering, leaving}
use Rattle.line_bits.specs.Bits.{none, One, Moved, Inner, Span, Spans}
use Rattle.line_strips.specs.Filling.{Legible, flips_of, WordFlips, SpanFlipped, SpanFlips, Laid, Lays, LaysSome, Layable, Named, LaysRun, Bytes}
use Rattle.line_bits.proofs.Spans.{none_from, one_small}
use Rattle.line_strips.proofs.Stores.{same?, apart_none, apart_more}
use Rattle.line_strips.proofs.Flips.{legible_less, legible_next, row_there, row_bytes, start_flips, crossing_there, crossing_named, crossing_flips}

-- ---- the states from one column to the next
pub entering-last : (flips : ℕ → State) (last : ℕ → Bool) (first : State) (j s : ℕ) → last j ≡ true → entering flips last first (suc j) s ≡ false
unfolding entering
entering-last flips last first j s e = rw (e, entering)

pub entering_more : (flips : ℕ → State) (last : ℕ → Bool) (first : State) (j s : ℕ) → last j ≡ false → entering flips last first (suc j) s ≡ leaving flips last first j s
unfolding entering
entering_more flips last first j s e = rw (e, entering)

-- ---- the columns of a word
pub cell_word : (lasts : List ℕ) (k b : ℕ) → b < 64 → cell lasts (64 * k + b) ≡ bit (get_or lasts k 0) b
unfolding cell
cell_word lasts k b h =
    let e : (64 * k + b) / 64 ≡ k = omega arith in
    let d : (64 * k + b) % 64 ≡ b = omega arith in
    rw (e, d)

-- none in a word is none among the columns
none_word : (lasts : List ℕ) (k j d : ℕ) → j + d ≤ 64 → none (bit (get_or lasts k 0)) j d ≡ none (cell lasts) (64 * k + j) d
none_word lasts k j d h = none_from (bit (get_or lasts k 0)) (cell lasts) (64 * k) j d (λ x l m. sym (cell_word lasts k x (omega arith)))

pub span_column : (lasts : List ℕ) (k j m b : ℕ) → Span (get_or lasts k 0) j m → j ≤ b → b < 64 → bit m b ≡ none (cell lasts) (64 * k + j) (b - j)
span_column lasts k j m b p l h = p.is b h ∙ rw (le-leb j b l) (none_word lasts k j (b - j) (omega arith))

-- shapes flipped at a span
pub span_flips : (names : ℕ) (flips : State) (k rest one m : ℕ) (ws ws' : List ℕ) → Spans rest one m → WordFlips names flips k m ws ws' → SpanFlips names flips k rest one ws ws'
span_flips names flips k rest one m ws ws' p f =
    record {
      is = λ w j i o l.
          record {
            apart = f.apart;
            here = λ s b n h. f.here s b n h ∙ ap (λ (t : Bool). cond (flips s && t) (not (on ws s (64 * k + b))) (on ws s (64 * k + b))) ((p.is w j i o l).is b h);
          };
    }

flipped-same : (names : ℕ) (flips flips' : State) (k j w : ℕ) (ws ws' : List ℕ) → SpanFlipped names flips k j w ws ws' → ((s : ℕ) → s < names → flips' s ≡ flips s) → SpanFlipped names flips' k j w ws ws'
flipped-same names flips flips' k j w ws ws' f h = record { apart = f.apart; here = λ s b n l. rw (h s n) (f.here s b n l) }

fewer : (names : ℕ) (flips : State) (k j w : ℕ) (ws ws' : List ℕ) → SpanFlipped 256 flips k j w ws ws' → names ≤ 256 → SpanFlipped names flips k j w ws ws'
fewer names flips k j w ws ws' f few =
    record {
      apart = record { long = f.apart.long; other = λ s j n h g. f.apart.other s j (omega arith) h g };
      here = λ s b n h. f.here s b (omega arith) h;
    }

flipped-none : (t x : Bool) → cond (t && false) (not x) x ≡ x
flipped-none true x = refl
flipped-none false x = refl

flipped-part : (t r e : Bool) → cond (t && r) (not (r && e)) (r && e) ≡ (r && cond t (not e) e)
flipped-part true true e = refl
flipped-part true false e = refl
flipped-part false true e = refl
flipped-part false false e = refl

module _ (names : ℕ) (flips : ℕ → State) (lasts : List ℕ) (first : State) (k j : ℕ) (ws ws' : List ℕ) (old : Laid names flips (cell lasts) first k j ws) (f : SpanFlipped names (flips (64 * k + j)) k j (get_or lasts k 0) ws ws') (fits : j < 64) where
  laid_past : (s b : ℕ) → s < names → b < j → on ws' s (64 * k + b) ≡ leaving flips (cell lasts) first (64 * k + b) s
  laid_past s b n l =
      f.here s b n (omega arith) ∙ rw (lt-leb j b l) (flipped-none (flips (64 * k + j) s) (on ws s (64 * k + b)) ∙ old.done s b n l)

  -- at the bits from j on, still of the line of column j
  laid_on : (s b : ℕ) → s < names → j ≤ b → b < 64 → on ws' s (64 * k + b) ≡ (none (cell lasts) (64 * k + j) (b - j) && leaving flips (cell lasts) first (64 * k + j) s)
  laid_on s b n l h =
      f.here s b n h ∙ rw (le-leb j b l, none_word lasts k j (b - j) (omega arith), old.ahead s b n l h)
      (flipped-part (flips (64 * k + j) s) (none (cell lasts) (64 * k + j) (b - j)) (entering flips (cell lasts) first (64 * k + j) s))

  laid_here : (s : ℕ) → s < names → on ws' s (64 * k + j) ≡ leaving flips (cell lasts) first (64 * k + j) s
  unfolding none
  laid_here s n = let z : j - j ≡ 0 = omega arith in laid_on s j n (omega arith) fits ∙ rw z

  laid_ahead : (s b : ℕ) → s < names → j + 1 ≤ b → b < 64 → on ws' s (64 * k + b) ≡ (none (cell lasts) (64 * k + (j + 1)) (b - (j + 1)) && entering flips (cell lasts) first (64 * k + (j + 1)) s)
  unfolding none
  laid_ahead s b n l h =
      let d : b - j ≡ suc (b - (j + 1)) = omega arith in
      let e : 64 * k + (j + 1) ≡ suc (64 * k + j) = omega arith in
      laid_on s b n (omega arith) h ∙ rw (d, e) (go (cell lasts (64 * k + j)) refl)
    where
      go : (t : Bool) → cell lasts (64 * k + j) ≡ t → ((not (cell lasts (64 * k + j)) && none (cell lasts) (suc (64 * k + j)) (b - (j + 1))) && leaving flips (cell lasts) first (64 * k + j) s)
          ≡ (none (cell lasts) (suc (64 * k + j)) (b - (j + 1)) && entering flips (cell lasts) first (suc (64 * k + j)) s)
      go true t = rw (t, entering-last flips (cell lasts) first (64 * k + j) s t) (sym (gone (none (cell lasts) (suc (64 * k + j)) (b - (j + 1)))))
        where
          gone : (x : Bool) → (x && false) ≡ false
          gone true = refl
          gone false = refl
      go false t = rw (t, entering_more flips (cell lasts) first (64 * k + j) s t)

  laid_more : Laid names flips (cell lasts) first k (j + 1) ws'
  laid_more =
      record {
        done = λ s b n l. same? b j (λ q. rw q (laid_here s n)) (λ q. laid_past s b n (omega arith));
        ahead = laid_ahead;
      }

-- one column more
lays_more : (names : ℕ) (flips : ℕ → State) (lasts : List ℕ) (k j i : ℕ) (ws ws₁ ws₂ : List ℕ) → Lays names flips (cell lasts) k j i ws ws₁ → SpanFlipped names (flips (64 * k + i)) k i (get_or lasts k 0) ws₁ ws₂ → i < 64 → Lays names flips (cell lasts) k j (i + 1) ws ws₂
lays_more names flips lasts k j i ws ws₁ ws₂ l f fits =
    record {
      apart = apart_more names k ws ws₁ ws₂ l.apart f.apart;
      laid = λ first t. laid_more names flips lasts first k i ws₁ ws₂ (l.laid first t) f fits;
    }

-- ---- the loop over them: those from j on, as far as i
pub record Laying (names : ℕ) (rows shapes cols lasts : List ℕ) (a k j m rest one i : ℕ) (ws ws' : List ℕ) : Type 0 where
  pub least : j ≤ i
  pub far : i ≤ m
  pub inner : Inner (get_or lasts k 0) rest
  pub place : One one i
  pub room : 256 * wide ≤ length ws'
  pub lays : Lays names (flips_of names rows shapes cols a) (cell lasts) k j i ws ws'

module _ (names : ℕ) (rows shapes cols lasts : List ℕ) (a k j m : ℕ) (legible : Legible names rows shapes cols a (64 * k + m)) (short : m ≤ 64) where
  pub laying_none : (rest one : ℕ) (ws : List ℕ) → Inner (get_or lasts k 0) rest → One one j → j < m → 256 * wide ≤ length ws → Laying names rows shapes cols lasts a k j m rest one j ws ws
  laying_none rest one ws n f h room = record { least = omega arith; far = omega arith; inner = n; place = f; room = room; lays = record { apart = apart_none names k ws; laid = λ first l. l } }

  column_legible : (i : ℕ) → i < m → Legible names rows shapes cols a (64 * k + i + 1)
  column_legible i h = legible_less names rows shapes cols a (64 * k + m) (64 * k + i + 1) legible (omega arith)

  module _ (rest one i : ℕ) (ws ws₁ : List ℕ) (y : Laying names rows shapes cols lasts a k j m rest one i ws ws₁) (more : i < m) where
    pub laying_bit : one ≤ 2 ^ 63
    laying_bit = one_small one i y.place (omega arith)

    pub laying_column : 64 * k + i < length cols
    laying_column = omega (arith, legible.cols_long, legible.most)

    pub laying_row : columns ≤ get_or cols (64 * k + i) 0 → start_line cols (64 * k + i) * names + names ≤ length rows
    laying_row = row_there names rows shapes cols a (64 * k + i) (column_legible i more)

    pub laying_bytes : columns ≤ get_or cols (64 * k + i) 0 → Bytes (take names (drop (start_line cols (64 * k + i) * names) rows))
    laying_bytes = row_bytes names rows shapes cols a (64 * k + i) (column_legible i more)

    pub laying_crossing : get_or cols (64 * k + i) 0 < columns → a + get_or cols (64 * k + i) 0 < length shapes
    laying_crossing = crossing_there names rows shapes cols a (64 * k + i) (column_legible i more)

    pub laying_named : get_or cols (64 * k + i) 0 < columns → get_or shapes (a + get_or cols (64 * k + i) 0) 0 < 256
    laying_named = crossing_named names rows shapes cols a (64 * k + i) (column_legible i more)

    laid_one : (ws₂ : List ℕ) → SpanFlipped names (flips_of names rows shapes cols a (64 * k + i)) k i (get_or lasts k 0) ws₁ ws₂ → Lays names (flips_of names rows shapes cols a) (cell lasts) k j (i + 1) ws ws₂
    laid_one ws₂ f = lays_more names (flips_of names rows shapes cols a) lasts k j i ws ws₁ ws₂ y.lays f (omega arith)

    pub laying_ends : (ws₂ : List ℕ) → SpanFlips names (start_state names rows (start_line cols (64 * k + i))) k rest one ws₁ ws₂ → columns ≤ get_or cols (64 * k + i) 0 → LaysSome names (flips_of names rows shapes cols a) (cell lasts) k j m (i + 1) ws ws₂
    laying_ends ws₂ f e =
        record {
          more = omega (arith, y.least);
          most = omega arith;
          lays =
              laid_one ws₂
              (flipped-same names (start_state names rows (start_line cols (64 * k + i))) (flips_of names rows shapes cols a (64 * k + i)) k i (get_or lasts k 0) ws₁ ws₂ (f.is (get_or lasts k 0) i y.inner y.place (omega arith))
              (λ s l. start_flips names rows shapes cols a (64 * k + i) e s));
        }

    pub laying_more : (one' : ℕ) (ws₂ : List ℕ) → SpanFlips 256 (only (get_or shapes (a + get_or cols (64 * k + i) 0) 0)) k rest one ws₁ ws₂ → get_or cols (64 * k + i) 0 < columns → Moved one one' → Laying names rows shapes cols lasts a k j m rest one' (i + 1) ws ws₂
    laying_more one' ws₂ f e g =
        let flipped : SpanFlipped 256 (only (get_or shapes (a + get_or cols (64 * k + i) 0) 0)) k i (get_or lasts k 0) ws₁ ws₂ = f.is (get_or lasts k 0) i y.inner y.place (omega arith) in
        record {
          least = omega (arith, y.least);
          far = omega arith;
          inner = y.inner;
          place = g.is i y.place;
          room = omega (arith, y.room, flipped.apart.long);
          lays =
              laid_one ws₂
              (flipped-same names (only (get_or shapes (a + get_or cols (64 * k + i) 0) 0)) (flips_of names rows shapes cols a (64 * k + i)) k i (get_or lasts k 0) ws₁ ws₂ (fewer names (only (get_or shapes (a + get_or cols (64 * k + i) 0) 0)) k i (get_or lasts k 0) ws₁ ws₂ flipped legible.few)
              (λ s l. crossing_flips names rows shapes cols a (64 * k + i) e s));
        }

pub laying_end : (names : ℕ) (rows shapes cols lasts : List ℕ) (a k j m rest one i : ℕ) (ws ws' : List ℕ) → Laying names rows shapes cols lasts a k j m rest one i ws ws' → m ≤ i → j < m → LaysSome names (flips_of names rows shapes cols a) (cell lasts) k j m i ws ws'
laying_end names rows shapes cols lasts a k j m rest one i ws ws' y h l = record { more = omega arith; most = y.far; lays = y.lays }

-- ---- all columns of a word
pub record Word (names : ℕ) (flips : ℕ → State) (last : ℕ → Bool) (k m j : ℕ) (ws ws' : List ℕ) : Type 0 where
  pub far : j ≤ m
  pub room : 256 * wide ≤ length ws'
  pub lays : Lays names flips last k 0 j ws ws'

pub word_none : (names : ℕ) (flips : ℕ → State) (last : ℕ → Bool) (k m : ℕ) (ws : List ℕ) → 256 * wide ≤ length ws → Word names flips last k m 0 ws ws
word_none names flips last k m ws h = record { far = omega arith; room = h; lays = record { apart = apart_none names k ws; laid = λ first l. l } }

pub word_more : (names : ℕ) (flips : ℕ → State) (last : ℕ → Bool) (k m j e : ℕ) (ws ws₁ ws₂ : List ℕ) → Word names flips last k m j ws ws₁ → LaysSome names flips last k j m e ws₁ ws₂ → Word names flips last k m e ws ws₂
word_more names flips last k m j e ws ws₁ ws₂ w s =
    record {
      far = s.most;
      room = omega (arith, w.room, s.lays.apart.long);
      lays = record { apart = apart_more names k ws ws₁ ws₂ w.lays.apart s.lays.apart; laid = λ first l. s.lays.laid first (w.lays.laid first l) };
    }

pub word_end : (names : ℕ) (flips : ℕ → State) (last : ℕ → Bool) (k m j : ℕ) (ws ws' : List ℕ) → Word names flips last k m j ws ws' → m ≤ j → Lays names flips last k 0 m ws ws'
word_end names flips last k m j ws ws' w h = let e : j ≡ m = omega (arith, w.far) in rw e at w.lays

-- ---- crossings alone
pub record Running (shapes lasts : List ℕ) (a k m rest one i : ℕ) (ws ws' : List ℕ) : Type 0 where
  pub far : i ≤ m
  pub inner : Inner (get_or lasts k 0) rest
  pub place : One one i
  pub room : 256 * wide ≤ length ws'
  pub lays : LaysRun shapes lasts a k i ws ws'

pub running_none : (shapes lasts : List ℕ) (a k m rest one : ℕ) (ws : List ℕ) → Inner (get_or lasts k 0) rest → One one 0 → 256 * wide ≤ length ws → Running shapes lasts a k m rest one 0 ws ws
running_none shapes lasts a k m rest one ws n f room =
    record { far = omega arith; inner = n; place = f; room = room; lays = record { long = refl; lays = λ names flips few same. record { apart = apart_none names k ws; laid = λ first l. l } } }

module _ (shapes lasts : List ℕ) (a k m rest one i : ℕ) (ws ws₁ : List ℕ) (y : Running shapes lasts a k m rest one i ws ws₁) (more : i < m) (short : m ≤ 64) where
  pub running_bit : one ≤ 2 ^ 63
  running_bit = one_small one i y.place (omega arith)

  pub running_more : (one' : ℕ) (ws₂ : List ℕ) → SpanFlips 256 (only (get_or shapes (a + (64 * k + i)) 0)) k rest one ws₁ ws₂ → Moved one one' → Running shapes lasts a k m rest one' (i + 1) ws ws₂
  running_more one' ws₂ f g =
      let flipped : SpanFlipped 256 (only (get_or shapes (a + (64 * k + i)) 0)) k i (get_or lasts k 0) ws₁ ws₂ = f.is (get_or lasts k 0) i y.inner y.place (omega arith) in
      record {
        far = omega arith;
        inner = y.inner;
        place = g.is i y.place;
        room = omega (arith, y.room, flipped.apart.long);
        lays =
            record {
              long = flipped.apart.long ∙ y.lays.long;
              lays = λ names flips few same.
                  lays_more names flips lasts k 0 i ws ws₁ ws₂ (y.lays.lays names flips few (λ c s h. same c s (omega arith)))
                  (flipped-same names (only (get_or shapes (a + (64 * k + i)) 0)) (flips (64 * k + i)) k i (get_or lasts k 0) ws₁ ws₂ (fewer names (only (get_or shapes (a + (64 * k + i)) 0)) k i (get_or lasts k 0) ws₁ ws₂ flipped few)
                  (λ s l. same (64 * k + i) s (omega arith)))
                  (omega arith);
            };
      }

pub running_there : (shapes : List ℕ) (a k m i : ℕ) → Named shapes a (64 * k + m) → i < m → a + (64 * k + i) < length shapes
running_there shapes a k m i n h = n.there (64 * k + i) (omega arith)

pub running_named : (shapes : List ℕ) (a k m i : ℕ) → Named shapes a (64 * k + m) → i < m → get_or shapes (a + (64 * k + i)) 0 < 256
running_named shapes a k m i n h = n.named (64 * k + i) (omega arith)

pub running_end : (shapes lasts : List ℕ) (a k m rest one i : ℕ) (ws ws' : List ℕ) → Running shapes lasts a k m rest one i ws ws' → m ≤ i → LaysRun shapes lasts a k m ws ws'
running_end shapes lasts a k m rest one i ws ws' y h = let e : i ≡ m = omega (arith, y.far) in rw e at y.lays

-- the columns said to be crossings alone
module _ (names : ℕ) (rows shapes cols : List ℕ) (a k m : ℕ) (told : Bool) (ok : Layable names rows shapes cols a k m told) (yes-alone : told ≡ true) where
  own : (c : ℕ) → c < 64 * k + m → get_or cols c 0 ≡ c
  own c h = (ok.alone yes-alone).are c h

  no_start : (c : ℕ) → c < 64 * k + m → get_or cols c 0 < columns
  no_start c h = omega (arith, own c h, ok.legible.most)

  as_far : (c : ℕ) → c < 64 * k + m → Legible names rows shapes cols a (c + 1)
  as_far c h = legible_next names rows shapes cols a (64 * k + m) c ok.legible h

  pub alone_named : Named shapes a (64 * k + m)
  alone_named =
      record {
        there = λ c h. rw (own c h) at (crossing_there names rows shapes cols a c (as_far c h) (no_start c h));
        named = λ c h. rw (own c h) at (crossing_named names rows shapes cols a c (as_far c h) (no_start c h));
      }

  pub alone_lays : (lasts ws ws' : List ℕ) → LaysRun shapes lasts a k m ws ws' → Lays names (flips_of names rows shapes cols a) (cell lasts) k 0 m ws ws'
  alone_lays lasts ws ws' r = r.lays names (flips_of names rows shapes cols a) ok.legible.few (λ c s h. crossing_flips names rows shapes cols a c (no_start c h) s ∙ ap (λ (x : ℕ). only (get_or shapes (a + x) 0) s) (own c h))
