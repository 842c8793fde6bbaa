-- The events, one column on; columns that change nothing.
use Prim.Native.Nat.{ℕ, zero, suc, ◌+◌, ◌-◌, ◌*◌, ◌/◌, ◌%◌, ◌≤◌, ◌<◌, min}
use native.Mathlib.Numerals.{add-one}
use native.Mathlib.Omega.{arith}
use mathlib.Core.Path.{◌≡◌, refl, sym, ap, ◌∙◌}
use mathlib.Core.Bool.{Bool, true, false, not, cond, ◌&&◌, beq}
use mathlib.Core.List.{List, [], ◌∷◌, append-nil}
use lib.IntN.{ℤ}
use lib.ListN.{length, take, set, get_or, length-set}
use lib.Seq.{take-suc-set}
use Rattle.word_bits.specs.Words.{bit}
use Rattle.line_lists.specs.Block.{cell, columns}
use Rattle.line_events.specs.Events.{ends_in, settled, events_at, metal_next, metal_after, events_after}
use Rattle.line_events.specs.Noted.{Noted, NoteRoom, WordPart, Events, Listed}
use Rattle.line_events.specs.declared.Found.{Found}
use Rattle.line_sweeping.specs.Sweeping.{Quiet, NextNoisy, EventNoted, EventRoom, Reached, Changed, Left, Stepped, Sweepable, Swept}
use Rattle.line_events.proofs.ListedLaws.{events_zero, events_more, metal_zero, metal_more}
use Rattle.line_events.proofs.SaidLaws.{noted_both}
use Rattle.line_sweeping.proofs.BitLaws.{cell_word}

-- ---- one column

noted_none : (k : ℕ) (events : List ℕ) → Noted [] k events k events
noted_none k events = record { sized = refl; count = omega arith; are = sym (append-nil (take k events)) }

pub noted_one : {v count : ℕ} {metal : Bool} {events : List ℕ} {k x : ℕ} → NoteRoom v count events → k ≡ count → x ≡ v → EventNoted v metal count events (set events k x) (record { metal = metal; count = count + 1 })
noted_one {v} {count} {metal} {events} room at is =
    record {
      noted = rw (at, is) (record { sized = length-set events count v; count = refl; are = rw (add-one count) (take-suc-set events count v (omega (arith, room.few, room.sized))) });
      metal_after = refl;
    }

beq_same : (a : Bool) → beq a a ≡ true
beq_same true = refl
beq_same false = refl

and_no : (a : Bool) → (a && false) ≡ false
and_no true = refl
and_no false = refl

beq_flip : (a b : Bool) → beq a b ≡ beq b a
beq_flip true true = refl
beq_flip true false = refl
beq_flip false true = refl
beq_flip false false = refl

beq_is : (a b : Bool) → beq a b ≡ true → a ≡ b
beq_is true true e = refl
beq_is true false e = sym e
beq_is false true e = e
beq_is false false e = refl

same-settled : (ends bit metal : Bool) → bit ≡ metal → settled ends bit metal ≡ metal
same-settled true bit metal e = e
same-settled false bit metal e = refl

not_flip : (a b : Bool) → not a ≡ b → a ≡ not b
not_flip true b e = ap not e
not_flip false b e = ap not e

-- a bit that says what was there before
pub changed-same : (ends bit : Bool) (c : ℕ) (events : List ℕ) (f : Found) → not (beq bit f.metal) ≡ false → Changed ends bit c events f events f
changed-same ends bit c events f h =
    let e : bit ≡ f.metal = beq_is bit f.metal (not_flip (beq bit f.metal) false h) in
    record { noted = rw (e, beq_same f.metal, and_no ends) (noted_none f.count events); metal = sym (same-settled ends bit f.metal e) }

pub change_room : {c : ℕ} {events : List ℕ} {f : Found} → EventRoom c events f → NoteRoom c f.count events
change_room room = record { narrow = omega (arith, room.narrow); few = omega (arith, room.few, room.narrow); sized = room.sized }

pub leave_room : {c : ℕ} {events : List ℕ} {f : Found} → EventRoom c events f → NoteRoom (columns + c) f.count events
leave_room room = record { narrow = omega (arith, room.narrow); few = omega (arith, room.few, room.narrow); sized = room.sized }

pub changed-here : {ends now bit : Bool} {c : ℕ} {events events' : List ℕ} {f f' : Found} → now ≡ ends → now ≡ true → not (beq bit f.metal) ≡ true → EventNoted c bit f.count events events' f' → Changed ends bit c events f events' f'
changed-here {ends} {now} {bit} {f = f} is yes-now differs n = let e : ends ≡ true = sym is ∙ yes-now in record { noted = rw (e, beq_flip f.metal bit ∙ not_flip (beq bit f.metal) true differs) n.noted; metal = rw e n.metal_after }

pub changed-later : (ends now bit : Bool) (c : ℕ) (events : List ℕ) (f : Found) → now ≡ ends → now ≡ false → Changed ends bit c events f events f
changed-later ends now bit c events f is no-now = let e : ends ≡ false = sym is ∙ no-now in record { noted = rw e (noted_none f.count events); metal = rw e }

pub left_open : {last : Bool} {c : ℕ} {events events' : List ℕ} {f f' : Found} → last ≡ true → f.metal ≡ true → EventNoted (columns + c) false f.count events events' f' → Left last c events f events' f'
left_open e m n = record { noted = rw (e, m) n.noted; metal = rw e n.metal_after }

pub left_air : (last : Bool) (c : ℕ) (events : List ℕ) (f : Found) → f.metal ≡ false → Left last c events f events f
left_air last c events f m = record { noted = rw (m, and_no last) (noted_none f.count events); metal = rw (m, and_no (not last)) }

pub left-on : (last : Bool) (c : ℕ) (events : List ℕ) (f : Found) → last ≡ false → Left last c events f events f
left-on last c events f e = record { noted = rw e (noted_none f.count events); metal = rw e }

pub reached_room : {ls : List ℕ} {ps : List ℤ} {a : ℕ} {cols : List ℕ} {c : ℕ} {events : List ℕ} {f : Found} → Reached ls ps a cols c events f → EventRoom c events f
reached_room r = record { narrow = r.there.narrow; few = omega (arith, r.few); sized = r.sized }

pub changed_room : {ls : List ℕ} {ps : List ℤ} {a : ℕ} {cols : List ℕ} {ends bit : Bool} {c : ℕ} {events events' : List ℕ} {f f' : Found} → Reached ls ps a cols c events f → Changed ends bit c events f events' f' → EventRoom c events' f'
changed_room {ends = ends} {bit} {c} {f = f} r a = record { narrow = r.there.narrow; few = omega (arith, r.few, a.noted.count, one (ends && not (beq f.metal bit))); sized = a.noted.sized ∙ r.sized }
  where
    one : (b : Bool) → length {A = ℕ} (cond b (c ∷ []) []) ≤ 1
    one true = omega arith
    one false = omega arith

pub stepped_both : {ends : Bool} {c : ℕ} {events events' events'' : List ℕ} {f f' f'' : Found} (bit last : Bool) → Changed ends bit c events f events' f' → Left last c events' f' events'' f'' → Stepped ends bit last c events f events'' f''
stepped_both bit last a b =
    record {
      noted = noted_both a.noted (rw a.metal at b.noted);
      metal = b.metal ∙ ap (λ (m : Bool). not last && m) a.metal;
    }

-- ---- columns that change nothing

quiet_events : (ends bit last metal : Bool) (j : ℕ) → Quiet metal bit last → events_at ends bit last metal j ≡ []
quiet_events ends bit last metal j q = rw (q.alike, same-settled ends metal metal refl, beq_same metal, and_no ends, and_swap last metal ∙ q.inner)
  where
    and_swap : (a b : Bool) → (a && b) ≡ (b && a)
    and_swap true true = refl
    and_swap true false = refl
    and_swap false true = refl
    and_swap false false = refl

quiet_metal : (ends bit last metal : Bool) → Quiet metal bit last → metal_next ends bit last metal ≡ metal
quiet_metal ends bit last metal q = rw (q.alike, same-settled ends metal metal refl) (by last metal q.inner)
  where
    by : (last metal : Bool) → (metal && last) ≡ false → (not last && metal) ≡ metal
    by true true e = sym e
    by true false e = refl
    by false true e = refl
    by false false e = refl

module _ (ends bits last : ℕ → Bool) (metal : Bool) where
  events_quiet : (j : ℕ) (events : List ℕ) (f : Found) → Events ends bits last metal j events f → Quiet f.metal (bits j) (last j) → Events ends bits last metal (suc j) events f
  events_quiet j events f g q =
      let q' : Quiet (metal_after ends bits last metal j) (bits j) (last j) = rw g.left at q in
      record {
        few = omega (arith, g.few);
        sized = g.sized;
        are = rw (events_more ends bits last metal j, quiet_events (ends j) (bits j) (last j) (metal_after ends bits last metal j) j q') (g.are ∙ sym (append-nil (events_after ends bits last metal j)));
        left = rw (metal_more ends bits last metal j, quiet_metal (ends j) (bits j) (last j) (metal_after ends bits last metal j) q') g.left;
      }

  events_skip : (d j c : ℕ) (events : List ℕ) (f : Found) → j + d ≡ c → Events ends bits last metal j events f → ((i : ℕ) → j ≤ i → i < c → Quiet f.metal (bits i) (last i)) → Events ends bits last metal c events f
  events_skip zero j c events f e g q = let z : j ≡ c = omega arith in rw z at g
  events_skip (suc d) j c events f e g q = events_skip d (suc j) c events f (omega arith) (events_quiet j events f g (q j (omega arith) (omega arith))) (λ i lo hi. q i (omega arith) hi)

  events_step : (j : ℕ) (events : List ℕ) (f : Found) (events' : List ℕ) (f' : Found) → Events ends bits last metal j events f → Stepped (ends j) (bits j) (last j) j events f events' f' → Events ends bits last metal (suc j) events' f'
  events_step j events f events' f' g s =
      let two : length (events_at (ends j) (bits j) (last j) f.metal j) ≤ 2 = at_most (ends j) (bits j) (last j) f.metal in
      record {
        few = omega (arith, g.few, s.noted.count, two);
        sized = s.noted.sized ∙ g.sized;
        are = rw (events_more ends bits last metal j) (s.noted.are ∙ rw (g.are, g.left));
        left = rw (metal_more ends bits last metal j) (s.metal ∙ rw g.left);
      }
    where
      at_most : (ends bit last metal : Bool) → length (events_at ends bit last metal j) ≤ 2
      at_most true true true true = omega arith
      at_most true true true false = omega arith
      at_most true true false true = omega arith
      at_most true true false false = omega arith
      at_most true false true true = omega arith
      at_most true false true false = omega arith
      at_most true false false true = omega arith
      at_most true false false false = omega arith
      at_most false bit true true = omega arith
      at_most false bit true false = omega arith
      at_most false bit false true = omega arith
      at_most false bit false false = omega arith

-- ---- a word

-- the columns before c have been gone through, of those before e of word k, which is w, with line ends y
pub record Going (ls : List ℕ) (ps : List ℤ) (a : ℕ) (cols row lasts : List ℕ) (metal : Bool) (k e w y c : ℕ) (events : List ℕ) (f : Found) : Type 0 where
  pub block : Sweepable ls ps a e cols row lasts
  pub part : WordPart k e
  pub word : w ≡ get_or row k 0
  pub line_ends : y ≡ get_or lasts k 0
  pub from : 64 * k ≤ c
  pub inside : c ≤ e
  pub swept : Swept ls ps a cols row lasts metal c events f

pub going_start : (ls : List ℕ) (ps : List ℤ) (a : ℕ) (cols row lasts : List ℕ) (metal : Bool) (k e : ℕ) (events : List ℕ) (f : Found) → Sweepable ls ps a e cols row lasts → WordPart k e → Swept ls ps a cols row lasts metal (64 * k) events f
    → Going ls ps a cols row lasts metal k e (get_or row k 0) (get_or lasts k 0) (64 * k) events f
going_start ls ps a cols row lasts metal k e events f b p s = record { block = b; part = p; word = refl; line_ends = refl; from = omega arith; inside = omega (arith, p.some); swept = s }

module _ {ls : List ℕ} {ps : List ℤ} {a : ℕ} {cols row lasts : List ℕ} {metal : Bool} {k e w y c : ℕ} {events : List ℕ} {f : Found} (g : Going ls ps a cols row lasts metal k e w y c events f) where
  pub going_end : e ≤ c → Swept ls ps a cols row lasts metal e events f
  going_end h = let z : c ≡ e = omega (arith, g.inside) in rw z at g.swept

  module _ (b : ℕ) (next : NextNoisy w y (c - 64 * k) f.metal b) where
    on-to : (d : ℕ) → c ≤ d → d ≤ 64 * k + b → d ≤ e → Swept ls ps a cols row lasts metal d events f
    on-to d lo hi top = events_skip (ends_in ls ps a cols) (cell row) (cell lasts) metal (d - c) c d events f (omega arith) g.swept quiet
      where
        quiet : (i : ℕ) → c ≤ i → i < d → Quiet f.metal (cell row i) (cell lasts i)
        quiet i l h =
            let at : 64 * k + (i - 64 * k) ≡ i = omega (arith, g.from) in
            let low : i - 64 * k < 64 = omega (arith, g.from, g.part.inside) in
            let q : Quiet f.metal (bit w (i - 64 * k)) (bit y (i - 64 * k)) = next.quiet (i - 64 * k) (omega (arith, g.from)) (omega (arith, g.from)) low in
            let r : Quiet f.metal (cell row (64 * k + (i - 64 * k))) (cell lasts (64 * k + (i - 64 * k))) = rw (g.word, g.line_ends, cell_word row k (i - 64 * k) low, cell_word lasts k (i - 64 * k) low) at q in
            rw at at r

    pub going_rest : e ≤ 64 * k + b → c < e → Swept ls ps a cols row lasts metal e events f
    going_rest h lo = on-to e (omega arith) (omega arith) (omega arith)

    pub going_low : 64 * k + b < e → b < 64
    going_low h = omega (arith, g.part.inside)

    pub going_reached : 64 * k + b < e → Reached ls ps a cols (64 * k + b) events f
    going_reached h = record { there = g.block.there (64 * k + b) h; few = omega (arith, g.swept.few, next.rises, g.from); sized = g.swept.sized }

    pub going_on : 64 * k + b < e → (now last : Bool) (events' : List ℕ) (f' : Found) → now ≡ bit w b → last ≡ bit y b → Stepped (ends_in ls ps a cols (64 * k + b)) now last (64 * k + b) events f events' f'
        → Going ls ps a cols row lasts metal k e w y (64 * k + b + 1) events' f'
    going_on h now last events' f' p q s =
        let d : ℕ = 64 * k + b in
        let low : b < 64 = going_low h in
        let u : bit w b ≡ cell row d = ap (λ (x : ℕ). bit x b) g.word ∙ cell_word row k b low in
        let v : bit y b ≡ cell lasts d = ap (λ (x : ℕ). bit x b) g.line_ends ∙ cell_word lasts k b low in
        let s' : Stepped (ends_in ls ps a cols d) (cell row d) (cell lasts d) d events f events' f' = rw (p ∙ u, q ∙ v) at s in
        record {
          block = g.block;
          part = g.part;
          word = g.word;
          line_ends = g.line_ends;
          from = omega arith;
          inside = omega arith;
          swept = rw (add-one d) (events_step (ends_in ls ps a cols) (cell row) (cell lasts) metal d events f events' f' (on-to d (omega (arith, next.rises, g.from)) (omega arith) (omega arith)) s');
        }

-- ---- a block

-- the words before the k-th have been gone through
pub record Worded (ls : List ℕ) (ps : List ℤ) (a : ℕ) (cols row lasts : List ℕ) (metal : Bool) (n k : ℕ) (events : List ℕ) (f : Found) : Type 0 where
  pub block : Sweepable ls ps a n cols row lasts
  pub swept : Swept ls ps a cols row lasts metal (min n (64 * k)) events f

events-none : (ends bits last : ℕ → Bool) (metal : Bool) (events : List ℕ) → length events ≡ 2 * columns → Events ends bits last metal 0 events (record { metal = metal; count = 0 })
events-none ends bits last metal events h = record { few = omega arith; sized = h; are = sym (events_zero ends bits last metal); left = sym (metal_zero ends bits last metal) }

pub worded_start : (ls : List ℕ) (ps : List ℤ) (a : ℕ) (cols row lasts : List ℕ) (metal : Bool) (n : ℕ) (events : List ℕ) → Sweepable ls ps a n cols row lasts → length events ≡ 2 * columns
    → Worded ls ps a cols row lasts metal n 0 events (record { metal = metal; count = 0 })
worded_start ls ps a cols row lasts metal n events b h =
    let z : min n (64 * 0) ≡ 0 = omega arith in
    record { block = b; swept = rw z (events-none (ends_in ls ps a cols) (cell row) (cell lasts) metal events h) }

-- word k has columns, if it is not past those that there are
pub word_some : (n k : ℕ) → k < n / 64 + min 1 (n % 64) → 64 * k < n
word_some n k h = omega arith

pub word_part : (n k : ℕ) → k < n / 64 + min 1 (n % 64) → WordPart k (min n (64 * (k + 1)))
word_part n k h = record { some = omega arith; inside = omega arith }

module _ {ls : List ℕ} {ps : List ℤ} {a : ℕ} {cols row lasts : List ℕ} {metal : Bool} {n k : ℕ} {events : List ℕ} {f : Found} (g : Worded ls ps a cols row lasts metal n k events f) where
  pub worded_end : n / 64 + min 1 (n % 64) ≤ k → {r : ℕ} → r ≡ f.count → Listed (ends_in ls ps a cols) (cell row) (cell lasts) metal n events r
  worded_end h is =
      let z : min n (64 * k) ≡ n = omega arith in
      let s : Swept ls ps a cols row lasts metal n events f = rw z at g.swept in
      rw is (record { few = s.few; sized = s.sized; are = s.are })

  pub worded_swept : k < n / 64 + min 1 (n % 64) → Swept ls ps a cols row lasts metal (64 * k) events f
  worded_swept h = let z : min n (64 * k) ≡ 64 * k = omega arith in rw z at g.swept

  pub worded_sweepable : (e : ℕ) → e ≤ n → Sweepable ls ps a e cols row lasts
  worded_sweepable e inside = record { narrow = omega (arith, g.block.narrow); there = λ c k. g.block.there c (omega arith); row_sized = g.block.row_sized; lasts_sized = g.block.lasts_sized }

  pub worded_more : (events' : List ℕ) (f' : Found) → Swept ls ps a cols row lasts metal (min n (64 * (k + 1))) events' f' → Worded ls ps a cols row lasts metal n (k + 1) events' f'
  worded_more events' f' s = record { block = g.block; swept = s }
