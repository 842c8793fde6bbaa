-- The events that two words say, noted from one bit that is on to the next.
use Prim.Native.Nat.{ℕ, zero, suc, ◌+◌, ◌-◌, ◌*◌, ◌≤◌, ◌<◌}
use native.Mathlib.Numerals.{add-one}
use native.Mathlib.Omega.{arith}
use mathlib.Core.Path.{◌≡◌, refl, sym, ap, ◌∙◌}
use mathlib.Core.Bool.{Bool, true, false, ◌||◌, true≢false}
use mathlib.Core.List.{List, [], ◌++◌, append_assoc, append-nil}
use borrow.Author.Tests.{ltb-true, ltb-false}
use lib.Bits.{bit_or, or_zero_r}
use lib.Dec.{ltb}
use lib.ListN.{length, take, set, length-set, length-append}
use lib.Seq.{take-suc-set, take-set-le}
use mir.Val.{bool_byte}
use Rattle.word_bits.specs.Words.{bit}
use Rattle.line_lists.specs.Block.{wide, columns}
use Rattle.word_bits.specs.Lowest.{Lowest, Others}
use Rattle.line_events.specs.Noted.{NoteRoom, Noted, some_if, said_events, RoomFrom}
use Rattle.word_bits.proofs.Digits.{bit-or, bit-none}

-- ---- events after events

pub noted_both : {new more : List ℕ} {k k' k'' : ℕ} {events events' events'' : List ℕ} → Noted new k events k' events' → Noted more k' events' k'' events'' → Noted (new ++ more) k events k'' events''
noted_both {new} {more} {k} {events = events} a b =
    record {
      sized = b.sized ∙ a.sized;
      count = omega (arith, a.count, b.count, length-append new more);
      are = b.are ∙ ap (λ (xs : List ℕ). xs ++ more) a.are ∙ append_assoc (take k events) new more;
    }

-- ---- an event if there is one

pub noted_if : {v count k n : ℕ} {events : List ℕ} (is : Bool) → NoteRoom v count events → k ≡ count → n ≡ bool_byte is → Noted (some_if is v) count events (count + n) (set events k v)
noted_if {v} {count} {events = events} true room at one =
    rw (at, one) (record { sized = length-set events count v; count = refl; are = rw (add-one count) (take-suc-set events count v (omega (arith, room.few, room.sized))) })
noted_if {v} {count} {events = events} false room at none =
    let z : count + 0 ≡ count = omega arith in
    rw (at, none, z) (record { sized = length-set events count v; count = omega arith; are = take-set-le count events count v (omega arith) ∙ sym (append-nil (take count events)) })

one_at_most : (holds : Bool) (v : ℕ) → length (some_if holds v) ≤ 1
one_at_most true v = omega arith
one_at_most false v = omega arith

pub room_after : {c count more : ℕ} (is : Bool) {events events' : List ℕ} → RoomFrom c events count → c < columns → Noted (some_if is c) count events more events' → NoteRoom (columns + c) more events'
room_after {c} {count} {more} is room narrow n =
    record { narrow = omega arith; few = omega (arith, room.few, n.count, one_at_most is c); sized = n.sized ∙ room.sized }

-- one after another, by what their bits say
pub noted_said : (changes opens b c : ℕ) {count more all : ℕ} {one two : Bool} {events events' events'' : List ℕ} → one ≡ bit changes b → two ≡ bit opens b → Noted (some_if one c) count events more events' → Noted (some_if two (columns + c)) more events' all events''
    → Noted (some_if (bit changes b) c ++ some_if (bit opens b) (columns + c)) count events all events''
noted_said changes opens b c u v n m = noted_both (rw u at n) (rw v at m)

-- ---- the events that two words say

module _ (changes opens k : ℕ) where
  pub said_zero : said_events changes opens k 0 ≡ []
  unfolding said_events
  said_zero = refl

  pub said_more : (b : ℕ) → said_events changes opens k (suc b) ≡ said_events changes opens k b ++ (some_if (bit changes b) (64 * k + b) ++ some_if (bit opens b) (columns + (64 * k + b)))
  unfolding said_events
  said_more b = refl

  pub said_few : (b : ℕ) → length (said_events changes opens k b) ≤ 2 * b
  said_few zero = rw said_zero (omega arith)
  said_few (suc b) =
      let u : List ℕ = some_if (bit changes b) (64 * k + b) in
      let v : List ℕ = some_if (bit opens b) (columns + (64 * k + b)) in
      rw (said_more b)
      (omega (arith, said_few b, length-append (said_events changes opens k b) (u ++ v), length-append u v, one_at_most (bit changes b) (64 * k + b), one_at_most (bit opens b) (columns + (64 * k + b))))

  said-off : (b : ℕ) → bit (bit_or changes opens) b ≡ false → said_events changes opens k (suc b) ≡ said_events changes opens k b
  said-off b off =
      said_more b ∙ none (bit changes b) (bit opens b) (sym (bit-or changes opens b) ∙ off)
    where
      none : (p q : Bool) → (p || q) ≡ false → said_events changes opens k b ++ (some_if p (64 * k + b) ++ some_if q (columns + (64 * k + b))) ≡ said_events changes opens k b
      none false false e = append-nil (said_events changes opens k b)
      none true q e = cc
      none false true e = cc

  pub said_skip : (d j b : ℕ) → j + d ≡ b → ((i : ℕ) → j ≤ i → i < b → bit (bit_or changes opens) i ≡ false) → said_events changes opens k b ≡ said_events changes opens k j
  said_skip zero j b e off = let z : b ≡ j = omega arith in rw z
  said_skip (suc d) j b e off = said_skip d (suc j) b (omega arith) (λ i lo hi. off i (omega arith) hi) ∙ said-off j (off j (omega arith) (omega arith))

-- the events of word k before bit `to` are noted, and d has the bits of the others
pub record Noting (changes opens k : ℕ) (events₀ : List ℕ) (count₀ d : ℕ) (events : List ℕ) (n : ℕ) : Type 0 where
  pub to : ℕ
  pub inside : to ≤ 64
  pub narrow : k < wide
  pub room : RoomFrom (64 * k + to) events n
  pub noted : Noted (said_events changes opens k to) count₀ events₀ n events
  pub gone : (b : ℕ) → b < to → bit d b ≡ false
  pub left : (b : ℕ) → to ≤ b → bit d b ≡ bit (bit_or changes opens) b

pub noting_start : (changes opens k d : ℕ) (events : List ℕ) (count n : ℕ) → d ≡ bit_or changes opens → n ≡ count → k < wide → RoomFrom (64 * k) events count → Noting changes opens k events count d events n
noting_start changes opens k d events count n is same h room =
    rw (is, same)
    (record {
      to = 0;
      inside = omega arith;
      narrow = h;
      room = record { few = omega (arith, room.few); sized = room.sized };
      noted = rw (said_zero changes opens k) (record { sized = refl; count = omega arith; are = sym (append-nil (take count events)) });
      gone = λ b l. absurd (omega arith);
      left = λ b l. refl;
    })

module _ {changes opens k : ℕ} {events₀ : List ℕ} {count₀ d : ℕ} {events : List ℕ} {n : ℕ} (g : Noting changes opens k events₀ count₀ d events n) where
  pub noting_end : d ≤ 0 → Noted (said_events changes opens k 64) count₀ events₀ n events
  noting_end h =
      let none : d ≡ 0 = omega arith in
      rw (said_skip changes opens k (64 - g.to) g.to 64 (omega (arith, g.inside)) (λ i lo hi. sym (g.left i lo) ∙ ap (λ (x : ℕ). bit x i) none ∙ bit-none i)) g.noted

  module _ (z : ℕ) (low : Lowest d z) where
    past : g.to ≤ z
    past = go (ltb z g.to) refl
      where
        go : (t : Bool) → ltb z g.to ≡ t → g.to ≤ z
        go true e = absurd (true≢false (sym low.on ∙ g.gone z (ltb-true z g.to e)))
        go false e = ltb-false z g.to e

    pub noting_low : z < 64
    noting_low = low.low

    pub noting_narrow : 64 * k + z < columns
    noting_narrow = omega (arith, g.narrow, low.low)

    pub noting_room : RoomFrom (64 * k + z) events n
    noting_room = record { few = omega (arith, g.room.few, past); sized = g.room.sized }

    on-to : Noted (said_events changes opens k z) count₀ events₀ n events
    on-to = rw (said_skip changes opens k (z - g.to) g.to z (omega (arith, past)) (λ i lo hi. sym (g.left i lo) ∙ low.off i hi)) g.noted

    pub noting_on : (r : ℕ) → Others d r → (events' : List ℕ) (n' : ℕ) → Noted (some_if (bit changes z) (64 * k + z) ++ some_if (bit opens z) (columns + (64 * k + z))) n events n' events' → Noting changes opens k events₀ count₀ r events' n'
    noting_on r rest events' n' new =
        let u : List ℕ = some_if (bit changes z) (64 * k + z) in
        let v : List ℕ = some_if (bit opens z) (columns + (64 * k + z)) in
        record {
          to = suc z;
          inside = omega (arith, low.low);
          narrow = g.narrow;
          room = record { few = omega (arith, noting_room.few, new.count, length-append u v, one_at_most (bit changes z) (64 * k + z), one_at_most (bit opens z) (columns + (64 * k + z))); sized = new.sized ∙ g.room.sized };
          noted = rw (said_more changes opens k z) (noted_both on-to new);
          gone = λ b h. rest.gone z b low (omega arith);
          left = λ b h. rest.kept z b low (omega arith) ∙ g.left b (omega (arith, past));
        }

-- where there are changes alone
pub changing_start : (changes k : ℕ) (events : List ℕ) (count n : ℕ) → n ≡ count → k < wide → RoomFrom (64 * k) events count → Noting changes 0 k events count changes events n
changing_start changes k events count n same h room = noting_start changes 0 k changes events count n (sym (or_zero_r changes)) same h room

module _ {changes k : ℕ} {events₀ : List ℕ} {count₀ d : ℕ} {events : List ℕ} {n : ℕ} (g : Noting changes 0 k events₀ count₀ d events n) where
  pub changing_few : n < 65536
  changing_few = omega (arith, g.room.few, g.inside, g.narrow)

  pub changing_end : {r : ℕ} → d ≤ 0 → r ≡ n → Noted (said_events changes 0 k 64) count₀ events₀ r events
  changing_end h is = rw is (noting_end g h)

  module _ (z : ℕ) (low : Lowest d z) where
    pub changing_fits : 64 * k + z < 65536
    changing_fits = omega (arith, noting_narrow g z low)

    pub changing_room : n < 2 * columns
    changing_room = omega (arith, (noting_room g z low).few, noting_narrow g z low)

    changes_there : bit changes z ≡ true
    changes_there = ap (λ (x : ℕ). bit x z) (sym (or_zero_r changes)) ∙ sym (g.left z (past g z low)) ∙ low.on

    pub changing_on : (x r : ℕ) → x ≡ 64 * k + z → Others d r → Noting changes 0 k events₀ count₀ r (set events n x) (n + 1)
    changing_on x r is rest =
        noting_on g z low r rest (set events n x) (n + 1)
        (rw (is, changes_there, bit-none z)
        (record { sized = length-set events n (64 * k + z); count = refl; are = rw (add-one n) (take-suc-set events n (64 * k + z) (omega (arith, changing_room, g.room.sized))) }))

pub noted_changes : (changes opens k : ℕ) {count r : ℕ} {events events' : List ℕ} → opens ≡ 0 → Noted (said_events changes 0 k 64) count events r events' → Noted (said_events changes opens k 64) count events r events'
noted_changes changes opens k none n = rw none n
