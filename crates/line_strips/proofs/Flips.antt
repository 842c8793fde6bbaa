-- A column's shapes flipped: a start row's byte by byte, or one crossing's.
use Prim.Native.Nat.{ℕ, ◌+◌, ◌-◌, ◌*◌, ◌/◌, ◌%◌, ◌^◌, ◌≤◌, ◌<◌}
use mathlib.Core.Path.{◌≡◌, refl, sym, ap, ◌∙◌}
use mathlib.Core.Bool.{Bool, true, false, ◌&&◌, true≢false}
use mathlib.Core.List.{List}
use native.Mathlib.Omega.{arith}
use lib.Dec.{eqb, ltb}
use lib.Bits.{bit_xor}
use lib.ListN.{length, get_or, set, take, drop, length-take, length-drop, length-set}
use lib.Seq.{get_or-take, get_or-drop}
use borrow.Author.Tests.{eq-eqb, ne_eqb, lt-ltb, le-ltb, ltb-true, ltb-false, le-leb, lt-leb}
use Rattle.lines.specs.Lines.{start_state}
use Rattle.lines.specs.Columns.{only}
use Rattle.word_bits.specs.Words.{bit}
use Rattle.word_bits.specs.Lowest.{Lowest, Others}
use Rattle.line_bits.specs.Bits.{Binary, Woven}
use Rattle.line_lists.specs.Block.{wide, columns, start_line}
use Rattle.line_strips.specs.Strips.{flips_at}
use Rattle.line_strips.specs.Filling.{Flippable, Legible, Fillable, flips_of, inside_to, Bytes, WordFlips, GoesOn, InWord, Layable}
use Rattle.word_bits.proofs.Digits.{bit-times, bit-none, times-fits}
use Rattle.line_strips.proofs.Stores.{flips_none, flips_same, flips_more}

-- a product with a byte is a word
pub times_fits : (m r : ℕ) → r ≤ 1 → m < 2 ^ 64 → m * r < 2 ^ 64
times_fits = times-fits

-- ---- a start row
inside-next : (row : List ℕ) (s : ℕ) → inside_to row (s + 1) s ≡ eqb (get_or row s 0) 1
unfolding inside_to
inside-next row s = rw (lt-ltb s (s + 1) (omega arith))

inside_not : (row : List ℕ) (e s : ℕ) → e ≤ s → inside_to row e s ≡ false
unfolding inside_to
inside_not row e s h = rw (le-ltb s e h)

inside-below : (row : List ℕ) (e s : ℕ) → s < e → inside_to row e s ≡ eqb (get_or row s 0) 1
unfolding inside_to
inside-below row e s h = rw (lt-ltb s e h)

inside-other : (row : List ℕ) (s u : ℕ) → (u ≡ s → ⊥) → inside_to row (s + 1) u ≡ inside_to row s u
inside-other row s u n = go (ltb u s) refl
  where
    go : (t : Bool) → ltb u s ≡ t → inside_to row (s + 1) u ≡ inside_to row s u
    go true e = inside-below row (s + 1) u (omega (arith, ltb-true u s e)) ∙ sym (inside-below row s u (ltb-true u s e))
    go false e = inside_not row (s + 1) u (omega (arith, ltb-false u s e)) ∙ sym (inside_not row s u (ltb-false u s e))

-- flipped from a to s
pub record FlippedTo (row : List ℕ) (k m a s e : ℕ) (ws ws' : List ℕ) : Type 0 where
  pub far : s ≤ e
  pub long : length ws' ≡ length ws
  pub goes : GoesOn row k m a s ws ws'

pub flipped_none : (row : List ℕ) (k m a e : ℕ) (ws : List ℕ) → a ≤ e → FlippedTo row k m a a e ws ws
flipped_none row k m a e ws h = record { far = h; long = refl; goes = record { is = λ before f. f } }

pub flipped_more : (row : List ℕ) (k m a s e r : ℕ) (ws ws₁ ws₂ : List ℕ) → FlippedTo row k m a s e ws ws₁ → r ≡ m * get_or row s 0 → ws₂ ≡ set ws₁ (s * wide + k) (bit_xor (get_or ws₁ (s * wide + k) 0) r) → Bytes row → s < e → e ≤ length row → 256 * wide ≤ length ws → k < wide
    → FlippedTo row k m a (s + 1) e ws ws₂
flipped_more row k m a s e r ws ws₁ ws₂ t is stored bytes l far room word = rw (stored, is)
    (record {
      far = omega arith;
      long = length-set ws₁ (s * wide + k) (bit_xor (get_or ws₁ (s * wide + k) 0) (m * get_or row s 0)) ∙ t.long;
      goes =
          record {
            is = λ before f.
                flips_more (length row) (inside_to row s) (inside_to row (s + 1)) k m (m * get_or row s 0) s before ws₁ (t.goes.is before f)
                (omega (arith, t.long, bytes.few)) word (λ h. inside_not row s s (omega arith))
                (λ b h. bit-times m (get_or row s 0) b (bytes.bits s (omega arith)) ∙ ap (λ (x : Bool). x && bit m b) (sym (inside-next row s)))
                (λ u n. inside-other row s u n);
          };
    })

pub flipped_end : (row : List ℕ) (k m a s e : ℕ) (ws ws' : List ℕ) → FlippedTo row k m a s e ws ws' → e ≤ s → GoesOn row k m a e ws ws'
flipped_end row k m a s e ws ws' t h = let z : s ≡ e = omega (arith, t.far) in rw z at t.goes

pub byte_fits : (row : List ℕ) (s e : ℕ) → Bytes row → s < e → e ≤ length row → get_or row s 0 ≤ 1
byte_fits row s e b h l = b.bits s (omega arith)

pub row_fits : (row ws ws' : List ℕ) (k m a s e : ℕ) → Bytes row → FlippedTo row k m a s e ws ws' → s < e → e ≤ length row → 256 * wide ≤ length ws → k < wide → s * wide + k < length ws'
row_fits row ws ws' k m a s e b t h l r w = omega (arith, b.few, t.long)

-- from s to e no shape is inside that is not told of before
inside_quiet : (row : List ℕ) (s e u : ℕ) → s ≤ e → (s ≤ u → u < e → eqb (get_or row u 0) 1 ≡ false) → inside_to row e u ≡ inside_to row s u
inside_quiet row s e u h off = go (ltb u s) refl
  where
    go : (t : Bool) → ltb u s ≡ t → inside_to row e u ≡ inside_to row s u
    go true q = inside-below row e u (omega (arith, ltb-true u s q)) ∙ sym (inside-below row s u (ltb-true u s q))
    go false q = more (ltb u e) refl
      where
        more : (t : Bool) → ltb u e ≡ t → inside_to row e u ≡ inside_to row s u
        more false p = inside_not row e u (ltb-false u e p) ∙ sym (inside_not row s u (ltb-false u s q))
        more true p = inside-below row e u (ltb-true u e p) ∙ off (ltb-false u s q) (ltb-true u e p) ∙ sym (inside_not row s u (ltb-false u s q))

-- a chunk woven into a word
pub bytes_binary : (row : List ℕ) → Bytes row → Binary row
bytes_binary row b = record { bits = b.bits }

module _ (row : List ℕ) (k m s w : ℕ) (woven : Woven row s 8 4 w) where
  -- the bit of a byte
  byte_bit : (u : ℕ) → s ≤ u → u < s + 32 → bit w (8 * ((u - s) % 8) + (u - s) / 8) ≡ eqb (get_or row u 0) 1
  byte_bit u l h =
      let at : s + (u - s) % 8 + 8 * ((u - s) / 8) ≡ u = omega arith in
      woven.are ((u - s) % 8) ((u - s) / 8) (omega arith) (omega arith) ∙ ap (λ (x : ℕ). eqb (get_or row x 0) 1) at

  pub chunk_none : (ws : List ℕ) → w ≡ 0 → GoesOn row k m s (s + 32) ws ws
  chunk_none ws z =
      record {
        is = λ before f.
            flips_same (length row) (inside_to row s) (inside_to row (s + 32)) k m before ws f
            (λ u n. inside_quiet row s (s + 32) u (omega arith) (λ l h. sym (byte_bit u l h) ∙ ap (λ (x : ℕ). bit x (8 * ((u - s) % 8) + (u - s) / 8)) z ∙ bit-none (8 * ((u - s) % 8) + (u - s) / 8)));
      }

  module _ (t r : ℕ) (low : Lowest w t) (others : Others w r) (lone : r ≡ 0) where
    -- no other bit is on
    bit-other : (c : ℕ) → (c ≡ t → ⊥) → bit w c ≡ false
    bit-other c n = go (ltb c t) refl
      where
        go : (q : Bool) → ltb c t ≡ q → bit w c ≡ false
        go true q = low.off c (ltb-true c t q)
        go false q = sym (others.kept t c low (omega (arith, ltb-false c t q))) ∙ ap (λ (x : ℕ). bit x c) lone ∙ bit-none c

    whole : 8 * (t / 8) + t % 8 ≡ t
    whole = omega arith

    lone_near : t % 8 < 4
    lone_near = go (ltb (t % 8) 4) refl
      where
        go : (q : Bool) → ltb (t % 8) 4 ≡ q → t % 8 < 4
        go true q = ltb-true (t % 8) 4 q
        go false q =
            absurd (true≢false (sym low.on ∙ ap (bit w) (sym whole) ∙ woven.beyond (t / 8) (t % 8) (omega (arith, low.low)) (ltb-false (t % 8) 4 q) (omega arith)))

    lone_within : s + t / 8 + t % 8 * 8 < s + 32
    lone_within = omega (arith, lone_near, low.low)

    pub lone_fits : (u : ℕ) (ws : List ℕ) → u ≡ s + t / 8 + t % 8 * 8 → Bytes row → s + 32 ≤ length row → 256 * wide ≤ length ws → k < wide → u * wide + k < length ws
    lone_fits u ws is bytes far room word = omega (arith, is, lone_within, bytes.few)

    lone_on : inside_to row (s + 32) (s + t / 8 + t % 8 * 8) ≡ true
    lone_on =
        let at : s + t / 8 + 8 * (t % 8) ≡ s + t / 8 + t % 8 * 8 = omega arith in
        inside-below row (s + 32) (s + t / 8 + t % 8 * 8) lone_within
        ∙ sym (woven.are (t / 8) (t % 8) (omega (arith, low.low)) lone_near ∙ ap (λ (x : ℕ). eqb (get_or row x 0) 1) at)
        ∙ ap (bit w) whole ∙ low.on

    lone_other : (u : ℕ) → (u ≡ s + t / 8 + t % 8 * 8 → ⊥) → inside_to row (s + 32) u ≡ inside_to row s u
    lone_other u n =
        inside_quiet row s (s + 32) u (omega arith)
        (λ l h. sym (byte_bit u l h) ∙ bit-other (8 * ((u - s) % 8) + (u - s) / 8) (λ q. n (omega arith)))

    pub chunk_lone : (u : ℕ) (ws ws' : List ℕ) → u ≡ s + t / 8 + t % 8 * 8 → ws' ≡ set ws (u * wide + k) (bit_xor (get_or ws (u * wide + k) 0) m) → Bytes row → s + 32 ≤ length row → 256 * wide ≤ length ws → k < wide
        → GoesOn row k m s (s + 32) ws ws'
    chunk_lone u ws ws' is stored bytes far room word = rw (stored, is)
        (record {
          is = λ before f.
              flips_more (length row) (inside_to row s) (inside_to row (s + 32)) k m m (s + t / 8 + t % 8 * 8) before ws f
              (omega (arith, lone_within, bytes.few)) word (λ h. inside_not row s (s + t / 8 + t % 8 * 8) (omega arith))
              (λ b h. ap (λ (x : Bool). x && bit m b) (sym lone_on)) lone_other;
        })

-- a whole row
pub record Rowed (row : List ℕ) (k m s : ℕ) (ws ws' : List ℕ) : Type 0 where
  pub far : s ≤ length row
  pub long : length ws' ≡ length ws
  pub flips : WordFlips (length row) (inside_to row s) k m ws ws'

pub rowed_none : (row : List ℕ) (k m : ℕ) (ws : List ℕ) → Rowed row k m 0 ws ws
rowed_none row k m ws = record { far = omega arith; long = refl; flips = flips_none (length row) (inside_to row 0) k m ws (λ s n. inside_not row 0 s (omega arith)) }

pub rowed_more : (row : List ℕ) (k m s e : ℕ) (ws ws₁ ws₂ : List ℕ) → Rowed row k m s ws ws₁ → GoesOn row k m s e ws₁ ws₂ → length ws₂ ≡ length ws₁ → e ≤ length row → Rowed row k m e ws ws₂
rowed_more row k m s e ws ws₁ ws₂ r g l h = record { far = h; long = l ∙ r.long; flips = g.is ws r.flips }

pub rowed_chunk : (row : List ℕ) (k m c n : ℕ) (ws ws₁ ws₂ : List ℕ) → Rowed row k m (c * 32) ws ws₁ → GoesOn row k m (c * 32) (c * 32 + 32) ws₁ ws₂ → length ws₂ ≡ length ws₁ → c < n → n ≡ length row / 32 → Rowed row k m ((c + 1) * 32) ws ws₂
rowed_chunk row k m c n ws ws₁ ws₂ r g l h is = let more : c * 32 + 32 ≡ (c + 1) * 32 = omega arith in rw (← more) (rowed_more row k m (c * 32) (c * 32 + 32) ws ws₁ ws₂ r g l (omega arith))

pub rowed_end : (row : List ℕ) (k m s : ℕ) (ws ws₁ ws₂ : List ℕ) → Rowed row k m s ws ws₁ → GoesOn row k m s (length row) ws₁ ws₂ → WordFlips (length row) (inside_to row (length row)) k m ws ws₂
rowed_end row k m s ws ws₁ ws₂ r g = g.is ws r.flips

-- ---- a line's start
row-bytes_long : (names b : ℕ) (rows : List ℕ) → b + names ≤ length rows → length (take names (drop b rows)) ≡ names
row-bytes_long names b rows h = omega (arith, length-take names (drop b rows), length-drop b rows)

start-inside : (names l : ℕ) (rows : List ℕ) (s : ℕ) → s < names → start_state names rows l s ≡ inside_to (take names (drop (l * names) rows)) names s
start-inside names l rows s n =
    rw (lt-ltb s names n) (sym (inside-below (take names (drop (l * names) rows)) names s n ∙ rw (get_or-take names (drop (l * names) rows) s 0 n, get_or-drop (l * names) rows s 0)))

pub start_flipped : (names l k m : ℕ) (rows ws ws' : List ℕ) → l * names + names ≤ length rows → WordFlips (length (take (l * names + names - l * names) (drop (l * names) rows))) (inside_to (take (l * names + names - l * names) (drop (l * names) rows)) (length (take (l * names + names - l * names) (drop (l * names) rows)))) k m ws ws'
    → WordFlips names (start_state names rows l) k m ws ws'
start_flipped names l k m rows ws ws' h f =
    let same : l * names + names - l * names ≡ names = omega arith in
    flips_same names (inside_to (take names (drop (l * names) rows)) names) (start_state names rows l) k m ws ws' (rw (same, row-bytes_long names (l * names) rows h) at f) (start-inside names l rows)

pub part_bytes : (names b : ℕ) (rows : List ℕ) → Bytes (take names (drop b rows)) → Bytes (take (b + names - b) (drop b rows))
part_bytes names b rows h = let same : b + names - b ≡ names = omega arith in rw same h

-- ---- a crossing
pub crossing_flipped : (s x k m : ℕ) (ws ws' : List ℕ) → s ≡ x → x < 256 → k < wide → 256 * wide ≤ length ws → ws' ≡ set ws (s * wide + k) (bit_xor (get_or ws (s * wide + k) 0) m) → WordFlips 256 (only x) k m ws ws'
crossing_flipped s x k m ws ws' e h w r f =
    rw (f, e)
    (flips_more 256 (λ u. false) (only x) k m m x ws ws (flips_none 256 (λ u. false) k m ws (λ u n. refl)) (omega arith) w (λ n. refl)
    (λ b l. sym (rw (eq-eqb x x refl))) (λ u n. ne_eqb u x n))

-- ---- a column
pub legible_less : (names : ℕ) (rows shapes cols : List ℕ) (a n c : ℕ) → Legible names rows shapes cols a n → c ≤ n → Legible names rows shapes cols a c
legible_less names rows shapes cols a n c l h =
    record { few = l.few; cols_long = l.cols_long; most = omega (arith, l.most); column = λ j g. l.column j (omega arith) }

pub legible_next : (names : ℕ) (rows shapes cols : List ℕ) (a n c : ℕ) → Legible names rows shapes cols a n → c < n → Legible names rows shapes cols a (c + 1)
legible_next names rows shapes cols a n c l h = legible_less names rows shapes cols a n (c + 1) l (omega arith)

-- as far as word k, and as its last column
pub legible_word : (names : ℕ) (rows shapes cols lasts : List ℕ) (a n k : ℕ) (told : Bool) (ws : List ℕ) → Fillable names rows shapes cols lasts a n told ws → 64 * k < n → Legible names rows shapes cols a (64 * k)
legible_word names rows shapes cols lasts a n k told ws f h = legible_less names rows shapes cols a n (64 * k) f.legible (omega arith)

pub layable_word : (names : ℕ) (rows shapes cols lasts : List ℕ) (a n k m : ℕ) (told : Bool) (ws : List ℕ) → Fillable names rows shapes cols lasts a n told ws → InWord n k m → Layable names rows shapes cols a k m told
layable_word names rows shapes cols lasts a n k m told ws f w =
    record {
      short = w.most;
      legible = legible_less names rows shapes cols a n (64 * k + m) f.legible w.within;
      alone = λ e. record { are = λ j h. (f.alone e).are j (omega (arith, w.within)) };
    }

-- what flips there
pub start_flips : (names : ℕ) (rows shapes cols : List ℕ) (a c : ℕ) → columns ≤ get_or cols c 0 → (s : ℕ) → flips_of names rows shapes cols a c s ≡ start_state names rows (start_line cols c) s
unfolding flips_of flips_at
start_flips names rows shapes cols a c e s = rw (le-leb columns (get_or cols c 0) e)

pub crossing_flips : (names : ℕ) (rows shapes cols : List ℕ) (a c : ℕ) → get_or cols c 0 < columns → (s : ℕ) → flips_of names rows shapes cols a c s ≡ only (get_or shapes (a + get_or cols c 0) 0) s
unfolding flips_of flips_at
crossing_flips names rows shapes cols a c e s = rw (lt-leb columns (get_or cols c 0) e)

module _ (names : ℕ) (rows shapes cols : List ℕ) (a c : ℕ) (l : Legible names rows shapes cols a (c + 1)) where
  flippable : Flippable names rows shapes cols a c
  flippable = l.column c (omega arith)

  pub row_there : columns ≤ get_or cols c 0 → start_line cols c * names + names ≤ length rows
  row_there e = flippable.row e

  pub row_bytes : columns ≤ get_or cols c 0 → Bytes (take names (drop (start_line cols c * names) rows))
  row_bytes e =
      record {
        few = omega (arith, l.few, length-take names (drop (start_line cols c * names) rows));
        bits = λ s h.
            let n : s < names = omega (arith, length-take names (drop (start_line cols c * names) rows)) in
            rw (get_or-take names (drop (start_line cols c * names) rows) s 0 n, get_or-drop (start_line cols c * names) rows s 0) (flippable.bytes e s n);
      }

  pub column_start : (k m : ℕ) (ws ws' : List ℕ) → columns ≤ get_or cols c 0 → WordFlips names (start_state names rows (start_line cols c)) k m ws ws' → WordFlips names (flips_of names rows shapes cols a c) k m ws ws'
  column_start k m ws ws' e f =
      flips_same names (start_state names rows (start_line cols c)) (flips_of names rows shapes cols a c) k m ws ws' f (λ s n. start_flips names rows shapes cols a c e s)

  pub crossing_there : get_or cols c 0 < columns → a + get_or cols c 0 < length shapes
  crossing_there e = flippable.there e

  pub crossing_named : get_or cols c 0 < columns → get_or shapes (a + get_or cols c 0) 0 < 256
  crossing_named e = omega (arith, flippable.named e, l.few)

  pub column_crossing : (k m : ℕ) (ws ws' : List ℕ) → get_or cols c 0 < columns → WordFlips 256 (only (get_or shapes (a + get_or cols c 0) 0)) k m ws ws' → WordFlips names (flips_of names rows shapes cols a c) k m ws ws'
  column_crossing k m ws ws' e f =
      record {
        apart = record { long = f.apart.long; other = λ s j n h g. f.apart.other s j (omega (arith, l.few)) h g };
        here = λ s b n h. rw (crossing_flips names rows shapes cols a c e s) (f.here s b (omega (arith, l.few)) h);
      }
