-- The sixteens that are left over, gathered one after another; the shapes of those between them are passed.
use mathlib.Core.Path.{◌≡◌, refl, sym, ap, ◌∙◌, subst}
use mathlib.Core.Bool.{Bool, true, false, ◌&&◌, true≢false, and-eq-true_iff}
use mathlib.Core.List.{List, []}
use Prim.Native.Nat.{ℕ, ◌+◌, ◌-◌, ◌*◌, ◌/◌, ◌%◌, ◌<◌, ◌≤◌, min}
use native.Mathlib.Omega.{arith}
use lib.Bits.{bit_and}
use lib.ListN.{length, get_or}
use lib.Ieee.{Float, nan}
use Rattle.word_bits.specs.Words.{bit}
use Rattle.word_bits.specs.Lowest.{Lowest, Others}
use Rattle.word_bits.proofs.Digits.{bit-and}
use Rattle.word_bits.proofs.Walk.{Rest, rest-starts, rest_up, rest-none, rest-on, rest-ends}
use Rattle.outcome.specs.Outcome.{refused}
use Rattle.cross_cuts.specs.Cuts.{Cut, fault, cut, faultless}
use Rattle.cross_cuts.specs.Keys.{Held, Going, Ends}
use Rattle.std.proofs.Common.{Result, Ok, Err}
use Rattle.cross_cuts.proofs.GatherLaws.{going_starts, going_past, going_ends}
use Rattle.cross_shapes.specs.Shapes.{finite}
use Rattle.cross_shapes.specs.declared.Probe.{Probe}
use Rattle.cross_axis.specs.Axes.{Fillable, Beside}
use Rattle.cross_axis.specs.Axes as Axes
use Rattle.cross_axis.proofs.AxisLaws.{beside-starts}
use Rattle.cross_hits.specs.Hits.{Sized, Told, Begun, Crosses, Clear, Reached}
use Rattle.cross_hits.specs.declared.Alone.{Alone}
use Rattle.cross_hits.specs.declared.Block.{Block}

-- the axis that stands alone may be filled anew: what two say together stays
module _ {probe : Probe} {cuts : List Cut} {lows highs : List Float} {alone : Alone} {masks halves l₀ g₀ l g : List ℕ} (crosses : Crosses probe cuts lows highs alone masks halves l₀ g₀)
    (bl : Beside alone.start (alone.start + 256) l₀ l) (bg : Beside alone.start (alone.start + 256) g₀ g) where
  pub sized_still : Sized alone halves l g
  sized_still = record {
    inside = crosses.sized.inside;
    halves_length = crosses.sized.halves_length;
    lessers_length = bl.sized ∙ crosses.sized.lessers_length;
    greaters_length = bg.sized ∙ crosses.sized.greaters_length;
  }

  crosses_still : Crosses probe cuts lows highs alone masks halves l g
  crosses_still = record {
    few = crosses.few;
    counted = crosses.counted;
    masks_length = crosses.masks_length;
    ranks = record { lows_length = crosses.ranks.lows_length; highs_length = crosses.ranks.highs_length; lessers_length = bl.sized ∙ crosses.ranks.lessers_length; greaters_length = bg.sized ∙ crosses.ranks.greaters_length };
    sized = sized_still;
    numbers = crosses.numbers;
    low = crosses.low;
    high = crosses.high;
    half = crosses.half;
    sure = crosses.sure;
    right = λ i h box a b codes.
        let n = crosses.sized.inside in
        rw (bl.above (768 + i) (omega arith), bg.above (768 + i) (omega arith)) (crosses.right i h box a b codes);
    passed = crosses.passed;
    over = crosses.over;
  }

-- ---- how far the sixteens are gathered
pub record Gathering (probe : Probe) (cuts : List Cut) (lows highs : List Float) (alone : Alone) (masks halves l₀ g₀ l g bytes keys : List ℕ) (rest m : ℕ) : Type 0 where
  pub done : ℕ
  pub walked : Rest alone.left rest done
  pub crosses : Crosses probe cuts lows highs alone masks halves l g
  pub lessers_beside : Beside alone.start (alone.start + 256) l₀ l
  pub greaters_beside : Beside alone.start (alone.start + 256) g₀ g
  pub going : Going 256 16 cuts bytes keys (min (16 * done) (length cuts)) m
  pub clear : Clear halves bytes (min (16 * done) (length cuts)) (length cuts)

module _ {probe : Probe} {cuts : List Cut} {lows highs : List Float} {alone : Alone} {masks halves l₀ g₀ : List ℕ} where
  pub gather_starts : {bytes keys : List ℕ} → Crosses probe cuts lows highs alone masks halves l₀ g₀ → length bytes ≡ 256 → length keys ≡ 512 → Clear halves bytes 0 alone.shapes
      → Gathering probe cuts lows highs alone masks halves l₀ g₀ l₀ g₀ bytes keys alone.left 0
  gather_starts {bytes} {keys} crosses s k clear =
      let e : 0 ≡ min (16 * 0) (length cuts) = omega arith in
      record {
        done = 0;
        walked = rest-starts;
        crosses = crosses;
        lessers_beside = beside-starts;
        greaters_beside = beside-starts;
        going = subst (λ (i : ℕ). Going 256 16 cuts bytes keys i 0) e (going_starts 16 cuts bytes keys s k);
        clear = record { zero = λ j h l z. clear.zero j (omega arith) (omega (arith, crosses.counted)) z };
      }

  module _ {l g bytes keys : List ℕ} {rest m : ℕ} (at : Gathering probe cuts lows highs alone masks halves l₀ g₀ l g bytes keys rest m) where
    -- up to a shape before which the sixteens have nothing left over
    past : (i : ℕ) → min (16 * at.done) (length cuts) ≤ i → i ≤ length cuts → ((b : ℕ) → at.done ≤ b → 16 * b < i → bit alone.left b ≡ false) → Going 256 16 cuts bytes keys i m
    past i up short off =
        let a = min (16 * at.done) (length cuts) in
        let e : a + (i - a) ≡ i = omega arith in
        subst (λ (k : ℕ). Going 256 16 cuts bytes keys k m) e
        (going_past 16 cuts bytes keys at.crosses.few m a (i - a) at.going (omega arith)
        (λ j h k.
        let n : j < length cuts = omega arith in
        let p = at.crosses.over j n (off (j / 16) (omega arith) (omega arith)) in
        (p.1, at.clear.zero j h n p.0)))

    gathered : ((b : ℕ) → at.done ≤ b → 16 * b < length cuts → bit alone.left b ≡ false) → Ends 256 16 cuts bytes keys (Ok m)
    gathered off = going_ends 16 cuts bytes keys (length cuts) m (past (length cuts) (omega arith) (omega arith) off) (omega arith)

    pub gather_none : rest ≡ 0 → Ends 256 16 cuts bytes keys (Ok m)
    gather_none e = gathered (λ b h k. rest-ends (subst (λ (r : ℕ). Rest alone.left r at.done) e at.walked) b h)

    module _ {b : ℕ} (low : Lowest rest b) where
      pub gather_last : alone.shapes ≤ 16 * b → Ends 256 16 cuts bytes keys (Ok m)
      gather_last over = gathered (λ c h k. rest-none at.walked low c h (omega (arith, at.crosses.counted)))

      module _ (more : 16 * b < alone.shapes) where
        pub block_near : 16 * b + 16 ≤ 256
        block_near = omega (arith, at.crosses.counted, at.crosses.few)

        pub block_fillable : Fillable (alone.start + 16 * b) (alone.start + 16 * b + min 16 (alone.shapes - 16 * b)) alone.along lows highs l g
        block_fillable =
            let c = at.crosses in
            let n = c.counted in
            let s = c.sized.inside in
            let near = block_near in
            record {
              sized = c.ranks;
              inside = omega arith;
              numbers = c.numbers;
              low = λ k h q.
                  let e : alone.start + (k - alone.start) ≡ k = omega arith in
                  subst (λ (i : ℕ). finite (get_or lows i nan) ≡ true) e (c.low (k - alone.start) (omega arith));
              high = λ k h q.
                  let e : alone.start + (k - alone.start) ≡ k = omega arith in
                  subst (λ (i : ℕ). finite (get_or highs i nan) ≡ true) e (c.high (k - alone.start) (omega arith));
            }

        block_going : Going 256 16 cuts bytes keys (16 * b) m
        block_going =
            let n = at.crosses.counted in
            let up = rest_up at.walked low in
            past (16 * b) (omega arith) (omega arith) (λ c h k. rest-none at.walked low c h (omega arith))

        pub block_held : Held 256 bytes keys (16 * b) m
        block_held = block_going.held

        module _ {l' g' : List ℕ} (asked mask hits size : ℕ) (told : Told probe cuts alone halves lows l' g' (16 * b) (min 16 (alone.shapes - 16 * b)) asked) (masked : mask ≡ get_or masks b 0) (both : hits ≡ bit_and asked mask)
            (es : size ≡ min 16 (alone.shapes - 16 * b)) where
          abbrev block : Block
          block = record { start = 16 * b; size = size; hits = hits; count = m }

          either : (s t : Bool) → (s && t) ≡ false → s ≡ true → t ≡ false
          either true t h e = h
          either false t h e = absurd (true≢false (sym e))

          hit : (c : ℕ) → bit hits c ≡ (bit asked c && bit (get_or masks b 0) c)
          hit c = ap (λ (w : ℕ). bit w c) both ∙ bit-and asked mask c ∙ ap (λ (w : ℕ). bit asked c && bit w c) masked

          pub block_begun : Begun probe cuts alone halves lows l' g' bytes keys block
          block_begun =
              let n = at.crosses.counted in
              record {
                few = at.crosses.few;
                within = omega arith;
                told = record {
                  off = λ c h e.
                      let inside : c < min 16 (alone.shapes - 16 * b) = omega arith in
                      let q : (16 * b + c) / 16 ≡ b = omega arith in
                      let r : (16 * b + c) % 16 ≡ c = omega arith in
                      by c inside (bit asked c) refl (sym (hit c) ∙ e) q r;
                  on = λ c h e. told.on c (omega arith) ((and-eq-true_iff (bit asked c) (bit (get_or masks b 0) c)).0 (sym (hit c) ∙ e)).0;
                };
                going = block_going;
                clear = let up = rest_up at.walked low in record { zero = λ j h k z. at.clear.zero j (omega arith) k z };
              }
            where
              by : (c : ℕ) → c < min 16 (alone.shapes - 16 * b) → (t : Bool) → bit asked c ≡ t → (bit asked c && bit (get_or masks b 0) c) ≡ false → (16 * b + c) / 16 ≡ b → (16 * b + c) % 16 ≡ c
                  → (get_or halves (16 * b + c) 0 ≡ 0) × (get_or cuts (16 * b + c) fault ≡ cut false [])
              by c h true e f q r = at.crosses.passed (16 * b + c) (omega (arith, at.crosses.counted)) (rw (q, r) (either (bit asked c) (bit (get_or masks b 0) c) f e))
              by c h false e f q r = told.off c h e

        module _ {l' g' : List ℕ} (bl : Beside alone.start (alone.start + 256) l l') (bg : Beside alone.start (alone.start + 256) g g') where
          further : {old new last : List ℕ} → Beside alone.start (alone.start + 256) old new → Beside alone.start (alone.start + 256) new last → Beside alone.start (alone.start + 256) old last
          further c d = record { sized = d.sized ∙ c.sized; below = λ k h. d.below k h ∙ c.below k h; above = λ k h. d.above k h ∙ c.above k h }

          pub lessers_further : Beside alone.start (alone.start + 256) l₀ l'
          lessers_further = further at.lessers_beside bl

          pub greaters_further : Beside alone.start (alone.start + 256) g₀ g'
          greaters_further = further at.greaters_beside bg

          pub gather_on : (bytes' keys' : List ℕ) (size : ℕ) → size ≡ min 16 (alone.shapes - 16 * b) → (k : ℕ) → Reached cuts halves bytes' keys' (16 * b + size) (Ok k) → {r : ℕ} → Others rest r
              → Gathering probe cuts lows highs alone masks halves l₀ g₀ l' g' bytes' keys' r k
          gather_on bytes' keys' size es k reached {r} others =
              let n = at.crosses.counted in
              let e : 16 * b + size ≡ min (16 * (b + 1)) (length cuts) = omega arith in
              record {
                done = b + 1;
                walked = rest-on at.walked low others;
                crosses = crosses_still at.crosses bl bg;
                lessers_beside = lessers_further;
                greaters_beside = greaters_further;
                going = subst (λ (i : ℕ). Going 256 16 cuts bytes' keys' i k) e reached.0;
                clear = subst (λ (i : ℕ). Clear halves bytes' i (length cuts)) e reached.1;
              }

pub fault-ends : (cuts : List Cut) (bytes keys : List ℕ) (i : ℕ) (r : Result ℕ ℕ) → faultless 16 0 cuts ≡ refused 16 i → r ≡ Err i → Ends 256 16 cuts bytes keys r
fault-ends cuts bytes keys i r h e = rw e h
