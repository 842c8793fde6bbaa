-- Words before their own columns: carried, replayed, or off.
use Prim.Native.Nat.{ℕ, suc, ◌+◌, ◌-◌, ◌*◌, ◌/◌, ◌%◌, ◌≤◌, ◌<◌}
use mathlib.Core.Path.{◌≡◌, refl, sym, ap, ◌∙◌}
use mathlib.Core.Bool.{Bool, true, false, not, ◌&&◌, cond}
use mathlib.Core.List.{List, ◌++◌}
use native.Mathlib.Omega.{arith}
use lib.ListN.{length, get_or, get_or-append, set, take, drop, replicate, length-set, length-append, length-take, length-drop}
use Rattle.std.proofs.lemmas.List.{get_or-replicate, length-replicate}
use lib.Seq.{get_or-set_same, get_or-set_other}
use Rattle.formula.specs.States.{State}
use Rattle.word_bits.specs.Words.{bit}
use Rattle.line_lists.specs.Block.{wide, columns, cell}
use Rattle.line_strips.specs.Strips.{on, entering}
use Rattle.line_bits.specs.Bits.{none, Inner, Span, Spans, Since, Masked}
use Rattle.line_strips.specs.Filling.{Apart, WordFlips, Blank, Right, Within, Replayed, Carried, Row, Opened, Opens, Begins}
use Rattle.line_bits.proofs.Spans.{one_first}
use Rattle.line_strips.proofs.Stores.{same?, on_word, store_here, store_other, off_word, apart_none, apart_more}
use Rattle.line_strips.proofs.Lays.{entering-last, entering_more, cell_word, span_column}

and-false : (x : Bool) → (x && false) ≡ false
and-false true = refl
and-false false = refl

and_swap : (x y : Bool) → (x && y) ≡ (y && x)
and_swap true true = refl
and_swap true false = refl
and_swap false true = refl
and_swap false false = refl

-- ---- carried
pub record Carrying (names k to m s : ℕ) (ws ws' : List ℕ) : Type 0 where
  pub far : s ≤ names
  pub done : Carried s k to m ws ws'

pub carrying_none : (names k to m : ℕ) (ws : List ℕ) → Carrying names k to m 0 ws ws
carrying_none names k to m ws =
    record {
      far = omega arith;
      done = record { long = refl; other = λ s j c n. refl; here = λ s b h c. absurd (omega arith); left = λ s j h c. refl };
    }

-- word `word` of row s is there
pub carrying_fits : (names k to m s word : ℕ) (ws ws' : List ℕ) → Carrying names k to m s ws ws' → word < wide → s < names → names ≤ 256 → 256 * wide ≤ length ws → s * wide + word < length ws'
carrying_fits names k to m s word ws ws' d w h few room = omega (arith, d.done.long)

carried_more : (k to m s v : ℕ) (ws ws' : List ℕ) → Carried s k to m ws ws' → Masked (get_or ws' (s * wide + k) 0) m v → s < 256 → 256 * wide ≤ length ws → k < wide → to < wide → Carried (s + 1) k to m ws (set ws' (s * wide + to) v)
carried_more k to m s v ws ws' d e a l x y =
    let fits : s * wide + to < length ws' = omega (arith, d.long) in
    record {
      long = length-set ws' (s * wide + to) v ∙ d.long;
      other = λ u j c n. store_other ws' s to v u j c y (λ p q. n q) ∙ d.other u j c n;
      here = λ u b h c.
          same? u s
          (λ q.
          rw q
          (store_here ws' s to v b fits c ∙ e.is b c
          ∙ ap (λ (t : Bool). t && bit m b) (sym (on_word ws' s k 63 (omega arith)) ∙ d.left s (64 * k + 63) (omega arith) (omega arith))))
          (λ q. store_other ws' s to v u (64 * to + b) (omega arith) y (λ p r. q p) ∙ d.here u b (omega arith) c);
      left = λ u j h c. store_other ws' s to v u j c y (λ p q. omega arith) ∙ d.left u j (omega arith) c;
    }

pub carrying_more : (names k to m s v : ℕ) (ws ws' : List ℕ) → Carrying names k to m s ws ws' → Masked (get_or ws' (s * wide + k) 0) m v → s < names → names ≤ 256 → 256 * wide ≤ length ws → k < wide → to < wide → Carrying names k to m (s + 1) ws (set ws' (s * wide + to) v)
carrying_more names k to m s v ws ws' d e h few room x y = record { far = omega arith; done = carried_more k to m s v ws ws' d.done e (omega arith) room x y }

pub carrying_end : (names k to m s : ℕ) (ws ws' : List ℕ) → Carrying names k to m s ws ws' → names ≤ s → Carried names k to m ws ws'
carrying_end names k to m s ws ws' d h = let e : s ≡ names = omega (arith, d.far) in rw e at d.done

-- ---- replayed
pub record Replaying (names : ℕ) (flips : ℕ → State) (k m c i : ℕ) (ws ws' : List ℕ) : Type 0 where
  pub from : c ≤ i
  pub far : i ≤ 64 * k
  pub done : Replayed names flips k m c i ws ws'

pub replaying_none : (names : ℕ) (flips : ℕ → State) (k m c : ℕ) (ws : List ℕ) → Blank names (64 * k) ws → c ≤ 64 * k → k < wide → Replaying names flips k m c c ws ws
replaying_none names flips k m c ws blank h w =
    record {
      from = omega arith;
      far = h;
      done =
          record {
            apart = apart_none names k ws;
            here = λ last first g s b n l. blank.off s (64 * k + b) n (omega arith) (omega arith) ∙ sym (rw (g.begins s n));
          };
    }

flipped_masked : (t e r : Bool) → cond (t && r) (not (e && r)) (e && r) ≡ (cond t (not e) e && r)
flipped_masked true true true = refl
flipped_masked true true false = refl
flipped_masked true false true = refl
flipped_masked true false false = refl
flipped_masked false e r = refl

pub replaying_more : (names : ℕ) (flips : ℕ → State) (k m c i : ℕ) (ws ws₁ ws₂ : List ℕ) → Replaying names flips k m c i ws ws₁ → WordFlips names (flips i) k m ws₁ ws₂ → i < 64 * k → Replaying names flips k m c (i + 1) ws ws₂
replaying_more names flips k m c i ws ws₁ ws₂ r f h =
    let lo : c ≤ i = r.from in
    record {
      from = omega arith;
      far = omega arith;
      done =
          record {
            apart = apart_more names k ws ws₁ ws₂ r.done.apart f.apart;
            here = λ last first g s b n l.
                let e : i + 1 ≡ suc i = omega arith in
                let before : Within names flips last first c i = record { begins = g.begins; goes = λ x p q. g.goes x p (omega arith) } in
                f.here s b n l ∙ rw (r.done.here last first before s b n l)
                (flipped_masked (flips i s) (entering flips last first i s) (bit m b) ∙ rw e (ap (λ (t : Bool). t && bit m b) (sym (entering_more flips last first i s (g.goes i lo (omega arith))))));
          };
    }

pub replaying_room : (names : ℕ) (flips : ℕ → State) (k m c i : ℕ) (ws ws' : List ℕ) → Replaying names flips k m c i ws ws' → 256 * wide ≤ length ws → 256 * wide ≤ length ws'
replaying_room names flips k m c i ws ws' r h = omega (arith, r.done.apart.long)

pub replaying_end : (names : ℕ) (flips : ℕ → State) (k m c i : ℕ) (ws ws' : List ℕ) → Replaying names flips k m c i ws ws' → 64 * k ≤ i → Replayed names flips k m c (64 * k) ws ws'
replaying_end names flips k m c i ws ws' r h = let e : i ≡ 64 * k = omega (arith, r.far) in rw e at r.done

-- ---- a word opened
module _ (names : ℕ) (flips : ℕ → State) (lasts : List ℕ) (k : ℕ) (ws ws' : List ℕ) (one : 1 ≤ k) (word : k < wide) where
  past-last : bit (get_or lasts (k - 1) 0) 63 ≡ cell lasts (64 * (k - 1) + 63)
  past-last = sym (cell_word lasts (k - 1) 63 (omega arith))

  opens_by : Apart names k ws ws' → (m : ℕ) → Span (get_or lasts k 0) 0 m
      → ((first : State) (n : ℕ) → 64 * k ≤ n → Right names flips (cell lasts) first n (64 * k) ws → (s b : ℕ) → s < names → b < 64 → on ws' s (64 * k + b) ≡ (entering flips (cell lasts) first (64 * k) s && bit m b))
      → Opens names flips (cell lasts) k ws ws'
  opens_by apart m span by =
      record {
        apart = apart;
        opened = λ first n far right.
            record {
              done = λ s b h l. absurd (omega arith);
              ahead = λ s b h l c.
                  let z : 64 * k + 0 ≡ 64 * k = omega arith in
                  by first n far right s b h c ∙ and_swap (entering flips (cell lasts) first (64 * k) s) (bit m b)
                  ∙ rw (span_column lasts k 0 m b span l c, z);
            };
      }

  pub opens_last : (past : ℕ) (last : Bool) → Blank names (64 * k) ws → past ≡ get_or lasts (k - 1) 0 → last ≡ bit past 63 → last ≡ true → Opens names flips (cell lasts) k ws ws
  opens_last past last blank e' e'' h' =
      let h : bit (get_or lasts (k - 1) 0) 63 ≡ true = sym (rw e' at e'') ∙ h' in
      record {
        apart = apart_none names k ws;
        opened = λ first n far right.
            record {
              done = λ s b h l. absurd (omega arith);
              ahead = λ s b n l c.
                  let z : 64 * k + 0 ≡ suc (64 * (k - 1) + 63) = omega arith in
                  blank.off s (64 * k + b) n (omega arith) (omega arith)
                  ∙ rw z (sym (rw (entering-last flips (cell lasts) first (64 * (k - 1) + 63) s (sym past-last ∙ h)) (and-false (none (cell lasts) (suc (64 * (k - 1) + 63)) (b - 0)))));
            };
      }

  goes_on : bit (get_or lasts (k - 1) 0) 63 ≡ false → cell lasts (64 * (k - 1) + 63) ≡ false
  goes_on h = sym past-last ∙ h

  pub opens_carried : (past w rest m : ℕ) (last : Bool) → past ≡ get_or lasts (k - 1) 0 → w ≡ get_or lasts k 0 → last ≡ bit past 63 → last ≡ false → Inner w rest → Spans rest 1 m → Carried names (k - 1) k m ws ws' → Opens names flips (cell lasts) k ws ws'
  opens_carried past w rest m last e' e'' told h' f p d =
      let h : bit (get_or lasts (k - 1) 0) 63 ≡ false = sym (rw e' at told) ∙ h' in
      opens_by (record { long = d.long; other = λ s j n c q. d.other s j c q }) m (rw e'' at (p.is w 0 f one_first (omega arith)))
      (λ first n far right s b g c.
      let z : 64 * k ≡ suc (64 * (k - 1) + 63) = omega arith in
      let e : on ws s (64 * (k - 1) + 63) ≡ entering flips (cell lasts) first (64 * k) s = right.is s (64 * (k - 1) + 63) g (omega arith) (omega arith) ∙ rw z (sym (entering_more flips (cell lasts) first (64 * (k - 1) + 63) s (goes_on h))) in
      d.here s b g c ∙ ap (λ (t : Bool). t && bit m b) e)

  pub opens_replayed : (past w rest m j : ℕ) → past ≡ get_or lasts (k - 1) 0 → w ≡ get_or lasts k 0 → Inner w rest → Spans rest 1 m → Since past j → 0 < j → Replayed names flips k m (64 * (k - 1) + j) (64 * k) ws ws' → Opens names flips (cell lasts) k ws ws'
  opens_replayed past w rest m j e' e'' f p since' some r =
      let since : Since (get_or lasts (k - 1) 0) j = rw e' at since' in
      opens_by r.apart m (rw e'' at (p.is w 0 f one_first (omega arith)))
      (λ first n far right s b g c. r.here (cell lasts) first
      (record {
        begins = λ u h.
            let z : 64 * (k - 1) + j ≡ suc (64 * (k - 1) + (j - 1)) = omega arith in
            rw z (entering-last flips (cell lasts) first (64 * (k - 1) + (j - 1)) u (cell_word lasts (k - 1) (j - 1) (omega (arith, since.most)) ∙ since.last some));
        goes = λ i lo hi.
            let z : 64 * (k - 1) + (i - 64 * (k - 1)) ≡ i = omega arith in
            ap (cell lasts) (sym z) ∙ cell_word lasts (k - 1) (i - 64 * (k - 1)) (omega arith) ∙ since.none some (i - 64 * (k - 1)) (omega arith) (omega arith);
      }) s b g c)

-- ---- rows cleared
module _ (n : ℕ) (ws zs : List ℕ) (zeros : zs ≡ replicate (length (take (n * wide) ws)) 0) (few : n ≤ 256) (room : 256 * wide ≤ length ws) where
  cleared_words : length zs ≡ n * wide
  cleared_words = rw zeros (omega (arith, length-replicate {A = ℕ} (length (take (n * wide) ws)) 0, length-take (n * wide) ws))

  pub cleared_long : length (zs ++ drop (n * wide) ws) ≡ length ws
  cleared_long = omega (arith, length-append zs (drop (n * wide) ws), cleared_words, length-drop (n * wide) ws)

  pub cleared_blank : Blank n 0 (zs ++ drop (n * wide) ws)
  cleared_blank =
      record {
        off = λ s j l m c.
            off_word (zs ++ drop (n * wide) ws) s j
            (get_or-append zs (drop (n * wide) ws) 0 (s * wide + j / 64) (omega (arith, cleared_words))
            ∙ rw zeros (get_or-replicate (length (take (n * wide) ws)) (s * wide + j / 64) 0 0 (omega (arith, length-take (n * wide) ws))));
      }

-- ---- rows opened: the words from the third on
pub record RowTo (s k : ℕ) (ws ws' : List ℕ) : Type 0 where
  pub far : k ≤ wide
  pub long : length ws' ≡ length ws
  pub zeros : (i : ℕ) → 2 ≤ i → i < k → get_or ws' (s * wide + i) 0 ≡ 0
  pub other : (i : ℕ) → (s * wide ≤ i → i < s * wide + wide → ⊥) → get_or ws' i 0 ≡ get_or ws i 0

pub row_none : (s : ℕ) (ws : List ℕ) → RowTo s 2 ws ws
row_none s ws = record { far = omega arith; long = refl; zeros = λ i b h. absurd (omega arith); other = λ i n. refl }

pub row_more : (s k : ℕ) (ws ws' : List ℕ) → RowTo s k ws ws' → k < wide → s * wide + wide ≤ length ws → RowTo s (k + 1) ws (set ws' (s * wide + k) 0)
row_more s k ws ws' r h room =
    record {
      far = omega arith;
      long = length-set ws' (s * wide + k) 0 ∙ r.long;
      zeros = λ i b l.
          same? i k
          (λ q. rw q (get_or-set_same ws' (s * wide + k) 0 0 (omega (arith, r.long))))
          (λ q. get_or-set_other ws' (s * wide + k) (s * wide + i) 0 0 (λ p. q (omega arith)) ∙ r.zeros i b (omega arith));
      other = λ i n. get_or-set_other ws' (s * wide + k) i 0 0 (λ q. n (omega arith) (omega arith)) ∙ r.other i n;
    }

pub row_fits : (s k i : ℕ) (ws ws' : List ℕ) → RowTo s k ws ws' → i < s * wide + wide → s * wide + wide ≤ length ws → i < length ws'
row_fits s k i ws ws' r h room = omega (arith, r.long)

pub row_second : (s k v : ℕ) (ws ws' : List ℕ) → RowTo s k ws ws' → s * wide + wide ≤ length ws → s * wide + 1 < length (set ws' (s * wide) v)
row_second s k v ws ws' r room = omega (arith, r.long, length-set ws' (s * wide) v)

pub row_end : (s v k : ℕ) (ws ws' : List ℕ) → RowTo s k ws ws' → wide ≤ k → s * wide + wide ≤ length ws → Row s v ws (set (set ws' (s * wide) v) (s * wide + 1) 0)
unfolding on
row_end s v k ws ws' r h room =
    let one = set ws' (s * wide) v in
    let sized : length one ≡ length ws = length-set ws' (s * wide) v ∙ r.long in
    record {
      long = length-set one (s * wide + 1) 0 ∙ sized;
      first = λ b l.
          let e : s * wide + b / 64 ≡ s * wide = omega arith in
          let d : b % 64 ≡ b = omega arith in
          rw (e, d, get_or-set_other one (s * wide + 1) (s * wide) 0 0 (λ q. omega arith), get_or-set_same ws' (s * wide) v 0 (omega (arith, r.long)));
      rest = λ j l c.
          off_word (set one (s * wide + 1) 0) s j
          (same? (j / 64) 1
          (λ q. rw q (get_or-set_same one (s * wide + 1) 0 0 (omega (arith, sized))))
          (λ q.
          get_or-set_other one (s * wide + 1) (s * wide + j / 64) 0 0 (λ p. q (omega arith))
          ∙ get_or-set_other ws' (s * wide) (s * wide + j / 64) v 0 (λ p. omega arith)
          ∙ r.zeros (j / 64) (omega arith) (omega arith)));
      other = λ u j c n.
          ap (λ (x : ℕ). bit x (j % 64))
          (get_or-set_other one (s * wide + 1) (u * wide + j / 64) 0 0 (λ q. n (omega arith))
          ∙ get_or-set_other ws' (s * wide) (u * wide + j / 64) v 0 (λ q. n (omega arith))
          ∙ r.other (u * wide + j / 64) (λ p q. n (omega arith)));
    }

pub record Opening (names m s : ℕ) (ws ws' : List ℕ) : Type 0 where
  pub far : s ≤ names
  pub done : Opened s m ws ws'

pub opening_none : (names m : ℕ) (ws : List ℕ) → Opening names m 0 ws ws
opening_none names m ws =
    record {
      far = omega arith;
      done = record { long = refl; first = λ s b h l. absurd (omega arith); rest = λ s j h l c. absurd (omega arith); left = λ s j h c. refl };
    }

pub opening_row : (names m s : ℕ) (ws ws' : List ℕ) → Opening names m s ws ws' → s < names → names ≤ 256 → 256 * wide ≤ length ws → s * wide + wide ≤ length ws'
opening_row names m s ws ws' o h few room = omega (arith, o.done.long)

pub opening_fits : (names m s : ℕ) (ws ws' : List ℕ) → Opening names m s ws ws' → s < names → names ≤ 256 → 256 * wide ≤ length ws → s * wide + wide - 1 < length ws'
opening_fits names m s ws ws' o h few room = omega (arith, o.done.long)

last_word : (ws : List ℕ) (s : ℕ) → on ws s (columns - 1) ≡ bit (get_or ws (s * wide + wide - 1) 0) 63
unfolding on
last_word ws s = let e : s * wide + (columns - 1) / 64 ≡ s * wide + wide - 1 = omega arith in rw e

opened_more : (m s v : ℕ) (ws ws₁ ws₂ : List ℕ) → Opened s m ws ws₁ → Masked (get_or ws₁ (s * wide + wide - 1) 0) m v → Row s v ws₁ ws₂ → Opened (s + 1) m ws ws₂
opened_more m s v ws ws₁ ws₂ o e r =
    record {
      long = r.long ∙ o.long;
      first = λ u b h l.
          same? u s
          (λ q. rw q (r.first b l ∙ e.is b l ∙ ap (λ (t : Bool). t && bit m b) (sym (last_word ws₁ s) ∙ o.left s (columns - 1) (omega arith) (omega arith))))
          (λ q. r.other u b (omega arith) q ∙ o.first u b (omega arith) l);
      rest = λ u j h l c. same? u s (λ q. rw q (r.rest j l c)) (λ q. r.other u j c q ∙ o.rest u j (omega arith) l c);
      left = λ u j h c. r.other u j c (λ q. omega arith) ∙ o.left u j (omega arith) c;
    }

pub opening_more : (names m s v : ℕ) (ws ws₁ ws₂ : List ℕ) → Opening names m s ws ws₁ → Masked (get_or ws₁ (s * wide + wide - 1) 0) m v → Row s v ws₁ ws₂ → s < names → Opening names m (s + 1) ws ws₂
opening_more names m s v ws ws₁ ws₂ o e r h = record { far = omega arith; done = opened_more m s v ws ws₁ ws₂ o.done e r }

pub opening_end : (names m s : ℕ) (ws ws' : List ℕ) → Opening names m s ws ws' → names ≤ s → Opened names m ws ws'
opening_end names m s ws ws' o h = let e : s ≡ names = omega (arith, o.far) in rw e at o.done

-- ---- a block opened
pub begins_off : (names : ℕ) (lasts : List ℕ) (going_on : Bool) (ws ws' : List ℕ) → going_on ≡ false → length ws' ≡ length ws → Blank names 0 ws' → Begins names (cell lasts) going_on ws ws'
unfolding entering
begins_off names lasts going_on ws ws' e l blank =
    record {
      long = l;
      blank = record { off = λ s j n h c. blank.off s j n (omega arith) c };
      opened = λ flips first entered.
          record {
            done = λ s b n h. absurd (omega arith);
            ahead = λ s b n h c. blank.off s (64 * 0 + b) n (omega arith) (omega arith) ∙ sym (rw (entered.none e s n) (and-false (none (cell lasts) (64 * 0 + 0) (b - 0))));
          };
    }

pub begins_on : (names : ℕ) (lasts : List ℕ) (going_on : Bool) (rest m : ℕ) (ws ws' : List ℕ) → going_on ≡ true → Inner (get_or lasts 0 0) rest → Spans rest 1 m → Opened names m ws ws' → Begins names (cell lasts) going_on ws ws'
unfolding entering
begins_on names lasts going_on rest m ws ws' e f p o =
    record {
      long = o.long;
      blank = record { off = λ s j n h c. o.rest s j n h c };
      opened = λ flips first entered.
          record {
            done = λ s b n h. absurd (omega arith);
            ahead = λ s b n h c.
                let z : 64 * 0 + b ≡ b = omega arith in
                rw z (o.first s b n c ∙ ap (λ (t : Bool). t && bit m b) (entered.kept e s n) ∙ and_swap (first s) (bit m b) ∙ rw (span_column lasts 0 0 m b (p.is (get_or lasts 0 0) 0 f one_first (omega arith)) h c));
          };
    }
