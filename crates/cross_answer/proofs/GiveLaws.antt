-- What is gathered, put into order and written is the answer that the definitions give.
use Prim.Native.Nat.{ℕ, ◌+◌, ◌-◌, ◌/◌, ◌%◌, ◌<◌}
use native.Mathlib.Omega.{arith}
use mathlib.Core.Path.{◌≡◌, refl, sym, ap, ◌∙◌}
use mathlib.Core.Bool.{Bool, true, false, not, ◌&&◌, ◌||◌}
use mathlib.Core.List.{List, [], ◌∷◌, ◌++◌, map}
use borrow.Author.Tests.{ltb-true, ltb-false, lt-ltb, le-ltb, leb-true, le-leb}
use lib.Dec.{ltb}
use lib.IntN.{ℤ, pos}
use lib.ListN.{length, take, drop, length-map}
use lib.Seq.{take_at, length-take-le}
use Rattle.outcome.specs.Outcome.{Outcome, given, refused, part, room, ◌>>◌}
use Rattle.outcome.specs.Lent.{filled}
use Rattle.outcome.specs.Refusing.{number_of, judged}
use Rattle.outcome.specs.declared.Fault.{Fault}
use Rattle.std.proofs.Common.{Result, Ok, Err}
use Rattle.std.specs.Result.{IsErrAnd}
use Rattle.cross_ranks.specs.Ranks.{unrank}
use Rattle.cross_ranks.proofs.RankLaws.{unrank_lt}
use Rattle.cross_order.specs.Order.{rising, ordered_by}
use Rattle.cross_order.proofs.OrderLaws.{length-ordered_by, map-ordered_by}
use Rattle.cross_positions.specs.Positions.{allowed}
use Rattle.cross_cuts.specs.Cuts.{Cut, positions_of, start_of, start_row, crossed_at, line_crossings, crossings_from, before, position_of, shape_of, faultless, line_room, answered}
use Rattle.cross_cuts.specs.Every.{Every}
use Rattle.cross_cuts.specs.Keys.{crossing_of, Held, Complete}
use Rattle.cross_cuts.proofs.EveryLaws.{every_append, every_map, every_ordered_by}
use Rattle.cross_answer.specs.Answer.{counts, counts_of, MadeLists, made_lists, Crossed}
use Rattle.cross_answer.specs.Giving.{position_in, shape_in, LongEnough, Written, InRange}
use Rattle.cross_answer.specs.declared.Counts.{Counts}

-- ---- keys compare as their crossings do
keeps : (k l : ℕ) → before (crossing_of k) (crossing_of l) ≡ ltb k l
keeps k l = rw (unrank_lt (k / 256) (l / 256), unrank_lt (l / 256) (k / 256)) (by (ltb (k / 256) (l / 256)) refl (ltb (l / 256) (k / 256)) refl (ltb (k % 256) (l % 256)) refl)
  where
    by : (a : Bool) → ltb (k / 256) (l / 256) ≡ a → (b : Bool) → ltb (l / 256) (k / 256) ≡ b → (c : Bool) → ltb (k % 256) (l % 256) ≡ c → (a || (not b && c)) ≡ ltb k l
    by true e b f c g = sym (lt-ltb k l (omega (arith, ltb-true (k / 256) (l / 256) e)))
    by false e true f c g = sym (le-ltb k l (omega (arith, ltb-true (l / 256) (k / 256) f)))
    by false e false f true g = sym (lt-ltb k l (omega (arith, ltb-false (l / 256) (k / 256) f, ltb-false (k / 256) (l / 256) e, ltb-true (k % 256) (l % 256) g)))
    by false e false f false g = sym (le-ltb k l (omega (arith, ltb-false (l / 256) (k / 256) f, ltb-false (k / 256) (l / 256) e, ltb-false (k % 256) (l % 256) g)))

module _ (n m : ℕ) (bytes keys keys' : List ℕ) {w : ℕ} (held : Held w bytes keys n m) (sorted : keys' ≡ rising (take m keys) ++ drop m keys) where
  sorted_keys : take m keys' ≡ rising (take m keys)
  sorted_keys =
      let l : length (rising (take m keys)) ≡ m = length-ordered_by ltb (take m keys) ∙ length-take-le m keys (omega (arith, held.keys_sized, held.few, held.some)) in
      ap (take m) sorted ∙ take_at (rising (take m keys)) (drop m keys) m l

  pub written : (s : List ℕ) (p : List ℤ) (h s' : List ℕ) (p' : List ℤ) (h' : List ℕ) → s' ≡ filled (take n bytes) s
      → p' ≡ filled (map position_in (take m keys')) p → h' ≡ filled (map shape_in (take m keys')) h → Written n m bytes keys (made_lists s p h) (made_lists s' p' h')
  written s p h s' p' h' es ep eh = record {
    starts = es;
    positions = ep ∙ ap (λ l. filled (map position_in l) p) sorted_keys;
    shapes = eh ∙ ap (λ l. filled (map shape_in l) h) sorted_keys;
  }

-- ---- every position that is given is in range
positions_in_range : (j : ℕ) (cuts : List Cut) → InRange cuts → Every (λ x. allowed (position_of x)) (crossings_from j cuts)
unfolding crossings_from
positions_in_range j [] r = tt
positions_in_range j (c ∷ cs) r =
    every_append (λ x. allowed (position_of x)) (map (λ p. crossed_at p j) (positions_of c)) (crossings_from (j + 1) cs)
    (every_map (λ p. crossed_at p j) (λ x. allowed (position_of x)) (positions_of c) r.0) (positions_in_range (j + 1) cs r.1)

pub crossings_in_range : (cuts : List Cut) → InRange cuts → Every (λ x. allowed (position_of x)) (line_crossings cuts)
crossings_in_range cuts r = every_ordered_by (λ x. allowed (position_of x)) before (crossings_from 0 cuts) (positions_in_range 0 cuts r)

-- a rank whose position is in range has 32 bits
rank-bits : (m : ℕ) → allowed (unrank m) ≡ true → m < 4294967296
rank-bits m h = by (ltb m 2147483648) refl
  where
    by : (t : Bool) → ltb m 2147483648 ≡ t → m < 4294967296
    by true e = omega (arith, ltb-true m 2147483648 e)
    by false e =
        let u : unrank m ≡ pos (m - 2147483648) = rw e in
        let a : allowed (pos (m - 2147483648)) ≡ true = rw u at h in
        omega (arith, leb-true (m - 2147483648) 2147483646 a)

-- ---- what is read of the keys in order is what the definitions give
positions_read : (ks : List ℕ) → Every (λ x. allowed (position_of x)) (map crossing_of ks) → map position_in ks ≡ map position_of (map crossing_of ks)
positions_read [] p = refl
positions_read (k ∷ ks) p =
    let b = rank-bits (k / 256) p.0 in
    let e : k / 256 % 4294967296 ≡ k / 256 = omega arith in
    rw e (ap (λ l. unrank (k / 256) ∷ l) (positions_read ks p.1))

shapes_read : (ks : List ℕ) → map shape_in ks ≡ map shape_of (map crossing_of ks)
shapes_read [] = refl
shapes_read (k ∷ ks) = ap (λ l. k % 256 ∷ l) (shapes_read ks)

-- ---- a refusal writes nothing
-- the refusal that a fault says
abbrev pub refusing : {A : Type 0} → Fault → Outcome A
refusing f = refused (number_of f.reason) f.place

pub says_err : {A : Type 0} (a : Result A Fault) (f : Fault) → IsErrAnd a (λ e. e ≡ f) → judged a ≡ refusing f
says_err (Ok x) f h = absurd h
says_err (Err e) f h = ap refusing h

pub refusal : (o : Outcome (List Cut)) (L : MadeLists) (a : Result Counts Fault) (f : Fault) → o ≡ refusing f → judged a ≡ refusing f → Crossed o L a L
refusal o L a f e says = record { answer = says ∙ sym (ap (part counts_of) e); lists = record { starts_list = rw e; positions_list = rw e; shapes_list = rw e } }

-- ---- a shape at fault
pub fault-refused : (number : ℕ) (cuts : List Cut) (a b c i : ℕ) → faultless number 0 cuts ≡ refused number i → answered number cuts a b c ≡ refused number i
unfolding answered
fault-refused number cuts a b c i e = rw e

-- ---- the exits of `give`
module _ {wide number : ℕ} {cuts : List Cut} {bytes keys : List ℕ} {n m : ℕ} (whole : Complete wide number cuts bytes keys n m) (r : InRange cuts) where
  in_order : map crossing_of (rising (take m keys)) ≡ line_crossings cuts
  in_order = map-ordered_by crossing_of ltb before keeps (take m keys) ∙ ap (ordered_by before) whole.gathered.keyed

  starts-count : length (start_row cuts) ≡ n
  starts-count = length-map cuts start_of ∙ whole.gathered.all

  pub crossings-count : length (line_crossings cuts) ≡ m
  crossings-count =
      let held = whole.held in
      ap length (sym in_order) ∙ length-map (rising (take m keys)) crossing_of ∙ length-ordered_by ltb (take m keys) ∙ length-take-le m keys (omega (arith, held.keys_sized, held.few, held.some))

  asked : (a b c : ℕ) → answered number cuts a b c ≡ (line_room cuts a b c >> given cuts)
  unfolding answered
  asked a b c = rw whole.none

  -- a list is too short, and those before it are not
  module _ (L : MadeLists) (a : Result Counts Fault) (f : Fault) (is : IsErrAnd a (λ e. e ≡ f)) where
    pub short_starts : refusing f ≡ room n (length L.starts) → Crossed (answered number cuts (length L.starts) (length L.positions) (length L.shapes)) L a L
    short_starts e = refusal _ L a f (asked _ _ _ ∙ rw (starts-count, ← e)) (says_err a f is)

    module _ {u : Unit {0}} (s : given u ≡ room n (length L.starts)) where
      pub short_positions : refusing f ≡ room m (length L.positions) → Crossed (answered number cuts (length L.starts) (length L.positions) (length L.shapes)) L a L
      short_positions e = refusal _ L a f (asked _ _ _ ∙ rw (starts-count, crossings-count, ← s, ← e)) (says_err a f is)

      pub short_shapes : {v : Unit {0}} → given v ≡ room m (length L.positions) → refusing f ≡ room m (length L.shapes)
          → Crossed (answered number cuts (length L.starts) (length L.positions) (length L.shapes)) L a L
      short_shapes p e = refusal _ L a f (asked _ _ _ ∙ rw (starts-count, crossings-count, ← s, ← p, ← e)) (says_err a f is)

  -- what is written is what the cuts give
  range : Every (λ x. allowed (position_of x)) (map crossing_of (rising (take m keys)))
  range = rw in_order (crossings_in_range cuts r)

  module _ (L L' : MadeLists) (w : Written n m bytes keys L L') where
    pub starts-written : L'.starts ≡ filled (start_row cuts) L.starts
    starts-written = w.starts ∙ ap (λ l. filled l L.starts) whole.gathered.started

    pub positions_written : L'.positions ≡ filled (map position_of (line_crossings cuts)) L.positions
    positions_written = w.positions ∙ ap (λ l. filled l L.positions) (positions_read (rising (take m keys)) range ∙ ap (map position_of) in_order)

    pub shapes_written : L'.shapes ≡ filled (map shape_of (line_crossings cuts)) L.shapes
    shapes_written = w.shapes ∙ ap (λ l. filled l L.shapes) (shapes_read (rising (take m keys)) ∙ ap (map shape_of) in_order)

  pub given-all : (L L' : MadeLists) → LongEnough n m L → Written n m bytes keys L L' → Crossed (answered number cuts (length L.starts) (length L.positions) (length L.shapes)) L (Ok (counts n m)) L'
  given-all L L' long w =
      let o : answered number cuts (length L.starts) (length L.positions) (length L.shapes) ≡ given cuts =
      asked _ _ _ ∙ rw (starts-count, crossings-count, le-leb n (length L.starts) long.starts, le-leb m (length L.positions) long.positions, le-leb m (length L.shapes) long.shapes) in
      record {
        answer = rw (o, starts-count, crossings-count);
        lists = record { starts_list = rw o (starts-written L L' w); positions_list = rw o (positions_written L L' w); shapes_list = rw o (shapes_written L L' w) };
      }
